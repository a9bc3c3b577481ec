use Rattle.std.proofs.Common.{refl}
use Rattle.cfi_gen.proofs.Writing.{first_symbols_are}
use Rattle.cfi_gen.proofs.symbols.first_symbols.Goals as goal

pub returns : goal.returns
returns c =
    first_symbols_are c.code_symbol.result c.in_ok-table_symbol.field-0 c.push-2.new.self.items c.in_ok-name.field-0
    (rw (c.in_ok-push-2.ensures.items, c.in_ok-push.ensures.items, c.new-symbols.ensures.items) refl)
    c.code_symbol.ensures c.in_ok-name.ensures c.in_ok-table_symbol.ensures
