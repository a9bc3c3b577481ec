use Rattle.std.proofs.Common.{◌≡◌, ◌≢◌, ℕ, ◌<◌, List, drop, Option, None, sym, ◌∙◌, ap, subst}
use Rattle.std.specs.Prelude.{IsSome}
use Rattle.elf_bytes.specs.Fields.{string_of}
use Rattle.elf_tables.specs.declared.entry.SymbolEntry.{SymbolEntry}
use Rattle.elf_tables.specs.Symbol.{symbol, symbol_count, symbol_name, symbol_names}
use Rattle.elf_object.specs.Fault.{fault_of}
use Rattle.elf_object.proofs.Right.{symbols_right}
use Rattle.elf_object.proofs.object.Object.symbol_name_rest.Goals as goal

ended : (lookup bytes rest : List ℕ) (k : ℕ) (s : SymbolEntry) → lookup ≡ bytes → fault_of lookup ≡ None → k < symbol_count bytes
    → s ≡ symbol lookup k → rest ≡ drop s.name (symbol_names lookup) → k ≢ 0 → IsSome (string_of rest)
ended lookup bytes rest k s p f below q e other =
    let same : symbol_name bytes k ≡ string_of rest = ap (λ b. symbol_name b k) (sym p) ∙ sym (ap string_of (rw q at e)) in
    subst (λ (o : Option (List ℕ)). IsSome o) same (symbols_right bytes k (ap fault_of (sym p) ∙ f) below other).1

pub returns-clause-ended : goal.returns-clause-ended
returns-clause-ended c =
    ended c.self.inside.lookup c.args.self.now c.symbol_name_rest.result.now c.args.k c.symbol.result c.self.view_is c.self.invariant c.requires
    c.symbol.ensures c.symbol_name_rest.ensures
