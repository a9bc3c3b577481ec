use Rattle.std.proofs.Common.{sym, ◌∙◌, arith, map}
use Rattle.elf_writer.specs.Parts.{symbol_of}
use Rattle.cfi_gen.proofs.Writing.{symbol_pushed, symbols_begin, symbols_end}
use Rattle.cfi_gen.proofs.symbols.program_symbols.Goals as goal

pub loop-number-init : goal.loop-number-init
loop-number-init c = record { symbols = symbols_begin _ c.args.functions.now c.in_ok-symbols.ensures; small = omega arith }

pub loop-number-preserved : goal.loop-number-preserved
loop-number-preserved c = record {
  symbols =
      symbol_pushed c.loop-number.symbols.items c.push.new.self.items c.code_symbol.result c.args.functions.now c.index-functions-number.result c.loop-number.at c.size-size.result c.loop-number.number c.in_ok-function_name.field-0 c.loop-number-test.true c.index-functions-number.is c.in_ok-push.ensures.items c.code_symbol.ensures c.in_ok-function_name.ensures c.size-size.ensures.value
      ∙ c.loop-number.invariant.symbols;
  small = omega (arith, c.loop-number.invariant.small, c.size-size.ensures.small);
}

pub returns : goal.returns
returns c =
    sym (symbols_end (map symbol_of c.loop-number.symbols.items) c.args.functions.now c.loop-number.at c.loop-number.number c.loop-number-test.false)
    ∙ c.loop-number.invariant.symbols
