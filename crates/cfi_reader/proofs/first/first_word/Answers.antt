use Rattle.std.proofs.Common.{◌<◌, ◌^◌, subst, sym, arith}
use Rattle.cfi_reader.specs.Reading.{Opened}
use Rattle.cfi_reader.specs.declared.first.First.{First}
use Rattle.cfi_reader.proofs.FirstWord.{first_leads, none_leads}
use Rattle.cfi_reader.proofs.first.first_word.Goals as goal

-- src/first.rt:38:1
pub returns-in-Some : goal.returns-in-Some
returns-in-Some c =
    let small : c.args.word < 2 ^ 32 = omega (arith, c.ranges.word.fits) in
    subst (λ (f : First). Opened c.args.calls.now c.args.word c.args.here f) (sym c.first_instr.ensures)
    (first_leads c.args.calls.now c.args.word c.args.here c.requires.place small c.in-Some.instr (sym c.in-Some.ensures.value))

-- src/first.rt:38:1
pub returns-in-None : goal.returns-in-None
returns-in-None c =
    let small : c.args.word < 2 ^ 32 = omega (arith, c.ranges.word.fits) in
    subst (λ (f : First). Opened c.args.calls.now c.args.word c.args.here f) (sym c.at_node.ensures)
    (none_leads c.args.calls.now c.args.word c.args.here c.requires.place small (sym c.in-None.ensures.value))
