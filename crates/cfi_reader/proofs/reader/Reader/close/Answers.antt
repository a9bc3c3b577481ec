use Rattle.std.proofs.Common.{subst, sym}
use Rattle.cfi_reader.specs.Reading.{IsUnit}
use Rattle.cfi_reader.specs.declared.entry.Entry.{Entry}
use Rattle.cfi_reader.proofs.Closed.{closes, none_closes, start_closes}
use Rattle.cfi_reader.proofs.reader.Reader.close.Goals as goal

pub returns-then-self-eq1 : goal.returns-then-self-eq1
returns-then-self-eq1 c calls held at reading = start_closes calls c.args.self held at c.if-self-eq1.true reading

pub returns-in-Some : goal.returns-in-Some
returns-in-Some c calls held at reading =
    subst (λ (d : Entry). IsUnit calls d held at) (sym c.open_entry.ensures)
    (closes calls c.args.self held at c.in-Some.end reading c.in-Some.ensures)

pub returns-in-None : goal.returns-in-None
returns-in-None c calls held at reading = none_closes calls c.args.self held at reading c.in-None.ensures
