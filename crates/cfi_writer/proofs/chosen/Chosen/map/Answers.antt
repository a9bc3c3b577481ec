use Rattle.cfi_writer.proofs.PlaceLines.{legal_map}
use Rattle.cfi_writer.proofs.chosen.Chosen.map.Goals as goal

pub returns-clause-legal : goal.returns-clause-legal
returns-clause-legal c =
    rw (c.of.ensures, c.in_ok-lines.ensures) (legal_map c.args.form c.args.self.now c.count-count.ensures.accepted c.requires.form)
