use Rattle.std.proofs.Common.{◌∙◌}
use Rattle.cfi_writer.proofs.LineList.{joined}
use Rattle.cfi_writer.proofs.chosen.Chosen.lines.Goals as goal

pub returns : goal.returns
returns c =
    c.of.ensures
    ∙ joined c.args.self.now.layout c.args.self.now.labels c.entry_arrival.result c.in_ok-lines.lines.items c.push.new.self.items
    c.push_place_lines.new.lines.items c.entry_arrival.ensures.value c.in_ok-lines.ensures
    c.in_ok-push.ensures.items c.in_ok-push_place_lines.ensures
