use Rattle.std.proofs.Common.{◌∙◌}
use Rattle.std.specs.Prelude.{slice_index}
use Rattle.cfi_writer.proofs.LineList.{all_mapped, next_mapped}
use Rattle.cfi_writer.proofs.chosen.Chosen.gates_of.Goals as goal

pub returns : goal.returns
returns c =
    c.of.ensures
    ∙ all_mapped (slice_index c.args.self.now.layout.gates) c.args.places.now c.loop-place.gates.items c.loop-place.place-index c.loop-place-test.false c.loop-place.invariant

pub loop-place-preserved : goal.loop-place-preserved
loop-place-preserved c =
    next_mapped (slice_index c.args.self.now.layout.gates) c.args.places.now c.loop-place.gates.items c.push.new.self.items c.loop-place.place-index c.gate.result
    c.loop-place-test.true c.loop-place.invariant c.gate.ensures c.in_ok-push.ensures.items
