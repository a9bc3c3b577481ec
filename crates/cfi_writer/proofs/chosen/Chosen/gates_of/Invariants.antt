use Rattle.std.proofs.Common.{◌≡◌, map, take}
use Rattle.std.specs.Prelude.{slice_index}
use Rattle.cfi_writer.proofs.chosen.Chosen.gates_of.Given as goal

abbrev pub invariant-loop-place : goal.invariant-loop-place
invariant-loop-place l = l.gates.items ≡ map (slice_index l.self.layout.gates) (take l.place-index l.places)
