-- A choice that is accepted has as many gates as places.
use Rattle.std.proofs.Common.{◌≡◌, length}
use Rattle.cfi_writer.proofs.Prelude.{count, entered_in, IsAccepted, Choice}
use Rattle.cfi_map.proofs.Placing.{as_many_gates}

pub gates_counted : (m : Choice) → IsAccepted m → length m.layout.gates ≡ count m.layout.program
gates_counted m accepted = as_many_gates (entered_in m.layout) m.whole 0 _ m.layout.program.items m.layout.gates accepted.legal
