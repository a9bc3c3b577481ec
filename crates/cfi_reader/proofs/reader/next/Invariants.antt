use Rattle.std.proofs.Common.{◌≡◌, ◌≢◌, ◌+◌, ◌-◌, ◌*◌, ℕ, List, length}
use Rattle.cfi_reader.specs.Trying.{IsTrying}
use Rattle.cfi_reader.specs.Reading.{IsReading}
use Rattle.cfi_reader.proofs.reader.next.Given as goal

abbrev pub invariant-asked : goal.invariant-asked
invariant-asked l = record {
  other : l.node ≢ 1;
  tries : (held : List ℕ) (at : ℕ) → IsReading l.fn.calls l.fn.reader held at → l.fn.here ≡ at + 4 * length held →
      IsTrying l.fn.calls (record { node = l.node; numbers = l.fn.reader.numbers; label = l.fn.reader.label }) held l.fn.word at;
}

abbrev pub decreases-asked : goal.decreases-asked
decreases-asked l = 129 - l.node
