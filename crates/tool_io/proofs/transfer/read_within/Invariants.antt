use Rattle.std.proofs.Common.{◌+◌, ◌≤◌, ◌-◌, length}
use Rattle.std.specs.Io.KnownBytes.{Consumes}
use Rattle.tool_io.specs.Counted.{given}
use Rattle.tool_io.proofs.transfer.read_within.Given as goal

-- what was kept so far is what the reader gave
abbrev pub invariant-loop-bytes : goal.invariant-loop-bytes
invariant-loop-bytes g l = record {
  room : length l.bytes.items ≤ l.limit;
  counted : given l.source ≤ given l.fn.source + length l.bytes.items;
  kept : Consumes (g.R.Read.remaining l.fn.source.source) (g.R.Read.remaining l.source.source) l.bytes.items;
}

abbrev pub decreases-loop-bytes : goal.decreases-loop-bytes
decreases-loop-bytes g l = l.limit - length l.bytes.items
