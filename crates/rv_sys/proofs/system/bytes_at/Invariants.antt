use Rattle.std.proofs.Common.{◌≡◌, ◌-◌}
use Rattle.rv_mem.specs.Cells.{memory_of}
use Rattle.rv_code.specs.SystemCall.{bytes_of}
use Rattle.rv_sys.proofs.system.bytes_at.Given as goal

abbrev pub invariant-loop-k : goal.invariant-loop-k
invariant-loop-k l = l.bytes.items ≡ bytes_of (memory_of l.memory) l.addr (l.k - l.addr)
