use Rattle.std.proofs.Common.{◌≡◌, ◌-◌, ℕ, ◌≤◌, length, take, IsTrue}
use Rattle.rv_word.specs.Memory.{placed}
use Rattle.rv_mem.specs.Pages.{AreMade, byte_of, is_made}
use Rattle.rv_mem.proofs.pages.Pages.put_all.Given as goal

abbrev pub invariant-loop-done : goal.invariant-loop-done
invariant-loop-done l = record {
  bytes : byte_of l.self ≡ placed (byte_of l.initial.self) l.at (take l.done l.bytes);
  kept : (p : ℕ) → IsTrue (is_made l.initial.self p) → IsTrue (is_made l.self p);
  made : AreMade l.self l.at (length l.bytes);
  low : l.done ≤ length l.bytes;
}

abbrev pub decreases-loop-done : goal.decreases-loop-done
decreases-loop-done l = length l.bytes - l.done
