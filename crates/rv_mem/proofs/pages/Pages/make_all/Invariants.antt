use Rattle.std.proofs.Common.{◌≡◌, ◌/◌, ℕ, ◌≤◌, ◌<◌, IsTrue}
use Rattle.rv_mem.specs.Pages.{PAGE_SIZE, byte_of, is_made}
use Rattle.rv_mem.proofs.pages.Pages.make_all.Given as goal

abbrev pub invariant-loop-number : goal.invariant-loop-number
invariant-loop-number l = record {
  bytes : byte_of l.self ≡ byte_of l.initial.self;
  kept : (p : ℕ) → IsTrue (is_made l.initial.self p) → IsTrue (is_made l.self p);
  made : (p : ℕ) → l.at / PAGE_SIZE ≤ p → p < l.number → IsTrue (is_made l.self p);
}
