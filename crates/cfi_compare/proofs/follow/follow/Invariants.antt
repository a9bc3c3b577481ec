use Rattle.std.proofs.Common.{◌≡◌, ◌-◌, ◌≤◌, List, [], length, replicate}
use Rattle.cfi_compare.proofs.Prelude.{profile_of, ByteChange, run_alone, hart_in, shared_in, Agree}
use Rattle.cfi_compare.proofs.follow.follow.Given as goal

-- all system calls are alike, and what is left of the run leads to what the whole leads to
abbrev pub invariant-loop-steps : goal.invariant-loop-steps
invariant-loop-steps l = record {
  count : l.steps ≤ l.most;
  version : l.processor.memory.version ≡ l.initial.processor.memory.version;
  agree : Agree l.index l.events (shared_in l.processor).events;
  all : l.index ≡ length (shared_in l.processor).events;
  left : run_alone (profile_of l.initial.processor.memory.version) (hart_in l.initial.processor) (shared_in l.initial.processor) (replicate {A = List ByteChange} l.most [])
      ≡ run_alone (profile_of l.initial.processor.memory.version) (hart_in l.processor) (shared_in l.processor) (replicate {A = List ByteChange} (l.most - l.steps) []);
}

abbrev pub decreases-loop-steps : goal.decreases-loop-steps
decreases-loop-steps l = l.most - l.steps
