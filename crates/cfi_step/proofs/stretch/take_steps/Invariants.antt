use Rattle.std.proofs.Common.{◌≡◌, ◌≤◌, ◌<◌, ◌-◌, ℕ, List, None, length}
use Rattle.rv_image.specs.MemoryMap.{Profile}
use Rattle.rv_code.specs.State.{last_exit}
use Rattle.rv_machine.specs.Harts.{at_pc, harts_share}
use Rattle.cfi_step.specs.Starts.{AreStartsOf}
use Rattle.cfi_step.specs.Stretch.{AreQuiet, IsStaying, with_own}
use Rattle.cfi_step.specs.declared.running.Running.{Running}
use Rattle.cfi_step.proofs.stretch.take_steps.Given as goal

abbrev pub invariant-loop-turn : goal.invariant-loop-turn
invariant-loop-turn l = record {
  low : l.from ≤ l.steps;
  high : l.steps < l.until;
  current : l.machine.current ≡ l.initial.machine.current;
  below : l.machine.current < length l.machine.resting;
  room : l.trail.count ≤ l.steps;
  going : last_exit (harts_share l.machine).events ≡ None;
  stays : IsStaying (length l.starts) (at_pc l.machine l.pc);
  quiet : (p : Profile) (words : List ℕ) → AreStartsOf p words l.starts → (running : Running) → l.initial.machine.current ≡ running.taken.hart → running.taken.hart < length running.trails.items
      → AreQuiet p words (with_own running l.initial.machine l.initial.trail) (l.steps - l.from) (with_own running (at_pc l.machine l.pc) l.trail);
}

abbrev pub decreases-loop-turn : goal.decreases-loop-turn
decreases-loop-turn l = l.until - l.steps
