use Rattle.std.proofs.Common.{◌≡◌, ◌≤◌, length, vec_capacity}
use Rattle.rv_code.specs.State.{start_hart}
use Rattle.rv_machine.specs.Harts.{resting_at}
use Rattle.rv_machine.proofs.machine.resting_harts.Given as goal

abbrev pub invariant-loop-number : goal.invariant-loop-number
invariant-loop-number l = record {
  len : length l.harts.items ≡ l.number;
  room : l.count ≤ vec_capacity l.harts;
  start : resting_at l.harts.items ≡ start_hart;
}
