use Rattle.std.proofs.Common.{◌≡◌, ◌+◌, ◌-◌, ◌≤◌}
use Rattle.obj_program.specs.Program.{count}
use Rattle.cfi_leads.specs.Leaves.{leaf_end, next_piece}
use Rattle.cfi_leads.proofs.leads.Leads.leaf_end.Given as goal

abbrev pub invariant-loop-k : goal.invariant-loop-k
invariant-loop-k l = record {
  behind : l.e + 1 ≤ l.k;
  most : l.k ≤ l.count;
  left : leaf_end l.self l.e ≡ next_piece l.self l.k (l.count - l.k);
}
