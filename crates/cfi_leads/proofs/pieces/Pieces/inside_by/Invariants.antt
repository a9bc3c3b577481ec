use Rattle.std.proofs.Common.{◌≤◌}
use Rattle.obj_program.specs.Program.{count}
use Rattle.cfi_leads.specs.Leaves.{in_leaf}
use Rattle.cfi_leads.specs.Marks.{AreFlags}
use Rattle.cfi_leads.proofs.pieces.Pieces.inside_by.Given as goal

abbrev pub invariant-loop-k : goal.invariant-loop-k
invariant-loop-k l = record {
  most : l.k ≤ count l.self.program;
  made : AreFlags (in_leaf l.self) l.k l.inside.items;
}
