use Rattle.std.proofs.Common.{◌≤◌}
use Rattle.obj_program.specs.Program.{count}
use Rattle.cfi_leads.specs.Leads.{enters}
use Rattle.cfi_leads.specs.Marks.{AreFlags}
use Rattle.cfi_leads.proofs.pieces.Pieces.entered.Given as goal

abbrev pub invariant-loop-k : goal.invariant-loop-k
invariant-loop-k l = record {
  most : l.k ≤ count l.self.program;
  made : AreFlags (enters l.self) l.k l.entered.items;
}
