use Rattle.std.proofs.Common.{◌≤◌}
use Rattle.obj_program.specs.Program.{count}
use Rattle.cfi_leads.proofs.Tables.{AreHeadsTo}
use Rattle.cfi_leads.proofs.pieces.heads.Given as goal

abbrev pub invariant-loop-k : goal.invariant-loop-k
invariant-loop-k l = record {
  most : l.k ≤ count l.entries.program;
  made : AreHeadsTo l.entries l.k l.heads.items l.head;
}
