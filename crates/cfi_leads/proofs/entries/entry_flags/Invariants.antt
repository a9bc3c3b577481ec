use Rattle.std.proofs.Common.{◌≤◌}
use Rattle.obj_program.specs.Program.{count}
use Rattle.cfi_leads.specs.Entered.{entered_at}
use Rattle.cfi_leads.specs.Entries.{is_entry}
use Rattle.cfi_leads.specs.Marks.{AreFlags}
use Rattle.cfi_leads.proofs.entries.entry_flags.Given as goal

abbrev pub invariant-loop-k : goal.invariant-loop-k
invariant-loop-k l = record {
  most : l.k ≤ count l.items;
  made : AreFlags (is_entry (entered_at l.items l.closed l.entry)) l.k l.flags.items;
}
