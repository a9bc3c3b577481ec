use Rattle.std.proofs.Common.{take}
use Rattle.cfi_closed.specs.Found.{site_with}
use Rattle.cfi_class.specs.Tables.{IsTable}
use Rattle.cfi_flow.proofs.closing.site_table.Given as goal

abbrev pub invariant-loop-i : goal.invariant-loop-i
invariant-loop-i l = IsTable (site_with (take l.i l.sites)) l.places l.table.items
