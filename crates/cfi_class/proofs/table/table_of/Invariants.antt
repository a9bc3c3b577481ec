use Rattle.std.proofs.Common.{take}
use Rattle.cfi_class.specs.Classes.{class_with}
use Rattle.cfi_class.specs.Tables.{IsTable}
use Rattle.cfi_class.proofs.table.table_of.Given as goal

abbrev pub invariant-loop-i : goal.invariant-loop-i
invariant-loop-i l = IsTable (class_with (take l.i l.classes)) l.places l.table.items
