use Rattle.std.proofs.Common.{◌≡◌, length, drop}
use Rattle.cfi_writer.proofs.SiteNumbers.{IsNumbered}
use Rattle.cfi_writer.proofs.labels.note_sites.Given as goal

abbrev pub invariant-loop-i : goal.invariant-loop-i
invariant-loop-i l =
    (length l.table.items ≡ length l.fn.table.items) × IsNumbered l.labels (drop l.i l.side.sites) l.next l.count l.fn.table.items l.table.items
