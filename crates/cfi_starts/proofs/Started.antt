-- A word at which a unit starts, by its entry and where there is none.
use Rattle.std.proofs.Common.{◌≡◌, Option, Some, None, refl}
use Rattle.cfi_reader.specs.Entries.{is_started, is_unit}
use Rattle.cfi_reader.specs.declared.entry.Entry.{Entry}
use Rattle.cfi_starts.specs.Entries.{or_inside}

pub started : (entry : Option Entry) → is_started entry ≡ is_unit (or_inside entry)
started None = refl
started (Some entry) = refl
