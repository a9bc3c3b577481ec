-- What stands at an address, in one value.
use Rattle.std.specs.Prelude.{◌≡◌}
use Rattle.cfi_starts.specs.declared.spot.Spot.{Spot}
use Rattle.cfi_starts.specs.Entries.{entry_at}
use Rattle.cfi_starts.specs.Leaves.{ArePast}
use Rattle.cfi_starts.specs.Starts.{StartParts, profile_in}

-- its entry is that of the address, and no line before its own is that of the address's leaf
pub record Stands (starts : StartParts) (spot : Spot) : Type 0 where
  pub entry : spot.entry ≡ entry_at (profile_in starts) starts.listing.entries spot.address
  pub line : ArePast starts.graph.lines spot.line spot.address
