-- Words of private contracts: the classes of sites, found in a table by their first targets.
use Rattle.std.specs.Prelude.{ℕ, Option, option_and_then, List, slice_get}
use Rattle.cfi_class.specs.Tables.{entry}
use Rattle.cfi_closed.specs.declared.side.Site.{Site}
use Rattle.cfi_flow.specs.Sites.{RawSite}

-- what a table has for the first of some places
abbrev pub first_entry : List (Option ℕ) → List ℕ → Option ℕ
first_entry table targets = option_and_then (entry table) (slice_get targets 0)

-- a site with what a table has for its targets
abbrev pub by_table : List (Option ℕ) → RawSite → Site
by_table table s = record { place = s.place; class = first_entry table s.targets }
