-- The raw graph: the sites with their targets, which places are taken, and the list of system calls.
use Rattle.std.specs.Prelude.{ℕ, ◌<◌, Bool, Option, List, [], length, slice_index_or}
use Rattle.std.specs.List.{All}
use Rattle.cfi_graph.specs.declared.line.SiteKind.TheVariants as site
use Rattle.cfi_flow.specs.Sites.{RawSite}

pub record RawGraph : Type 0 where
  pub sites : List RawSite
  -- of each place, whether a relocation takes its address
  pub taken : List Bool
  -- the numbers of the system calls that the program may make, where it has a list of them
  pub calls : Option (List ℕ)

abbrev pub no_site : RawSite
no_site = record { place = 0; kind = site.Jump; targets = [] }

abbrev pub site_of : RawGraph → ℕ → RawSite
site_of raw k = slice_index_or raw.sites k no_site

-- its sites and their targets are places
pub record IsThere (raw : RawGraph) : Type 0 where
  pub sites : All (λ (s : RawSite). s.place < length raw.taken) raw.sites
  pub targets : All (λ (s : RawSite). All (λ t. t < length raw.taken) s.targets) raw.sites
