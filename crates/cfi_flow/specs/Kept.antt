-- Words of private contracts: how the sites of a raw graph are kept. What a policy gives a site is a list; what the program gives
-- it is told by a span and by what is known of the places.
use Rattle.std.specs.Prelude.{◌≡◌, ℕ, ◌<◌, Bool, false, ◌&&◌, ◌||◌, List, [], length, map, slice_index_or}
use Rattle.std.specs.List.{All}
use Rattle.cfi_graph.specs.declared.line.SiteKind.{SiteKind}
use Rattle.cfi_graph.specs.declared.line.SiteKind.TheVariants as site
use Rattle.cfi_flow.specs.declared.draw.Aim.{Aim}
use Rattle.cfi_flow.specs.declared.draw.Aim.TheVariants as aim
use Rattle.cfi_flow.specs.declared.draw.Drawing.{Drawing}
use Rattle.cfi_flow.specs.declared.draw.KeptSite.{KeptSite}
use Rattle.cfi_flow.specs.declared.span.Span.{Span}
use Rattle.cfi_flow.specs.Below.{where_below}
use Rattle.cfi_flow.specs.Sites.{RawSite}
use Rattle.cfi_flow.specs.Spans.{in_span}

abbrev pub mark_at : List Bool → ℕ → Bool
mark_at marks t = slice_index_or marks t false

-- a taken place at which a function begins, or one in a span
abbrev pub is_open : List Bool → List Bool → Span → ℕ → Bool
is_open taken begun span t = mark_at taken t && (mark_at begun t || in_span span t)

abbrev pub open_targets : List Bool → List Bool → Span → List ℕ
open_targets taken begun span = where_below (is_open taken begun span) (length taken)

abbrev pub targets_of : List (List ℕ) → List Bool → List Bool → Aim → List ℕ
targets_of lists taken begun (aim.Listed j) = slice_index_or lists j []
targets_of lists taken begun (aim.Open span) = open_targets taken begun span

abbrev pub site_with : ℕ → SiteKind → List ℕ → RawSite
site_with place kind targets = record { place = place; kind = kind; targets = targets }

abbrev pub raw_site : List (List ℕ) → List Bool → List Bool → KeptSite → RawSite
raw_site lists taken begun s = site_with s.place s.kind (targets_of lists taken begun s.aim)

abbrev pub sites_of : Drawing → List RawSite
sites_of d = map (raw_site d.lists.items d.taken.items d.begun.items) d.sites.items

abbrev pub no_kept : KeptSite
no_kept = record { place = 0; kind = site.Jump; aim = aim.Listed 0 }

-- the list of a site is there
abbrev pub IsAimed : ℕ → Aim → Type 0
IsAimed lists (aim.Listed j) = j < lists
IsAimed lists (aim.Open span) = Unit {0}

-- each site's place and list are there, and each target is a place
pub record AreKept (d : Drawing) : Type 0 where
  pub places : All (λ (s : KeptSite). s.place < length d.taken.items) d.sites.items
  pub aims : All (λ (s : KeptSite). IsAimed (length d.lists.items) s.aim) d.sites.items
  pub lists : All (All (λ t. t < length d.taken.items)) d.lists.items
  pub begun : length d.begun.items ≡ length d.taken.items
