-- What a scan has seen, what the listing that it leaves tells, and an accepted pair.
use Rattle.std.specs.Prelude.{◌≡◌, ℕ, ◌-◌, ◌/◌, ◌==◌, Bool, ◌||◌, ◌&&◌, List, is_some, length, take}
use Rattle.rv_image.specs.MemoryMap.{Profile}
use Rattle.rv_image.specs.Image.{Contents}
use Rattle.cfi_graph.specs.Graph.{GraphParts, IsGraph, calls_in}
use Rattle.cfi_unit.specs.Prologue.{OPENING}
use Rattle.cfi_scan.specs.Pieces.{Listed, Sight, prologue_count}
use Rattle.cfi_scan.specs.Stream.{IsSplitUp}
use Rattle.cfi_starts.specs.Starts.{StartParts}
use Rattle.cfi_reader.specs.Entries.{numbers_or_none}
use Rattle.cfi_rules.specs.Rules.{IsWellFormed, pair_profile}
use Rattle.cfi_rules.specs.Split.{code_words, entry_of, is_handler, unit_words}

-- the numbers of a graph's list of system calls: none, where it has no list
abbrev pub numbers_in : GraphParts → List ℕ
numbers_in graph = numbers_or_none (calls_in graph.lines)

-- what a scan has seen of a code, and the graph
pub record Scanned : Type 0 where
  pub seen : Sight
  pub graph : GraphParts

-- there is room for a code of the graph's length, and units are told under the graph's list of system calls and its version
pub record IsScan (p : Profile) (seen : Sight) (graph : GraphParts) : Type 0 where
  pub room : length seen.entries ≡ graph.code / 4 - prologue_count p
  pub same_calls : seen.calls ≡ numbers_in graph
  pub same_version : seen.versions.graph ≡ graph.version
  pub graph_is : IsGraph graph

-- a listing tells of the words of a code, under some numbers of system calls: it has those of the prologue and an entry for each other one
pub record Tells (p : Profile) (calls : List ℕ) (t : Listed) (words : List ℕ) : Type 0 where
  pub count : t.fed / 4 ≡ length words
  pub prologue : t.prologue ≡ take (prologue_count p) words
  pub split : IsSplitUp calls p.units_from t.entries t.done t.last (unit_words p words)

-- a part of the prologue starts at an address
abbrev pub starts_prologue : Profile → List ℕ → ℕ → Bool
starts_prologue p words a = is_handler a || (a == p.closing || (a == OPENING && is_some (entry_of p words)))

-- an image and a graph
pub record Pair : Type 0 where
  pub image : Contents
  pub graph : GraphParts

-- a pair that is well formed, with what a listing tells of its code
pub record IsChecked (image : Contents) (starts : StartParts) : Type 0 where
  pub versions : starts.listing.versions ≡ record { image = image.version; graph = starts.graph.version }
  pub told : Tells (pair_profile image starts.graph) (numbers_in starts.graph) starts.listing (code_words image.code)
  pub well_formed : IsWellFormed (pair_profile image starts.graph) image starts.graph
