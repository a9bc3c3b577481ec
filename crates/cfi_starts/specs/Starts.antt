-- What is left of a code that has ended, with the graph.
use Rattle.std.specs.Prelude.{◌≡◌}
use Rattle.rv_image.specs.MemoryMap.{Profile, profile_with}
use Rattle.cfi_graph.specs.Graph.{GraphParts, IsGraph}
use Rattle.cfi_scan.specs.Pieces.{Listed}

-- what is left of a code that has ended, and the graph
pub record StartParts : Type 0 where
  pub listing : Listed
  pub graph : GraphParts

-- the profile of the versions that a listing is of
abbrev pub profile_in : StartParts → Profile
profile_in starts = profile_with starts.listing.versions

-- the graph gives the code's length, and its own version
pub record AreStarts (listing : Listed) (graph : GraphParts) : Type 0 where
  pub same_length : listing.fed ≡ graph.code
  pub same_version : listing.versions.graph ≡ graph.version
  pub graph_is : IsGraph graph
