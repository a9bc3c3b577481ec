-- The tables by which the classes and the sites of a side are found at a place, and what the sides of a closed graph are.
use Rattle.std.specs.Prelude.{◌≡◌, ℕ, ◌<◌, ◌==◌, Option, IfSome, List, length, map}
use Rattle.std.specs.List.{All, position}
use Rattle.rv_image.specs.declared.version.GraphVersion.{GraphVersion}
use Rattle.cfi_class.specs.Classes.{class_with}
use Rattle.cfi_class.specs.Tables.{IsTable}
use Rattle.cfi_closed.specs.declared.side.Site.{Site}
use Rattle.cfi_closed.specs.Closed.{IsSideInside, Side, sorts_of}

abbrev pub site_with : List Site → ℕ → Option ℕ
site_with sites k = position (λ (s : Site). s.place == k) sites

pub record AreFound (classes : List (List ℕ)) (sites : List Site) (places : ℕ) (class_at site_at : List (Option ℕ)) : Type 0 where
  pub members_there : All (All (λ t. t < places)) classes
  pub sites_there : All (λ (s : Site). s.place < places) sites
  pub reached_there : All (λ (s : Site). IfSome s.class (λ k. k < length classes)) sites
  pub class_table : IsTable (class_with classes) places class_at
  pub site_table : IsTable (site_with sites) places site_at

-- the sides of a closed graph for a version of graphs
pub record AreSides (version : GraphVersion) (sides : List Side) (places : ℕ) : Type 0 where
  pub sorts : map (λ (s : Side). s.sort) sides ≡ sorts_of version
  pub inside : All (IsSideInside places) sides
