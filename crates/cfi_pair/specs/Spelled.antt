-- The image and the graph that texts spell.
use Rattle.std.specs.Prelude.{◌≡◌, ℕ, List, length}
use Rattle.rv_image.specs.Image.{Contents, IsImageSize}
use Rattle.elf_image.specs.Spelling.{spelling}
use Rattle.cfi_graph.specs.Graph.{GraphParts, IsGraph}
use Rattle.cfi_graph.specs.Text.{graph_text}

-- a text spells an image
pub record IsImage (bytes : List ℕ) (image : Contents) : Type 0 where
  pub image_is : bytes ≡ spelling image.version image.code image.init
  pub size : IsImageSize (length image.code) (length image.init)

-- two texts spell an image and a graph
pub record Spell (image_bytes graph_bytes : List ℕ) (image : Contents) (graph : GraphParts) : Type 0 where
  pub image_is : image_bytes ≡ spelling image.version image.code image.init
  pub size : IsImageSize (length image.code) (length image.init)
  pub graph_is : graph_bytes ≡ graph_text graph
  pub parts : IsGraph graph
