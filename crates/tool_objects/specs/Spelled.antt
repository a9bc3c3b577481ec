-- Bytes of a file that are an image's. Only private contracts cite this.
use Rattle.std.specs.Prelude.{◌≡◌, ℕ, List, length}
use Rattle.rv_image.specs.declared.version.ImageVersion.{ImageVersion}
use Rattle.rv_image.specs.Image.{IsImageSize}
use Rattle.elf_image.specs.Spelling.{spelling}
use Rattle.cfi_graph.specs.Graph.{GraphParts}

-- of a version
abbrev pub IsSpelled : ImageVersion → List ℕ → Type 0
IsSpelled version bytes =
    (code : List ℕ) × (init : List ℕ) × IsImageSize (length code) (length init) × (bytes ≡ spelling version code init)

-- with code of the length that a graph tells
abbrev pub IsSpelledWith : List ℕ → GraphParts → Type 0
IsSpelledWith bytes graph =
    (version : ImageVersion) × (code : List ℕ) × (init : List ℕ) × IsImageSize (length code) (length init)
    × (bytes ≡ spelling version code init) × (graph.code ≡ length code)
