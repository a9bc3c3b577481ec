-- A file spells one image.
use Rattle.std.proofs.Common.{◌≡◌, ◌∙◌, ℕ, List, length, take, drop, sym, ap}
use Rattle.rv_image.specs.Image.{Contents, IsImageSize}
use Rattle.elf_image.specs.Fault.{code_of, version_in}
use Rattle.elf_image.specs.Header.{data_start}
use Rattle.elf_image.specs.Spelling.{spelling}
use Rattle.elf_image.proofs.Only.{read_as}
use Rattle.cfi_graph.specs.Graph.{GraphParts}
use Rattle.cfi_pair.specs.Spelled.{IsImage, Spell}

-- the image that a file spells
abbrev image_in : List ℕ → Contents
image_in bytes = record {
  version = version_in bytes;
  code = take (code_of bytes) (drop 0x1000 bytes);
  init = drop (data_start (code_of bytes)) bytes;
}

image_there : (image : Contents) → IsImageSize (length image.code) (length image.init)
    → image_in (spelling image.version image.code image.init) ≡ image
image_there image size =
    let file = spelling image.version image.code image.init in
    let r = read_as image.version image.code image.init size in
    let code : take (code_of file) (drop 0x1000 file) ≡ image.code = ap (λ (n : ℕ). take n (drop 0x1000 file)) r.code_named ∙ r.code_there in
    let init : drop (data_start (code_of file)) file ≡ image.init = ap (λ (n : ℕ). drop (data_start n) file) r.code_named ∙ r.init_there in
    λ i. record { version = r.version_named i; code = code i; init = init i }

only_image : (bytes : List ℕ) (image : Contents) → IsImage bytes image → image_in bytes ≡ image
only_image bytes image is = ap image_in is.image_is ∙ image_there image is.size

pub one_image : (bytes : List ℕ) (a b : Contents) → IsImage bytes a → IsImage bytes b → a ≡ b
one_image bytes a b is other = sym (only_image bytes a is) ∙ only_image bytes b other

-- the file tells the version
pub version_told : (bytes : List ℕ) (image : Contents) → IsImage bytes image → version_in bytes ≡ image.version
version_told bytes image is = ap (λ (i : Contents). i.version) (only_image bytes image is)

pub spelled_image : (image_bytes graph_bytes : List ℕ) (image : Contents) (graph : GraphParts) → Spell image_bytes graph_bytes image graph
    → IsImage image_bytes image
spelled_image image_bytes graph_bytes image graph spell = record { image_is = spell.image_is; size = spell.size }
