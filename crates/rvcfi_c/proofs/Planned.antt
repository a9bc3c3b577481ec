-- Where the parts of an image stand in its file.
use Rattle.std.proofs.Common.{◌≡◌, ℕ, ◌+◌, ◌-◌, ◌≤◌, List, length, take, drop, ap, ◌∙◌, arith}
use Rattle.std.proofs.Math.Seq.{take-length}
use Rattle.rv_image.specs.declared.version.ImageVersion.{ImageVersion}
use Rattle.rv_image.specs.Image.{IsImageSize}
use Rattle.elf_image.specs.Header.{data_start}
use Rattle.elf_image.specs.Spelling.{spelling}
use Rattle.elf_image.proofs.Only.{read_as}
use Rattle.rvcfi_c.specs.Plan.{bytes_at}

pub record AreThere (bytes code init : List ℕ) : Type 0 where
  pub room : length init ≤ length bytes
  pub code_there : bytes_at bytes 0x1000 (length code) ≡ code
  pub data_there : bytes_at bytes (length bytes - length init) (length init) ≡ init
  pub data_ends : length bytes - length init + length init ≡ length bytes

pub are_there : (bytes : List ℕ) (v : ImageVersion) (code init : List ℕ) → IsImageSize (length code) (length init) → bytes ≡ spelling v code init
    → AreThere bytes code init
are_there bytes v code init size e =
    let r = read_as v code init size in
    let file = spelling v code init in
    let ends : length file ≡ data_start (length code) + length init = r.sound.end in
    let at : length file - length init ≡ data_start (length code) = omega arith in
    let there = ap (λ k. take (length init) (drop k file)) at ∙ ap (take (length init)) r.init_there ∙ take-length init in
    let whole : AreThere file code init = record { room = omega arith; code_there = r.code_there; data_there = there; data_ends = omega arith } in
    rw e whole
