-- What the types of an input's parts say: numbers have 64 bits, and sections and blocks are few.
use Rattle.std.specs.Prelude.{◌≡◌, ℕ, ◌<◌, ◌^◌, true, length, All, FitsSigned}
use Rattle.std.specs.Int.{w64}
use Rattle.obj_input.specs.declared.parts.Block.{Block}
use Rattle.obj_input.specs.declared.parts.Definition.{Definition}
use Rattle.obj_input.specs.declared.parts.Definition.TheVariants.{Absolute, Within}
use Rattle.obj_input.specs.declared.parts.Relocation.{Relocation}
use Rattle.obj_input.specs.InOrder.{AreFew}
use Rattle.obj_input.specs.Input.{InputParts, SectionParts, has_bytes, section_count, section_of}

abbrev pub HasSmall : Definition → Type 0
HasSmall (Absolute value) = value < 2 ^ 64
HasSmall (Within k value) = value < 2 ^ 64
HasSmall other = Unit {0}

pub record IsSmallUse (u : Relocation) : Type 0 where
  pub addend : FitsSigned w64 u.addend
  pub definition : HasSmall u.definition

-- a section, and that code and data have all their bytes
pub record IsSection (section : SectionParts) : Type 0 where
  pub size : section.size < 2 ^ 64
  pub align : section.align < 2 ^ 64
  pub whole : has_bytes section.sort ≡ true → length section.content ≡ section.size
  pub uses : All IsSmallUse section.uses

pub record IsBlock (b : Block) : Type 0 where
  pub size : b.size < 2 ^ 64
  pub align : b.align < 2 ^ 64

abbrev pub AreSections : InputParts → Type 0
AreSections input = (k : ℕ) → k < section_count input → IsSection (section_of input k)

pub record IsInput (input : InputParts) : Type 0 where
  pub few : AreFew (section_count input) (length input.blocks)
  pub sections : AreSections input
  pub blocks : All IsBlock input.blocks
