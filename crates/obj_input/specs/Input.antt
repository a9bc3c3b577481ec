-- What a program is made of: sections with their relocations, whose symbols are looked up already.
-- Nothing here is told of files; several files joined have such an input as one has.
use Rattle.std.specs.Prelude.{ℕ, Bool, true, false, ◌==◌, ◌&&◌, List, [], length, filter, slice_index_or}
use Rattle.obj_input.specs.declared.parts.Relocation.{Relocation}
use Rattle.obj_input.specs.declared.parts.Sort.{Sort}
use Rattle.obj_input.specs.declared.parts.Sort.TheVariants.{Code, Data, Zeros, Dropped}
use Rattle.obj_input.specs.declared.parts.Definition.{Definition}
use Rattle.obj_input.specs.declared.parts.Block.{Block}
use Rattle.obj_input.specs.declared.parts.Func.{Func}
use Rattle.obj_input.specs.Relocation.{is_acting}

-- `uses` are the relocations in the order of their table
pub record SectionParts : Type 0 where
  pub sort : Sort
  pub size : ℕ
  pub align : ℕ
  pub content : List ℕ
  pub uses : List Relocation

-- a symbol with a name, and what it stands for
pub record Named : Type 0 where
  pub name : List ℕ
  pub definition : Definition

-- `names` in the order in which they are looked for
pub record InputParts : Type 0 where
  pub sections : List SectionParts
  pub blocks : List Block
  pub names : List Named
  pub funcs : List Func

abbrev pub no_section : SectionParts
no_section = record { sort = Dropped; size = 0; align = 0; content = []; uses = [] }

abbrev pub section_of : InputParts → ℕ → SectionParts
section_of input k = slice_index_or input.sections k no_section

abbrev pub section_count : InputParts → ℕ
section_count input = length input.sections

abbrev pub is_code_sort : Sort → Bool
is_code_sort Code = true
is_code_sort other = false

abbrev pub is_data_sort : Sort → Bool
is_data_sort Data = true
is_data_sort other = false

abbrev pub is_zeros_sort : Sort → Bool
is_zeros_sort Zeros = true
is_zeros_sort other = false

-- a section of this sort has its bytes in the file
abbrev pub has_bytes : Sort → Bool
has_bytes Code = true
has_bytes Data = true
has_bytes other = false

abbrev pub is_code : SectionParts → Bool
is_code section = is_code_sort section.sort

-- relocations that do something at an offset, in the order of their table
abbrev pub acting_among : List Relocation → ℕ → List Relocation
acting_among uses at = filter (λ u. u.offset == at && is_acting u) uses

unfoldable pub acting_at : SectionParts → ℕ → List Relocation
acting_at section at = acting_among section.uses at
