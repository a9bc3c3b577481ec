-- The initialised data of an input before relocations, and the relocations of data.
use Rattle.std.specs.Prelude.{ℕ, zero, suc, ◌+◌, ◌-◌, if◌then◌else◌, List, [], ◌∷◌, ◌++◌, length, replicate}
use Rattle.std.specs.List.{flat_map}
use Rattle.rv_image.specs.MemoryMap.{DATA_START}
use Rattle.least.specs.Nearest.{joined}
use Rattle.obj_input.specs.declared.parts.Relocation.{Relocation}
use Rattle.obj_input.specs.declared.reloc_kind.RelocKind.{RelocKind}
use Rattle.obj_input.specs.declared.reloc_kind.RelocKind.TheVariants.{InData}
use Rattle.obj_input.specs.Kinds.{kind_of}
use Rattle.obj_input.specs.Input.{InputParts, SectionParts, is_data_sort, section_count, section_of}
use Rattle.obj_input.specs.DataLayout.{section_address}
use Rattle.obj_program.specs.declared.item.Item.{Item}
use Rattle.obj_program.specs.declared.item.DataReloc.{DataReloc}
use Rattle.obj_items.specs.Values.{use_value}

-- bytes with zeros before them, so that they begin at an address
abbrev pub placed : List ℕ → ℕ → List ℕ → List ℕ
placed so_far address bytes = so_far ++ replicate (address - (DATA_START + length so_far)) 0 ++ bytes

-- the data of the sections before number `k` that have bytes in the file
unfoldable pub init_below : InputParts → ℕ → List ℕ
init_below input zero = []
init_below input (suc k) =
    if is_data_sort (section_of input k).sort
    then placed (init_below input k) (section_address input k) (section_of input k).content
    else init_below input k

abbrev pub reloc_by : InputParts → List Item → ℕ → Relocation → RelocKind → List DataReloc
reloc_by input places k u (InData patch) = record {
  section = k;
  at = u.offset;
  offset = section_address input k - DATA_START + u.offset;
  patch = patch;
  value = use_value input places u;
} ∷ []
reloc_by input places k u other = []

abbrev pub reloc_of : InputParts → List Item → ℕ → Relocation → List DataReloc
reloc_of input places k u = reloc_by input places k u (kind_of u.number)

-- those of a section with an index, if it is one of data, in the order of its table
abbrev pub relocs_in : InputParts → List Item → ℕ → SectionParts → List DataReloc
relocs_in input places k section = if is_data_sort section.sort then flat_map (reloc_of input places k) section.uses else []

abbrev pub section_relocs : InputParts → List Item → ℕ → List DataReloc
section_relocs input places k = relocs_in input places k (section_of input k)

unfoldable pub relocs_of : InputParts → List Item → List DataReloc
relocs_of input places = joined (section_relocs input places) (section_count input)
