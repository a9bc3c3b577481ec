-- Where data stand: from DATA_START on the sections with bytes in the file, in their order, then those
-- without, then the blocks, each at its alignment.
use Rattle.std.specs.Prelude.{ℕ, zero, suc, ◌+◌, ◌-◌, ◌*◌, ◌/◌, max, Bool, if◌then◌else◌, List, length, slice_index_or}
use Rattle.rv_image.specs.MemoryMap.{DATA_START}
use Rattle.obj_input.specs.declared.parts.Sort.{Sort}
use Rattle.obj_input.specs.declared.parts.Sort.TheVariants.{Data, Zeros}
use Rattle.obj_input.specs.declared.parts.Block.{Block}
use Rattle.obj_input.specs.Listed.{listed}
use Rattle.obj_input.specs.Input.{InputParts, is_data_sort, is_zeros_sort, section_count, section_of}

-- the next multiple; an alignment of 0 is one of 1
abbrev pub aligned : ℕ → ℕ → ℕ
aligned at align = (at + (max align 1 - 1)) / max align 1 * max align 1

abbrev pub after : ℕ → ℕ → ℕ → ℕ
after at size align = aligned at align + size

abbrev pub after_if : Bool → ℕ → ℕ → ℕ → ℕ
after_if counts at size align = if counts then after at size align else at

-- how far the sections of one sort reach, of those before number `k`
unfoldable pub reach : InputParts → (Sort → Bool) → ℕ → ℕ → ℕ
reach input wanted start zero = start
reach input wanted start (suc k) =
    after_if (wanted (section_of input k).sort) (reach input wanted start k) (section_of input k).size (section_of input k).align

unfoldable pub init_end : InputParts → ℕ
init_end input = reach input is_data_sort DATA_START (section_count input)

unfoldable pub zeros_end : InputParts → ℕ
zeros_end input = reach input is_zeros_sort (init_end input) (section_count input)

abbrev pub no_block : Block
no_block = record { size = 0; align = 0 }

abbrev pub block : InputParts → ℕ → Block
block input c = slice_index_or input.blocks c no_block

unfoldable pub blocks_reach : InputParts → ℕ → ℕ
blocks_reach input zero = zeros_end input
blocks_reach input (suc c) = after (blocks_reach input c) (block input c).size (block input c).align

abbrev pub data_end : InputParts → ℕ
data_end input = blocks_reach input (length input.blocks)

-- the address of a section of data, at its alignment behind those before it
abbrev pub address_by : Sort → ℕ → ℕ → ℕ → ℕ
address_by Data init rest align = aligned init align
address_by Zeros init rest align = aligned rest align
address_by other init rest align = 0

unfoldable pub section_address : InputParts → ℕ → ℕ
section_address input k =
    address_by (section_of input k).sort (reach input is_data_sort DATA_START k) (reach input is_zeros_sort (init_end input) k)
    (section_of input k).align

unfoldable pub block_address : InputParts → ℕ → ℕ
block_address input c = aligned (blocks_reach input c) (block input c).align

-- all addresses by index, and where data end
pub record DataLayoutParts : Type 0 where
  pub sections : List ℕ
  pub blocks : List ℕ
  pub init_end : ℕ
  pub data_end : ℕ

unfoldable pub data_layout_of : InputParts → DataLayoutParts
data_layout_of input = record {
  sections = listed (section_address input) (section_count input);
  blocks = listed (block_address input) (length input.blocks);
  init_end = init_end input;
  data_end = data_end input;
}
