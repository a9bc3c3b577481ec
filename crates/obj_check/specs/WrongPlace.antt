-- Relocations that stand where they change nothing that they may: in code each stands on an instruction of its form, alone.
use Rattle.std.specs.Prelude.{ℕ, pos, ◌+◌, ◌/◌, nat_lt, Bool, true, false, not, ◌==◌, ◌&&◌, ◌||◌, if◌then◌else◌, Option, Some, None, length}
use Rattle.std.specs.List.{filter_map}
use Rattle.std.specs.Ordering.{int_eq}
use Rattle.least.specs.declared.place.Found.{Found}
use Rattle.least.specs.Nearest.{nearest}
use Rattle.rv_instr.specs.declared.instr.Instr.{Instr}
use Rattle.rv_instr.specs.declared.instr.Instr.TheVariants.{Upper, Jal, Jalr, Branch, Load, Store, Immediate}
use Rattle.rv_instr.specs.declared.instr.UpperOp.{UpperOp}
use Rattle.rv_instr.specs.declared.instr.UpperOp.TheVariants.{Lui, Auipc}
use Rattle.rv_reloc.specs.Data.{size_of}
use Rattle.obj_input.specs.declared.parts.Relocation.{Relocation}
use Rattle.obj_input.specs.declared.reloc_kind.RelocKind.{RelocKind}
use Rattle.obj_input.specs.declared.reloc_kind.RelocKind.TheVariants.{BranchTarget, JalTarget, PairTarget, RelativeHigh, TableHigh, RelativeLowI, RelativeLowS, High, LowI, LowS, InData}
use Rattle.obj_input.specs.Kinds.{is_table_high, kind_of}
use Rattle.obj_input.specs.Relocation.{is_acting}
use Rattle.obj_input.specs.Input.{InputParts, SectionParts, acting_at, is_code, is_zeros_sort, section_of}
use Rattle.obj_input.specs.Code.{instr, is_auipc, is_pair, is_start}
use Rattle.obj_check.specs.declared.fault.ItemFault.{ItemFault}
use Rattle.obj_check.specs.declared.fault.ItemFault.TheVariants as fault
use Rattle.obj_check.specs.Finding.{found_at, nearest_in, place_of}

-- an I form with an immediate of 12 bits
abbrev pub is_i_form : Instr → Bool
is_i_form (Jalr link base imm) = true
is_i_form (Load op rd base imm) = true
is_i_form (Immediate op rd base imm) = true
is_i_form other = false

abbrev pub is_store : Instr → Bool
is_store (Store op base value imm) = true
is_store other = false

abbrev pub is_branch : Instr → Bool
is_branch (Branch op a b imm) = true
is_branch other = false

abbrev pub is_jal : Instr → Bool
is_jal (Jal link imm) = true
is_jal other = false

-- a LUI that writes a register
abbrev pub is_lui_of : UpperOp → ℕ → Bool
is_lui_of Lui rd = not (rd == 0)
is_lui_of Auipc rd = false

abbrev pub is_upper_form : Instr → Bool
is_upper_form (Upper op rd imm) = is_lui_of op rd
is_upper_form other = false

-- a single instruction of the form that a kind asks for
abbrev pub has_form : RelocKind → Instr → Bool
has_form BranchTarget i = is_branch i
has_form JalTarget i = is_jal i
has_form RelativeHigh i = is_auipc (Some i)
has_form TableHigh i = is_auipc (Some i)
has_form High i = is_upper_form i
has_form LowI i = is_i_form i
has_form RelativeLowI i = is_i_form i
has_form LowS i = is_store i
has_form RelativeLowS i = is_store i
has_form other i = false

-- a pair is an AUIPC with a target
abbrev pub pair_has_form : RelocKind → Bool
pair_has_form PairTarget = true
pair_has_form RelativeHigh = true
pair_has_form TableHigh = true
pair_has_form other = false

abbrev pub word_has_form : RelocKind → Option Instr → Bool
word_has_form kind (Some i) = has_form kind i
word_has_form kind None = false

abbrev pub fits_on : SectionParts → ℕ → RelocKind → Bool
fits_on section i kind = if is_pair section i then pair_has_form kind else word_has_form kind (instr section i)

-- a relocation of code: on an instruction of its form, and alone there
abbrev pub stands_in_code : SectionParts → Relocation → Bool
stands_in_code section u =
    length (acting_at section u.offset) == 1 && is_start section u.offset && fits_on section (u.offset / 4) (kind_of u.number)

abbrev pub width : RelocKind → ℕ
width (InData patch) = size_of patch
width other = 0

-- a relocation of data: on bytes that are in the file
abbrev pub stands_in_data : SectionParts → Relocation → Bool
stands_in_data section u = not (is_zeros_sort section.sort) && not (nat_lt section.size (u.offset + width (kind_of u.number)))

abbrev pub stands : SectionParts → Relocation → Bool
stands section u = if is_code section then stands_in_code section u else stands_in_data section u

-- a slot of the table of addresses is a symbol's, and no number is added to its address
abbrev pub has_right_addend : Relocation → Bool
has_right_addend u = not (is_table_high (kind_of u.number)) || int_eq u.addend (pos 0)

abbrev pub is_wrong_place : SectionParts → Relocation → Bool
is_wrong_place section u = is_acting u && not (stands section u && has_right_addend u)

abbrev pub place_found : SectionParts → ℕ → Relocation → Option (Found ItemFault)
place_found section k u = if is_wrong_place section u then Some (found_at k u.offset (fault.RelocPlace k u.offset)) else None

abbrev pub place_in : InputParts → ℕ → Option (Found ItemFault)
place_in input k = nearest place_of (filter_map (place_found (section_of input k) k) (section_of input k).uses)

unfoldable pub wrong_place : InputParts → Option ItemFault
wrong_place input = nearest_in input (place_in input)
