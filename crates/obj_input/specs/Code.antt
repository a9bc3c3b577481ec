-- The instructions of a code section. A word is one instruction, but an AUIPC whose relocation names a
-- target and the JALR of its register after it are one: a pair. Its AUIPC is where it starts.
use Rattle.std.specs.Prelude.{ℕ, ℤ, pos, negsuc, zero, suc, ◌+◌, ◌*◌, ◌/◌, ◌%◌, ◌^◌, nat_lt, Bool, true, false, not, ◌==◌, ◌&&◌, ◌||◌, if◌then◌else◌, Option, Some, None}
use Rattle.std.specs.List.{list_any}
use Rattle.elf_bytes.specs.Fields.{number_at}
use Rattle.rv_instr.specs.declared.instr.Instr.{Instr}
use Rattle.rv_instr.specs.declared.instr.Instr.TheVariants.{Upper, Jalr}
use Rattle.rv_instr.specs.declared.instr.UpperOp.{UpperOp}
use Rattle.rv_instr.specs.declared.instr.UpperOp.TheVariants.{Lui, Auipc}
use Rattle.rv_code.specs.Decode.{decoded}
use Rattle.obj_input.specs.Kinds.{is_pair_target, is_relative_high, kind_of}
use Rattle.obj_input.specs.Input.{SectionParts, acting_at, is_code}

abbrev pub word_count : SectionParts → ℕ
word_count section = section.size / 4

-- the word with an index
abbrev pub word : SectionParts → ℕ → ℕ
word section i = number_at section.content (4 * i) 4

-- the instruction that it is, none past the end
unfoldable pub instr : SectionParts → ℕ → Option Instr
instr section i = if nat_lt i (word_count section) then decoded (word section i) else None

abbrev pub is_auipc : Option Instr → Bool
is_auipc (Some (Upper Auipc rd imm)) = true
is_auipc other = false

-- the register that an AUIPC writes, and the one that a JALR reads
abbrev pub if_auipc : UpperOp → ℕ → Option ℕ
if_auipc Auipc rd = Some rd
if_auipc Lui rd = None

abbrev pub auipc_register : Option Instr → Option ℕ
auipc_register (Some (Upper op rd imm)) = if_auipc op rd
auipc_register other = None

abbrev pub jalr_base : Option Instr → Option ℕ
jalr_base (Some (Jalr link base imm)) = Some base
jalr_base other = None

abbrev pub are_same : Option ℕ → Option ℕ → Bool
are_same (Some a) (Some b) = a == b
are_same a b = false

-- an AUIPC, and a JALR by its register
abbrev pub are_pair : Option Instr → Option Instr → Bool
are_pair first second = are_same (auipc_register first) (jalr_base second)

-- some relocation there names the target of a pair
abbrev pub has_pair_target : SectionParts → ℕ → Bool
has_pair_target section i = list_any (λ u. is_pair_target (kind_of u.number)) (acting_at section (4 * i))

unfoldable pub is_pair : SectionParts → ℕ → Bool
is_pair section i = are_pair (instr section i) (instr section (i + 1)) && has_pair_target section i

-- a word that is the JALR of a pair starts no instruction
abbrev pub is_inside : SectionParts → ℕ → Bool
is_inside section zero = false
is_inside section (suc i) = is_pair section i

abbrev pub starts_at : SectionParts → ℕ → Bool
starts_at section i = nat_lt i (word_count section) && not (is_inside section i)

-- an offset is an instruction's start
unfoldable pub is_start : SectionParts → ℕ → Bool
is_start section at = is_code section && at % 4 == 0 && starts_at section (at / 4)

-- an offset is a place: an instruction's start, or the section's end
abbrev pub is_place : SectionParts → ℕ → Bool
is_place section at = is_start section at || is_code section && at == section.size

-- some relocation at an offset is the high part of a distance
abbrev pub has_high_part : SectionParts → ℕ → Bool
has_high_part section at = list_any (λ u. is_relative_high (kind_of u.number)) (acting_at section at)

-- the same of any whole number: none below 0 is one
abbrev pub at_whole : (ℕ → Bool) → ℤ → Bool
at_whole test (pos n) = test n
at_whole test (negsuc n) = false

-- a whole number as an offset of 64 bits
abbrev pub natural : ℤ → Option ℕ
natural (pos n) = if nat_lt n (2 ^ 64) then Some n else None
natural (negsuc n) = None
