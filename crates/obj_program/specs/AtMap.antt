-- Instructions at a map. A map gives each place its gate, the address that pointers to it have, and its word, the address
-- that an instruction reads as its own (RISC-V ELF psABI, "Absolute Addresses" and "PC-Relative Symbol Addresses").
use Rattle.std.specs.Prelude.{ℕ, ℤ, pos, ◌-ℤ◌, if◌then◌else◌, Bool, true, Option, Some, None, option_and_then, option_map, List, slice_index}
use Rattle.rv_instr.specs.declared.instr.Instr.{Instr}
use Rattle.rv_instr.specs.declared.instr.Instr.TheVariants.{Upper, Jalr, Load, Store, Immediate}
use Rattle.rv_code.specs.Decode.{decoded}
use Rattle.rv_reloc.specs.Value.{hi20, lo12, low_bits}
use Rattle.rv_reloc.specs.Word.{is_high_in_range}
use Rattle.obj_program.specs.declared.item.Patch.{Patch}
use Rattle.obj_program.specs.declared.item.Patch.TheVariants as put
use Rattle.obj_program.specs.declared.item.Value.{Value}
use Rattle.obj_program.specs.declared.item.Value.TheVariants.{Number, GateOf}
use Rattle.obj_program.specs.Program.{Program, item_of}

abbrev pub value_at : List ℕ → Value → ℤ
value_at gates (Number z) = z
value_at gates (GateOf k) = pos (slice_index gates k)

-- the distance from a word to a value
abbrev pub distance_to : List ℕ → List ℕ → ℕ → Value → ℤ
distance_to gates words k value = value_at gates value -ℤ pos (slice_index words k)

-- the distance whose high part an instruction has: from its own word
abbrev pub distance : List ℕ → List ℕ → ℕ → Patch → Option ℤ
distance gates words k (put.RelativeHigh v) = Some (distance_to gates words k v)
distance gates words k other = None

-- an instruction with another immediate, in the forms that a relocation changes
abbrev pub with_upper : Instr → ℕ → Instr
with_upper (Upper op rd imm) field = Upper op rd field
with_upper other field = other

abbrev pub with_lower : Instr → ℕ → Instr
with_lower (Jalr rd rs1 imm) field = Jalr rd rs1 field
with_lower (Load op rd rs1 imm) field = Load op rd rs1 field
with_lower (Store op rs1 rs2 imm) field = Store op rs1 rs2 field
with_lower (Immediate op rd rs1 imm) field = Immediate op rd rs1 field
with_lower other field = other

-- an instruction with the high part of a value, if LUI and AUIPC reach it, or with the low part
abbrev pub high_part : Instr → ℤ → Option Instr
high_part i value = if is_high_in_range value then Some (with_upper i (low_bits 20 (hi20 value))) else None

abbrev pub low_part : Instr → ℤ → Instr
low_part i value = with_lower i (low_bits 12 (lo12 value))

-- LUI and AUIPC reach the value whose high part a patch gives to the instruction with the index k
abbrev pub is_reached : List ℕ → List ℕ → ℕ → Patch → Bool
is_reached gates words k (put.High v) = is_high_in_range (value_at gates v)
is_reached gates words k (put.RelativeHigh v) = is_high_in_range (distance_to gates words k v)
is_reached gates words k other = true

-- an instruction at the place with the index k after a patch
abbrev pub patched_instr : Program → List ℕ → List ℕ → ℕ → Instr → Patch → Option Instr
patched_instr program gates words k i put.Own = Some i
patched_instr program gates words k i (put.High v) = high_part i (value_at gates v)
patched_instr program gates words k i (put.Low v) = Some (low_part i (value_at gates v))
patched_instr program gates words k i (put.RelativeHigh v) = high_part i (distance_to gates words k v)
patched_instr program gates words k i (put.RelativeLow j) = option_map (low_part i) (distance gates words j (item_of program j).patch)

-- the instruction at the place with the index k; none where a value leaves its range
unfoldable pub instr_at : Program → List ℕ → List ℕ → ℕ → Option Instr
instr_at program gates words k =
    option_and_then (λ i. patched_instr program gates words k i (item_of program k).patch) (decoded (item_of program k).word)
