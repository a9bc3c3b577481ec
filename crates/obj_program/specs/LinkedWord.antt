-- The word at a place as a linker writes it (RISC-V ELF psABI, "Relocations"): the relocation that stands there puts its value's
-- bits into the word's immediate, and every other bit stays.
use Rattle.std.specs.Prelude.{◌≡◌, ℕ, ℤ, ◌^◌, ◌<◌, if◌then◌else◌, false, Option, Some, None, option_and_then, List}
use Rattle.rv_instr.specs.declared.instr.Instr.{Instr}
use Rattle.rv_instr.specs.declared.instr.Instr.TheVariants.{Store}
use Rattle.rv_code.specs.Decode.{decoded}
use Rattle.rv_reloc.specs.Word.{patched, takes}
use Rattle.rv_reloc.specs.declared.kinds.CodePatch.{CodePatch}
use Rattle.rv_reloc.specs.declared.kinds.CodePatch.TheVariants.{Hi20, PcrelHi20, Lo12I, Lo12S}
use Rattle.obj_program.specs.declared.item.Patch.{Patch}
use Rattle.obj_program.specs.declared.item.Patch.TheVariants as put
use Rattle.obj_program.specs.Program.{Program, count, is_end, item_of}
use Rattle.obj_program.specs.Sound.{IsSound}
use Rattle.obj_program.specs.AtMap.{distance, distance_to, instr_at, value_at}

-- a word after a relocation, if that takes the value
abbrev pub linked : CodePatch → ℤ → ℕ → Option ℕ
linked kind value word = if takes kind value then Some (patched kind value word) else None

-- a low part goes into the immediate of the form S of a store, and of the form I of all others
abbrev pub low_kind : Option Instr → CodePatch
low_kind (Some (Store op rs1 rs2 imm)) = Lo12S
low_kind other = Lo12I

abbrev pub linked_by : Program → List ℕ → List ℕ → ℕ → ℕ → Patch → Option ℕ
linked_by program gates words k word put.Own = Some word
linked_by program gates words k word (put.High v) = linked Hi20 (value_at gates v) word
linked_by program gates words k word (put.Low v) = linked (low_kind (decoded word)) (value_at gates v) word
linked_by program gates words k word (put.RelativeHigh v) = linked PcrelHi20 (distance_to gates words k v) word
linked_by program gates words k word (put.RelativeLow j) =
    option_and_then (λ value. linked (low_kind (decoded word)) value word) (distance gates words j (item_of program j).patch)

-- the word of the place with the index k; none where its relocation does not take the value
abbrev pub linked_word : Program → List ℕ → List ℕ → ℕ → Option ℕ
linked_word program gates words k = linked_by program gates words k (item_of program k).word (item_of program k).patch

-- the instruction at a place is the one that its word is when it is linked
abbrev pub LinkedIsDecoded : Type 0
LinkedIsDecoded =
    (program : Program) (gates words : List ℕ) (k : ℕ) → IsSound program → k < count program → is_end (item_of program k).kind ≡ false →
    (item_of program k).word < 2 ^ 32 → instr_at program gates words k ≡ option_and_then decoded (linked_word program gates words k)
