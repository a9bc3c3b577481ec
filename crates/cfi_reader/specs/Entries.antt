-- What is kept of a unit: its kind, and its label or the offset field of its jump or branch. The field,
-- and not the target, so that nothing is lost where a jump leads out of the code. Of a system call behind
-- tests of its number, whether the numbers are those of a list, in its order.
use Rattle.std.specs.Prelude.{ℕ, zero, suc, ◌+◌, ◌-◌, ◌==◌, Bool, true, false, List, [], ◌∷◌, ◌++◌, Option, Some, None, if◌then◌else◌}
use Rattle.rv_word.specs.Numbers.{are_same}
use Rattle.rv_instr.specs.Operands.{written}
use Rattle.rv_instr.specs.declared.instr.Instr.{Instr}
use Rattle.cfi_unit.specs.declared.mask.Mask.{Mask}
use Rattle.cfi_unit.specs.declared.mask.Mask.TheVariants.{Shifts}
use Rattle.cfi_unit.specs.declared.unit.Unit as U
use Rattle.cfi_unit.specs.declared.unit.Unit.TheVariants as V
use Rattle.cfi_unit.specs.declared.unit.SystemOp.TheVariants as S
use Rattle.cfi_unit.specs.UnitWords.{after_unit, jump_offset, near_offset, word_count}
use Rattle.cfi_reader.specs.declared.entry.Entry.{Entry}
use Rattle.cfi_reader.specs.declared.entry.Entry.TheVariants as E

-- a list that may be absent, as the one that has no number
abbrev pub numbers_or_none : Option (List ℕ) → List ℕ
numbers_or_none None = []
numbers_or_none (Some calls) = calls

-- the entry of stores behind a mask
abbrev pub stores_entry : Mask → Entry
stores_entry Shifts = E.Stores
stores_entry other = E.LeanStores

-- the register that an instruction writes, if it writes one, is x1
abbrev pub is_link : Option ℕ → Bool
is_link None = false
is_link (Some rd) = rd == 1

abbrev pub writes_link : Instr → Bool
writes_link instr = is_link (written instr)

-- the entry of a plain unit, by whether it writes x1
abbrev pub plain_entry : Bool → Entry
plain_entry links = if links then E.WritesLink else E.Other

-- the entry of a unit at an address, under a list
abbrev pub entry_of : List ℕ → U.Unit → ℕ → Entry
entry_of calls (V.Gate label) at = E.Gate label
entry_of calls (V.Plain instr) at = plain_entry (writes_link instr)
entry_of calls (V.Branch op rs1 rs2 target) at = E.Branch (jump_offset (at + 4) target)
entry_of calls (V.Near op rs1 rs2 target) at = E.Near (near_offset at target)
entry_of calls (V.Jump target) at = E.Jump (jump_offset at target)
entry_of calls V.Stop at = E.Stop
entry_of calls (V.System S.Ecall) at = E.Ecall
entry_of calls (V.System S.Ebreak) at = E.Break
entry_of calls (V.Guarded numbers) at = E.Guarded (are_same numbers calls)
entry_of calls (V.Stores mask rs1 imm members) at = stores_entry mask
entry_of calls (V.Call target) at = E.Call (jump_offset (at + 28) target)
entry_of calls (V.Ijump which rs1 imm label) at = E.Ijump which label
entry_of calls (V.Icall rs1 imm label) at = E.Icall label
entry_of calls V.Return at = E.Return
entry_of calls (V.LinkCall target) at = E.LinkCall (jump_offset at target)
entry_of calls V.Enter at = E.Enter
entry_of calls (V.LeanIjump rs1 imm label) at = E.LeanIjump label
entry_of calls (V.LeanIcall rs1 imm label) at = E.LeanIcall label
entry_of calls V.LeafReturn at = E.LeafReturn

-- a unit starts at a word with this entry
abbrev pub is_unit : Entry → Bool
is_unit E.Inside = false
is_unit _ = true

abbrev pub is_started : Option Entry → Bool
is_started None = false
is_started (Some entry) = is_unit entry

-- the entry is of no transfer, of no gate and of no system call
abbrev pub is_quiet : Entry → Bool
is_quiet E.Inside = true
is_quiet E.Stop = true
is_quiet E.Other = true
is_quiet E.WritesLink = true
is_quiet E.Return = true
is_quiet E.Break = true
is_quiet E.Stores = true
is_quiet _ = false

-- the entries of words at which no unit starts
unfoldable pub inside : ℕ → List Entry
inside zero = []
inside (suc n) = E.Inside ∷ inside n

-- one entry for each word of units in a row from an address on
unfoldable pub entries_of : List ℕ → List U.Unit → ℕ → List Entry
entries_of calls [] at = []
entries_of calls (unit ∷ units) at =
    (entry_of calls unit at ∷ inside (word_count unit - 1)) ++ entries_of calls units (after_unit unit at)
