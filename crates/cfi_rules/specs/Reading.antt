-- Units that a code is, read from its instructions alone: each word decodes to the instruction of its unit. No unit is
-- recognised, and none is encoded.
use Rattle.std.specs.Prelude.{◌≡◌, ◌≢◌, ℕ, ◌+◌, ◌*◌, ◌%◌, ◌≤◌, IsTrue, List, [], ◌∷◌, length, map, take, drop, Option, Some}
use Rattle.rv_image.specs.MemoryMap.{CODE_START, Profile}
use Rattle.rv_code.specs.Decode.{decoded}
use Rattle.cfi_unit.specs.declared.place.Place.{Place}
use Rattle.cfi_unit.specs.declared.unit.Unit as U
use Rattle.cfi_unit.specs.declared.unit.Unit.TheVariants as V
use Rattle.cfi_unit.specs.Guarded.{AreNumbers}
use Rattle.cfi_unit.specs.Laws.{AreWords}
use Rattle.cfi_unit.specs.Members.{AreMembers}
use Rattle.cfi_unit.specs.UnitWords.{BAD_TARGET, BAD_RETURN, DEEP, IsNear, MaskFits, Reaches, after_unit, instrs_of, is_plain, may_precede, word_count}
use Rattle.cfi_rules.specs.Split.{place_by, unit_in, unit_words}

-- what a unit's instructions do not tell: that its jumps lead to their targets, that its one instruction may stand
-- alone, how many numbers and stores there may be
abbrev pub IsProper : U.Unit → ℕ → Type 0
IsProper (V.Plain instr) at = IsTrue (is_plain instr)
IsProper (V.Branch op rs1 rs2 target) at = Reaches (at + 4) target
IsProper (V.Near op rs1 rs2 target) at = IsNear at target
IsProper (V.Jump target) at = (target ≢ BAD_TARGET) × Reaches at target
IsProper V.Stop at = Reaches at BAD_TARGET
IsProper (V.Guarded numbers) at = AreNumbers numbers × Reaches (at + 8 * length numbers) BAD_TARGET
IsProper (V.Stores mask rs1 imm members) at = AreMembers members × MaskFits mask imm
IsProper (V.Call target) at = Reaches (at + 8) DEEP × Reaches (at + 28) target
IsProper (V.Ijump which rs1 imm label) at = Reaches (at + 24) BAD_TARGET × Reaches (at + 44) BAD_TARGET
IsProper (V.Icall rs1 imm label) at = Reaches (at + 24) BAD_TARGET × Reaches (at + 44) BAD_TARGET × Reaches (at + 56) DEEP
IsProper V.Return at = Reaches (at + 12) BAD_RETURN
IsProper (V.LinkCall target) at = Reaches at target
IsProper V.Enter at = Reaches (at + 8) DEEP
IsProper (V.LeanIjump rs1 imm label) at = Reaches (at + 24) BAD_TARGET × Reaches (at + 44) BAD_TARGET
IsProper (V.LeanIcall rs1 imm label) at = Reaches (at + 24) BAD_TARGET × Reaches (at + 44) BAD_TARGET
IsProper other at = Unit {0}

-- words from an address on begin with a unit: each decodes to its instruction, and what follows them may
pub record ReadsAs (words : List ℕ) (at : ℕ) (unit : U.Unit) : Type 0 where
  pub proper : IsProper unit at
  pub instrs : map decoded (take (word_count unit) words) ≡ map Some (instrs_of unit at)
  pub ahead : IsTrue (may_precede unit at (drop (word_count unit) words))

-- they are these units, one after another
unfoldable pub AreRead : List ℕ → ℕ → List U.Unit → Type 0
AreRead words at [] = words ≡ []
AreRead words at (unit ∷ units) = ReadsAs words at unit × AreRead (drop (word_count unit) words) (after_unit unit at) units

-- the words of a code, each of 32 bits, are these units from the first unit's address on, which is in code
pub record AreUnitsOf (p : Profile) (words : List ℕ) (units : List U.Unit) : Type 0 where
  pub low : CODE_START ≤ p.units_from
  pub round : p.units_from % 4 ≡ 0
  pub small : AreWords words
  pub read : AreRead (unit_words p words) p.units_from units

-- what stands at an address, where they start
abbrev pub place_in : Profile → List ℕ → List U.Unit → ℕ → Option Place
place_in p words units a = place_by p words (unit_in units p.units_from a) a
