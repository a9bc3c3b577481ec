-- A word of an instruction that is a unit of its own and does not write x1.
use Rattle.std.specs.Prelude.{◌≡◌, ℕ, ◌==◌, ◌&&◌, Bool, true, false, not, Some}
use Rattle.rv_instr.specs.Reserved.{is_reserved}
use Rattle.rv_instr.specs.declared.instr.Instr.{Instr}
use Rattle.rv_code.specs.Decode.{decoded}
use Rattle.cfi_unit.specs.UnitWords.{is_plain}
use Rattle.cfi_reader.specs.Entries.{writes_link}

pub record IsPlainWord (word : ℕ) : Type 0 where
  pub instr : Instr
  pub is : decoded word ≡ Some instr
  pub plain : is_plain instr ≡ true
  pub no_link : writes_link instr ≡ false

-- programs may name the register, and it is neither x0 nor x1
abbrev pub is_ordinary : ℕ → Bool
is_ordinary rd = not (rd == 0) && (not (rd == 1) && not (is_reserved rd))
