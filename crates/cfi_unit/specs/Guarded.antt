-- A system call behind tests of its number: for each number of a list in its order the number into x31
-- and a branch to the call where x17 is that number, then a jump to the handler, then the call.
use Rattle.std.specs.Prelude.{ℕ, ◌*◌, ◌<◌, ◌≤◌, List, [], ◌∷◌, length}
use Rattle.std.specs.List.{AllByRecursion}
use Rattle.rv_word.specs.Numbers.{IsNumber, MOST_NUMBERS}
use Rattle.rv_instr.specs.declared.instr.Instr.{Instr}
use Rattle.rv_instr.specs.declared.instr.Instr.TheVariants.{Branch, Immediate}
use Rattle.rv_instr.specs.declared.instr.ImmediateOp.TheVariants.{Addi}
use Rattle.rv_instr.specs.declared.instr.BranchOp.TheVariants.{Beq}

-- the numbers of a unit: at least one
pub record AreNumbers (numbers : List ℕ) : Type 0 where
  pub some : 0 < length numbers
  pub most : length numbers ≤ MOST_NUMBERS
  pub each : AllByRecursion IsNumber numbers

-- the tests: each is two words, and behind the last one stand the jump and the call; so a branch with
-- `length (n ∷ numbers)` tests from its own on leads eight bytes on for each, in multiples of two
abbrev pub guards : List ℕ → List Instr
guards [] = []
guards (n ∷ numbers) = Immediate Addi 31 0 n ∷ Branch Beq 31 17 (4 * length (n ∷ numbers)) ∷ guards numbers
