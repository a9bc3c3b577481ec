-- Words that are as a shape of the table says, or the first of such words.
use Rattle.std.specs.Prelude.{◌≡◌, ℕ, ◌+◌, ◌*◌, ◌%◌, ◌<◌, ◌≤◌, ◌^◌, ◌⊎◌, true, List, [], ◌∷◌}
use Rattle.std.specs.List.{AllByRecursion}
use Rattle.rv_image.specs.MemoryMap.{CODE_START, CODE_SIZE}
use Rattle.cfi_unit.specs.declared.pattern.Pattern.{Pattern}
use Rattle.cfi_unit.specs.declared.unit.Unit as U
use Rattle.cfi_unit.specs.UnitWords.{Fits, words_of}
use Rattle.cfi_unit.specs.Patterns.{matches}
use Rattle.cfi_unit.specs.Shapes.{Shape}
use Rattle.cfi_unit.specs.ShapeOf.{shape_of}

-- a shape is one of these
unfoldable pub Among : Shape → List Shape → Type 0
Among s [] = ⊥
Among s (r ∷ rs) = (s ≡ r) ⊎ Among s rs

-- words from an address on are as the first of some patterns say, of which these are left
unfoldable pub Opens : List Pattern → List ℕ → ℕ → List Pattern → Type 0
Opens words [] at left = words ≡ left
Opens [] (w ∷ ws) at left = ⊥
Opens (p ∷ words) (w ∷ ws) at left = (matches p w at ≡ true) × Opens words ws (at + 4) left

-- numbers of 32 bits each
abbrev pub Small : List ℕ → Type 0
Small words = AllByRecursion (λ (w : ℕ). w < 2 ^ 32) words

-- so many words from an address on lie in code
pub record InCode (at count : ℕ) : Type 0 where
  pub low : CODE_START ≤ at
  pub high : at + 4 * count ≤ CODE_START + CODE_SIZE
  pub round : at % 4 ≡ 0

-- the unit whose words these are, and its shape
pub record Made (s : Shape) (ws : List ℕ) (at : ℕ) : Type 0 where
  pub unit : U.Unit
  pub fits : Fits unit at
  pub words : words_of unit at ≡ ws
  pub shape_is : shape_of unit at ≡ s
