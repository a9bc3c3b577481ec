-- Where something starts in a code, for each of its words. Only private contracts cite this.
use Rattle.std.specs.Prelude.{◌≡◌, ◌<◌, ℕ, ◌+◌, ◌*◌, Bool, List, Some, is_some, length, slice_get}
use Rattle.rv_image.specs.MemoryMap.{CODE_START, Profile}
use Rattle.cfi_unit.specs.Place.{IsWordOf}
use Rattle.cfi_unit.specs.declared.place.Place.{Place}
use Rattle.cfi_rules.specs.Split.{place_at}

pub record AreStartsOf (p : Profile) (words : List ℕ) (starts : List Bool) : Type 0 where
  pub all : length starts ≡ length words
  pub each : (k : ℕ) (is : Bool) → slice_get starts k ≡ Some is → is ≡ is_some (place_at p words (CODE_START + 4 * k))

-- each word of what stands at an address is one of the code
abbrev pub LiesInCode : Profile → List ℕ → Type 0
LiesInCode p words = (a pc : ℕ) (place : Place) → place_at p words a ≡ Some place → IsWordOf p place a pc → pc < CODE_START + 4 * length words
