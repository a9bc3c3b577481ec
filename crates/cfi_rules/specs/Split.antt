-- The units of an image's code: the first begins where the profile says, each next one where the
-- one before ends. What stands at an address is a place: a unit, or a part of the prologue.
use Rattle.std.specs.Prelude.{ℕ, zero, suc, ◌+◌, ◌-◌, ◌*◌, ◌/◌, ◌%◌, ◌^◌, ◌==◌, nat_le, ◌&&◌, ◌||◌, Bool, true, false, List, [], ◌∷◌, drop, slice_get, Option, Some, None, option_map, option_and_then, if◌then◌else◌}
use Rattle.rv_image.specs.MemoryMap.{CODE_START, Profile}
use Rattle.rv_code.specs.Decode.{decoded}
use Rattle.cfi_unit.specs.declared.unit.Unit as U
use Rattle.cfi_unit.specs.declared.place.Place.{Place}
use Rattle.cfi_unit.specs.declared.place.Place.TheVariants.{Handler as handler, Opening as opening, Closing as closing, Body as body}
use Rattle.cfi_unit.specs.Prologue.{OPENING}
use Rattle.cfi_unit.specs.Reach.{target_in}
use Rattle.cfi_unit.specs.Recognise.{recognised}
use Rattle.cfi_unit.specs.UnitWords.{after_unit, word_count, BAD_TARGET, BAD_RETURN, DEEP}

-- the words of a list of bytes, the lowest byte first
unfoldable pub code_words : List ℕ → List ℕ
code_words (a ∷ b ∷ c ∷ d ∷ rest) = (a + 2 ^ 8 * b + 2 ^ 16 * c + 2 ^ 24 * d) ∷ code_words rest
code_words rest = []

-- for each word of a list that begins at an address, whether a unit starts there; the first `skip`
-- words belong to a unit that began before. The list ends where no unit fits.
unfoldable pub starts : ℕ → List ℕ → ℕ → List Bool
starts skip [] at = []
starts (suc skip) (word ∷ words) at = false ∷ starts skip words (at + 4)
starts zero (word ∷ words) at =
    elim (recognised (word ∷ words) at) [
      | None ↦ []
      | Some unit ↦ true ∷ starts (word_count unit - 1) words (at + 4)
    ]

-- the words of a code from the first unit on
abbrev pub unit_words : Profile → List ℕ → List ℕ
unit_words p words = drop ((p.units_from - CODE_START) / 4) words

abbrev pub unit_starts : Profile → List ℕ → List Bool
unit_starts p words = starts 0 (unit_words p words) p.units_from

-- a mark that is there and says that a unit starts
abbrev pub is_marked : Option Bool → Bool
is_marked None = false
is_marked (Some mark) = mark

-- an address is the start of a unit of the split
unfoldable pub is_start : Profile → List ℕ → ℕ → Bool
is_start p words a =
    nat_le p.units_from a
    && ((a % 4 == 0) && is_marked (slice_get (unit_starts p words) ((a - p.units_from) / 4)))

-- the unit that starts at an address
unfoldable pub unit_at : Profile → List ℕ → ℕ → Option U.Unit
unit_at p words a = if is_start p words a then recognised (drop ((a - CODE_START) / 4) words) a else None

-- the unit that starts at an address, where the first of some units starts at `at` and each next one
-- where the one before ends
unfoldable pub unit_in : List U.Unit → ℕ → ℕ → Option U.Unit
unit_in [] at a = None
unit_in (unit ∷ units) at a = if a == at then Some unit else unit_in units (after_unit unit at) a

-- where the opening's call leads
abbrev pub entry_of : Profile → List ℕ → Option ℕ
entry_of p words = target_in p.opening_call (option_and_then decoded (slice_get words ((p.opening_call - CODE_START) / 4)))

abbrev pub is_handler : ℕ → Bool
is_handler a = a == BAD_TARGET || (a == BAD_RETURN || a == DEEP)

-- what stands at an address, if something starts there, by the unit that may start there
abbrev pub place_by : Profile → List ℕ → Option U.Unit → ℕ → Option Place
place_by p words unit a =
    if is_handler a then Some handler else
    if a == OPENING then option_map opening (entry_of p words) else
    if a == p.closing then Some closing else
    option_map body unit

unfoldable pub place_at : Profile → List ℕ → ℕ → Option Place
place_at p words a = place_by p words (unit_at p words a) a
