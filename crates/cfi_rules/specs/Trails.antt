-- What a run along a graph is, in a second sentence: each begun instruction of a hart is a word of what
-- stands at the newest address of its walk so far, and ends as it may there.
use Rattle.std.specs.Prelude.{◌≡◌, ℕ, ◌==◌, Bool, true, false, List, [], ◌∷◌, Option, Some, None}
use Rattle.rv_image.specs.MemoryMap.{Profile}
use Rattle.rv_code.specs.declared.turn.Turn.{Turn}
use Rattle.cfi_unit.specs.declared.place.Place.{Place}
use Rattle.cfi_unit.specs.Place.{IsWordOf}
use Rattle.cfi_rules.specs.Along.{MayEnd}
use Rattle.cfi_rules.specs.Split.{place_at}
use Rattle.cfi_rules.specs.Taken.{TakenStep}
use Rattle.cfi_rules.specs.Walks.{if_own}

-- a begun instruction: the newest address of the walk, its own, and how it ended
pub record Begin : Type 0 where
  pub newest : ℕ
  pub pc : ℕ
  pub turn : Turn

abbrev pub newest_of : Option Place → ℕ → ℕ → ℕ
newest_of None newest pc = newest
newest_of (Some place) newest pc = pc

abbrev pub if_own_begin : Bool → Begin → List Begin → List Begin
if_own_begin true begin rest = begin ∷ rest
if_own_begin false begin rest = rest

-- the begun instructions of one hart, `k`, in a run of these steps, from the newest address of its walk
-- before it
unfoldable pub trail_of : Profile → List ℕ → ℕ → ℕ → List TakenStep → List Begin
trail_of p words k newest [] = []
trail_of p words k newest (t ∷ rest) =
    let here = newest_of (if_own (t.hart == k) (place_at p words t.before.pc)) newest t.before.pc in
    if_own_begin (t.hart == k) (record { newest = here; pc = t.before.pc; turn = t.after.turn }) (trail_of p words k here rest)

abbrev pub IsInPlace : Profile → List ℕ → Begin → Type 0
IsInPlace p words b =
    (place : Place) × (place_at p words b.newest ≡ Some place) × IsWordOf p place b.newest b.pc × MayEnd place b.pc b.turn
