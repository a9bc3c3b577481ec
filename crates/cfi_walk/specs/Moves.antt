-- What a step does with the pending sites: it keeps them, puts one on top, or takes the top one off.
use Rattle.std.specs.Prelude.{ℕ, ◌+◌, ◌<◌, List, ◌∷◌, length, drop, Option, Some, None}
use Rattle.cfi_unit.specs.Shadow.{MOST_PENDING}
use Rattle.cfi_walk.specs.declared.walk.Move.{Move}
use Rattle.cfi_walk.specs.declared.walk.Move.TheVariants.{Keep, Push, Pop}

-- the sites that are pending after a move
abbrev pub after : Move → List ℕ → List ℕ
after Keep pending = pending
after (Push site) pending = site ∷ pending
after Pop pending = drop 1 pending

-- how many sites may be pending: as many as the shadow stack holds, and one in x1
abbrev pub MOST_SITES : ℕ
MOST_SITES = MOST_PENDING + 1

-- a site may be put on top where there is room for it
abbrev pub HasRoom : Move → List ℕ → Type 0
HasRoom Keep pending = Unit {0}
HasRoom (Push site) pending = length pending < MOST_SITES
HasRoom Pop pending = Unit {0}

-- a move that leads to sites as they may be after a step, or none where there is no such step
abbrev pub IsAnswer : (List ℕ → Type 0) → List ℕ → Option Move → Type 0
IsAnswer Goes pending None = (newer : List ℕ) → Goes newer → ⊥
IsAnswer Goes pending (Some move) = HasRoom move pending × Goes (after move pending)
