-- Where a function saves the site of its own call, that site stands in x1 alone until it is saved, and in a function that calls nothing
-- to its end. At a *fresh* start it does; at a *saved* start all pending sites stand on the shadow stack.
use Rattle.std.specs.Prelude.{◌≡◌, ℕ, Bool, true, false, not, ◌&&◌, ◌==◌, Option, Some, None, List, [], ◌∷◌}
use Rattle.rv_instr.specs.Operands.{written}
use Rattle.rv_instr.specs.Registers.{Registers}
use Rattle.cfi_unit.specs.declared.unit.Unit as U
use Rattle.cfi_unit.specs.Flow as F
use Rattle.cfi_unit.specs.Flow.{Act, Exit, Flow, Sites, flow_of}

pub data Start : Type 0 where
  saved : Start
  fresh : Start

-- which of the pending sites, the newest first, stand on the shadow stack
abbrev pub StandsBy : Start → Registers → List ℕ → List ℕ → Type 0
StandsBy saved r pending stacked = stacked ≡ pending
StandsBy fresh r [] stacked = ⊥
StandsBy fresh r (site ∷ pending) stacked = (r 1 ≡ site) × (stacked ≡ pending)

abbrev pub is_link : Option ℕ → Bool
is_link None = false
is_link (Some rd) = rd == 1

-- at a fresh start the newest site is saved or returned to, and nothing writes x1, calls, or goes to a computed destination
abbrev pub fresh_sites : Sites → Bool
fresh_sites F.keeps = true
fresh_sites F.saves = true
fresh_sites other = false

abbrev pub fresh_exit : Exit → Bool
fresh_exit (F.computed rs1 imm) = false
fresh_exit (F.beyond rs1 imm) = false
fresh_exit F.back = false
fresh_exit other = true

abbrev pub fresh_act : Act → Bool
fresh_act (F.does instr) = not (is_link (written instr))
fresh_act other = true

-- at a saved start no site is left to be saved, or returned to without a check
abbrev pub saved_sites : Sites → Bool
saved_sites F.saves = false
saved_sites other = true

abbrev pub saved_exit : Exit → Bool
saved_exit F.linked = false
saved_exit other = true

-- the starts at which a unit may stand
abbrev pub may_stand_by : Start → Flow → Bool
may_stand_by saved f = saved_sites f.sites && saved_exit f.exit
may_stand_by fresh f = fresh_sites f.sites && (fresh_exit f.exit && fresh_act f.act)

abbrev pub may_stand : Start → U.Unit → Bool
may_stand start unit = may_stand_by start (flow_of unit)

-- the start to which it leads, but to a handler
abbrev pub next_by : Start → Sites → Exit → Start
next_by start F.saves exit = saved
next_by start F.links exit = fresh
next_by start other F.linked = saved
next_by start other exit = start

abbrev pub next_start : Start → U.Unit → Start
next_start start unit = next_by start (flow_of unit).sites (flow_of unit).exit
