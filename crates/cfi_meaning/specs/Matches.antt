-- When a state of the image's run matches one of the source machine: all that later steps of either see is the same. Of the
-- machine's own state nothing else is left but the units' scratch registers x30 and x31, x4 where callers save sites, and slots of the
-- shadow stack in which no site is pending. With a graph of version 3 a state at a place is at its unit, past the words before it: so
-- what saves a call's site has done so; in a leaf, where nothing does, the newest site is in x1 alone.
use Rattle.std.specs.Prelude.{◌≡◌, ◌↔◌, ℕ, ◌+◌, ◌≤◌, ◌<◌, ◌⊎◌, Bool, true, false, Option, Some, None, List, [], ◌∷◌, length}
use Rattle.std.specs.List.{AllByRecursion}
use Rattle.rv_image.specs.Image.{Contents, loaded}
use Rattle.rv_image.specs.MemoryMap.{DATA_END, PART_SIZE, SHADOW_START}
use Rattle.rv_image.specs.declared.version.GraphVersion.{GraphVersion}
use Rattle.rv_image.specs.declared.version.GraphVersion.TheVariants.{OneLabel, TwoLabels, CalleeSaves}
use Rattle.rv_instr.specs.Reserved.{is_reserved}
use Rattle.rv_code.specs.State.{After, last_exit}
use Rattle.rv_code.specs.declared.turn.Turn.TheVariants.{Ran}
use Rattle.cfi_graph.specs.Graph.{has_leaves}
use Rattle.cfi_leads.specs.Leaves.{in_leaf}
use Rattle.cfi_map.specs.GraphAtMap.{ProgramAtMap, entered_in, gate, word}
use Rattle.cfi_map.specs.Source.{Source}
use Rattle.cfi_unit.specs.Shadow.{Holds, MOST_PENDING, slot}
use Rattle.cfi_runs.specs.Mask.{HoldsMask}
use Rattle.cfi_runs.specs.MatchLaws.{ComesTo}
use Rattle.cfi_runs.specs.Own.{Own}

-- where a state at a place is: at its gate, or at its unit
abbrev pub home_by : GraphVersion → ℕ → ℕ → ℕ
home_by OneLabel gate word = gate
home_by TwoLabels gate word = gate
home_by CalleeSaves gate word = word

-- the address of a place that is next, or the closing
abbrev pub address_of : ProgramAtMap → Option ℕ → ℕ
address_of layout None = layout.profile.closing
address_of layout (Some k) = home_by layout.closed.version (gate layout k) (word layout k)

-- the sites that are pending, the newest first: the gates of the places, and the closing beneath
abbrev pub sites_of : ProgramAtMap → List ℕ → List ℕ
sites_of layout [] = layout.profile.closing ∷ []
sites_of layout (k ∷ pending) = gate layout k ∷ sites_of layout pending

-- at the closing none is
abbrev pub sites_at : ProgramAtMap → Option ℕ → List ℕ → List ℕ
sites_at layout None pending = []
sites_at layout (Some k) pending = sites_of layout pending

abbrev pub sites_now : ProgramAtMap → Source → List ℕ
sites_now layout st = sites_at layout st.place st.pending

-- of these the shadow stack has all, but that in a leaf the newest is left to x1
abbrev pub saved_by : GraphVersion → Bool → List ℕ → List ℕ
saved_by CalleeSaves true (site ∷ sites) = sites
saved_by version inside sites = sites

abbrev pub saved_at : ProgramAtMap → Option ℕ → List ℕ → List ℕ
saved_at layout None sites = sites
saved_at layout (Some k) sites = saved_by layout.closed.version (in_leaf (entered_in layout) k) sites

abbrev pub saved_now : ProgramAtMap → Source → List ℕ
saved_now layout st = saved_at layout st.place (sites_now layout st)

-- and none of these calls comes back into a leaf
abbrev pub is_outside : ProgramAtMap → ℕ → Type 0
is_outside layout k = has_leaves layout.closed.version ≡ true → in_leaf (entered_in layout) k ≡ false

pub record Matches (layout : ProgramAtMap) (image : Contents) (st : Source) (after : After) : Type 0 where
  -- the run goes on: neither the last step nor a system call before has ended it
  pub turn : after.turn ≡ Ran
  pub going : last_exit after.shared.events ≡ None
  pub pc : after.hart.pc ≡ address_of layout st.place
  -- the program's registers: all but x3, x4, x30 and x31
  pub regs : (r : ℕ) → is_reserved r ≡ false → after.hart.regs r ≡ st.regs r
  pub in_data : (a : ℕ) → a < DATA_END → after.shared.memory a ≡ st.shared.memory a
  pub left : after.shared.left ≡ st.shared.left
  pub output : after.shared.output ≡ st.shared.output
  pub events : after.shared.events ≡ st.shared.events
  -- x3 is the slot past the newest site that is saved; each such site stands in its slot, the oldest in the first, and all have room
  pub pointer : after.hart.regs 3 ≡ slot SHADOW_START (length (saved_now layout st))
  pub slots : Holds SHADOW_START after.shared.memory (saved_now layout st)
  pub room : length (sites_now layout st) ≤ MOST_PENDING
  pub outside : AllByRecursion (is_outside layout) st.pending
  -- where callees save sites, x4 holds the mask of stores
  pub mask : HoldsMask layout.profile.callee_saves after.hart.regs
  -- code is the image's, as is all else that is neither data nor shadow stack
  pub code : (a : ℕ) → DATA_END ≤ a → (a < SHADOW_START) ⊎ (SHADOW_START + PART_SIZE ≤ a) → after.shared.memory a ≡ loaded image a

-- the source machine's state by addresses: at gates with all sites that are pending, and as the machine has it
abbrev pub gate_of : ProgramAtMap → Option ℕ → ℕ
gate_of layout None = layout.profile.closing
gate_of layout (Some k) = gate layout k

abbrev pub own_of : ProgramAtMap → Source → Own
own_of layout st = record {
  pc = gate_of layout st.place;
  regs = st.regs;
  shared = st.shared;
  pending = sites_now layout st;
}

abbrev pub shown_of : ProgramAtMap → Option ℕ → Own → Own
shown_of layout place o = record o { pc = address_of layout place; pending = saved_at layout place o.pending }

-- so the state is one to which a run of the program's own, by addresses, comes with room for its sites
abbrev pub MatchesIsOwn : Type 0
MatchesIsOwn =
    (layout : ProgramAtMap) (image : Contents) (st : Source) (after : After) →
    Matches layout image st after
    ↔ ((length (sites_now layout st) ≤ MOST_PENDING) × AllByRecursion (is_outside layout) st.pending
    × ComesTo layout.profile.callee_saves SHADOW_START (loaded image) (loaded image) (shown_of layout st.place (own_of layout st)) after)
