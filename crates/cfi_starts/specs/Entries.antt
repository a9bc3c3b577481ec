-- What the listing of a code says of an address: what stands there, where it leads, and of which kind its start is.
use Rattle.std.specs.Prelude.{◌≡◌, ◌<◌, ℕ, ◌+◌, ◌-◌, ◌*◌, ◌/◌, ◌%◌, ◌==◌, nat_le, min, ◌&&◌, ◌||◌, not, Bool, true, false, List, slice_get, Option, Some, None, is_some, if◌then◌else◌}
use Rattle.std.specs.List.{list_any}
use Rattle.rv_image.specs.MemoryMap.{CODE_START, Profile, START}
use Rattle.cfi_graph.specs.declared.line.GraphLine.{GraphLine}
use Rattle.cfi_graph.specs.declared.line.GraphLine.TheVariants.{Leaf}
use Rattle.cfi_graph.specs.declared.line.SiteKind.TheVariants as K
use Rattle.cfi_unit.specs.declared.target_word.TargetWord.TheVariants.{First, Third}
use Rattle.cfi_unit.specs.Recognise.{led_to, near_to}
use Rattle.cfi_pending.specs.Kinds as kinds
use Rattle.cfi_pending.specs.Kinds.{begins_at, in_leaf, leaf_of}
use Rattle.cfi_reader.specs.declared.entry.Entry.{Entry}
use Rattle.cfi_reader.specs.declared.entry.Entry.TheVariants as E
use Rattle.cfi_reader.specs.Entries.{is_started, is_unit}
use Rattle.cfi_scan.specs.Pieces.{Listed, prologue_count}
use Rattle.cfi_rules.specs.Lines.{holds_of, leaves_in}
use Rattle.cfi_rules.specs.Split.{entry_of}
use Rattle.cfi_rules.specs.Rules.{Signs, asks}
use Rattle.cfi_rules.specs.declared.asks.Asks.{Asks}
use Rattle.least.specs.First.{first_below}

-- where there is no entry, no unit starts
abbrev pub or_inside : Option Entry → Entry
or_inside None = E.Inside
or_inside (Some entry) = entry

-- where the branch or the jump leads that has this entry at an address
abbrev pub edge_in : Entry → ℕ → Option ℕ
edge_in (E.Near field) a = Some (near_to a field)
edge_in (E.Branch field) a = Some (led_to (a + 4) field)
edge_in (E.Jump field) a = Some (led_to a field)
edge_in _ a = None

-- and the call
abbrev pub call_in : Entry → ℕ → Option ℕ
call_in (E.Call field) a = Some (led_to (a + 28) field)
call_in (E.LinkCall field) a = Some (led_to a field)
call_in _ a = None

-- what a computed transfer asks for
abbrev pub site_in : Entry → Option Asks
site_in (E.Ijump which label) = Some (asks K.Jump which label)
site_in (E.Icall label) = Some (asks K.Call First label)
site_in (E.LeanIjump label) = Some (asks K.Jump First label)
site_in (E.LeanIcall label) = Some (asks K.Call Third label)
site_in _ = None

-- a unit with this entry may stand in a leaf, and outside of all leaves
abbrev pub stands_within : Entry → Bool
stands_within (E.Gate label) = false
stands_within (E.Call field) = false
stands_within (E.LinkCall field) = false
stands_within E.Enter = false
stands_within (E.Ijump which label) = false
stands_within (E.Icall label) = false
stands_within (E.LeanIjump label) = false
stands_within (E.LeanIcall label) = false
stands_within E.WritesLink = false
stands_within E.Return = false
stands_within _ = true

abbrev pub stands_outside : Entry → Bool
stands_outside E.LeafReturn = false
stands_outside _ = true

abbrev pub may_stand : Option kinds.Leaf → Entry → Bool
may_stand (Some leaf) entry = stands_within entry
may_stand None entry = stands_outside entry

-- it may go on to the one behind it, or a call come back there
abbrev pub goes_on : Entry → Bool
goes_on E.Inside = false
goes_on (E.Jump field) = false
goes_on E.Stop = false
goes_on E.Break = false
goes_on E.Return = false
goes_on E.LeafReturn = false
goes_on (E.Call field) = false
goes_on (E.Ijump which label) = false
goes_on (E.Icall label) = false
goes_on (E.LeanIjump label) = false
goes_on _ = true

-- it saves a site
abbrev pub is_enter : Entry → Bool
is_enter E.Enter = true
is_enter _ = false

-- the label of a gate
abbrev pub gate_in : Entry → Option ℕ
gate_in (E.Gate label) = Some label
gate_in _ = None

-- where the unit at a word ends: at the next word where one starts, or at the end of all, both in words
abbrev pub next_by : ℕ → ℕ → Option ℕ → ℕ
next_by k end None = end
next_by k end (Some j) = k + 1 + j

unfoldable pub next_in : List Entry → ℕ → ℕ → ℕ
next_in entries end k = next_by k end (first_below (λ j. is_started (slice_get entries (k + 1 + j))) (end - (k + 1)))

-- a unit starts at a word, and none between it and a later one
pub record IsBefore (entries : List Entry) (later k : ℕ) : Type 0 where
  pub below : k < later
  pub starts : is_started (slice_get entries k) ≡ true
  pub none : (j : ℕ) → k < j → j < later → is_started (slice_get entries j) ≡ false

module _ (p : Profile) where
  -- the entry of the word at an address
  unfoldable pub entry_at : List Entry → ℕ → Entry
  entry_at entries a =
      if nat_le p.units_from a && (a % 4 == 0) then or_inside (slice_get entries ((a - p.units_from) / 4)) else E.Inside

  abbrev pub edge_at : Listed → ℕ → Option ℕ
  edge_at t a = edge_in (entry_at t.entries a) a

  -- the opening's call leads to the entry
  abbrev pub call_at : Listed → ℕ → Option ℕ
  call_at t a = if a == START then entry_of p t.prologue else call_in (entry_at t.entries a) a

  abbrev pub site_at : Listed → ℕ → Option Asks
  site_at t a = site_in (entry_at t.entries a)

  abbrev pub gate_at : Listed → ℕ → Option ℕ
  gate_at t a = gate_in (entry_at t.entries a)

  abbrev pub starts_at : Listed → ℕ → Bool
  starts_at t a = is_unit (entry_at t.entries a)

  -- how many words follow the prologue
  abbrev pub count_of : Listed → ℕ
  count_of t = t.fed / 4 - prologue_count p

  -- what stands there saves a site
  abbrev pub enters_at : Listed → ℕ → Bool
  enters_at t a = is_enter (entry_at t.entries a)

  -- a start is fresh
  abbrev pub fresh_at : Listed → List kinds.Leaf → ℕ → Bool
  fresh_at t leaves a = is_some (leaf_of leaves a) || (enters_at t a || (is_some (gate_at t a) && enters_at t (a + 4)))

  abbrev pub signs_at : Listed → List kinds.Leaf → Signs
  signs_at t leaves = record { starts = starts_at t; gate = gate_at t; fresh = fresh_at t leaves; enters = enters_at t }

  -- where the last unit ends, in words behind the prologue, and where the unit at an address does
  abbrev pub end_of : Listed → ℕ
  end_of t = min t.done (count_of t)

  abbrev pub next_at : Listed → ℕ → ℕ
  next_at t a = p.units_from + 4 * next_in t.entries (end_of t) ((a - p.units_from) / 4)

  abbrev pub stands_wrong_at : Listed → List kinds.Leaf → ℕ → Bool
  stands_wrong_at t leaves a = not (may_stand (leaf_of leaves a) (entry_at t.entries a))

  -- a leaf is of whole units
  abbrev pub is_whole : Listed → ℕ → ℕ → Bool
  is_whole t from to = starts_at t from && (starts_at t to || (to == CODE_START + 4 * (t.fed / 4)))

  abbrev pub lacks_end_at : Listed → ℕ → GraphLine → Bool
  lacks_end_at t a (Leaf from to) = (from == a) && not (is_whole t from to)
  lacks_end_at t a other = false

  -- what stands behind a unit is of its kind
  abbrev pub is_right_behind_at : Listed → List kinds.Leaf → Option kinds.Leaf → ℕ → Bool
  is_right_behind_at t leaves (Some leaf) a = in_leaf (next_at t a) leaf
  is_right_behind_at t leaves None a = (is_some (gate_at t a) && enters_at t (a + 4)) || not (fresh_at t leaves (next_at t a))

  abbrev pub goes_wrong_at : Listed → List kinds.Leaf → ℕ → Bool
  goes_wrong_at t leaves a = goes_on (entry_at t.entries a) && not (is_right_behind_at t leaves (leaf_of leaves a) a)

  abbrev pub fails_leaf_at : Listed → List GraphLine → ℕ → Bool
  fails_leaf_at t lines a = list_any (lacks_end_at t a) lines || goes_wrong_at t (leaves_in lines) a

  -- a direct target is of its kind
  abbrev pub may_be_reached_at : Listed → List kinds.Leaf → Option kinds.Leaf → ℕ → Bool
  may_be_reached_at t leaves (Some leaf) x = in_leaf x leaf
  may_be_reached_at t leaves None x = not (fresh_at t leaves x)

  abbrev pub may_be_called_at : Listed → List kinds.Leaf → ℕ → Bool
  may_be_called_at t leaves x = enters_at t x || list_any (begins_at x) leaves

  abbrev pub may_go_at : Listed → List kinds.Leaf → ℕ → ℕ → Bool
  may_go_at t leaves a x = starts_at t x && may_be_reached_at t leaves (leaf_of leaves a) x

  abbrev pub may_call_at : Bool → Listed → List kinds.Leaf → ℕ → ℕ → Bool
  may_call_at true t leaves a x = starts_at t x && may_be_called_at t leaves x
  may_call_at false t leaves a x = may_go_at t leaves a x

  abbrev pub fails_target_at : Listed → List GraphLine → ℕ → Bool
  fails_target_at t lines a =
      holds_of (edge_at t a) (λ x. not (may_go_at t (leaves_in lines) a x))
      || holds_of (call_at t a) (λ x. not (may_call_at p.callee_saves t (leaves_in lines) a x))
