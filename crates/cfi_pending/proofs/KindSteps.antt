-- Where units meet what their kinds ask, each leads to starts of the kind that it is to lead to.
use Rattle.std.proofs.Common.{◌≡◌, ◌+◌, ◌==◌, ℕ, Bool, true, false, not, ◌&&◌, ◌||◌, List, [], ◌∷◌, Option, Some, None, inl, inr, refl, sym, subst, ap, ◌∙◌, arith, nat_lt}
use Rattle.std.specs.Prelude.{is_some}
use Rattle.std.specs.List.{list_any}
use Rattle.std.proofs.lemmas.Bool.{and_from, and_parts, cases_Bool, eqb-true, le-leb, or_cases, not-true}
use Rattle.rv_word.proofs.Cases.{cases_Option}
use Rattle.rv_word.proofs.Booleans.{or_right}
use Rattle.cfi_unit.specs.declared.unit.SystemOp.TheVariants as S
use Rattle.cfi_unit.specs.declared.unit.Unit as U
use Rattle.cfi_unit.specs.declared.unit.Unit.TheVariants as V
use Rattle.cfi_unit.specs.Flow.{flow_of}
use Rattle.cfi_unit.specs.UnitWords.{after_unit}
use Rattle.cfi_pending.specs.Kinds.{IsOfItsKind, Leaf, begins_at, goes_on, in_leaf, is_enter, is_fresh, is_gate, is_right_behind, leaf_of, may_be_called, may_be_reached, saves, stands_by, start_at, start_if}
use Rattle.cfi_pending.specs.KindLaws.{KindsAgree, LeadsTo, MayStandThere, SitesAreSaved}
use Rattle.cfi_pending.specs.Starts.{Start, fresh, may_stand, next_start, saved}

gate_is : (unit : U.Unit) → is_gate unit ≡ true → (label : ℕ) × (unit ≡ V.Gate label)
gate_is (V.Gate label) e = (label, refl)
gate_is (V.Plain instr) e = absurd cc
gate_is (V.Branch op rs1 rs2 target) e = absurd cc
gate_is (V.Near op rs1 rs2 target) e = absurd cc
gate_is (V.Jump target) e = absurd cc
gate_is V.Stop e = absurd cc
gate_is (V.System op) e = absurd cc
gate_is (V.Guarded numbers) e = absurd cc
gate_is (V.Stores mask rs1 imm members) e = absurd cc
gate_is (V.Call target) e = absurd cc
gate_is (V.Ijump which rs1 imm label) e = absurd cc
gate_is (V.Icall rs1 imm label) e = absurd cc
gate_is V.Return e = absurd cc
gate_is (V.LinkCall target) e = absurd cc
gate_is V.Enter e = absurd cc
gate_is (V.LeanIjump rs1 imm label) e = absurd cc
gate_is (V.LeanIcall rs1 imm label) e = absurd cc
gate_is V.LeafReturn e = absurd cc

enter_is : (unit : U.Unit) → saves (flow_of unit).sites ≡ true → unit ≡ V.Enter
enter_is (V.Gate label) e = absurd cc
enter_is (V.Plain instr) e = absurd cc
enter_is (V.Branch op rs1 rs2 target) e = absurd cc
enter_is (V.Near op rs1 rs2 target) e = absurd cc
enter_is (V.Jump target) e = absurd cc
enter_is V.Stop e = absurd cc
enter_is (V.System op) e = absurd cc
enter_is (V.Guarded numbers) e = absurd cc
enter_is (V.Stores mask rs1 imm members) e = absurd cc
enter_is (V.Call target) e = absurd cc
enter_is (V.Ijump which rs1 imm label) e = absurd cc
enter_is (V.Icall rs1 imm label) e = absurd cc
enter_is V.Return e = absurd cc
enter_is (V.LinkCall target) e = absurd cc
enter_is V.Enter e = refl
enter_is (V.LeanIjump rs1 imm label) e = absurd cc
enter_is (V.LeanIcall rs1 imm label) e = absurd cc
enter_is V.LeafReturn e = absurd cc

-- what is in a leaf that is found at another address is in one
found_again : (leaves : List Leaf) (a v : ℕ) (leaf : Leaf) → leaf_of leaves a ≡ Some leaf → in_leaf v leaf ≡ true → is_some (leaf_of leaves v) ≡ true
found_again [] a v leaf e there = absurd cc
found_again (x ∷ leaves) a v leaf e there = elim (cases_Bool (in_leaf v x)) [
  | inl here ↦ rw here refl
  | inr other ↦ rw other (elim (cases_Bool (in_leaf a x)) [
    | inl mine ↦
        let same : Some x ≡ Some leaf = rw mine at e in
        let one : x ≡ leaf = cc in
        let wrong : true ≡ false = sym (ap (in_leaf v) one ∙ there) ∙ other in
        absurd cc
    | inr past ↦ found_again leaves a v leaf (rw past at e) there
  ])
]

begun_found : (leaves : List Leaf) (t : ℕ) → list_any (begins_at t) leaves ≡ true → is_some (leaf_of leaves t) ≡ true
begun_found [] t e = absurd cc
begun_found (x ∷ leaves) t e = elim (cases_Bool (in_leaf t x)) [
  | inl here ↦ rw here refl
  | inr other ↦ rw other (elim (or_cases (begins_at t x) (list_any (begins_at t) leaves) e) [
    | inl begins ↦
        let p = and_parts (x.from == t) (nat_lt x.from x.to) begins in
        let same = eqb-true x.from t p.0 in
        let there : in_leaf t x ≡ true = and_from _ _ (le-leb x.from t (omega (arith, same))) (ap (λ n. nat_lt n x.to) (sym same) ∙ p.1) in
        absurd cc
    | inr more ↦ begun_found leaves t more
  ])
]

or_false : (b c : Bool) → b ≡ false → b || c ≡ true → c ≡ true
or_false false c is e = e
or_false true c is e = absurd cc

module _ (unit_at : ℕ → Option U.Unit) (leaves : List Leaf) where
  -- a start is fresh in a leaf, and at what saves a site
  in_fresh : (v : ℕ) → is_some (leaf_of leaves v) ≡ true → is_fresh unit_at leaves v ≡ true
  in_fresh v e = rw e refl

  pub enter_fresh : (v : ℕ) → is_enter (unit_at v) ≡ true → is_fresh unit_at leaves v ≡ true
  enter_fresh v e = or_right (is_some (leaf_of leaves v)) _ (rw e refl)

  pub called_fresh : (t : ℕ) → may_be_called unit_at leaves t ≡ true → is_fresh unit_at leaves t ≡ true
  called_fresh t e = elim (or_cases (is_enter (unit_at t)) (list_any (begins_at t) leaves) e) [
    | inl enters ↦ enter_fresh t enters
    | inr begins ↦ in_fresh t (begun_found leaves t begins)
  ]

  start_is : (v : ℕ) (b : Bool) → is_fresh unit_at leaves v ≡ b → start_at unit_at leaves v ≡ start_if b
  start_is v b e = ap start_if e

  module _ (a : ℕ) (unit : U.Unit) (there : unit_at a ≡ Some unit) (is : IsOfItsKind unit_at leaves a unit) where
    -- in a leaf
    module _ (leaf : Leaf) (mine : leaf_of leaves a ≡ Some leaf) where
      stands_in_it : stands_by (Some leaf) unit ≡ true
      stands_in_it = subst (λ (o : Option Leaf). stands_by o unit ≡ true) mine is.stands

      may_in_it : may_stand fresh unit ≡ true
      may_in_it = (and_parts (may_stand fresh unit) (not (saves (flow_of unit).sites || is_gate unit)) stands_in_it).0

      fresh_here : is_fresh unit_at leaves a ≡ true
      fresh_here = in_fresh a (rw mine refl)

      fresh_there : (v : ℕ) → in_leaf v leaf ≡ true → start_at unit_at leaves v ≡ fresh
      fresh_there v e = start_is v true (in_fresh v (found_again leaves a v leaf mine e))

      behind_it : goes_on unit ≡ true → start_at unit_at leaves (after_unit unit a) ≡ fresh
      behind_it on = fresh_there (after_unit unit a) (subst (λ (o : Option Leaf). is_right_behind unit_at leaves o a unit ≡ true) mine (is.behind on))

    -- outside of all leaves
    module _ (none : leaf_of leaves a ≡ None) where
      stands_out : stands_by None unit ≡ true
      stands_out = subst (λ (o : Option Leaf). stands_by o unit ≡ true) none is.stands

      behind_out : goes_on unit ≡ true → is_right_behind unit_at leaves None a unit ≡ true
      behind_out on = subst (λ (o : Option Leaf). is_right_behind unit_at leaves o a unit ≡ true) none (is.behind on)

      fresh_is : is_fresh unit_at leaves a ≡ saves (flow_of unit).sites || (is_gate unit && is_enter (unit_at (a + 4)))
      fresh_is = rw (none, there) refl

      -- behind a unit that is no gate before what saves a site
      saved_behind : is_gate unit && is_enter (unit_at (a + 4)) ≡ false → goes_on unit ≡ true → start_at unit_at leaves (after_unit unit a) ≡ saved
      saved_behind other on =
          start_is (after_unit unit a) false
          (not-true (is_fresh unit_at leaves (after_unit unit a)) (or_false _ _ other (behind_out on)))

or_left : (b c : Bool) → c ≡ false → b || c ≡ true → b ≡ true
or_left true c none e = refl
or_left false c none e = let wrong : false ≡ true = sym none ∙ e in absurd cc

module _ (unit_at : ℕ → Option U.Unit) (leaves : List Leaf) (a v : ℕ) where
  -- to an address of the kind that is wanted
  abbrev Agrees : Start → U.Unit → Type 0
  Agrees start unit = LeadsTo (flow_of unit).exit (after_unit unit a) v → start_at unit_at leaves v ≡ next_start start unit

  to : (t : ℕ) (start : Start) → v ≡ t → start_at unit_at leaves t ≡ start → start_at unit_at leaves v ≡ start
  to t start e is = ap (start_at unit_at leaves) e ∙ is

  -- from a leaf
  module _ (leaf : Leaf) (mine : leaf_of leaves a ≡ Some leaf) where
    reached_in : (unit : U.Unit) (t : ℕ) (there : unit_at a ≡ Some unit) (is : IsOfItsKind unit_at leaves a unit) → may_be_reached unit_at leaves (leaf_of leaves a) t ≡ true → start_at unit_at leaves t ≡ fresh
    reached_in unit t there is e = fresh_there unit_at leaves a unit there is leaf mine t (subst (λ (o : Option Leaf). may_be_reached unit_at leaves o t ≡ true) mine e)

    agrees_in : (unit : U.Unit) → unit_at a ≡ Some unit → IsOfItsKind unit_at leaves a unit → Agrees fresh unit
    agrees_in (V.Plain instr) there is e = to (after_unit (V.Plain instr) a) fresh e (behind_it unit_at leaves a (V.Plain instr) there is leaf mine refl)
    agrees_in (V.Guarded numbers) there is e = to (after_unit (V.Guarded numbers) a) fresh e (behind_it unit_at leaves a (V.Guarded numbers) there is leaf mine refl)
    agrees_in (V.Stores mask rs1 imm members) there is e = to (after_unit (V.Stores mask rs1 imm members) a) fresh e (behind_it unit_at leaves a (V.Stores mask rs1 imm members) there is leaf mine refl)
    agrees_in (V.System S.Ecall) there is e = to (after_unit (V.System S.Ecall) a) fresh e (behind_it unit_at leaves a (V.System S.Ecall) there is leaf mine refl)
    agrees_in (V.System S.Ebreak) there is e = absurd e
    agrees_in (V.Branch op rs1 rs2 target) there is (inl e) = to (after_unit (V.Branch op rs1 rs2 target) a) fresh e (behind_it unit_at leaves a (V.Branch op rs1 rs2 target) there is leaf mine refl)
    agrees_in (V.Branch op rs1 rs2 target) there is (inr e) = to target fresh e (reached_in (V.Branch op rs1 rs2 target) target there is is.target)
    agrees_in (V.Near op rs1 rs2 target) there is (inl e) = to (after_unit (V.Near op rs1 rs2 target) a) fresh e (behind_it unit_at leaves a (V.Near op rs1 rs2 target) there is leaf mine refl)
    agrees_in (V.Near op rs1 rs2 target) there is (inr e) = to target fresh e (reached_in (V.Near op rs1 rs2 target) target there is is.target)
    agrees_in (V.Jump target) there is e = to target fresh e (reached_in (V.Jump target) target there is is.target)
    agrees_in V.Stop there is e = absurd e
    agrees_in (V.Ijump which rs1 imm label) there is e = absurd e
    agrees_in (V.Icall rs1 imm label) there is e = absurd e
    agrees_in V.Return there is e = absurd e
    agrees_in (V.LeanIjump rs1 imm label) there is e = absurd e
    agrees_in (V.LeanIcall rs1 imm label) there is e = absurd e
    agrees_in V.LeafReturn there is e = absurd e
    agrees_in (V.Gate label) there is e = let stands = stands_in_it unit_at leaves a (V.Gate label) there is leaf mine in absurd cc
    agrees_in (V.Call target) there is e = let stands = stands_in_it unit_at leaves a (V.Call target) there is leaf mine in absurd cc
    agrees_in (V.LinkCall target) there is e = let stands = stands_in_it unit_at leaves a (V.LinkCall target) there is leaf mine in absurd cc
    agrees_in V.Enter there is e = let stands = stands_in_it unit_at leaves a V.Enter there is leaf mine in absurd cc

  -- from outside of all leaves, and no gate before what saves a site
  module _ (none : leaf_of leaves a ≡ None) where
    reached_out : (t : ℕ) → may_be_reached unit_at leaves (leaf_of leaves a) t ≡ true → start_at unit_at leaves t ≡ saved
    reached_out t e =
        start_is unit_at leaves t false (not-true (is_fresh unit_at leaves t) (subst (λ (o : Option Leaf). may_be_reached unit_at leaves o t ≡ true) none e))

    agrees_out : (unit : U.Unit) → unit_at a ≡ Some unit → IsOfItsKind unit_at leaves a unit → saves (flow_of unit).sites ≡ false →
        is_gate unit && is_enter (unit_at (a + 4)) ≡ false → Agrees saved unit
    agrees_out (V.Gate label) there is keeps gate e = to (after_unit (V.Gate label) a) saved e (saved_behind unit_at leaves a (V.Gate label) there is none gate refl)
    agrees_out (V.Plain instr) there is keeps gate e = to (after_unit (V.Plain instr) a) saved e (saved_behind unit_at leaves a (V.Plain instr) there is none gate refl)
    agrees_out (V.Guarded numbers) there is keeps gate e = to (after_unit (V.Guarded numbers) a) saved e (saved_behind unit_at leaves a (V.Guarded numbers) there is none gate refl)
    agrees_out (V.Stores mask rs1 imm members) there is keeps gate e = to (after_unit (V.Stores mask rs1 imm members) a) saved e (saved_behind unit_at leaves a (V.Stores mask rs1 imm members) there is none gate refl)
    agrees_out (V.System S.Ecall) there is keeps gate e = to (after_unit (V.System S.Ecall) a) saved e (saved_behind unit_at leaves a (V.System S.Ecall) there is none gate refl)
    agrees_out (V.System S.Ebreak) there is keeps gate e = absurd e
    agrees_out (V.Branch op rs1 rs2 target) there is keeps gate (inl e) = to (after_unit (V.Branch op rs1 rs2 target) a) saved e (saved_behind unit_at leaves a (V.Branch op rs1 rs2 target) there is none gate refl)
    agrees_out (V.Branch op rs1 rs2 target) there is keeps gate (inr e) = to target saved e (reached_out target is.target)
    agrees_out (V.Near op rs1 rs2 target) there is keeps gate (inl e) = to (after_unit (V.Near op rs1 rs2 target) a) saved e (saved_behind unit_at leaves a (V.Near op rs1 rs2 target) there is none gate refl)
    agrees_out (V.Near op rs1 rs2 target) there is keeps gate (inr e) = to target saved e (reached_out target is.target)
    agrees_out (V.Jump target) there is keeps gate e = to target saved e (reached_out target is.target)
    agrees_out (V.Call target) there is keeps gate e = to target saved e (reached_out target is.target)
    agrees_out (V.LinkCall target) there is keeps gate e = to target fresh e (start_is unit_at leaves target true (called_fresh unit_at leaves target is.target))
    agrees_out V.Stop there is keeps gate e = absurd e
    agrees_out (V.Ijump which rs1 imm label) there is keeps gate e = absurd e
    agrees_out (V.Icall rs1 imm label) there is keeps gate e = absurd e
    agrees_out V.Return there is keeps gate e = absurd e
    agrees_out (V.LeanIjump rs1 imm label) there is keeps gate e = absurd e
    agrees_out (V.LeanIcall rs1 imm label) there is keeps gate e = absurd e
    agrees_out V.LeafReturn there is keeps gate e = absurd e
    agrees_out V.Enter there is keeps gate e = absurd cc

module _ (unit_at : ℕ → Option U.Unit) (leaves : List Leaf) (a : ℕ) where
  -- at a gate before what saves a site, and at what saves one
  gate_start : (unit : U.Unit) → unit_at a ≡ Some unit → leaf_of leaves a ≡ None → is_gate unit && is_enter (unit_at (a + 4)) ≡ true → start_at unit_at leaves a ≡ fresh
  gate_start unit there none gate = start_is unit_at leaves a true (rw (none, there) (or_right (saves (flow_of unit).sites) _ gate))

  enter_start : (unit : U.Unit) → unit_at a ≡ Some unit → saves (flow_of unit).sites ≡ true → start_at unit_at leaves a ≡ fresh
  enter_start unit there enters = start_is unit_at leaves a true (enter_fresh unit_at leaves a (rw there enters))

  other_start : (unit : U.Unit) → unit_at a ≡ Some unit → leaf_of leaves a ≡ None → saves (flow_of unit).sites ≡ false → is_gate unit && is_enter (unit_at (a + 4)) ≡ false →
      start_at unit_at leaves a ≡ saved
  other_start unit there none keeps gate = start_is unit_at leaves a false (rw (none, there, keeps) gate)

pub may_stand_there : MayStandThere
may_stand_there unit_at leaves a unit there is = elim (cases_Option (leaf_of leaves a)) [
  | inl none ↦ elim (cases_Bool (saves (flow_of unit).sites)) [
    | inl enters ↦ ap (λ s. may_stand s unit) (enter_start unit_at leaves a unit there enters) ∙ ap (may_stand fresh) (enter_is unit enters)
    | inr keeps ↦ elim (cases_Bool (is_gate unit && is_enter (unit_at (a + 4)))) [
      | inl gate ↦
          let (label, e) = gate_is unit (and_parts (is_gate unit) (is_enter (unit_at (a + 4))) gate).0 in
          ap (λ s. may_stand s unit) (gate_start unit_at leaves a unit there none gate) ∙ ap (may_stand fresh) e
      | inr other ↦
          ap (λ s. may_stand s unit) (other_start unit_at leaves a unit there none keeps other)
          ∙ or_left (may_stand saved unit) (saves (flow_of unit).sites) keeps (stands_out unit_at leaves a unit there is none)
    ]
  ]
  | inr (leaf, mine) ↦
      ap (λ s. may_stand s unit) (start_is unit_at leaves a true (fresh_here unit_at leaves a unit there is leaf mine)) ∙ may_in_it unit_at leaves a unit there is leaf mine
]

-- what saves a site leads to a saved start, a gate before it to its fresh one
enter_agrees : (unit_at : ℕ → Option U.Unit) (leaves : List Leaf) (a v : ℕ) (unit : U.Unit) → unit_at a ≡ Some unit → IsOfItsKind unit_at leaves a unit →
    leaf_of leaves a ≡ None → unit ≡ V.Enter → Agrees unit_at leaves a v fresh unit
enter_agrees unit_at leaves a v V.Enter there is none e leads = to unit_at leaves a v (after_unit V.Enter a) saved leads (saved_behind unit_at leaves a V.Enter there is none refl refl)
enter_agrees unit_at leaves a v other there is none e leads = absurd cc

gate_agrees : (unit_at : ℕ → Option U.Unit) (leaves : List Leaf) (a v label : ℕ) (unit : U.Unit) → unit ≡ V.Gate label → is_enter (unit_at (a + 4)) ≡ true →
    Agrees unit_at leaves a v fresh unit
gate_agrees unit_at leaves a v label unit e enters =
    subst (λ (u : U.Unit). Agrees unit_at leaves a v fresh u) (sym e)
    (λ leads. to unit_at leaves a v (a + 4) fresh leads (start_is unit_at leaves (a + 4) true (enter_fresh unit_at leaves (a + 4) enters)))

pub kinds_agree : KindsAgree
kinds_agree unit_at leaves a v unit there is leads = elim (cases_Option (leaf_of leaves a)) [
  | inl none ↦ elim (cases_Bool (saves (flow_of unit).sites)) [
    | inl enters ↦
        enter_agrees unit_at leaves a v unit there is none (enter_is unit enters) leads
        ∙ sym (ap (λ s. next_start s unit) (enter_start unit_at leaves a unit there enters))
    | inr keeps ↦ elim (cases_Bool (is_gate unit && is_enter (unit_at (a + 4)))) [
      | inl gate ↦
          let parts = and_parts (is_gate unit) (is_enter (unit_at (a + 4))) gate in
          let (label, e) = gate_is unit parts.0 in
          gate_agrees unit_at leaves a v label unit e parts.1 leads ∙ sym (ap (λ s. next_start s unit) (gate_start unit_at leaves a unit there none gate))
      | inr other ↦
          agrees_out unit_at leaves a v none unit there is keeps other leads
          ∙ sym (ap (λ s. next_start s unit) (other_start unit_at leaves a unit there none keeps other))
    ]
  ]
  | inr (leaf, mine) ↦
      agrees_in unit_at leaves a v leaf mine unit there is leads
      ∙ sym (ap (λ s. next_start s unit) (start_is unit_at leaves a true (fresh_here unit_at leaves a unit there is leaf mine)))
]

-- a call comes back to a saved start
call_back : (unit_at : ℕ → Option U.Unit) (leaves : List Leaf) (a : ℕ) (unit : U.Unit) → unit_at a ≡ Some unit → IsOfItsKind unit_at leaves a unit →
    may_stand fresh unit ≡ false → is_gate unit ≡ false → goes_on unit ≡ true → start_at unit_at leaves (after_unit unit a) ≡ saved
call_back unit_at leaves a unit there is never gate on = elim (cases_Option (leaf_of leaves a)) [
  | inl none ↦ saved_behind unit_at leaves a unit there is none (ap (λ b. b && is_enter (unit_at (a + 4))) gate) on
  | inr (leaf, mine) ↦ let wrong : true ≡ false = sym (may_in_it unit_at leaves a unit there is leaf mine) ∙ never in absurd cc
]

pub sites_are_saved : SitesAreSaved
sites_are_saved unit_at leaves a (V.LinkCall target) there is links = call_back unit_at leaves a (V.LinkCall target) there is refl refl refl
sites_are_saved unit_at leaves a (V.LeanIcall rs1 imm label) there is links = call_back unit_at leaves a (V.LeanIcall rs1 imm label) there is refl refl refl
sites_are_saved unit_at leaves a other there is links = absurd cc
