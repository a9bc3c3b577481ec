-- The kinds of the starts of a well-formed image's units: where callers save sites each is saved, else they go by the leaves and by what
-- stands there.
use Rattle.std.proofs.Common.{◌≡◌, ℕ, ◌+◌, ◌||◌, inl, inr, Bool, true, false, List, refl, sym, ap, ◌∙◌, Option, Some, None, arith}
use Rattle.std.specs.Prelude.{◌==◌, is_some, option_map, if◌then◌else◌}
use Rattle.std.proofs.lemmas.Bool.{and_from, cases_Bool, cases_lt}
use Rattle.rv_word.proofs.Booleans.{or_right}
use Rattle.rv_image.specs.declared.version.GraphVersion.{GraphVersion}
use Rattle.rv_image.specs.declared.version.GraphVersion.TheVariants.{OneLabel, TwoLabels, CalleeSaves}
use Rattle.rv_image.specs.Image.{Contents}
use Rattle.rv_image.specs.MemoryMap.{IsProfile, Profile}
use Rattle.rv_image.proofs.Profiles.{laid_out}
use Rattle.cfi_graph.specs.declared.line.SiteKind.{SiteKind}
use Rattle.cfi_graph.specs.declared.line.SiteKind.TheVariants as K
use Rattle.cfi_graph.specs.Graph.{GraphParts, has_leaves}
use Rattle.cfi_unit.specs.declared.unit.Unit as U
use Rattle.cfi_unit.specs.declared.unit.Unit.TheVariants as V
use Rattle.cfi_unit.specs.declared.place.Place.TheVariants.{Handler as handler, Opening as opening, Closing as closing, Body as body}
use Rattle.cfi_unit.specs.declared.target_word.TargetWord.{TargetWord}
use Rattle.cfi_unit.specs.declared.target_word.TargetWord.TheVariants.{First, Second, Third}
use Rattle.cfi_unit.specs.Flow as F
use Rattle.cfi_unit.specs.Flow.{Sites, flow_of}
use Rattle.cfi_unit.specs.Prologue.{OPENING}
use Rattle.cfi_unit.specs.Templates.{is_full, is_lean}
use Rattle.cfi_unit.specs.UnitWords.{after_unit}
use Rattle.cfi_pending.specs.Kinds as kinds
use Rattle.cfi_pending.specs.Kinds.{IsOfItsKind, is_enter, is_fresh, is_gate_there, is_right_target, leaf_of, may_be_called, may_be_reached, start_at, start_if}
use Rattle.cfi_pending.specs.KindLaws.{LeadsTo}
use Rattle.cfi_pending.specs.StartLaw.{stands_in}
use Rattle.cfi_pending.specs.Starts.{Start, fresh, may_stand, next_start, saved}
use Rattle.cfi_pending.proofs.KindSteps.{called_fresh, kinds_agree, may_stand_there, sites_are_saved}
use Rattle.cfi_rules.specs.Along.{start_in, start_under, unit_of}
use Rattle.cfi_rules.specs.Laws.{AreBytes}
use Rattle.cfi_rules.specs.Lines.{leaves_in}
use Rattle.cfi_rules.specs.Rules.{IsWellFormed, call_by, edge_by, is_borne, signs_in}
use Rattle.cfi_rules.specs.Split.{code_words, entry_of, is_handler, place_at, place_by, unit_at}
use Rattle.cfi_rules.proofs.Find.{no_start_below, no_unit}
use Rattle.cfi_rules.proofs.Places.{at_unit, unit_facts}
use Rattle.cfi_rules.proofs.RuleFacts.{call_reaches, edge_reaches, enter_borne, gate_borne, landing, saved_borne, unit_behind, unit_by_leaf, unit_stands_in}
use Rattle.cfi_rules.proofs.Served.{read_by}

-- where callers save sites, each unit stands at a saved start and leads to one
full_stands : (u : U.Unit) → is_full u ≡ true → may_stand saved u ≡ true
full_stands V.Enter full = absurd (cc)
full_stands V.LeafReturn full = absurd (cc)
full_stands other full = refl

full_next : (u : U.Unit) → is_full u ≡ true → next_start saved u ≡ saved
full_next (V.LinkCall target) full = absurd (cc)
full_next (V.LeanIcall rs1 imm label) full = absurd (cc)
full_next other full = refl

-- what leaves the address after it as a site
abbrev pub leaves_site : Sites → Bool
leaves_site F.pushes = true
leaves_site F.links = true
leaves_site other = false

lean_links : (u : U.Unit) → is_lean u ≡ true → leaves_site (flow_of u).sites ≡ true → (flow_of u).sites ≡ F.links
lean_links (V.LinkCall target) lean site = refl
lean_links (V.LeanIcall rs1 imm label) lean site = refl
lean_links (V.Call target) lean site = absurd (cc)
lean_links (V.Icall rs1 imm label) lean site = absurd (cc)
lean_links other lean site = absurd (cc)

right_target : (unit_at : ℕ → Option U.Unit) (leaves : List kinds.Leaf) (a : ℕ) (u : U.Unit) → is_lean u ≡ true →
    ((t : ℕ) → edge_by (flow_of u).sites (flow_of u).exit ≡ Some t → may_be_reached unit_at leaves (leaf_of leaves a) t ≡ true) →
    ((t : ℕ) → call_by (flow_of u).sites (flow_of u).exit ≡ Some t → may_be_called unit_at leaves t ≡ true) →
    is_right_target unit_at leaves a (flow_of u).sites (flow_of u).exit ≡ true
right_target unit_at leaves a (V.Branch op rs1 rs2 target) lean edge call = edge target refl
right_target unit_at leaves a (V.Near op rs1 rs2 target) lean edge call = edge target refl
right_target unit_at leaves a (V.Jump target) lean edge call = edge target refl
right_target unit_at leaves a (V.LinkCall target) lean edge call = call target refl
right_target unit_at leaves a (V.Call target) lean edge call = absurd (cc)
right_target unit_at leaves a other lean edge call = refl

-- a third word is read where callees save sites alone, a second one where callers do
third_saves : (version : GraphVersion) (kind : SiteKind) → Third ≡ read_by version kind → has_leaves version ≡ true
third_saves CalleeSaves kind read = refl
third_saves OneLabel K.Call read = absurd (cc)
third_saves OneLabel K.Jump read = absurd (cc)
third_saves TwoLabels K.Call read = absurd (cc)
third_saves TwoLabels K.Jump read = absurd (cc)

second_keeps : (version : GraphVersion) (kind : SiteKind) → Second ≡ read_by version kind → has_leaves version ≡ false
second_keeps OneLabel kind read = refl
second_keeps TwoLabels kind read = refl
second_keeps CalleeSaves K.Call read = absurd (cc)
second_keeps CalleeSaves K.Jump read = absurd (cc)

-- the start to which a transfer leads whose check reads this word
abbrev pub landing_kind : TargetWord → Start
landing_kind First = saved
landing_kind Second = saved
landing_kind Third = fresh

unit_of_body : (o : Option U.Unit) → unit_of (option_map body o) ≡ o
unit_of_body None = refl
unit_of_body (Some u) = refl

no_unit_of : (h o c : Bool) (e : Option ℕ) →
    unit_of (if h then Some handler else (if o then option_map opening e else (if c then Some closing else option_map body None))) ≡ None
no_unit_of true o c e = refl
no_unit_of false true c None = refl
no_unit_of false true c (Some entry) = refl
no_unit_of false false true e = refl
no_unit_of false false false e = refl

module _ (p : Profile) (profile : IsProfile p) (image : Contents) (graph : GraphParts) (bytes : AreBytes image) (formed : IsWellFormed p image graph) where
  abbrev W : List ℕ
  W = code_words image.code

  abbrev leaves : List kinds.Leaf
  leaves = leaves_in graph.lines

  abbrev kind : ℕ → Start
  kind a = start_at (unit_at p W) leaves a

  abbrev pub start_there : ℕ → Start
  start_there a = start_under p.callee_saves (kind a)

  pub full_there : p.callee_saves ≡ false → (a : ℕ) → start_there a ≡ saved
  full_there full a = ap (λ b. start_under b (kind a)) full

  lean_there : p.callee_saves ≡ true → (a : ℕ) → start_there a ≡ kind a
  lean_there lean a = ap (λ b. start_under b (kind a)) lean

  pub stands_full : (a : ℕ) (u : U.Unit) → p.callee_saves ≡ false → unit_at p W a ≡ Some u → is_full u ≡ true
  stands_full a u full is = sym (ap (λ b. stands_in b u) full) ∙ unit_stands_in p image graph formed a u is

  stands_lean : (a : ℕ) (u : U.Unit) → p.callee_saves ≡ true → unit_at p W a ≡ Some u → is_lean u ≡ true
  stands_lean a u lean is = sym (ap (λ b. stands_in b u) lean) ∙ unit_stands_in p image graph formed a u is

  body_at : (a : ℕ) (u : U.Unit) → unit_at p W a ≡ Some u → place_at p W a ≡ Some (body u)
  body_at a u is =
      let here = unit_facts p profile image graph bytes formed a u is in
      at_unit p profile image graph bytes formed a here.low ∙ ap (option_map body) is

  -- where callees save sites, each unit meets what its kind asks
  of_its_kind : p.callee_saves ≡ true → (a : ℕ) (u : U.Unit) → unit_at p W a ≡ Some u → IsOfItsKind (unit_at p W) leaves a u
  of_its_kind lean a u is = record {
    stands = unit_by_leaf p image graph formed a u is;
    behind = unit_behind p image graph formed a u is;
    target = right_target (unit_at p W) leaves a u (stands_lean a u lean is)
        (λ t. edge_reaches p image graph formed a (body u) t (body_at a u is))
        (λ t. call_reaches p image graph formed lean a (body u) t (body_at a u is));
  }

  -- each unit may stand at its start, and leads to starts of the kind that it is to lead to
  pub stands_there : (a : ℕ) (u : U.Unit) → unit_at p W a ≡ Some u → may_stand (start_there a) u ≡ true
  stands_there a u is = elim (cases_Bool p.callee_saves) [
    | inl lean ↦ ap (λ s. may_stand s u) (lean_there lean a) ∙ may_stand_there (unit_at p W) leaves a u is (of_its_kind lean a u is)
    | inr full ↦ ap (λ s. may_stand s u) (full_there full a) ∙ full_stands u (stands_full a u full is)
  ]

  pub agrees_there : (a v : ℕ) (u : U.Unit) → unit_at p W a ≡ Some u → LeadsTo (flow_of u).exit (after_unit u a) v → start_there v ≡ next_start (start_there a) u
  agrees_there a v u is leads = elim (cases_Bool p.callee_saves) [
    | inl lean ↦
        lean_there lean v ∙ kinds_agree (unit_at p W) leaves a v u is (of_its_kind lean a u is) leads ∙ sym (ap (λ s. next_start s u) (lean_there lean a))
    | inr full ↦ full_there full v ∙ sym (full_next u (stands_full a u full is)) ∙ sym (ap (λ s. next_start s u) (full_there full a))
  ]

  -- what a call comes back to is saved
  pub comes_back : (a : ℕ) (u : U.Unit) → unit_at p W a ≡ Some u → leaves_site (flow_of u).sites ≡ true → start_there (after_unit u a) ≡ saved
  comes_back a u is site = elim (cases_Bool p.callee_saves) [
    | inl lean ↦
        lean_there lean (after_unit u a)
        ∙ sites_are_saved (unit_at p W) leaves a u is (of_its_kind lean a u is) (lean_links u (stands_lean a u lean is) site)
    | inr full ↦ full_there full (after_unit u a)
  ]

  -- the entry is fresh where it saves its site
  pub entry_fresh : p.callee_saves ≡ true → (a entry : ℕ) → place_at p W a ≡ Some (opening entry) → start_there entry ≡ fresh
  entry_fresh lean a entry here =
      lean_there lean entry ∙ ap start_if (called_fresh (unit_at p W) leaves entry (call_reaches p image graph formed lean a (opening entry) entry here refl))

  -- and so is a gate directly before what saves one
  gate_fresh : (v l : ℕ) → unit_at p W (v + 8) ≡ Some (V.Gate l) → is_enter (unit_at p W (v + 12)) ≡ true → is_fresh (unit_at p W) leaves (v + 8) ≡ true
  gate_fresh v l gate enters =
      let next : v + 8 + 4 ≡ v + 12 = omega arith in
      or_right (is_some (leaf_of leaves (v + 8))) _ (or_right (is_enter (unit_at p W (v + 8))) _
      (and_from (is_gate_there (unit_at p W (v + 8))) (is_enter (unit_at p W (v + 8 + 4))) (ap is_gate_there gate) (ap (λ a. is_enter (unit_at p W a)) next ∙ enters)))

  -- a target of a class is of the kind to which a transfer leads
  pub lands : (kind_of : SiteKind) (which : TargetWord) (v l : ℕ) → which ≡ read_by graph.version kind_of → is_borne (signs_in p W leaves) which v l ≡ true →
      start_there (landing which v) ≡ landing_kind which
  lands kind_of First v l read borne = elim (cases_Bool p.callee_saves) [
    | inl lean ↦ lean_there lean v ∙ ap start_if (saved_borne p W leaves v l borne)
    | inr full ↦ full_there full v
  ]
  lands kind_of Second v l read borne = full_there (formed.saves ∙ second_keeps graph.version kind_of read) v
  lands kind_of Third v l read borne =
      lean_there (formed.saves ∙ third_saves graph.version kind_of read) (v + 8)
      ∙ ap start_if (gate_fresh v l (gate_borne p W leaves v l Third borne) (enter_borne p W leaves v l borne))

  -- the start of a place is that of the unit there
  same_unit : (a : ℕ) → unit_of (place_at p W a) ≡ unit_at p W a
  unfolding place_at
  same_unit a = elim (cases_lt a p.units_from) [
    | inl below ↦
        let none = no_unit p (laid_out p profile) W a (no_start_below p (laid_out p profile) W a below) in
        ap (λ o. unit_of (place_by p W o a)) none ∙ no_unit_of (is_handler a) (a == OPENING) (a == p.closing) (entry_of p W) ∙ sym none
    | inr from ↦ ap unit_of (at_unit p profile image graph bytes formed a from) ∙ unit_of_body (unit_at p W a)
  ]

  same_units : (λ (a : ℕ). unit_of (place_at p W a)) ≡ unit_at p W
  same_units = λ i a. same_unit a i

  pub start_is : (a : ℕ) → start_under p.callee_saves (start_in (place_at p W) graph.lines a) ≡ start_there a
  start_is a = ap (λ (units : ℕ → Option U.Unit). start_under p.callee_saves (start_at units leaves a)) same_units
