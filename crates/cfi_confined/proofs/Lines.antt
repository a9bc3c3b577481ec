-- Lines that the rules give: each transfer of a well-formed image has its line, and no site line stands
-- shortly before a unit.
use Rattle.std.proofs.Common.{◌≡◌, ℕ, suc, ◌+◌, ◌*◌, ◌<◌, ◌≤◌, ◌⊎◌, inl, inr, Bool, true, false, List, [], ◌∷◌, refl, sym, ap, subst, ◌∙◌, Option, Some, None, arith}
use Rattle.std.specs.Prelude.{◌==◌, ◌&&◌, not, is_some, option_and_then}
use Rattle.std.specs.List.{Contains}
use Rattle.std.proofs.lemmas.Bool.{and_parts, cases_eq, eqb-true, ne_eqb, or_parts, false≢true, not-false}
use Rattle.std.proofs.lemmas.Option.{none-some, same_Some, slice_get-get_or}
use Rattle.cfi_confined.proofs.Prelude.{Contents, IsProfile, Profile, GraphLine, Class, Site, Edge, Call, Address, SiteKind, Sort, ClassLine, GraphParts, IsGraph, class_in, Place, TargetWord, word_count, stands_in, AreBytes, class_with, holds_of, is_among, line_at, or_class, serves, stands_at, targets_for, IsWellFormed, call_of, edge_of, is_call_to, is_edge_to, is_lone_site, is_site_with, same_kind, site_of, code_words, place_at, InClass, Asks, IsSiteTo, NoSite, class_line, past_target}
use Rattle.rv_word.proofs.Cases.{cases_Option, chosen}
use Rattle.rv_image.proofs.Profiles.{laid_out}
use Rattle.cfi_graph.specs.declared.line.Sort.TheVariants as sorts
use Rattle.cfi_graph.specs.declared.line.SiteKind.TheVariants as K
use Rattle.cfi_unit.specs.declared.place.Place.TheVariants.{Body as body}
use Rattle.cfi_unit.specs.declared.unit.Unit as U
use Rattle.cfi_unit.specs.declared.unit.Unit.TheVariants as V
use Rattle.cfi_rules.specs.declared.reject.Rule.TheVariants as R
use Rattle.cfi_rules.proofs.Find.{UnitHere, no_unit}
use Rattle.cfi_rules.proofs.LineOrder.{line_at-with, with_key}
use Rattle.cfi_rules.proofs.Leading.{class_parts}
use Rattle.cfi_rules.proofs.Places.{place_facts}
use Rattle.cfi_rules.proofs.RuleFacts.{unit_stands_in}
use Rattle.cfi_rules.proofs.Served.{served}

abbrev ListedAs : List GraphLine → ℕ → GraphLine → Type 0
ListedAs lines a line = Contains lines line × (stands_at a line ≡ true)

pub later : {A : Type 0} (x y : A) (xs : List A) → Contains xs x → Contains (y ∷ xs) x
later x y xs (k, below, is) = (suc k, omega arith, is)

-- what is found by its address, or by its label, is one of the lines
line_found : (lines : List GraphLine) (a : ℕ) (line : GraphLine) → line_at lines a ≡ Some line → ListedAs lines a line
unfolding line_at
line_found [] a line e = absurd (none-some line e)
line_found (x ∷ xs) a line e =
    elim (chosen (stands_at a x) (Some x) (line_at xs a) (Some line) e) [
      | inl found ↦ subst (λ (y : GraphLine). ListedAs (x ∷ xs) a y) (same_Some x line found.1) ((0, omega arith, refl), found.0)
      | inr more ↦ let there = line_found xs a line more.1 in (later line x xs there.0, there.1)
    ]

abbrev line_of : ClassLine → GraphLine
line_of class = Class class.sort class.label class.targets

line_is : (line : GraphLine) (class : ClassLine) → class_in line ≡ Some class → line_of class ≡ line
line_is (Class sort label targets) class e = ap line_of (sym (same_Some _ class e))
line_is other class e = absurd (none-some class e)

class_found : (lines : List GraphLine) (l : ℕ) (class : ClassLine) → class_with lines l ≡ Some class → Contains lines (line_of class) × (class.label ≡ l)
unfolding class_with
class_found [] l class e = absurd (none-some class e)
class_found (x ∷ xs) l class e =
    elim (cases_Option (class_in x)) [
      | inl none ↦ let there = class_found xs l class (sym (ap (λ o. or_class l o (class_with xs l)) none) ∙ e) in (later (line_of class) x xs there.0, there.1)
      | inr (c, some) ↦ elim (chosen (c.label == l) (Some c) (class_with xs l) (Some class) (sym (ap (λ o. or_class l o (class_with xs l)) some) ∙ e)) [
        | inl found ↦
            let same = same_Some c class found.1 in (
              subst (λ (y : GraphLine). Contains (x ∷ xs) y) (sym (line_is x class (some ∙ ap Some same))) (0, omega arith, refl),
              ap (λ (y : ClassLine). y.label) (sym same) ∙ eqb-true c.label l found.0,
            )
        | inr more ↦ let there = class_found xs l class more.1 in (later (line_of class) x xs there.0, there.1)
      ]
    ]

among_is : (v : ℕ) (ts : List ℕ) → is_among v ts ≡ true → Contains ts v
among_is v [] e = absurd (false≢true e)
among_is v (t ∷ ts) e =
    elim (cases_eq t v) [
      | inl same ↦ subst (λ (x : ℕ). Contains (t ∷ ts) x) same (0, omega arith, refl)
      | inr other ↦ later v t ts (among_is v ts (rw (ne_eqb t v other) at e))
    ]

-- what stands at an address and meets a test that nothing meets where no line stands
listed_by : (lines : List GraphLine) (a : ℕ) (test : Option GraphLine → Bool) → test None ≡ false → test (line_at lines a) ≡ true →
    (line : GraphLine) × Contains lines line × (stands_at a line ≡ true) × (test (Some line) ≡ true)
listed_by lines a test none meets =
    elim (cases_Option (line_at lines a)) [
      | inl nothing ↦ absurd (false≢true (sym none ∙ sym (ap test nothing) ∙ meets))
      | inr (line, some) ↦ let there = line_found lines a line some in (line, there.0, there.1, sym (ap test some) ∙ meets)
    ]

-- it is an edge, a call or a site of just this address
edge_is : (a : ℕ) (line : GraphLine) (t : ℕ) → stands_at a line ≡ true → is_edge_to (Some line) t ≡ true → line ≡ Edge a t
edge_is a (Edge from to) t at e = ap (λ x. Edge x to) (eqb-true from a at) ∙ ap (Edge a) (eqb-true to t e)
edge_is a other t at e = absurd (cc)

call_is : (a : ℕ) (line : GraphLine) (t : ℕ) → stands_at a line ≡ true → is_call_to (Some line) t ≡ true → line ≡ Call a t
call_is a (Call from to) t at e = ap (λ x. Call x to) (eqb-true from a at) ∙ ap (Call a) (eqb-true to t e)
call_is a other t at e = absurd (cc)

kinds_same : (k l : SiteKind) → same_kind k l ≡ true → k ≡ l
kinds_same K.Call K.Call e = refl
kinds_same K.Jump K.Jump e = refl
kinds_same K.Call K.Jump e = absurd (cc)
kinds_same K.Jump K.Call e = absurd (cc)

site_is : (a : ℕ) (line : GraphLine) (asked : Asks) → stands_at a line ≡ true → is_site_with (Some line) asked ≡ true → line ≡ Site a asked.kind asked.label
site_is a (Site address kind label) asked at e =
    let parts = and_parts (same_kind kind asked.kind) (label == asked.label) e in
    ap (λ x. Site x kind label) (eqb-true address a at) ∙ ap (λ k. Site a k label) (kinds_same kind asked.kind parts.0)
    ∙ ap (Site a asked.kind) (eqb-true label asked.label parts.1)
site_is a other asked at e = absurd (cc)

-- the line of a class that serves a transfer
serving_line : (lines : List GraphLine) (sort : Sort) (kind : SiteKind) (which : TargetWord) (label : ℕ) (ts : List ℕ) → serves sort kind which ≡ true →
    Contains lines (Class sort label ts) → Contains lines (Class sorts.Both label ts) ⊎ Contains lines (class_line kind label ts)
serving_line lines sorts.Both kind which label ts e there = inl there
serving_line lines sorts.Calls K.Call which label ts e there = inr there
serving_line lines sorts.Calls K.Jump which label ts e there = absurd (cc)
serving_line lines sorts.Jumps K.Jump which label ts e there = inr there
serving_line lines sorts.Jumps K.Call which label ts e there = absurd (cc)

-- how many words the unit of a computed transfer has at least, by who saves sites
abbrev pub site_words : Bool → ℕ
site_words false = 13
site_words true = 15

long_site : (callee_saves : Bool) (unit : U.Unit) → stands_in callee_saves unit ≡ true → is_some (site_of (body unit)) ≡ true → site_words callee_saves ≤ word_count unit
long_site false (V.Ijump which rs1 imm label) stands e = omega arith
long_site false (V.Icall rs1 imm label) stands e = omega arith
long_site true (V.LeanIjump rs1 imm label) stands e = omega arith
long_site true (V.LeanIcall rs1 imm label) stands e = omega arith
long_site true (V.Ijump which rs1 imm label) stands e = absurd (cc)
long_site true (V.Icall rs1 imm label) stands e = absurd (cc)
long_site false (V.LeanIjump rs1 imm label) stands e = absurd (cc)
long_site false (V.LeanIcall rs1 imm label) stands e = absurd (cc)
long_site callee_saves other stands e = absurd (cc)

unit_site : (place : Place) → is_some (site_of place) ≡ true → (unit : U.Unit) × (place ≡ body unit)
unit_site (body unit) e = (unit, refl)
unit_site other e = absurd (cc)

module _ (p : Profile) (profile : IsProfile p) (image : Contents) (graph : GraphParts) (bytes : AreBytes image) (formed : IsWellFormed p image graph) where
  abbrev W : List ℕ
  W = code_words image.code

  -- what the rules say of an address
  transfers_listed : (a : ℕ) →
      (holds_of (option_and_then edge_of (place_at p W a)) (λ target. not (is_edge_to (line_at graph.lines a) target)) ≡ false)
      × (holds_of (option_and_then call_of (place_at p W a)) (λ target. not (is_call_to (line_at graph.lines a) target)) ≡ false)
  transfers_listed a = or_parts _ _ (formed.rules R.Unlisted a)

  sites_listed : (a : ℕ) →
      (holds_of (option_and_then site_of (place_at p W a))
      (λ (s : Asks). not (is_site_with (line_at graph.lines a) s && is_some (targets_for graph.lines s.kind s.which s.label))) ≡ false)
      × (holds_of (line_at graph.lines a) (is_lone_site (place_at p W a)) ≡ false)
  sites_listed a = or_parts _ _ (formed.rules R.Site a)

  module _ (a : ℕ) (place : Place) (here : place_at p W a ≡ Some place) where
    pub edge_listed : (t : ℕ) → edge_of place ≡ Some t → Contains graph.lines (Edge a t)
    edge_listed t edge =
        let rule = (transfers_listed a).0 in
        let (line, there, at, is) = listed_by graph.lines a (λ o. is_edge_to o t) refl (not-false (is_edge_to (line_at graph.lines a) t) (rw (here, edge) at rule)) in
        subst (Contains graph.lines) (edge_is a line t at is) there

    pub call_listed : (t : ℕ) → call_of place ≡ Some t → Contains graph.lines (Call a t)
    call_listed t call =
        let rule = (transfers_listed a).1 in
        let (line, there, at, is) = listed_by graph.lines a (λ o. is_call_to o t) refl (not-false (is_call_to (line_at graph.lines a) t) (rw (here, call) at rule)) in
        subst (Contains graph.lines) (call_is a line t at is) there

    -- a computed transfer to where a target of its class leads
    pub site_to : (asked : Asks) (v to : ℕ) → site_of place ≡ Some asked → InClass graph.lines asked.kind asked.which asked.label v →
        to ≡ v + past_target graph.version asked.kind → IsSiteTo graph.version graph.lines asked.kind a to
    site_to asked v to site inside behind =
        let rule = (sites_listed a).0 in
        let both = not-false (is_site_with (line_at graph.lines a) asked && is_some (targets_for graph.lines asked.kind asked.which asked.label)) (rw (here, site) at rule) in
        let (line_a, there_a, at, is) = listed_by graph.lines a (λ o. is_site_with o asked) refl (and_parts _ _ both).0 in
        let (ts, class, among) = class_parts graph.lines asked.kind asked.which asked.label v inside in
        let s = served graph.lines asked.kind asked.which asked.label ts class in
        let there = class_found graph.lines asked.label s.class s.is in
        let line : Contains graph.lines (Class s.class.sort asked.label ts) =
        subst (λ (l : ℕ). Contains graph.lines (Class s.class.sort l ts)) there.1
        (subst (λ (xs : List ℕ). Contains graph.lines (Class s.class.sort s.class.label xs)) s.targets there.0) in
        record {
          label = asked.label;
          targets = ts;
          gate = v;
          listed = subst (Contains graph.lines) (site_is a line_a asked at is) there_a;
          class = serving_line graph.lines s.class.sort asked.kind asked.which asked.label ts s.serving line;
          target = among_is v ts among;
          behind = behind;
        }

  -- no site line stands fewer words before a unit than the unit of a computed transfer has
  pub no_site : IsGraph graph → (a b : ℕ) (u : U.Unit) → UnitHere p W b u → a < b → b < a + 4 * site_words p.callee_saves → NoSite graph.lines a
  no_site ordered a b u here low high kind label (k, within, is) =
      let there = line_at-with graph.lines a
      ∙ with_key graph.lines (Address a) ordered.order k (Site a kind label) (slice_get-get_or graph.lines k (Site a kind label) within ∙ ap Some is) refl in
      let rule = (sites_listed a).1 in
      let site : is_some (option_and_then site_of (place_at p W a)) ≡ true =
      not-false _ (sym (ap (λ o. holds_of o (is_lone_site (place_at p W a))) there) ∙ rule) in
      elim (cases_Option (place_at p W a)) [
        | inl none ↦ false≢true (sym (ap (λ o. is_some (option_and_then site_of o)) none) ∙ site)
        | inr (place, some) ↦
            let there : is_some (site_of place) ≡ true = sym (ap (λ o. is_some (option_and_then site_of o)) some) ∙ site in
            let (unit, is_unit) = unit_site place there in
            let facts = place_facts p profile image graph bytes formed a (body unit) (some ∙ ap Some is_unit) in
            let long = long_site p.callee_saves unit (unit_stands_in p image graph formed a unit facts.is) (sym (ap (λ q. is_some (site_of q)) is_unit) ∙ there) in
            none-some u (sym (no_unit p (laid_out p profile) W b (facts.inner b low (omega arith))) ∙ here.is)
      ]
