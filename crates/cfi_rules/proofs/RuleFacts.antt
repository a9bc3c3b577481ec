-- What each rule of a well-formed pair says, in the form that the walk needs.
use Rattle.std.proofs.Common.{◌≡◌, ℕ, ◌+◌, ◌*◌, inl, inr, Bool, true, false, List, [], ◌∷◌, length, refl, sym, ap, subst, ◌∙◌, Option, Some, None, arith}
use Rattle.std.specs.Prelude.{nat_le, ◌==◌, ◌&&◌, not, option_and_then, is_some}
use Rattle.std.specs.List.{list_any}
use Rattle.std.proofs.lemmas.Bool.{cases_eq, eqb-true, eq-eqb, and_parts, or_parts, not-true, not-false}
use Rattle.rv_image.specs.declared.version.GraphVersion.{GraphVersion}
use Rattle.rv_image.specs.declared.version.GraphVersion.TheVariants.{OneLabel, TwoLabels, CalleeSaves}
use Rattle.rv_image.specs.Image.{Contents}
use Rattle.rv_image.specs.MemoryMap.{CODE_START, Profile}
use Rattle.std.proofs.lemmas.Option.{none-some, same_Some}
use Rattle.rv_word.proofs.Cases.{cases_Option, chosen}
use Rattle.cfi_graph.specs.declared.line.GraphLine.{GraphLine}
use Rattle.cfi_graph.specs.declared.line.SiteKind.{SiteKind}
use Rattle.cfi_graph.specs.Graph.{calls_in, ClassLine, GraphParts, class_in, has_leaves}
use Rattle.cfi_unit.specs.declared.unit.Unit as U
use Rattle.cfi_unit.specs.declared.unit.Unit.TheVariants as V
use Rattle.cfi_unit.specs.declared.place.Place.{Place}
use Rattle.cfi_unit.specs.declared.target_word.TargetWord.{TargetWord}
use Rattle.cfi_unit.specs.declared.target_word.TargetWord.TheVariants.{First, Second, Third}
use Rattle.cfi_unit.specs.Flow.{flow_of}
use Rattle.cfi_unit.specs.UnitWords.{past, word_count}
use Rattle.cfi_pending.specs.Kinds as kinds
use Rattle.cfi_pending.specs.Kinds.{goes_on, is_enter, is_fresh, is_right_behind, leaf_of, may_be_called, may_be_reached, stands_by}
use Rattle.cfi_pending.specs.StartLaw.{stands_in}
use Rattle.cfi_rules.specs.Lines.{holds_of, jump_word, leaves_in, line_at, class_with, or_class, targets_for, is_among, is_beside, is_word_of, read_of}
use Rattle.cfi_rules.specs.Split.{code_words, is_start, unit_at, place_at}
use Rattle.cfi_rules.specs.Rules.{Signs, admitted_in, asked_by, goes_wrong, is_of_version, lacks_end, may_call, may_call_to, may_go, may_stand_at, same_word, signs_in, test_is_of_version, IsWellFormed, edge_of, call_of, site_of, gate_of, is_label, is_astray, is_borne, is_stop, is_bad_end, lacks_gate, is_lone_site, is_site_with}
use Rattle.cfi_rules.specs.declared.asks.Asks.{Asks}
use Rattle.cfi_rules.specs.declared.reject.Rule.TheVariants as R
use Rattle.cfi_rules.proofs.Find.{UnitHere}
use Rattle.cfi_rules.proofs.Served.{read_by, reads_it, served}

pub gate_is : (unit : Option U.Unit) (label : ℕ) → is_label (option_and_then gate_of unit) label ≡ true → unit ≡ Some (V.Gate label)
gate_is (Some (V.Gate l)) label e = ap (λ n. Some (V.Gate n)) (eqb-true l label e)
gate_is other label e = absurd (cc)

some_is : {A : Type 0} (o : Option A) → is_some o ≡ true → (x : A) × (o ≡ Some x)
some_is None e = absurd (cc)
some_is (Some x) e = (x, refl)

-- a class whose targets all have their gates
borne_of_class : (version : GraphVersion) (lines : List GraphLine) (signs : Signs) (v l : ℕ) (class : ClassLine) → class_with lines l ≡ Some class →
    list_any (lacks_gate version signs v) lines ≡ false → is_among v class.targets ≡ true → is_borne signs (read_of version class.sort) v l ≡ true
unfolding class_with
borne_of_class version [] signs v l class e rule among = absurd (none-some class e)
borne_of_class version (line ∷ lines) signs v l class e rule among =
    let parts = or_parts (lacks_gate version signs v line) (list_any (lacks_gate version signs v) lines) rule in
    elim (cases_Option (class_in line)) [
      | inl none ↦ borne_of_class version lines signs v l class (sym (ap (λ o. or_class l o (class_with lines l)) none) ∙ e) parts.1 among
      | inr (here, some) ↦
          let stands : is_among v here.targets && not (is_borne signs (read_of version here.sort) v here.label) ≡ false =
          sym (ap (λ o. holds_of o (λ (c : ClassLine). is_among v c.targets && not (is_borne signs (read_of version c.sort) v c.label))) some) ∙ parts.0 in
          elim (chosen (here.label == l) (Some here) (class_with lines l) (Some class) (sym (ap (λ o. or_class l o (class_with lines l)) some) ∙ e)) [
            | inl found ↦
                let same : here ≡ class = same_Some here class found.1 in
                let there : is_among v here.targets ≡ true = ap (λ (c : ClassLine). is_among v c.targets) same ∙ among in
                let borne : is_borne signs (read_of version here.sort) v here.label ≡ true =
                not-false (is_borne signs (read_of version here.sort) v here.label)
                (sym (ap (λ b. b && not (is_borne signs (read_of version here.sort) v here.label)) there) ∙ stands) in
                let of_class : is_borne signs (read_of version class.sort) v class.label ≡ true =
                subst (λ (c : ClassLine). is_borne signs (read_of version c.sort) v c.label ≡ true) same borne in
                let label : class.label ≡ l = ap (λ (c : ClassLine). c.label) (sym same) ∙ eqb-true here.label l found.0 in
                subst (λ (n : ℕ). is_borne signs (read_of version class.sort) v n ≡ true) label of_class
            | inr later ↦ borne_of_class version lines signs v l class later.1 parts.1 among
          ]
    ]

-- where a transfer leads whose check reads this word: past the gate that a third one is
abbrev pub landing : TargetWord → ℕ → ℕ
landing First v = v
landing Second v = v
landing Third v = v + 8

module _ (p : Profile) (words : List ℕ) (leaves : List kinds.Leaf) (v l : ℕ) where
  abbrev signs : Signs
  signs = signs_in p words leaves

  -- where a label is borne, the word that bears it is the label's gate, and a unit starts where the transfer leads
  pub gate_borne : (which : TargetWord) → is_borne signs which v l ≡ true → unit_at p words (v + past which) ≡ Some (V.Gate l)
  gate_borne First borne =
      ap (unit_at p words) (let same : v + 0 ≡ v = omega arith in same)
      ∙ gate_is (unit_at p words v) l (and_parts (is_label (signs.gate v) l) (not (signs.fresh v)) borne).0
  gate_borne Second borne = gate_is (unit_at p words (v + 4)) l (and_parts (signs.starts v) (is_label (signs.gate (v + 4)) l) borne).1
  gate_borne Third borne = gate_is (unit_at p words (v + 8)) l (and_parts (is_label (signs.gate (v + 8)) l) (signs.enters (v + 12)) borne).0

  pub unit_borne : (which : TargetWord) → is_borne signs which v l ≡ true → (u : U.Unit) × (unit_at p words (landing which v) ≡ Some u)
  unit_borne First borne = (V.Gate l, gate_is (unit_at p words v) l (and_parts (is_label (signs.gate v) l) (not (signs.fresh v)) borne).0)
  unit_borne Second borne = some_is (unit_at p words v) (and_parts (signs.starts v) (is_label (signs.gate (v + 4)) l) borne).0
  unit_borne Third borne = (V.Gate l, gate_borne Third borne)

  -- a first word is one of a saved start, a third one stands directly before what saves a site
  pub saved_borne : is_borne signs First v l ≡ true → is_fresh (unit_at p words) leaves v ≡ false
  saved_borne borne = not-true (signs.fresh v) (and_parts (is_label (signs.gate v) l) (not (signs.fresh v)) borne).1

  pub enter_borne : is_borne signs Third v l ≡ true → is_enter (unit_at p words (v + 12)) ≡ true
  enter_borne borne = (and_parts (is_label (signs.gate (v + 8)) l) (signs.enters (v + 12)) borne).1

-- the check of a computed transfer reads the word that it reads in code whose graph has this version
abbrev pub Reads : GraphVersion → Option Asks → Type 0
Reads version None = Unit {0}
Reads version (Some asked) = asked.which ≡ read_by version asked.kind

same_word_is : (which other : TargetWord) → same_word which other ≡ true → which ≡ other
same_word_is First First e = refl
same_word_is First Second e = absurd (cc)
same_word_is First Third e = absurd (cc)
same_word_is Second First e = absurd (cc)
same_word_is Second Second e = refl
same_word_is Second Third e = absurd (cc)
same_word_is Third First e = absurd (cc)
same_word_is Third Second e = absurd (cc)
same_word_is Third Third e = refl

reads_by : (version : GraphVersion) (u : U.Unit) → stands_in (has_leaves version) u ≡ true → test_is_of_version version (flow_of u).test (flow_of u).sites ≡ true →
    Reads version (asked_by (flow_of u).test (flow_of u).sites)
reads_by version (V.Ijump which rs1 imm label) stands test = same_word_is which (jump_word version) test
reads_by version (V.LeanIjump rs1 imm label) stands test = same_word_is First (jump_word version) test
reads_by OneLabel (V.Icall rs1 imm label) stands test = refl
reads_by TwoLabels (V.Icall rs1 imm label) stands test = refl
reads_by CalleeSaves (V.Icall rs1 imm label) stands test = absurd (cc)
reads_by OneLabel (V.LeanIcall rs1 imm label) stands test = absurd (cc)
reads_by TwoLabels (V.LeanIcall rs1 imm label) stands test = absurd (cc)
reads_by CalleeSaves (V.LeanIcall rs1 imm label) stands test = refl
reads_by version (V.Gate label) stands test = tt
reads_by version (V.Plain instr) stands test = tt
reads_by version (V.Branch op rs1 rs2 target) stands test = tt
reads_by version (V.Near op rs1 rs2 target) stands test = tt
reads_by version (V.Jump target) stands test = tt
reads_by version V.Stop stands test = tt
reads_by version (V.System op) stands test = tt
reads_by version (V.Guarded numbers) stands test = tt
reads_by version (V.Stores mask rs1 imm members) stands test = tt
reads_by version (V.Call target) stands test = tt
reads_by version V.Return stands test = tt
reads_by version (V.LinkCall target) stands test = tt
reads_by version V.Enter stands test = tt
reads_by version V.LeafReturn stands test = tt

-- what a call's target meets is a start in each case
called_start : (saves : Bool) (p : Profile) (words : List ℕ) (leaves : List kinds.Leaf) (a t : ℕ) → may_call_to saves p words leaves a t ≡ true →
    is_start p words t ≡ true
called_start true p words leaves a t e = (and_parts (is_start p words t) (may_be_called (unit_at p words) leaves t) e).0
called_start false p words leaves a t e = (and_parts (is_start p words t) (may_be_reached (unit_at p words) leaves (leaf_of leaves a) t) e).0

module _ (p : Profile) (image : Contents) (graph : GraphParts) (formed : IsWellFormed p image graph) where
  abbrev the_words : List ℕ
  the_words = code_words image.code

  abbrev pub the_leaves : List kinds.Leaf
  the_leaves = leaves_in graph.lines

  -- each unit is admitted, and may stand in its leaf, or outside of all
  unit_may : (a : ℕ) (u : U.Unit) → unit_at p the_words a ≡ Some u → may_stand_at graph a u ≡ true
  unit_may a u is =
      let rule = (or_parts _ (holds_of (unit_at p the_words a) (λ (v : U.Unit). not (may_stand_at graph a v))) (formed.rules R.Unit a)).1 in
      let here : not (may_stand_at graph a u) ≡ false = sym (ap (λ o. holds_of o (λ (v : U.Unit). not (may_stand_at graph a v))) is) ∙ rule in
      not-false (may_stand_at graph a u) here

  pub unit_admitted : (a : ℕ) (u : U.Unit) → unit_at p the_words a ≡ Some u → admitted_in graph u ≡ true
  unit_admitted a u is = (and_parts (admitted_in graph u) (stands_by (leaf_of the_leaves a) u) (unit_may a u is)).0

  pub unit_by_leaf : (a : ℕ) (u : U.Unit) → unit_at p the_words a ≡ Some u → stands_by (leaf_of the_leaves a) u ≡ true
  unit_by_leaf a u is = (and_parts (admitted_in graph u) (stands_by (leaf_of the_leaves a) u) (unit_may a u is)).1

  unit_of_version : (a : ℕ) (u : U.Unit) → unit_at p the_words a ≡ Some u → is_of_version graph.version u ≡ true
  unit_of_version a u is = (and_parts (is_of_version graph.version u) (may_call (calls_in graph.lines) u) (unit_admitted a u is)).0

  unit_under : (a : ℕ) (u : U.Unit) → unit_at p the_words a ≡ Some u → stands_in (has_leaves graph.version) u ≡ true
  unit_under a u is =
      (and_parts (stands_in (has_leaves graph.version) u) (test_is_of_version graph.version (flow_of u).test (flow_of u).sites) (unit_of_version a u is)).0

  -- each unit is one of code in which sites are saved as in the profile's
  pub unit_stands_in : (a : ℕ) (u : U.Unit) → unit_at p the_words a ≡ Some u → stands_in p.callee_saves u ≡ true
  unit_stands_in a u is = ap (λ b. stands_in b u) formed.saves ∙ unit_under a u is

  -- a check of a computed transfer reads the word that it is to read
  pub unit_reads : (a : ℕ) (u : U.Unit) → unit_at p the_words a ≡ Some u → Reads graph.version (asked_by (flow_of u).test (flow_of u).sites)
  unit_reads a u is =
      reads_by graph.version u (unit_under a u is)
      (and_parts (stands_in (has_leaves graph.version) u) (test_is_of_version graph.version (flow_of u).test (flow_of u).sites) (unit_of_version a u is)).1

  -- what stands behind a unit that goes on is of its kind
  pub unit_behind : (a : ℕ) (u : U.Unit) → unit_at p the_words a ≡ Some u → goes_on u ≡ true →
      is_right_behind (unit_at p the_words) the_leaves (leaf_of the_leaves a) a u ≡ true
  unit_behind a u is on =
      let rule = (or_parts (list_any (lacks_end p the_words a) graph.lines) (holds_of (unit_at p the_words a) (goes_wrong p the_words the_leaves a)) (formed.rules R.Leaf a)).1 in
      let here : goes_on u && not (is_right_behind (unit_at p the_words) the_leaves (leaf_of the_leaves a) a u) ≡ false =
      sym (ap (λ o. holds_of o (goes_wrong p the_words the_leaves a)) is) ∙ rule in
      not-false (is_right_behind (unit_at p the_words) the_leaves (leaf_of the_leaves a) a u)
      (sym (ap (λ b. b && not (is_right_behind (unit_at p the_words) the_leaves (leaf_of the_leaves a) a u)) on) ∙ here)

  -- where a direct transfer leads
  edge_goes : (a : ℕ) (place : Place) (t : ℕ) → place_at p the_words a ≡ Some place → edge_of place ≡ Some t → may_go p the_words the_leaves a t ≡ true
  edge_goes a place t here edge =
      let rule = (or_parts (holds_of (option_and_then edge_of (place_at p the_words a)) (λ x. not (may_go p the_words the_leaves a x)))
      (holds_of (option_and_then call_of (place_at p the_words a)) (λ x. not (may_call_to p.callee_saves p the_words the_leaves a x))) (formed.rules R.Target a)).0 in
      not-false (may_go p the_words the_leaves a t) (rw (here, edge) at rule)

  call_goes : (a : ℕ) (place : Place) (t : ℕ) → place_at p the_words a ≡ Some place → call_of place ≡ Some t →
      may_call_to p.callee_saves p the_words the_leaves a t ≡ true
  call_goes a place t here edge =
      let rule = (or_parts (holds_of (option_and_then edge_of (place_at p the_words a)) (λ x. not (may_go p the_words the_leaves a x)))
      (holds_of (option_and_then call_of (place_at p the_words a)) (λ x. not (may_call_to p.callee_saves p the_words the_leaves a x))) (formed.rules R.Target a)).1 in
      not-false (may_call_to p.callee_saves p the_words the_leaves a t) (rw (here, edge) at rule)

  pub edge_starts : (a : ℕ) (place : Place) (t : ℕ) → place_at p the_words a ≡ Some place → edge_of place ≡ Some t → is_start p the_words t ≡ true
  edge_starts a place t here edge =
      (and_parts (is_start p the_words t) (may_be_reached (unit_at p the_words) the_leaves (leaf_of the_leaves a) t) (edge_goes a place t here edge)).0

  pub edge_reaches : (a : ℕ) (place : Place) (t : ℕ) → place_at p the_words a ≡ Some place → edge_of place ≡ Some t →
      may_be_reached (unit_at p the_words) the_leaves (leaf_of the_leaves a) t ≡ true
  edge_reaches a place t here edge =
      (and_parts (is_start p the_words t) (may_be_reached (unit_at p the_words) the_leaves (leaf_of the_leaves a) t) (edge_goes a place t here edge)).1

  pub call_starts : (a : ℕ) (place : Place) (t : ℕ) → place_at p the_words a ≡ Some place → call_of place ≡ Some t → is_start p the_words t ≡ true
  call_starts a place t here call = called_start p.callee_saves p the_words the_leaves a t (call_goes a place t here call)

  pub call_reaches : p.callee_saves ≡ true → (a : ℕ) (place : Place) (t : ℕ) → place_at p the_words a ≡ Some place → call_of place ≡ Some t →
      may_be_called (unit_at p the_words) the_leaves t ≡ true
  call_reaches saves a place t here call =
      (and_parts (is_start p the_words t) (may_be_called (unit_at p the_words) the_leaves t)
      (sym (ap (λ b. may_call_to b p the_words the_leaves a t) saves) ∙ call_goes a place t here call)).1

  -- the unit that is no stop has a unit after it
  pub next_starts : (a : ℕ) (u : U.Unit) → UnitHere p the_words a u → is_stop u ≡ false → is_start p the_words (a + 4 * word_count u) ≡ true
  next_starts a u here going =
      let rule = (or_parts (holds_of (unit_at p the_words a) (is_bad_end the_words a))
      ((a == p.units_from) && nat_le (CODE_START + 4 * length the_words) p.units_from) (formed.rules R.End a)).0 in
      let bad : (a + 4 * word_count u == CODE_START + 4 * length the_words) && not (is_stop u) ≡ false = rw here.is at rule in
      let high = here.high in
      elim (cases_eq (a + 4 * word_count u) (CODE_START + 4 * length the_words)) [
        | inl last ↦ let stop : is_stop u ≡ true = not-false (is_stop u) (rw (eq-eqb _ _ last) at bad) in absurd (cc)
        | inr more ↦ here.next (omega arith)
      ]

  -- a target bears the label at the word that the check of a transfer that the class serves reads
  pub target_bears : (kind : SiteKind) (which : TargetWord) (v l : ℕ) (ts : List ℕ) → which ≡ read_by graph.version kind →
      targets_for graph.lines kind which l ≡ Some ts → is_among v ts ≡ true → is_borne (signs_in p the_words the_leaves) which v l ≡ true
  target_bears kind which v l ts read class among =
      let s = served graph.lines kind which l ts class in
      let borne = borne_of_class graph.version graph.lines (signs_in p the_words the_leaves) v l s.class s.is (formed.rules R.Gate v) (ap (is_among v) s.targets ∙ among) in
      subst (λ (word : TargetWord). is_borne (signs_in p the_words the_leaves) word v l ≡ true) (reads_it graph.version s.class.sort kind which read s.serving) borne

  -- a gate with a class's label is at the word of a target
  pub gate_listed : (kind : SiteKind) (which : TargetWord) (v l : ℕ) (ts : List ℕ) → which ≡ read_by graph.version kind → unit_at p the_words v ≡ Some (V.Gate l) →
      targets_for graph.lines kind which l ≡ Some ts → is_word_of which v ts ≡ true
  gate_listed kind which v l ts read here class =
      let s = served graph.lines kind which l ts class in
      let word_is = reads_it graph.version s.class.sort kind which read s.serving in
      let rule : not (is_word_of (read_of graph.version s.class.sort) v s.class.targets) ≡ false =
      sym (ap (λ o. holds_of o (λ (c : ClassLine). is_beside graph.version c v)) s.is) ∙ sym (ap (λ o. holds_of o (is_astray graph v)) here) ∙ formed.rules R.Astray v in
      let word : is_word_of (read_of graph.version s.class.sort) v s.class.targets ≡ true = not-false (is_word_of (read_of graph.version s.class.sort) v s.class.targets) rule in
      let there : is_word_of which v s.class.targets ≡ true = subst (λ (w : TargetWord). is_word_of w v s.class.targets ≡ true) word_is word in
      subst (λ (xs : List ℕ). is_word_of which v xs ≡ true) s.targets there

  -- a class serves each computed transfer
  pub site_class : (a : ℕ) (place : Place) (asked : Asks) → place_at p the_words a ≡ Some place → site_of place ≡ Some asked →
      (ts : List ℕ) × (targets_for graph.lines asked.kind asked.which asked.label ≡ Some ts)
  site_class a place asked here site =
      let rule = (or_parts (holds_of (option_and_then site_of (place_at p the_words a))
      (λ (s : Asks). not (is_site_with (line_at graph.lines a) s && is_some (targets_for graph.lines s.kind s.which s.label))))
      (holds_of (line_at graph.lines a) (is_lone_site (place_at p the_words a))) (formed.rules R.Site a)).0 in
      let both = not-false (is_site_with (line_at graph.lines a) asked && is_some (targets_for graph.lines asked.kind asked.which asked.label)) (rw (here, site) at rule) in
      some_is (targets_for graph.lines asked.kind asked.which asked.label)
      (and_parts (is_site_with (line_at graph.lines a) asked) (is_some (targets_for graph.lines asked.kind asked.which asked.label)) both).1
