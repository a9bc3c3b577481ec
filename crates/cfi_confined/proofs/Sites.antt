-- What becomes of the pending sites where a place leads: inside of it, and at a handler, they stay; and what stands at the newest one.
use Rattle.std.proofs.Common.{◌≡◌, ℕ, ◌+◌, ◌*◌, ◌%◌, ◌^◌, ◌<◌, ◌≤◌, ◌⊎◌, inl, inr, Bool, true, false, List, [], ◌∷◌, refl, sym, ap, ◌∙◌, Some, None, arith}
use Rattle.std.proofs.lemmas.Bool.{cases_Bool}
use Rattle.std.proofs.lemmas.Option.{none-some}
use Rattle.cfi_confined.proofs.Prelude.{Contents, loaded, START, IsProfile, Profile, Registers, GraphParts, SiteKind, Place, TargetWord, First, Third, flow_of, HasLabel, Legal, Returns, destination, after_unit, past, GoesBack, PendingLeads, OpeningLeads, PlaceLeads, AreBytes, IsWellFormed, asks, call_of, site_of, code_words, place_at, InClass, by_class}
use Rattle.rv_image.proofs.Profiles.{laid_out}
use Rattle.cfi_graph.specs.declared.line.SiteKind.TheVariants as K
use Rattle.cfi_unit.specs.declared.place.Place.TheVariants.{Handler as handler, Opening as opening, Closing as closing, Body as body}
use Rattle.cfi_unit.specs.declared.unit.SystemOp.TheVariants as S
use Rattle.cfi_unit.specs.declared.unit.Unit as U
use Rattle.cfi_unit.specs.declared.unit.Unit.TheVariants as V
use Rattle.cfi_rules.proofs.Bytes.{length-code_words}
use Rattle.cfi_rules.proofs.Find.{UnitHere}
use Rattle.cfi_rules.proofs.Labels.{label_in_class}
use Rattle.cfi_rules.proofs.Leading.{class_parts}
use Rattle.cfi_rules.proofs.Moves.{SitesStand}
use Rattle.cfi_rules.proofs.Places.{at_closing, at_start, nothing_inside, place_facts, unit_facts}
use Rattle.cfi_rules.proofs.RuleFacts.{call_starts, gate_borne, site_class, target_bears, the_leaves, unit_reads}
use Rattle.cfi_rules.proofs.Served.{read_by}
use Rattle.cfi_confined.proofs.Words.{Keeps, Kept, keeps_by}

-- a unit that keeps the pending sites leads with them wherever it leads
unit_keeps : (legal : Legal) (unit : U.Unit) (following : ℕ) (pending : List ℕ) (r : Registers) (newer : List ℕ) (v : ℕ) →
    keeps_by (flow_of unit).sites (flow_of unit).exit ≡ true → PendingLeads legal unit following pending r newer v → newer ≡ pending
unit_keeps legal (V.Gate label) following pending r newer v keeps l = l.0
unit_keeps legal (V.Plain instr) following pending r newer v keeps l = l.0
unit_keeps legal (V.Branch op rs1 rs2 target) following pending r newer v keeps (inl l) = l.0
unit_keeps legal (V.Branch op rs1 rs2 target) following pending r newer v keeps (inr l) = l.0
unit_keeps legal (V.Near op rs1 rs2 target) following pending r newer v keeps (inl l) = l.0
unit_keeps legal (V.Near op rs1 rs2 target) following pending r newer v keeps (inr l) = l.0
unit_keeps legal (V.Jump target) following pending r newer v keeps l = l.0
unit_keeps legal V.Stop following pending r newer v keeps l = l.0
unit_keeps legal (V.System S.Ecall) following pending r newer v keeps l = l.0
unit_keeps legal (V.System S.Ebreak) following pending r newer v keeps l = absurd l
unit_keeps legal (V.Guarded numbers) following pending r newer v keeps (inl l) = l.1.0
unit_keeps legal (V.Guarded numbers) following pending r newer v keeps (inr l) = l.1.0
unit_keeps legal (V.Stores mask rs1 imm members) following pending r newer v keeps l = l.0
unit_keeps legal (V.Ijump which rs1 imm label) following pending r newer v keeps (inl l) = l.1.0
unit_keeps legal (V.Ijump which rs1 imm label) following pending r newer v keeps (inr l) = l.1.0
unit_keeps legal (V.LeanIjump rs1 imm label) following pending r newer v keeps (inl l) = l.1.0
unit_keeps legal (V.LeanIjump rs1 imm label) following pending r newer v keeps (inr l) = l.1.0
unit_keeps legal V.Enter following pending r newer v keeps (inl l) = l.1.0
unit_keeps legal V.Enter following pending r newer v keeps (inr l) = l.1.0
unit_keeps legal other following pending r newer v keeps l = absurd (cc)

module _ (p : Profile) (profile : IsProfile p) (image : Contents) (graph : GraphParts) (bytes : AreBytes image) (formed : IsWellFormed p image graph) where
  abbrev W : List ℕ
  W = code_words image.code

  abbrev Sites : List ℕ → Type 0
  Sites pending = SitesStand p profile image graph bytes formed pending

  -- the newest site is an instruction's address past the handlers, at which something starts
  pub record SiteStands (site : ℕ) : Type 0 where
    pub even : site % 2 ≡ 0
    pub small : site < 2 ^ 64
    pub high : START ≤ site
    pub place : Place
    pub is : place_at p W site ≡ Some place

  pub site_stands : (site : ℕ) (older : List ℕ) → Sites (site ∷ older) → SiteStands site
  site_stands site [] last =
      let layout = laid_out p profile in
      record {
        even = omega arith;
        small = omega arith;
        high = omega arith;
        place = closing;
        is = ap (place_at p W) last ∙ at_closing p profile image graph bytes formed;
      }
  site_stands site (other ∷ more) sites =
      let layout = laid_out p profile in
      let (unit, here, is) = at_start p profile image graph bytes formed site sites.0 in
      let low = here.low in let round = here.round in let high = here.high in
      let whole = length-code_words image.code bytes.size.words in let most = bytes.size.most in
      record { even = omega arith; small = omega arith; high = omega arith; place = body unit; is = is }

  -- the gate of a target of a class is a unit
  pub class_gate : (kind : SiteKind) (which : TargetWord) (label v : ℕ) → which ≡ read_by graph.version kind → InClass graph.lines kind which label v →
      UnitHere p W (v + past which) (V.Gate label)
  class_gate kind which label v reads inside =
      let (ts, class, among) = class_parts graph.lines kind which label v inside in
      let borne = target_bears p image graph formed kind which v label ts reads class among in
      unit_facts p profile image graph bytes formed (v + past which) (V.Gate label) (gate_borne p W (the_leaves p image graph formed) v label which borne)

  -- where the label of a check is borne is a target of its class
  pub labelled : (kind : SiteKind) (which : TargetWord) (label v a : ℕ) (place : Place) → which ≡ read_by graph.version kind → label < 2 ^ 20 →
      place_at p W a ≡ Some place → site_of place ≡ Some (asks kind which label) → HasLabel (loaded image) which label v → InClass graph.lines kind which label v
  labelled kind which label v a place reads low here site has =
      let c = site_class p image graph formed a place (asks kind which label) here site in
      label_in_class p profile image graph bytes formed kind which label v c.0 reads low c.1 has

  -- what is called is a unit
  call_high : (a : ℕ) (place : Place) (target : ℕ) → place_at p W a ≡ Some place → call_of place ≡ Some target → p.units_from ≤ target
  call_high a place target is call =
      let (unit, here, there) = at_start p profile image graph bytes formed target (call_starts p image graph formed a place target is call) in here.low

  module _ (at : ℕ) (pending : List ℕ) (r : Registers) (newer : List ℕ) (v : ℕ) where
    -- a step went to an address inside of the place, or to where the place leads and something starts
    abbrev pub Went : Place → Type 0
    Went place =
        ((place_at p W v ≡ None) × (newer ≡ pending))
        ⊎ ((there : Place) × (place_at p W v ≡ Some there) × PlaceLeads p (by_class graph.lines) place at pending r newer v)

    -- a place that keeps the pending sites leads with them wherever it leads
    pub keeping : (place : Place) → Keeps place → Went place → newer ≡ pending
    keeping place keeps (inl went) = went.1
    keeping handler keeps (inr went) = absurd went.2
    keeping (opening entry) keeps (inr went) = absurd keeps
    keeping closing keeps (inr went) = absurd went.2
    keeping (body unit) keeps (inr went) = unit_keeps (by_class graph.lines) unit (after_unit unit at) pending r newer v keeps went.2

    -- inside of a place the sites stay
    pub inner : (place : Place) → place_at p W at ≡ Some place → (k : ℕ) → 0 < k → v ≡ at + 4 * k → Kept p place k → Went place → newer ≡ pending
    inner place is k some e kept (inl went) = went.1
    inner place is k some e (inl inside) (inr (there, starts, leads)) =
        let facts = place_facts p profile image graph bytes formed at place is in
        absurd (none-some there (sym (nothing_inside p profile image graph bytes formed place at v facts (omega arith) (omega arith)) ∙ starts))
    inner place is k some e (inr keeps) (inr went) = keeping place keeps (inr went)

    -- where something starts the step came to what the place leads to
    pub leads_to : (place there : Place) → place_at p W v ≡ Some there → Went place → PlaceLeads p (by_class graph.lines) place at pending r newer v
    leads_to place there some (inl went) = absurd (none-some there (sym went.0 ∙ some))
    leads_to place there some (inr went) = went.2

    returned_low : v < START → (sites : List ℕ) → Sites sites → sites ≡ pending → Returns r sites newer v → newer ≡ pending
    returned_low low [] stand same l = absurd stand
    returned_low low (site ∷ older) stand same (inl l) = let high = (site_stands site older stand).high in let e = l.1.1 in absurd (omega arith)
    returned_low low (site ∷ older) stand same (inr l) = l.1.0 ∙ same

    back_low : v < START → (sites : List ℕ) → Sites sites → sites ≡ pending → GoesBack sites newer v → newer ≡ pending
    back_low low [] stand same l = absurd stand
    back_low low (site ∷ older) stand same l = let high = (site_stands site older stand).high in let e = l.1 in absurd (omega arith)

    -- what calls and returns lead to past the handlers is a unit, or a site
    moves_low : v < START → Sites pending → (unit : U.Unit) → place_at p W at ≡ Some (body unit) → keeps_by (flow_of unit).sites (flow_of unit).exit ≡ false →
        PendingLeads (by_class graph.lines) unit (after_unit unit at) pending r newer v → newer ≡ pending
    moves_low low sites (V.Call target) is moves (inl l) =
        let layout = laid_out p profile in
        let high = call_high at (body (V.Call target)) target is refl in let e = l.2 in absurd (omega arith)
    moves_low low sites (V.Call target) is moves (inr l) = l.1
    moves_low low sites (V.LinkCall target) is moves l =
        let layout = laid_out p profile in
        let high = call_high at (body (V.LinkCall target)) target is refl in let e = l.2 in absurd (omega arith)
    moves_low low sites (V.Icall rs1 imm label) is moves (inl (legal, inl l)) =
        let layout = laid_out p profile in
        let here = place_facts p profile image graph bytes formed at (body (V.Icall rs1 imm label)) is in
        let high = (class_gate K.Call First label (destination r rs1 imm) (unit_reads p image graph formed at (V.Icall rs1 imm label) here.is) legal).low in
        let e = l.2 in absurd (omega arith)
    moves_low low sites (V.Icall rs1 imm label) is moves (inl (legal, inr l)) = l.1
    moves_low low sites (V.Icall rs1 imm label) is moves (inr l) = l.1.0
    moves_low low sites (V.LeanIcall rs1 imm label) is moves (inl (legal, l)) =
        let layout = laid_out p profile in
        let here = place_facts p profile image graph bytes formed at (body (V.LeanIcall rs1 imm label)) is in
        let high = (class_gate K.Call Third label (destination r rs1 imm) (unit_reads p image graph formed at (V.LeanIcall rs1 imm label) here.is) legal).low in
        let e = l.2 in absurd (omega arith)
    moves_low low sites (V.LeanIcall rs1 imm label) is moves (inr l) = l.1.0
    moves_low low sites V.Return is moves l = returned_low low pending sites refl l
    moves_low low sites V.LeafReturn is moves l = back_low low pending sites refl l
    moves_low low sites other is moves l = absurd (cc)

    -- the pending sites of a unit stand
    abbrev pub SitesOf : Place → Type 0
    SitesOf (body unit) = Sites pending
    SitesOf other = Unit {0}

    opening_low : v < START → (callee_saves : Bool) (site entry : ℕ) → START ≤ entry → OpeningLeads callee_saves site entry pending newer v → newer ≡ pending
    opening_low low false site entry high (inl l) = let e = l.2 in absurd (omega arith)
    opening_low low false site entry high (inr l) = l.1
    opening_low low true site entry high l = let e = l.2 in absurd (omega arith)

    -- at a handler the sites are those of before
    pub low_sites : v < START → (place : Place) → place_at p W at ≡ Some place → SitesOf place → Went place → newer ≡ pending
    low_sites low place is sites (inl went) = went.1
    low_sites low handler is sites (inr went) = absurd went.2
    low_sites low closing is sites (inr went) = absurd went.2
    low_sites low (opening entry) is sites (inr went) =
        let layout = laid_out p profile in
        let high = call_high at (opening entry) entry is refl in opening_low low p.callee_saves p.closing entry (omega arith) went.2
    low_sites low (body unit) is sites (inr went) = elim (cases_Bool (keeps_by (flow_of unit).sites (flow_of unit).exit)) [
      | inl keeps ↦ unit_keeps (by_class graph.lines) unit (after_unit unit at) pending r newer v keeps went.2
      | inr moves ↦ moves_low low sites unit is moves went.2
    ]
