-- Where a place leads by its words, it leads the walk too: to a place that stands, with the pending sites that
-- such a place asks for.
use Rattle.std.proofs.Common.{◌≡◌, ℕ, suc, ◌+◌, ◌*◌, ◌%◌, ◌^◌, ◌≤◌, ◌<◌, inl, inr, true, false, List, [], ◌∷◌, length, refl, sym, ap, subst, ◌∙◌, Some, arith}
use Rattle.std.specs.Prelude.{option_map}
use Rattle.std.proofs.lemmas.Bool.{eqb-true}
use Rattle.rv_image.specs.declared.version.GraphVersion.{GraphVersion}
use Rattle.rv_image.specs.declared.version.GraphVersion.TheVariants.{OneLabel, TwoLabels, CalleeSaves}
use Rattle.rv_image.specs.Image.{Contents, loaded}
use Rattle.rv_image.specs.MemoryMap.{IsFullProfile, IsLeanProfile, IsProfile, Profile}
use Rattle.rv_image.proofs.Profiles.{full_saves, laid_out, lean_saves}
use Rattle.rv_word.specs.Memory.{read}
use Rattle.rv_instr.specs.Registers.{Registers}
use Rattle.rv_code.specs.Encode.{code_of}
use Rattle.rv_code.proofs.Inverse.{code_of-decoded}
use Rattle.cfi_graph.specs.Graph.{GraphParts}
use Rattle.cfi_graph.specs.declared.line.SiteKind.{SiteKind}
use Rattle.cfi_graph.specs.declared.line.SiteKind.TheVariants as K
use Rattle.cfi_unit.specs.declared.unit.Unit as U
use Rattle.cfi_unit.specs.declared.unit.Unit.TheVariants as V
use Rattle.cfi_unit.specs.declared.unit.SystemOp.TheVariants as S
use Rattle.cfi_unit.specs.Flow as F
use Rattle.cfi_unit.specs.Flow.{Exit, Flow, flow_of}
use Rattle.cfi_unit.specs.Leads.{Calls, Decides, Goes, HasLabel, Legal, Returns, by_label, destination}
use Rattle.cfi_unit.specs.declared.place.Place.{Place}
use Rattle.cfi_unit.specs.declared.place.Place.TheVariants.{Handler as handler, Opening as opening, Closing as closing, Body as body}
use Rattle.cfi_unit.specs.declared.target_word.TargetWord.{TargetWord}
use Rattle.cfi_unit.specs.declared.target_word.TargetWord.TheVariants.{First, Second, Third}
use Rattle.cfi_unit.specs.Shadow.{MOST_PENDING}
use Rattle.cfi_unit.specs.UnitWords.{BAD_TARGET, BAD_RETURN, DEEP, after_unit, gate, past}
use Rattle.cfi_unit.proofs.Flows.{Suits, TestFits, is_untested, entered, linked_back, linking_call, linking_computed_call, suits, test_fits, untested, direct_call, guarded_call, computed_jump, computed_call, turned_back}
use Rattle.cfi_unit.proofs.Labels.{word_small}
use Rattle.cfi_pending.specs.KindLaws.{LeadsTo}
use Rattle.cfi_pending.specs.PendingLeads.{GoesBack, PendingLeads, SiteLeads}
use Rattle.cfi_pending.specs.Starts.{Start, fresh, may_stand_by, next_by, next_start, saved}
use Rattle.cfi_rules.specs.Along.{OpeningLeads, PlaceLeads, Walk}
use Rattle.cfi_rules.specs.Rules.{IsWellFormed, asked_by, asks, call_by, edge_by, halts_by, site_of, target_by}
use Rattle.cfi_rules.specs.Lines.{jump_word}
use Rattle.cfi_rules.specs.Split.{code_words, is_start, place_at}
use Rattle.cfi_rules.specs.Walk.{InClass, by_class}
use Rattle.cfi_rules.specs.Laws.{AreBytes}
use Rattle.cfi_rules.specs.declared.asks.Asks.{Asks}
use Rattle.cfi_rules.proofs.Bytes.{loaded_small}
use Rattle.cfi_rules.proofs.Find.{UnitHere, unit_here}
use Rattle.cfi_rules.proofs.Labels.{label_in_class}
use Rattle.cfi_rules.proofs.Leading.{class_parts}
use Rattle.cfi_rules.proofs.Places.{is_whole, unit_facts, at_unit, at_closing, at_bad_target, at_bad_return, at_deep}
use Rattle.cfi_rules.proofs.RuleFacts.{Reads, edge_starts, call_starts, landing, next_starts, target_bears, unit_borne, gate_borne, site_class, the_leaves, unit_reads}
use Rattle.cfi_rules.proofs.Served.{read_by}
use Rattle.cfi_rules.proofs.Standing.{unit_stands}
use Rattle.cfi_rules.proofs.StartKinds.{agrees_there, full_there, comes_back, entry_fresh, landing_kind, lands, leaves_site, stands_there, start_there}

-- how many sites may be pending at a start of each kind: at a fresh one the newest stands in x1
abbrev pub most_at : Start → ℕ
most_at saved = MOST_PENDING
most_at fresh = MOST_PENDING + 1

most_low : (start : Start) → MOST_PENDING ≤ most_at start
most_low saved = omega arith
most_low fresh = omega arith

is_saved : (start : Start) (f : Flow) → may_stand_by fresh f ≡ false → may_stand_by start f ≡ true → start ≡ saved
is_saved saved f never may = refl
is_saved fresh f never may = absurd (cc)

is_fresh : (start : Start) (f : Flow) → may_stand_by saved f ≡ false → may_stand_by start f ≡ true → start ≡ fresh
is_fresh saved f never may = absurd (cc)
is_fresh fresh f never may = refl

-- a computed jump leads to the target itself, a saved start
jump_lands : (version : GraphVersion) (which : TargetWord) (v : ℕ) → which ≡ jump_word version → (landing which v ≡ v) × (landing_kind which ≡ saved)
jump_lands version First v reads = (refl, refl)
jump_lands version Second v reads = (refl, refl)
jump_lands OneLabel Third v reads = absurd (cc)
jump_lands TwoLabels Third v reads = absurd (cc)
jump_lands CalleeSaves Third v reads = absurd (cc)

past_small : (which : TargetWord) → (past which ≤ 8) × (past which % 4 ≡ 0)
past_small First = (omega arith, refl)
past_small Second = (omega arith, refl)
past_small Third = (omega arith, refl)

module _ (p : Profile) (profile : IsProfile p) (image : Contents) (graph : GraphParts) (bytes : AreBytes image) (formed : IsWellFormed p image graph) where
  abbrev pub W : List ℕ
  W = code_words image.code

  -- the kind of the start at an address
  abbrev pub At : ℕ → Start
  At a = start_there p profile image graph bytes formed a

  -- the oldest pending site is the closing, the others are units' starts, each saved
  abbrev pub SitesStand : List ℕ → Type 0
  SitesStand [] = ⊥
  SitesStand (site ∷ []) = site ≡ p.closing
  SitesStand (site ∷ other ∷ more) = (is_start p W site ≡ true) × (At site ≡ saved) × SitesStand (other ∷ more)

  pub record InBody (start : Start) (pending : List ℕ) : Type 0 where
    pub sites : SitesStand pending
    pub most : length pending ≤ most_at start

  -- which start a place at an address may be, and the pending sites that it may have there: nothing leads to the opening
  abbrev pub Stage : Place → Start → ℕ → List ℕ → Type 0
  Stage handler start a pending = Unit {0}
  Stage (opening entry) start a pending = ⊥
  Stage closing start a pending = (start ≡ saved) × (pending ≡ [])
  Stage (body unit) start a pending = (At a ≡ start) × InBody start pending

  -- something stands at an address, and may be such a start, with these sites pending
  pub record Settled (start : Start) (v : ℕ) (pending : List ℕ) : Type 0 where
    pub place : Place
    pub is : place_at p W v ≡ Some place
    pub stage : Stage place start v pending

  settled_unit : (start : Start) (v : ℕ) (u : U.Unit) (pending : List ℕ) → UnitHere p W v u → At v ≡ start → InBody start pending → Settled start v pending
  settled_unit start v u pending here kind inside = record {
    place = body u;
    is = at_unit p profile image graph bytes formed v here.low ∙ ap (option_map body) here.is;
    stage = (kind, inside);
  }

  pub record Arrived (place : Place) (w : Walk) (start : Start) (v : ℕ) (newer : List ℕ) : Type 0 where
    pub leads : PlaceLeads p (by_class graph.lines) place w.at w.pending w.regs newer v
    pub settled : Settled start v newer

  to_start : (start : Start) (t v : ℕ) (newer : List ℕ) → is_start p W t ≡ true → v ≡ t → At v ≡ start → InBody start newer → Settled start v newer
  to_start start t v newer is e kind inside =
      let here = unit_here p (laid_out p profile) W (is_whole p profile image graph bytes formed) t is in
      settled_unit start v here.0 newer (subst (λ (x : ℕ). UnitHere p W x here.0) (sym e) here.1) kind inside

  to_handler : (start : Start) (a v : ℕ) (newer : List ℕ) → place_at p W a ≡ Some handler → v ≡ a → Settled start v newer
  to_handler start a v newer is e = record { place = handler; is = ap (place_at p W) e ∙ is; stage = tt }

  to_bad_target : (start : Start) (v : ℕ) (newer : List ℕ) → v ≡ BAD_TARGET → Settled start v newer
  to_bad_target start v newer e = to_handler start BAD_TARGET v newer (at_bad_target p profile image graph bytes formed) e

  to_bad_return : (start : Start) (v : ℕ) (newer : List ℕ) → v ≡ BAD_RETURN → Settled start v newer
  to_bad_return start v newer e = to_handler start BAD_RETURN v newer (at_bad_return p profile image graph bytes formed) e

  to_deep : (start : Start) (v : ℕ) (newer : List ℕ) → v ≡ DEEP → Settled start v newer
  to_deep start v newer e = to_handler start DEEP v newer (at_deep p profile image graph bytes formed) e

  same_body : (start : Start) (pending newer : List ℕ) → newer ≡ pending → InBody start pending → InBody start newer
  same_body start pending newer e inside = subst (λ (l : List ℕ). InBody start l) (sym e) inside

  -- a site is put on top
  added : (next : Start) (site : ℕ) (pending newer : List ℕ) → is_start p W site ≡ true → At site ≡ saved → SitesStand pending →
      suc (length pending) ≤ most_at next → newer ≡ site ∷ pending → InBody next newer
  added next site [] newer is kind sites room e = absurd sites
  added next site (other ∷ more) newer is kind sites room e = same_body next (site ∷ other ∷ more) newer e (record { sites = (is, kind, sites); most = room })

  -- the newest site is where a return goes
  to_site : (site v : ℕ) (pending newer : List ℕ) → SitesStand (site ∷ pending) → length pending ≤ MOST_PENDING → newer ≡ pending → v ≡ site → Settled saved v newer
  to_site site v [] newer sites few same e =
      record { place = closing; is = ap (place_at p W) (e ∙ sites) ∙ at_closing p profile image graph bytes formed; stage = (refl, same) }
  to_site site v (other ∷ more) newer sites few same e =
      to_start saved site v newer sites.0 e (ap (λ a. At a) e ∙ sites.1) (same_body saved (other ∷ more) newer same (record { sites = sites.2; most = few }))

  -- at a target of a class a unit starts where a transfer leads, and the class's gate is the word that bears its label
  pub record Target (which : TargetWord) (label v : ℕ) : Type 0 where
    pub unit : U.Unit
    pub here : UnitHere p W (landing which v) unit
    pub gate : UnitHere p W (v + past which) (V.Gate label)
    pub kind : At (landing which v) ≡ landing_kind which

  target_stands : (kind : SiteKind) (which : TargetWord) (label v : ℕ) → which ≡ read_by graph.version kind → InClass graph.lines kind which label v →
      Target which label v
  target_stands kind which label v reads inside =
      let (ts, class, among) = class_parts graph.lines kind which label v inside in
      let borne = target_bears p image graph formed kind which v label ts reads class among in
      let (unit, is) = unit_borne p W (the_leaves p image graph formed) v label which borne in
      record {
        unit = unit;
        here = unit_facts p profile image graph bytes formed (landing which v) unit is;
        gate = unit_facts p profile image graph bytes formed (v + past which) (V.Gate label) (gate_borne p W (the_leaves p image graph formed) v label which borne);
        kind = lands p profile image graph bytes formed kind which v label reads borne;
      }

  pub in_class_label : (kind : SiteKind) (which : TargetWord) (label v : ℕ) → which ≡ read_by graph.version kind → InClass graph.lines kind which label v →
      HasLabel (loaded image) which label v
  unfolding code_of
  in_class_label kind which label v reads inside =
      let target = target_stands kind which label v reads inside in
      let there = target.gate in
      let stand = unit_stands p (laid_out p profile) image bytes (v + past which) (V.Gate label) there in
      let first : v + past which + 4 * 0 ≡ v + past which = omega arith in
      let word : code_of (gate label) ≡ read 4 (loaded image) (v + past which) =
      code_of-decoded (read 4 (loaded image) (v + past which)) (gate label) (word_small (loaded image) (v + past which) (loaded_small image bytes))
      (rw first at (stand.words 0 (gate label) refl)) in
      let layout = laid_out p profile in
      let begins = layout.low in
      let low = there.low in let high = stand.high in let round = there.round in
      let (small, whole) = past_small which in
      record { round = omega arith; low = omega arith; high = omega arith; word = omega arith }

  -- so the walk may go on to where the transfer leads
  to_target : (kind : SiteKind) (which : TargetWord) (label to v : ℕ) (start : Start) (newer : List ℕ) → which ≡ read_by graph.version kind →
      InClass graph.lines kind which label to → v ≡ landing which to → landing_kind which ≡ start → InBody start newer → Settled start v newer
  to_target kind which label to v start newer reads target e kind_is inside =
      let stands = target_stands kind which label to reads target in
      settled_unit start v stands.unit newer (subst (λ (x : ℕ). UnitHere p W x stands.unit) (sym e) stands.here) (ap (λ a. At a) e ∙ stands.kind ∙ kind_is) inside

  -- the label of a check is a class's, so where it is borne is a target
  labelled : (kind : SiteKind) (which : TargetWord) (label v a : ℕ) (place : Place) → which ≡ read_by graph.version kind → label < 2 ^ 20 →
      place_at p W a ≡ Some place → site_of place ≡ Some (asks kind which label) → HasLabel (loaded image) which label v → InClass graph.lines kind which label v
  labelled kind which label v a place reads low here site has =
      let c = site_class p image graph formed a place (asks kind which label) here site in
      label_in_class p profile image graph bytes formed kind which label v c.0 reads low c.1 has

  -- what the rules say of where a flow goes on
  record Ruled (start : Start) (f : Flow) (following : ℕ) : Type 0 where
    stands : may_stand_by start f ≡ true
    agrees : (v : ℕ) → LeadsTo f.exit following v → At v ≡ next_by start f.sites f.exit
    back : leaves_site f.sites ≡ true → At following ≡ saved
    next : halts_by f.exit ≡ false → is_start p W following ≡ true
    edge : (t : ℕ) → edge_by f.sites f.exit ≡ Some t → is_start p W t ≡ true
    call : (t : ℕ) → call_by f.sites f.exit ≡ Some t → is_start p W t ≡ true
    fits : TestFits f.test
    reads : Reads graph.version (asked_by f.test f.sites)
    class : (asked : Asks) (v : ℕ) → asked.which ≡ read_by graph.version asked.kind → asked.label < 2 ^ 20 → asked_by f.test f.sites ≡ Some asked →
        HasLabel (loaded image) asked.which asked.label v → InClass graph.lines asked.kind asked.which asked.label v

  ruled : (u : U.Unit) (a : ℕ) → place_at p W a ≡ Some (body u) → UnitHere p W a u → Ruled (At a) (flow_of u) (after_unit u a)
  ruled u a is here = record {
    stands = stands_there p profile image graph bytes formed a u here.is;
    agrees = λ v. agrees_there p profile image graph bytes formed a v u here.is;
    back = comes_back p profile image graph bytes formed a u here.is;
    next = next_starts p image graph formed a u here;
    edge = λ t. edge_starts p image graph formed a (body u) t is;
    call = λ t. call_starts p image graph formed a (body u) t is;
    fits = test_fits u a here.begins.fits;
    reads = unit_reads p image graph formed a u here.is;
    class = λ asked v reads low. labelled asked.kind asked.which asked.label v a (body u) reads low is;
  }

  return_arrives : (v : ℕ) (r : Registers) (pending newer : List ℕ) → InBody saved pending → Returns r pending newer v → Settled saved v newer
  return_arrives v r [] newer inside l = absurd l
  return_arrives v r (site ∷ pending) newer inside (inl l) = let most = inside.most in to_site site v pending newer inside.sites (omega arith) l.1.0 l.1.1
  return_arrives v r (site ∷ pending) newer inside (inr l) = to_bad_return saved v newer l.1.1

  leaf_arrives : (v : ℕ) (pending newer : List ℕ) → InBody fresh pending → GoesBack pending newer v → Settled saved v newer
  leaf_arrives v [] newer inside l = absurd l
  leaf_arrives v (site ∷ pending) newer inside l = let most = inside.most in to_site site v pending newer inside.sites (omega arith) l.0 l.1

  module _ (following v : ℕ) (r : Registers) (pending newer : List ℕ) (start : Start) (inside : InBody start pending) where
    goes_to : (target : ℕ) → is_start p W target ≡ true → At v ≡ start → Goes pending newer v target → Settled start v newer
    goes_to target is kind l = to_start start target v newer is l.1 kind (same_body start pending newer l.0 inside)

    exit_arrives : (exit : Exit) → is_untested exit ≡ true → ((x : ℕ) → LeadsTo exit following x → At x ≡ next_by start F.keeps exit) →
        (halts_by exit ≡ false → is_start p W following ≡ true) → ((t : ℕ) → target_by exit ≡ Some t → is_start p W t ≡ true) →
        SiteLeads F.keeps exit following pending r newer v → Settled (next_by start F.keeps exit) v newer
    exit_arrives F.on is agrees next edge l = goes_to following (next refl) (agrees v l.1) l
    exit_arrives (F.either op rs1 rs2 met target) is agrees next edge (inl l) = goes_to following (next refl) (agrees v (inl l.1)) l
    exit_arrives (F.either op rs1 rs2 met target) is agrees next edge (inr l) = goes_to target (edge target refl) (agrees v (inr l.1)) l
    exit_arrives (F.to target) is agrees next edge l = goes_to target (edge target refl) (agrees v l.1) l
    exit_arrives (F.halts stop) is agrees next edge l = to_bad_target start v newer (l.1 ∙ eqb-true stop BAD_TARGET is)
    exit_arrives (F.after S.Ecall) is agrees next edge l = goes_to following (next refl) (agrees v l.1) l
    exit_arrives (F.after S.Ebreak) is agrees next edge l = absurd l
    exit_arrives other is agrees next edge l = absurd (cc)

    -- a flow leads, by which destinations are legal
    abbrev LeadsBy : Legal → Flow → Type 0
    LeadsBy legal f = Decides legal r f.test f.sites (SiteLeads f.sites f.exit following pending r newer v) (Goes pending newer v BAD_TARGET)

    -- where the label is borne is a target of the class: so a flow leads the walk to where it leads, and something starts there
    abbrev Steps : Flow → Type 0
    Steps f = LeadsBy (by_class graph.lines) f × Settled (next_by start f.sites f.exit) v newer

    flow_arrives : (f : Flow) → Suits f → Ruled start f following → LeadsBy (by_label (loaded image)) f → Steps f
    flow_arrives f (untested exit act is) ruled l = (l, exit_arrives exit is ruled.agrees ruled.next ruled.edge l)
    flow_arrives f (direct_call target) ruled (inl l) =
        let room = most_low start in
        let few = l.0 in (
          inl l,
          to_start start target v newer (ruled.call target refl) l.2 (ruled.agrees v l.2)
              (added start following pending newer (ruled.next refl) (ruled.back refl) inside.sites (omega arith) l.1),
        )
    flow_arrives f (direct_call target) ruled (inr l) = (inr l, to_deep start v newer l.2)
    flow_arrives f (guarded_call numbers) ruled (inl l) = (inl l, goes_to following (ruled.next refl) (ruled.agrees v l.1.1) l.1)
    flow_arrives f (guarded_call numbers) ruled (inr l) = (inr l, to_bad_target start v newer l.1.1)
    flow_arrives f (computed_jump which rs1 imm label) ruled (inl l) =
        let to = destination r rs1 imm in
        let target = ruled.class (asks K.Jump which label) to ruled.reads ruled.fits refl l.0 in
        let (there, kind) = jump_lands graph.version which to ruled.reads in
        let at = is_saved start f refl ruled.stands in
        (inl (target, l.1), to_target K.Jump which label to v start newer ruled.reads target (l.1.1 ∙ sym there) (kind ∙ sym at) (same_body start pending newer l.1.0 inside))
    flow_arrives f (computed_jump which rs1 imm label) ruled (inr l) =
        (inr ((λ target. l.0 (in_class_label K.Jump which label (destination r rs1 imm) ruled.reads target)), l.1), to_bad_target start v newer l.1.1)
    flow_arrives f (computed_call rs1 imm label) ruled (inl (has, inl l)) =
        let to = destination r rs1 imm in
        let target = ruled.class (asks K.Call First label) to ruled.reads ruled.fits refl has in
        let at = is_saved start f refl ruled.stands in
        let room = most_low start in
        let few = l.0 in (
          inl (target, inl l),
          to_target K.Call First label to v start newer ruled.reads target l.2 (sym at)
              (added start following pending newer (ruled.next refl) (ruled.back refl) inside.sites (omega arith) l.1),
        )
    flow_arrives f (computed_call rs1 imm label) ruled (inl (has, inr l)) =
        (inl (ruled.class (asks K.Call First label) (destination r rs1 imm) ruled.reads ruled.fits refl has, inr l), to_deep start v newer l.2)
    flow_arrives f (computed_call rs1 imm label) ruled (inr l) =
        (inr ((λ target. l.0 (in_class_label K.Call First label (destination r rs1 imm) ruled.reads target)), l.1), to_bad_target start v newer l.1.1)
    flow_arrives f turned_back ruled l =
        let at = is_saved start f refl ruled.stands in
        (l, subst (λ (s : Start). Settled s v newer) (sym at) (return_arrives v r pending newer (subst (λ (s : Start). InBody s pending) at inside) l))
    flow_arrives f (linking_call target) ruled l =
        let few = l.0 in (
          l,
          to_start fresh target v newer (ruled.call target refl) l.2 (ruled.agrees v l.2)
              (added fresh following pending newer (ruled.next refl) (ruled.back refl) inside.sites (omega arith) l.1),
        )
    flow_arrives f entered ruled (inl l) = (
      inl l,
      to_start saved following v newer (ruled.next refl) l.1.1 (ruled.agrees v l.1.1)
          (same_body saved pending newer l.1.0 (record { sites = inside.sites; most = l.0 })),
    )
    flow_arrives f entered ruled (inr l) = (inr l, to_deep saved v newer l.1.1)
    flow_arrives f (linking_computed_call rs1 imm label) ruled (inl l) =
        let to = destination r rs1 imm in
        let target = ruled.class (asks K.Call Third label) to ruled.reads ruled.fits refl l.0 in
        let few = l.1.0 in (
          inl (target, l.1),
          to_target K.Call Third label to v fresh newer ruled.reads target l.1.2 refl
              (added fresh following pending newer (ruled.next refl) (ruled.back refl) inside.sites (omega arith) l.1.1),
        )
    flow_arrives f (linking_computed_call rs1 imm label) ruled (inr l) =
        (inr ((λ target. l.0 (in_class_label K.Call Third label (destination r rs1 imm) ruled.reads target)), l.1), to_bad_target fresh v newer l.1.1)
    flow_arrives f linked_back ruled l =
        let at = is_fresh start f refl ruled.stands in
        (l, leaf_arrives v pending newer (subst (λ (s : Start). InBody s pending) at inside) l)

  -- where a unit leads, the walk arrives
  pub unit_arrives : (u : U.Unit) (w : Walk) (v : ℕ) (newer : List ℕ) → place_at p W w.at ≡ Some (body u) → UnitHere p W w.at u → InBody (At w.at) w.pending →
      PendingLeads (by_label (loaded image)) u (after_unit u w.at) w.pending w.regs newer v → Arrived (body u) w (next_start (At w.at) u) v newer
  unit_arrives u w v newer is here inside leads =
      let arrived = flow_arrives (after_unit u w.at) v w.regs w.pending newer (At w.at) inside (flow_of u) (suits u) (ruled u w.at is here) leads in
      record { leads = arrived.0; settled = arrived.1 }

  only_closing : (start : Start) (newer : List ℕ) → newer ≡ p.closing ∷ [] → InBody start newer
  only_closing start newer e =
      let low = most_low start in
      same_body start (p.closing ∷ []) newer e (record { sites = refl; most = omega arith })

  -- and so it does where the opening leads
  pub full_arrives : IsFullProfile p → (entry : ℕ) (w : Walk) (v : ℕ) (newer : List ℕ) → place_at p W w.at ≡ Some (opening entry) → w.pending ≡ [] →
      Calls p.closing w.pending newer v entry → Arrived (opening entry) w saved v newer
  full_arrives full entry w v newer is none l = record {
    leads = subst (λ b. OpeningLeads b p.closing entry w.pending newer v) (sym (full_saves p full)) l;
    settled = called l;
  }
    where
      called : Calls p.closing w.pending newer v entry → Settled saved v newer
      called (inl m) =
          to_start saved entry v newer (call_starts p image graph formed w.at (opening entry) entry is refl) m.2
          (full_there p profile image graph bytes formed (full_saves p full) v) (only_closing saved newer (m.1 ∙ ap (λ ps. p.closing ∷ ps) none))
      called (inr m) = to_deep saved v newer m.2

  pub lean_arrives : IsLeanProfile p → (entry : ℕ) (w : Walk) (v : ℕ) (newer : List ℕ) → place_at p W w.at ≡ Some (opening entry) → w.pending ≡ [] →
      newer ≡ p.closing ∷ [] → v ≡ entry → Arrived (opening entry) w fresh v newer
  lean_arrives lean entry w v newer is none site e =
      let few = ap length none in
      record {
        leads = subst (λ b. OpeningLeads b p.closing entry w.pending newer v) (sym (lean_saves p lean)) (omega arith, site ∙ sym (ap (λ ps. p.closing ∷ ps) none), e);
        settled = to_start fresh entry v newer (call_starts p image graph formed w.at (opening entry) entry is refl) e
            (ap (λ a. At a) e ∙ entry_fresh p profile image graph bytes formed (lean_saves p lean) w.at entry is) (only_closing fresh newer site);
      }
