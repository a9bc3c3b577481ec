-- What is known of a hart of a well-formed pair between two steps, and one step: it goes along the graph, and keeps what is known. What
-- comes after it may be any statement that follows from that.
use Rattle.std.proofs.Common.{◌≡◌, ℕ, ◌+◌, ◌*◌, ◌≤◌, ◌<◌, ◌⊎◌, inl, inr, Bool, true, false, List, [], ◌∷◌, length, refl, sym, ap, subst, ◌∙◌, Option, Some, None, arith}
use Rattle.std.proofs.lemmas.Bool.{false≢true}
use Rattle.rv_image.specs.Image.{Contents, loaded}
use Rattle.rv_image.specs.MemoryMap.{PART_SIZE, IsFullProfile, IsLeanProfile, IsProfile, Profile, part_of}
use Rattle.rv_word.specs.Memory.{Memory}
use Rattle.rv_word.specs.Same.{SameOn}
use Rattle.rv_image.proofs.Profiles.{full_saves, laid_out}
use Rattle.rv_instr.specs.Registers.{Registers}
use Rattle.rv_instr.specs.declared.instr.Instr.{Instr}
use Rattle.rv_code.specs.State.{Hart, Shared, After, last_exit}
use Rattle.rv_code.specs.Step.{step}
use Rattle.rv_code.specs.declared.turn.Turn.{Turn}
use Rattle.rv_code.specs.declared.turn.Turn.TheVariants.{Ran, Exit, Break, LoadFault}
use Rattle.cfi_graph.specs.Graph.{GraphParts}
use Rattle.cfi_unit.specs.declared.unit.SystemOp.TheVariants as S
use Rattle.cfi_unit.specs.declared.unit.Unit as U
use Rattle.cfi_unit.specs.declared.unit.Unit.TheVariants as V
use Rattle.cfi_unit.specs.Flow as F
use Rattle.cfi_unit.specs.Flow.{Act, flow_of}
use Rattle.cfi_unit.specs.Context.{IsCodeOf, Context, Kept, SameOutside}
use Rattle.cfi_unit.specs.EventLaw.{Adds}
use Rattle.cfi_unit.specs.InPlace.{InClosing, InOpening, InPlace, InUnit, closing_number}
use Rattle.cfi_unit.specs.Leads.{Calls}
use Rattle.cfi_unit.specs.MaskLaw.{writes_mask}
use Rattle.cfi_unit.specs.declared.place.Place.{Place}
use Rattle.cfi_unit.specs.declared.place.Place.TheVariants.{Handler as handler, Opening as opening, Closing as closing, Body as body}
use Rattle.cfi_unit.specs.Place.{IsWordOf, place_size}
use Rattle.cfi_unit.specs.Prologue.{OPENING, opening_instrs}
use Rattle.cfi_unit.specs.Shadow.{slot, Holds, IsPart, MOST_PENDING}
use Rattle.cfi_unit.specs.Stand.{Stand}
use Rattle.cfi_unit.specs.Templates.{LeftWith}
use Rattle.cfi_unit.specs.UnitLaw.{ActEnds, Ends, MayStand, Outcome, stays, leaves, ends, ReturnsTo}
use Rattle.cfi_unit.specs.UnitWords.{BAD_TARGET, BAD_RETURN, DEEP, Fits, Reaches, STORE_MASK}
use Rattle.cfi_unit.proofs.Changed.{in_place_changed, place_begins}
use Rattle.cfi_unit.proofs.Context.{holds_same}
use Rattle.cfi_unit.proofs.Events.{unit_events}
use Rattle.cfi_unit.proofs.Flows.{is_single, single_word}
use Rattle.cfi_unit.proofs.Parts.{own_is_part}
use Rattle.cfi_unit.proofs.PlaceWords.{place_word}
use Rattle.cfi_unit.proofs.UnitSteps.{unit_law}
use Rattle.cfi_pending.specs.Opening as opens
use Rattle.cfi_pending.specs.Opening.{InSetUp, OpeningOutcome, site_of}
use Rattle.cfi_pending.specs.StartLaw
use Rattle.cfi_pending.specs.StartLaw.{AreSites, AtStart, Halted, StartOutcome}
use Rattle.cfi_pending.specs.Starts.{Start, StandsBy, fresh, may_stand, next_start, saved}
use Rattle.cfi_pending.proofs.Begins.{body_begins}
use Rattle.cfi_pending.proofs.OpeningSteps.{opening_law}
use Rattle.cfi_pending.proofs.StartSteps.{stacked_of, start_law}
use Rattle.cfi_rules.specs.Along.{Walk, MaskStands, ShadowStands, StackStands, start_in, ActExits, ActBreaks, ActFaults, MayExit, MayBreak, MayFault, MayEnd, Begun}
use Rattle.cfi_rules.specs.Rules.{IsWellFormed}
use Rattle.cfi_rules.specs.Split.{code_words, place_at}
use Rattle.cfi_rules.specs.Taken.{TakenStep}
use Rattle.cfi_rules.specs.Laws.{AreBytes}
use Rattle.cfi_rules.proofs.Bytes.{length-code_words, loaded_small}
use Rattle.cfi_rules.proofs.Find.{UnitHere, unit_here}
use Rattle.cfi_rules.proofs.Labels.{full_may_stand, place_stands}
use Rattle.cfi_rules.proofs.LeanOpening.{IsLeanOpening, lean_events, lean_opening, lean_word}
use Rattle.cfi_rules.proofs.Moves.{InBody, SitesStand, Stage, Arrived, full_arrives, lean_arrives, most_at, unit_arrives}
use Rattle.cfi_rules.proofs.Places.{handler_is, is_whole, prologue, place_facts}
use Rattle.cfi_rules.proofs.RuleFacts.{unit_stands_in}
use Rattle.cfi_rules.proofs.StartKinds.{stands_there, start_is, start_there}

-- an end that may come, and what is owed after it where the step ran
record Ended (place : Place) (pc : ℕ) (turn : Turn) (rest : Type 0) : Type 0 where
  may : MayEnd place pc turn
  on : turn ≡ Ran → rest

exits : (place : Place) (pc : ℕ) (turn : Turn) (rest : Type 0) → MayExit place → (status : ℕ) → turn ≡ Exit status → Ended place pc turn rest
exits place pc turn rest may status e =
    subst (λ (t : Turn). Ended place pc t rest) (sym e) (record { may = may; on = λ goes. absurd (cc) })

breaks : (place : Place) (at pc : ℕ) (turn : Turn) (rest : Type 0) → MayBreak place → at ≡ pc → turn ≡ Break at → Ended place pc turn rest
breaks place at pc turn rest may same e =
    subst (λ (t : Turn). Ended place pc t rest) (sym e) (record { may = (same, may); on = λ goes. absurd (cc) })

faults : (place : Place) (at pc a : ℕ) (turn : Turn) (rest : Type 0) → MayFault place → at ≡ pc → turn ≡ LoadFault at a → Ended place pc turn rest
faults place at pc a turn rest may same e =
    subst (λ (t : Turn). Ended place pc t rest) (sym e) (record { may = (same, may); on = λ goes. absurd (cc) })

ran : (place : Place) (pc : ℕ) (turn : Turn) (rest : Type 0) → turn ≡ Ran → rest → Ended place pc turn rest
ran place pc turn rest e owed = subst (λ (t : Turn). Ended place pc t rest) (sym e) (record { may = tt; on = λ goes. owed })

module _ (p : Profile) where
  -- what has one word begins where it stands
  only_word : (place : Place) (at pc : ℕ) → place_size p place ≡ 4 → IsWordOf p place at pc → at ≡ pc
  only_word place at pc one word = let below = word.1 in let here = word.2 in omega arith

  module _ (at pc : ℕ) (turn : Turn) (rest : Type 0) where
    ended_act : (place : Place) (act : Act) → (ActExits act → MayExit place) → (ActBreaks act → MayBreak place) → (ActFaults act → MayFault place) →
        (is_single act ≡ true → at ≡ pc) → ActEnds act at turn → Ended place pc turn rest
    ended_act place (F.does instr) may_exit may_break may_fault same how = faults place at pc how.0 turn rest (may_fault tt) (same refl) how.1
    ended_act place (F.system S.Ecall) may_exit may_break may_fault same how = exits place pc turn rest (may_exit tt) how.0 how.1
    ended_act place (F.system S.Ebreak) may_exit may_break may_fault same how = breaks place at pc turn rest (may_break tt) (same refl) how
    ended_act place F.calls may_exit may_break may_fault same how = exits place pc turn rest (may_exit tt) how.0 how.1
    ended_act place other may_exit may_break may_fault same how = absurd how

    ended : (place : Place) → IsWordOf p place at pc → Ends place at turn → Ended place pc turn rest
    ended handler word how = breaks handler at pc turn rest tt (only_word handler at pc refl word) how
    ended (opening entry) word how = absurd how
    ended closing word how = exits closing pc turn rest tt how.0 how.1
    ended (body unit) word how =
        ended_act (body unit) (flow_of unit).act (λ m. m) (λ m. m) (λ m. m)
        (λ single. only_word (body unit) at pc (ap (λ n. 4 * n) (single_word unit single)) word) how

-- x4 holds the mask where it is to
mask_stands : (saves : Bool) (r : Registers) → (saves ≡ true → r 4 ≡ STORE_MASK) → MaskStands saves r
mask_stands false r mask = tt
mask_stands true r mask = mask refl

-- the shadow stack holds no more sites than it has slots
few_of : (start : Start) (r : Registers) (pending stacked : List ℕ) → StandsBy start r pending stacked → length pending ≤ most_at start → length stacked ≤ MOST_PENDING
few_of saved r pending stacked stands most = let same = ap length stands in omega arith
few_of fresh r [] stacked stands most = absurd stands
few_of fresh r (site ∷ pending) stacked stands most = let same = ap length stands.1 in omega arith

module _ (p : Profile) (profile : IsProfile p) (image : Contents) (graph : GraphParts) (bytes : AreBytes image) (formed : IsWellFormed p image graph) where
  abbrev pub the_words : List ℕ
  the_words = code_words image.code

  -- the kind of the start at an address
  abbrev At : ℕ → Start
  At a = start_there p profile image graph bytes formed a

  abbrev HasMask : Registers → Type 0
  HasMask r = p.callee_saves ≡ true → r 4 ≡ STORE_MASK

  -- what is known at a word of the opening
  pub data InOpens (part : ℕ) (h : Hart) (m : Memory) : Type 0 where
    full_opens : IsFullProfile p → InOpening p part h m → InOpens part h m
    lean_opens : IsLeanProfile p → (several : Bool) → IsLeanOpening p several → InSetUp several part h → InOpens part h m

  -- and at a word of a unit
  pub record InUnitNow (part : ℕ) (unit : U.Unit) (w : Walk) (h : Hart) (m : Memory) : Type 0 where
    pub stage : InBody p profile image graph bytes formed (At w.at) w.pending
    pub stacked : List ℕ
    pub stands : StandsBy (At w.at) w.regs w.pending stacked
    pub few : length stacked ≤ MOST_PENDING
    pub held : Holds part m stacked
    pub word : InUnit part (loaded image) unit w.at stacked w.regs h m
    pub link : At w.at ≡ fresh → h.regs 1 ≡ w.regs 1
    pub mask : p.callee_saves ≡ true → writes_mask unit ≡ false → h.regs 4 ≡ STORE_MASK

  abbrev pub Inside : ℕ → Place → Walk → Hart → Memory → Type 0
  Inside part handler w h m = h.pc ≡ w.at
  Inside part (opening entry) w h m = (w.pending ≡ []) × InOpens part h m
  Inside part closing w h m = InClosing w.at h
  Inside part (body unit) w h m = InUnitNow part unit w h m

  -- where a place was left to: the shadow stack stands as at such a start, or the run halts
  abbrev pub Ready : ℕ → Start → List ℕ → Hart → Memory → Type 0
  Ready part start pending h m = (StackStands part start h m pending × HasMask h.regs) ⊎ (h.pc < OPENING)

  -- what is known of a hart, and of its own part of the shadow stack, between two steps
  pub data Now (part : ℕ) (before : Option Walk) (h : Hart) (m : Memory) : Type 0 where
    starting : before ≡ None → h.pc ≡ OPENING → part ≡ part_of (h.regs 10) → Now part before h m
    within : (w : Walk) (place : Place) → before ≡ Some w → place_at p the_words w.at ≡ Some place → w.at < h.pc → Inside part place w h m → Now part before h m
    arrived : (w : Walk) (place : Place) (start : Start) (newer : List ℕ) → before ≡ Some w → place_at p the_words w.at ≡ Some place →
        Arrived p profile image graph bytes formed place w start h.pc newer → Ready part start newer h m → Now part before h m

  -- what a place may have pending fits the unit law
  returns_to : (site : ℕ) (rest : List ℕ) → SitesStand p profile image graph bytes formed (site ∷ rest) → ReturnsTo (site ∷ rest)
  returns_to site [] sites = let layout = laid_out p profile in (omega arith, omega arith)
  returns_to site (other ∷ more) sites =
      let here = (unit_here p (laid_out p profile) the_words (is_whole p profile image graph bytes formed) site sites.0).1 in
      let round = here.round in let high = here.high in let whole = length-code_words image.code bytes.size.words in let most = bytes.size.most in
      (omega arith, omega arith)

  pub are_sites : (pending : List ℕ) → SitesStand p profile image graph bytes formed pending → AreSites pending
  are_sites [] sites = tt
  are_sites (site ∷ []) sites = (returns_to site [] sites, tt)
  are_sites (site ∷ other ∷ more) sites = (returns_to site (other ∷ more) sites, are_sites (other ∷ more) sites.2)

  some_site : (pending : List ℕ) → SitesStand p profile image graph bytes formed pending → 0 < length pending
  some_site [] sites = absurd sites
  some_site (site ∷ more) sites = omega arith

  -- changes outside of the own part keep what is known of a hart
  module _ (part : ℕ) (m m' : Memory) (same : SameOn part (part + PART_SIZE) m m') where
    held_kept : (stacked : List ℕ) → length stacked ≤ MOST_PENDING → Holds part m stacked → Holds part m' stacked
    held_kept stacked few held = holds_same part stacked m m' (λ k from to. same k from (omega arith)) held

    opens_kept : (h : Hart) → InOpens part h m → InOpens part h m'
    opens_kept h (full_opens full i) = full_opens full (in_place_changed part m m' same p (loaded image) (opening 0) OPENING [] h.regs h i)
    opens_kept h (lean_opens lean several this i) = lean_opens lean several this i

    pub inside_kept : (place : Place) (w : Walk) (h : Hart) → Inside part place w h m → Inside part place w h m'
    inside_kept handler w h i = i
    inside_kept (opening entry) w h i = (i.0, opens_kept h i.1)
    inside_kept closing w h i = i
    inside_kept (body unit) w h i = record {
      stage = i.stage;
      stacked = i.stacked;
      stands = i.stands;
      few = i.few;
      held = held_kept i.stacked i.few i.held;
      word = in_place_changed part m m' same p (loaded image) (body unit) w.at i.stacked w.regs h i.word;
      link = i.link;
      mask = i.mask;
    }

    stack_kept : (start : Start) (h : Hart) (pending : List ℕ) → length pending ≤ most_at start → StackStands part start h m pending → StackStands part start h m' pending
    stack_kept start h pending most stack = record {
      stacked = stack.stacked;
      stands = stack.stands;
      pointer = stack.pointer;
      holds = held_kept stack.stacked (few_of start h.regs pending stack.stacked stack.stands most) stack.holds;
    }

    ready_kept : (place : Place) (start : Start) (pending : List ℕ) (h : Hart) → place_at p the_words h.pc ≡ Some place →
        Stage p profile image graph bytes formed place start h.pc pending → Ready part start pending h m → Ready part start pending h m'
    ready_kept place start pending h is stage (inr low) = inr low
    ready_kept handler start pending h is stage (inl stack) =
        let there = handler_is p profile image graph bytes formed h.pc (place_facts p profile image graph bytes formed h.pc handler is) in
        inr (below_opening h.pc there)
      where
        below_opening : (a : ℕ) → (a ≡ BAD_TARGET) ⊎ ((a ≡ BAD_RETURN) ⊎ (a ≡ DEEP)) → a < OPENING
        below_opening a (inl e) = omega arith
        below_opening a (inr (inl e)) = omega arith
        below_opening a (inr (inr e)) = omega arith
    ready_kept (opening entry) start pending h is stage (inl stack) = absurd stage
    ready_kept closing start pending h is stage (inl stack) =
        let none = ap length stage.1 in inl (stack_kept start h pending (omega arith) stack.0, stack.1)
    ready_kept (body unit) start pending h is stage (inl stack) = inl (stack_kept start h pending stage.1.most stack.0, stack.1)

    pub now_kept : (before : Option Walk) (h : Hart) → Now part before h m → Now part before h m'
    now_kept before h (starting none e own) = starting none e own
    now_kept before h (within w place b is after i) = within w place b is after (inside_kept place w h i)
    now_kept before h (arrived w place start newer b is a ready) =
        arrived w place start newer b is a (ready_kept a.settled.place start newer h a.settled.is a.settled.stage ready)

  -- a hart of code that runs on
  module _ (k : ℕ) (below : k < p.harts) (h : Hart) (s : Shared) (going : last_exit s.events ≡ None) (code : IsCodeOf (loaded image) s.memory) where
    own : IsPart p (part_of k)
    own = own_is_part p profile k below

    -- what is known of memory, with these sites on the shadow stack
    context : (stacked : List ℕ) → Holds (part_of k) s.memory stacked → Context (part_of k) (loaded image) s.memory stacked s
    context stacked held = record { going = going; kept = record { code = code; held = held; frame = λ j above out. refl } }

    abbrev pub walk_at : List ℕ → Walk
    walk_at pending = record { at = h.pc; pending = pending; regs = h.regs }

    -- where something starts the hart is at its first word
    abbrev pub Shadow : Place → List ℕ → Type 0
    Shadow place pending = ShadowStands p (part_of k) (start_in (place_at p the_words) graph.lines h.pc) place h s.memory pending

    module _ (start : Start) (pending : List ℕ) (stack : StackStands (part_of k) start h s.memory pending) (mask : HasMask h.regs) where
      abbrev at_start : AtStart p.callee_saves (part_of k) (loaded image) s.memory start pending h s
      at_start = record { stacked = stack.stacked; stands = stack.stands; pointer = stack.pointer; context = context stack.stacked stack.holds; mask = mask }

      unit_begins : (unit : U.Unit) → place_at p the_words h.pc ≡ Some (body unit) → start ≡ At h.pc → InBody p profile image graph bytes formed start pending →
          InUnitNow (part_of k) unit (walk_at pending) h s.memory
      unit_begins unit is kind sites =
          let here = place_facts p profile image graph bytes formed h.pc (body unit) is in
          let few = few_of start h.regs pending stack.stacked stack.stands sites.most in
          let may : may_stand start unit ≡ true = ap (λ x. may_stand x unit) kind ∙ stands_there p profile image graph bytes formed h.pc unit here.is in
          let j = body_begins p.callee_saves p (part_of k) (loaded image) s.memory unit start pending h s here.begins.fits
          (unit_stands_in p image graph formed h.pc unit here.is) may (are_sites pending sites.sites) (some_site pending sites.sites) at_start few in
          record {
            stage = subst (λ (x : Start). InBody p profile image graph bytes formed x pending) kind sites;
            stacked = j.stacked;
            stands = subst (λ (x : Start). StandsBy x h.regs pending j.stacked) kind j.stands;
            few = j.few;
            held = j.context.kept.held;
            word = j.word;
            link = λ e. refl;
            mask = j.mask;
          }

      unit_shadow : (unit : U.Unit) → start ≡ At h.pc → InBody p profile image graph bytes formed start pending → Shadow (body unit) pending
      unit_shadow unit kind sites = (
        subst (λ (x : Start). StackStands (part_of k) x h s.memory pending) (kind ∙ sym (start_is p profile image graph bytes formed h.pc)) stack,
        mask_stands p.callee_saves h.regs mask,
        some_site pending sites.sites,
      )

    pub begins : (place : Place) (start : Start) (pending : List ℕ) → place_at p the_words h.pc ≡ Some place → Stage p profile image graph bytes formed place start h.pc pending →
        Ready (part_of k) start pending h s.memory → Inside (part_of k) place (walk_at pending) h s.memory × Shadow place pending
    begins handler start pending is stage ready = (refl, tt)
    begins (opening entry) start pending is stage ready = absurd stage
    begins closing start pending is stage (inl ready) =
        (closing_number refl, (subst (λ (x : Start). StackStands (part_of k) x h s.memory pending) stage.0 ready.0, mask_stands p.callee_saves h.regs ready.1, stage.1))
    begins closing start pending is stage (inr low) =
        let layout = laid_out p profile in
        let facts : h.pc ≡ p.closing = place_facts p profile image graph bytes formed h.pc closing is in absurd (omega arith)
    begins (body unit) start pending is stage (inl ready) =
        (unit_begins start pending ready.0 ready.1 unit is (sym stage.0) stage.1, unit_shadow start pending ready.0 ready.1 unit (sym stage.0) stage.1)
    begins (body unit) start pending is stage (inr low) =
        let layout = laid_out p profile in
        let from = (place_facts p profile image graph bytes formed h.pc (body unit) is).low in absurd (omega arith)

    abbrev pub first_entry : ℕ
    first_entry = (prologue p profile image graph bytes formed).0

    pub opens_at : IsFullProfile p ⊎ IsLeanProfile p → part_of k ≡ part_of (h.regs 10) → h.pc ≡ OPENING → InOpens (part_of k) h s.memory
    opens_at (inl full) mine e =
        full_opens full (place_begins (part_of k) (loaded image) OPENING h s.memory p (opening first_entry) []
        (full_may_stand p profile image graph bytes formed full first_entry OPENING (refl, (prologue p profile image graph bytes formed).1)) mine e)
    opens_at (inr lean) mine e =
        let (several, this) = lean_opening p lean in
        lean_opens lean several this (this.first (part_of k) h own mine e)

    -- one step of it, and what follows from what is known of it where the step ran
    module _ (Rest : Walk → After → Type 0)
        (go_on : (w : Walk) (a : After) (stacked : List ℕ) → Context (part_of k) (loaded image) s.memory stacked a.shared → Now (part_of k) (Some w) a.hart a.shared.memory → Rest w a) where
      abbrev after : After
      after = step p h s

      abbrev taken : TakenStep
      taken = record { hart = k; before = h; shared = s; after = after }

      -- what a step from a place comes to
      record Followed (w : Walk) (place : Place) : Type 0 where
        ended_as : Ended place h.pc after.turn (Rest w after)
        kept : IsCodeOf (loaded image) after.shared.memory
        frame : SameOutside (part_of k) s.memory after.shared.memory

      goes : (w : Walk) (place : Place) (stacked : List ℕ) → after.turn ≡ Ran → Context (part_of k) (loaded image) s.memory stacked after.shared →
          Now (part_of k) (Some w) after.hart after.shared.memory → Followed w place
      goes w place stacked t c now =
          record { ended_as = ran place h.pc after.turn (Rest w after) t (go_on w after stacked c now); kept = c.kept.code; frame = c.kept.frame }

      stops : (w : Walk) (place : Place) (stacked : List ℕ) → IsWordOf p place w.at h.pc → Ends place w.at after.turn →
          Kept (part_of k) (loaded image) s.memory stacked after.shared.memory → Followed w place
      stops w place stacked word how kept =
          record { ended_as = ended p w.at h.pc after.turn (Rest w after) place word how; kept = kept.code; frame = kept.frame }

      pub record Stepped (w : Walk) (place : Place) : Type 0 where
        pub word : IsWordOf p place w.at h.pc
        pub begun : Begun p image (place_at p the_words) w taken
        pub on : after.turn ≡ Ran → Rest w after

      stepped : (w : Walk) (place : Place) → place_at p the_words w.at ≡ Some place → IsWordOf p place w.at h.pc → Adds place w.at h s.events after.shared.events →
          Followed w place → Stepped w place
      stepped w place is word adds f = record { word = word; begun = (place, is, word, f.ended_as.may, code, f.kept, f.frame, adds); on = f.ended_as.on }

      -- handlers and the closing
      abbrev Plain : Place → Type 0
      Plain handler = Unit {0}
      Plain closing = Unit {0}
      Plain other = ⊥

      plain_follows : (w : Walk) (place : Place) → Plain place → place_at p the_words w.at ≡ Some place → IsWordOf p place w.at h.pc →
          Outcome p (part_of k) (loaded image) s.memory place w.at [] w.regs after → Followed w place
      plain_follows w handler plain is word (stays t c low i) = goes w handler [] t c (within w handler refl is low i)
      plain_follows w handler plain is word (leaves newer t c back leads) = absurd leads
      plain_follows w handler plain is word (ends how kept) = stops w handler [] word how kept
      plain_follows w closing plain is word (stays t c low i) = goes w closing [] t c (within w closing refl is low i)
      plain_follows w closing plain is word (leaves newer t c back leads) = absurd leads
      plain_follows w closing plain is word (ends how kept) = stops w closing [] word how kept
      plain_follows w (opening entry) plain is word out = absurd plain
      plain_follows w (body unit) plain is word out = absurd plain

      plain_on : (w : Walk) (place : Place) → Plain place → place_at p the_words w.at ≡ Some place → MayStand p place w.at [] →
          InPlace p (part_of k) (loaded image) place w.at [] w.regs h s.memory → Stepped w place
      plain_on w place plain is may i =
          let stand = place_stands p profile image graph bytes formed place w.at (place_facts p profile image graph bytes formed w.at place is) in
          let word = place_word p (part_of k) (loaded image) place w.at [] w.regs h s.memory may i in
          stepped w place is word (unit_events p (part_of k) (loaded image) s.memory place w.at [] w.regs h s may stand (context [] tt) i)
          (plain_follows w place plain is word
          (unit_law p (part_of k) (loaded image) s.memory place w.at [] w.regs h s own (loaded_small image bytes) may (omega arith) stand (context [] tt) i))

      -- the opening, where callers save sites
      full_left : IsFullProfile p → (newer : List ℕ) (place : Place) (at : ℕ) → Context (part_of k) (loaded image) s.memory newer after.shared →
          ((after.hart.regs 3 ≡ slot (part_of k) (length newer)) × LeftWith place at after.hart.regs) ⊎ (after.hart.pc < OPENING) →
          Ready (part_of k) saved newer after.hart after.shared.memory
      full_left full newer place at c (inr low) = inr low
      full_left full newer place at c (inl back) =
          inl (record { stacked = newer; stands = refl; pointer = back.0; holds = c.kept.held }, λ saves. absurd (false≢true (sym (full_saves p full) ∙ saves)))

      full_follows : IsFullProfile p → (w : Walk) (entry : ℕ) → place_at p the_words w.at ≡ Some (opening entry) → w.pending ≡ [] →
          IsWordOf p (opening entry) w.at h.pc → Outcome p (part_of k) (loaded image) s.memory (opening entry) w.at [] w.regs after → Followed w (opening entry)
      full_follows full w entry is none word (stays t c low i) = goes w (opening entry) [] t c (within w (opening entry) refl is low (none, full_opens full i))
      full_follows full w entry is none word (leaves newer t c back leads) =
          goes w (opening entry) newer t c (arrived w (opening entry) saved newer refl is
          (full_arrives p profile image graph bytes formed full entry w after.hart.pc newer is none
          (subst (λ (ps : List ℕ). Calls p.closing ps newer after.hart.pc entry) (sym none) leads)) (full_left full newer (opening entry) w.at c back))
      full_follows full w entry is none word (ends how kept) = absurd how

      -- and where callees do
      lean_left : (pending : List ℕ) → AtStart true (part_of k) (loaded image) s.memory fresh pending after.hart after.shared ⊎ Halted (part_of k) (loaded image) s.memory after.hart after.shared →
          Ready (part_of k) fresh pending after.hart after.shared.memory
      lean_left pending (inr halted) = inr halted.low
      lean_left pending (inl at_start) =
          inl (record { stacked = at_start.stacked; stands = at_start.stands; pointer = at_start.pointer; holds = at_start.context.kept.held }, λ saves. at_start.mask refl)

      lean_follows : IsLeanProfile p → (several : Bool) → IsLeanOpening p several → (w : Walk) (entry : ℕ) → place_at p the_words w.at ≡ Some (opening entry) →
          w.at ≡ OPENING → w.pending ≡ [] → OpeningOutcome several (part_of k) (loaded image) s.memory entry after → Followed w (opening entry)
      lean_follows lean several this w entry is first none (opens.stays t c low i) =
          goes w (opening entry) [] t c (within w (opening entry) refl is (omega arith) (none, lean_opens lean several this i))
      lean_follows lean several this w entry is first none (opens.calls t e left) =
          let arrives = lean_arrives p profile image graph bytes formed lean entry w after.hart.pc (site_of several ∷ []) is none (ap (λ a. a ∷ []) (sym this.site)) e in
          let now = arrived w (opening entry) fresh (site_of several ∷ []) refl is arrives (lean_left (site_of several ∷ []) left) in
          by left now
        where
          by : AtStart true (part_of k) (loaded image) s.memory fresh (site_of several ∷ []) after.hart after.shared ⊎ Halted (part_of k) (loaded image) s.memory after.hart after.shared →
              Now (part_of k) (Some w) after.hart after.shared.memory → Followed w (opening entry)
          by (inl at_start) now = goes w (opening entry) at_start.stacked t at_start.context now
          by (inr halted) now = goes w (opening entry) halted.stacked t halted.context now

      opening_on : (w : Walk) (entry : ℕ) → place_at p the_words w.at ≡ Some (opening entry) → w.pending ≡ [] → InOpens (part_of k) h s.memory → Stepped w (opening entry)
      opening_on w entry is none (full_opens full i) =
          let facts = place_facts p profile image graph bytes formed w.at (opening entry) is in
          let may = full_may_stand p profile image graph bytes formed full entry w.at facts in
          let stand = place_stands p profile image graph bytes formed (opening entry) w.at facts in
          let word = place_word p (part_of k) (loaded image) (opening entry) w.at [] w.regs h s.memory may i in
          stepped w (opening entry) is word
          (unit_events p (part_of k) (loaded image) s.memory (opening entry) w.at [] w.regs h s may stand (context [] tt) i)
          (full_follows full w entry is none word
          (unit_law p (part_of k) (loaded image) s.memory (opening entry) w.at [] w.regs h s own (loaded_small image bytes) may (omega arith) stand (context [] tt) i))
      opening_on w entry is none (lean_opens lean several this i) =
          let facts = place_facts p profile image graph bytes formed w.at (opening entry) is in
          let stand = place_stands p profile image graph bytes formed (opening entry) w.at facts in
          let here : Stand (loaded image) OPENING (opening_instrs p entry) = subst (λ (a : ℕ). Stand (loaded image) a (opening_instrs p entry)) facts.0 stand in
          let words : Stand (loaded image) OPENING (opens.opening_instrs several entry) = subst (λ (is : List Instr). Stand (loaded image) OPENING is) (this.instrs entry) here in
          let fits : Fits (V.LinkCall entry) (opens.call_at several) = subst (λ (a : ℕ). Reaches a entry) this.call facts.1.reaches in
          let events = lean_events p lean several this (part_of k) h i (loaded image) s.memory entry s here (context [] tt) in
          stepped w (opening entry) is (lean_word p lean several this (part_of k) h i entry w.at facts.0)
          (subst (λ (a : ℕ). Adds (opening entry) a h s.events after.shared.events) (sym facts.0) events)
          (lean_follows lean several this w entry is facts.0 none
          (opening_law several p (part_of k) (loaded image) s.memory entry h s own (loaded_small image bytes) fits words (context [] tt) i))

      -- a unit
      module _ (w : Walk) (unit : U.Unit) (is : place_at p the_words w.at ≡ Some (body unit)) (i : InUnitNow (part_of k) unit w h s.memory) where
        here : UnitHere p the_words w.at unit
        here = place_facts p profile image graph bytes formed w.at (body unit) is

        inside : StartLaw.InBody p.callee_saves (part_of k) (loaded image) s.memory unit w.at (At w.at) w.pending w.regs h s
        inside = record { stacked = i.stacked; stands = i.stands; few = i.few; word = i.word; context = context i.stacked i.held; link = i.link; mask = i.mask }

        left : (newer : List ℕ) → AtStart p.callee_saves (part_of k) (loaded image) s.memory (next_start (At w.at) unit) newer after.hart after.shared ⊎ Halted (part_of k) (loaded image) s.memory after.hart after.shared →
            after.turn ≡ Ran → Arrived p profile image graph bytes formed (body unit) w (next_start (At w.at) unit) after.hart.pc newer → Followed w (body unit)
        left newer (inl at_start) t a =
            goes w (body unit) at_start.stacked t at_start.context (arrived w (body unit) (next_start (At w.at) unit) newer refl is a
            (inl (record { stacked = at_start.stacked; stands = at_start.stands; pointer = at_start.pointer; holds = at_start.context.kept.held }, at_start.mask)))
        left newer (inr halted) t a =
            goes w (body unit) halted.stacked t halted.context (arrived w (body unit) (next_start (At w.at) unit) newer refl is a (inr halted.low))

        unit_follows : IsWordOf p (body unit) w.at h.pc →
            StartOutcome p.callee_saves (part_of k) (loaded image) s.memory unit w.at (At w.at) w.pending w.regs after → Followed w (body unit)
        unit_follows word (StartLaw.stays t low j) = goes w (body unit) j.stacked t j.context (within w (body unit) refl is low (record {
          stage = i.stage;
          stacked = j.stacked;
          stands = j.stands;
          few = j.few;
          held = j.context.kept.held;
          word = j.word;
          link = j.link;
          mask = j.mask;
        }))
        unit_follows word (StartLaw.leaves newer t leads to) = left newer to t (unit_arrives p profile image graph bytes formed unit w after.hart.pc newer is here i.stage leads)
        unit_follows word (StartLaw.ends stacked how kept) = stops w (body unit) stacked word how kept

        unit_on : Stepped w (body unit)
        unit_on =
            let are = are_sites w.pending i.stage.sites in
            let may : MayStand p (body unit) w.at i.stacked = (here.begins.fits, stacked_of (At w.at) w.regs w.pending i.stacked i.stands are) in
            let stand = place_stands p profile image graph bytes formed (body unit) w.at here in
            let word = place_word p (part_of k) (loaded image) (body unit) w.at i.stacked w.regs h s.memory may i.word in
            stepped w (body unit) is word
            (unit_events p (part_of k) (loaded image) s.memory (body unit) w.at i.stacked w.regs h s may stand (context i.stacked i.held) i.word)
            (unit_follows word
            (start_law p.callee_saves p (part_of k) (loaded image) s.memory unit w.at (At w.at) w.pending w.regs h s own (loaded_small image bytes)
            (unit_stands_in p image graph formed w.at unit here.is) (stands_there p profile image graph bytes formed w.at unit here.is) here.begins.fits are stand inside))

      pub step_on : (w : Walk) (place : Place) → place_at p the_words w.at ≡ Some place → Inside (part_of k) place w h s.memory → Stepped w place
      step_on w handler is i = plain_on w handler tt is tt i
      step_on w (opening entry) is i = opening_on w entry is i.0 i.1
      step_on w closing is i = plain_on w closing tt is tt i
      step_on w (body unit) is i = unit_on w unit is i
