-- A well-formed pair is confined: by induction on the steps, each of which keeps what is known of all harts.
use Rattle.std.proofs.Common.{◌≡◌, ℕ, ◌+◌, ◌*◌, ◌^◌, ◌<◌, ◌≤◌, ◌⊎◌, inl, inr, Bool, true, false, List, [], ◌∷◌, length, refl, sym, ap, subst, ◌∙◌, Option, Some, None, arith}
use Rattle.std.specs.Prelude.{if◌then◌else◌, slice_get}
use Rattle.std.specs.List.{AllByRecursion}
use Rattle.std.proofs.lemmas.Bool.{cases_eq, eq-eqb, ne_eqb}
use Rattle.std.proofs.lemmas.Option.{same_Some, slice_get_within}
use Rattle.cfi_confined.proofs.Prelude.{Contents, loaded, PART_SIZE, START, IsProfile, MayRun, Profile, part_of, Memory, SameOn, Registers, Instr, Ecall, decoded, ByteChange, HartStep, IsDataChange, changed, disturbed, if_ran, After, Hart, Harts, Shared, last_exit, with_hart, exec, step, Turn, Ran, Exit, Break, LoadFault, StoreFault, FetchFault, Illegal, GraphParts, IsGraph, calls_in, Context, IsCodeOf, MayCall, flow_of, Place, IsWordOf, place_instrs, OPENING, opening_instrs, MOST_PENDING, Stand, MayStand, Fits, Reaches, Start, StandsBy, fresh, may_stand, saved, AreStepsOf, MayBreak, MayEnd, MayExit, MayFault, MayStart, PlaceLeads, Walk, AreBytes, IsWellFormed, code_words, is_handler, place_at, TakenStep, steps_taken, by_class, ConfinedAlong, IsAllowed, IsHandler, MayEcall, MayStop, Moves, Pending, Writes, fetched, most_calls, with_pending, WellFormedIsConfined}
use Rattle.rv_word.proofs.Cases.{cases_Option}
use Rattle.rv_image.proofs.Profiles.{laid_out}
use Rattle.rv_code.proofs.Frames.{read_same}
use Rattle.rv_code.proofs.Changes.{changed_above}
use Rattle.cfi_unit.specs.declared.place.Place.TheVariants.{Handler as handler, Opening as opening, Closing as closing, Body as body}
use Rattle.cfi_unit.specs.declared.unit.Unit as U
use Rattle.cfi_unit.specs.declared.unit.Unit.TheVariants as V
use Rattle.cfi_unit.proofs.Context.{at_word}
use Rattle.cfi_unit.proofs.Events.{place_may}
use Rattle.cfi_unit.proofs.Others.{other_part}
use Rattle.cfi_unit.proofs.Sought.{nowhere, opening_lacks}
use Rattle.cfi_pending.specs.Opening as lean
use Rattle.cfi_pending.proofs.StartSteps.{stacked_of}
use Rattle.cfi_rules.proofs.Labels.{full_may_stand, place_stands}
use Rattle.cfi_rules.proofs.ListedRuns.{act_listed, admitted}
use Rattle.cfi_rules.proofs.Moves.{Arrived, SitesStand, Stage, most_at}
use Rattle.cfi_rules.proofs.Places.{PlaceFacts, at_opening, handler_is, nothing_inside, place_facts, prologue}
use Rattle.cfi_rules.proofs.RuleFacts.{unit_stands_in}
use Rattle.cfi_rules.proofs.StartKinds.{full_there, stands_there, start_there}
use Rattle.cfi_rules.proofs.Steps.{InOpens, InUnitNow, Inside, Now, Ready, are_sites, arrived, begins, full_opens, inside_kept, lean_opens, opens_at, starting, step_on, within}
use Rattle.cfi_confined.proofs.Moves.{Standing, moves, sites_of}
use Rattle.cfi_confined.proofs.Sites.{Went, low_sites, site_stands}
use Rattle.cfi_confined.proofs.Words.{Here, closing_here, handler_here, lean_opening_here, opening_here, unit_here}
use Rattle.cfi_confined.proofs.Writes.{writes}

-- an instruction that stands in the image is fetched where code is the image's
fetched_there : (image m : Memory) (at : ℕ) (instrs : List Instr) → IsCodeOf image m → Stand image at instrs → (k : ℕ) (i : Instr) → slice_get instrs k ≡ Some i →
    fetched m (at + 4 * k) ≡ Some i
fetched_there image m at instrs code stand k i is =
    let below = slice_get_within instrs k i is in
    let low = stand.low in let high = stand.high in
    ap decoded (read_same 4 image m (at + 4 * k) (λ j from to. code j (omega arith) (omega arith))) ∙ stand.words k i is

-- how many calls may be pending at a start
most_of : (p : Profile) (callee_saves : Bool) → p.callee_saves ≡ callee_saves → (start : Start) → (callee_saves ≡ false → start ≡ saved) → most_at start ≤ most_calls p
most_of p true saves fresh full = let most = ap (λ b. if b then MOST_PENDING + 1 else MOST_PENDING) saves in omega arith
most_of p true saves saved full = let most = ap (λ b. if b then MOST_PENDING + 1 else MOST_PENDING) saves in omega arith
most_of p false saves start full =
    let most = ap (λ b. if b then MOST_PENDING + 1 else MOST_PENDING) saves in
    let same = ap most_at (full refl) in omega arith

-- where a step ran, calls are pending after it with which the later steps come; after a stop none comes
calls_after : (turn : Turn) (later : List TakenStep) (M : List ℕ → Type 0) (C : List ℕ → List TakenStep → Type 0) → C [] [] →
    (turn ≡ Ran → (newer : List ℕ) × M newer × C newer later) → (newer : List ℕ) × (turn ≡ Ran → M newer) × C newer (if_ran turn later)
calls_after Ran later M C none on = let there = on refl in (there.0, (λ ran. there.1), there.2)
calls_after other later M C none on = ([], (λ ran. absurd (cc)), none)

-- an enter stands at a fresh start
enter_fresh : (start : Start) (unit : U.Unit) → may_stand start unit ≡ true → body unit ≡ body V.Enter → start ≡ fresh
enter_fresh fresh unit may is = refl
enter_fresh saved unit may is =
    let same : unit ≡ V.Enter = cc in
    let there : may_stand saved V.Enter ≡ true = subst (λ (u : U.Unit). may_stand saved u ≡ true) same may in absurd (cc)

module _ (p : Profile) (profile : IsProfile p) (image : Contents) (graph : GraphParts) (bytes : AreBytes image) (formed : IsWellFormed p image graph) where
  abbrev W : List ℕ
  W = code_words image.code

  abbrev Facts : Place → ℕ → Type 0
  Facts place at = PlaceFacts p profile image graph bytes formed place at

  handler_low : (a : ℕ) → is_handler a ≡ true → IsHandler a
  handler_low a is = elim (handler_is p profile image graph bytes formed a is) [
    | inl e ↦ (omega arith, omega arith)
    | inr (inl e) ↦ (omega arith, omega arith)
    | inr (inr e) ↦ (omega arith, omega arith)
  ]

  -- what is no handler stands from the opening on
  passes : (place : Place) (at pc : ℕ) → Facts place at → IsWordOf p place at pc → (place ≡ handler → ⊥) → START ≤ pc
  passes handler at pc facts word other = absurd (other refl)
  passes (opening entry) at pc facts word other = let start = facts.0 in let here = word.2 in omega arith
  passes closing at pc facts word other = let layout = laid_out p profile in let here = word.2 in omega arith
  passes (body unit) at pc facts word other = let layout = laid_out p profile in let low = facts.low in let here = word.2 in omega arith

  -- as a place may end, so may its words
  module _ (at pc : ℕ) where
    exits_past : (place : Place) → Facts place at → IsWordOf p place at pc → MayExit place → START ≤ pc
    exits_past handler facts word may = absurd may
    exits_past (opening entry) facts word may = absurd may
    exits_past closing facts word may = passes closing at pc facts word (λ e. absurd (cc))
    exits_past (body unit) facts word may = passes (body unit) at pc facts word (λ e. absurd (cc))

    unit_past : (unit : U.Unit) → Facts (body unit) at → IsWordOf p (body unit) at pc → p.units_from ≤ pc
    unit_past unit facts word = let low = facts.low in let here = word.2 in omega arith

    breaks_there : (place : Place) → Facts place at → IsWordOf p place at pc → MayBreak place → IsHandler pc ⊎ (p.units_from ≤ pc)
    breaks_there handler facts word may =
        let first = word.1 in let here = word.2 in
        let same : at ≡ pc = omega arith in
        inl (subst IsHandler same (handler_low at facts))
    breaks_there (opening entry) facts word may = absurd may
    breaks_there closing facts word may = absurd may
    breaks_there (body unit) facts word may = inr (unit_past unit facts word)

    faults_there : (place : Place) → Facts place at → IsWordOf p place at pc → MayFault place → p.units_from ≤ pc
    faults_there handler facts word may = absurd may
    faults_there (opening entry) facts word may = absurd may
    faults_there closing facts word may = absurd may
    faults_there (body unit) facts word may = unit_past unit facts word

    stops : (place : Place) → Facts place at → IsWordOf p place at pc → (turn : Turn) → MayEnd place pc turn → (turn ≡ Ran → START ≤ pc) → MayStop p pc turn
    stops place facts word Ran may on = on refl
    stops place facts word (Exit status) may on = exits_past place facts word may
    stops place facts word (Break a) may on = breaks_there place facts word may.1
    stops place facts word (LoadFault b a) may on = faults_there place facts word may.1
    stops place facts word (StoreFault b a) may on = absurd may
    stops place facts word (FetchFault b) may on = absurd may
    stops place facts word (Illegal b) may on = absurd may

  -- what a unit or the closing may call
  allowed : (at : ℕ) (unit : U.Unit) (h : Hart) → Facts (body unit) at → MayCall (body unit) at h → IsAllowed (calls_in graph.lines) (h.regs 17)
  allowed at unit h facts may = elim (cases_Option (calls_in graph.lines)) [
    | inl none ↦ subst (λ (o : Option (List ℕ)). IsAllowed o (h.regs 17)) (sym none) tt
    | inr (calls, some) ↦ subst (λ (o : Option (List ℕ)). IsAllowed o (h.regs 17)) (sym some)
        (act_listed calls (flow_of unit).test (flow_of unit).act h (admitted p profile image graph bytes formed calls some at unit facts.is) may)
  ]

  may_call : (place : Place) (at : ℕ) (h : Hart) → Facts place at → IsWordOf p place at h.pc → MayCall place at h → MayEcall p graph (Some Ecall) h.pc (h.regs 17)
  may_call handler at h facts word may = absurd may
  may_call (opening entry) at h facts word may = absurd may
  may_call closing at h facts word may = inr (may.0 ∙ ap (λ a. a + 4) facts, may.1)
  may_call (body unit) at h facts word may = let low = facts.low in let here = word.2 in inl (omega arith, allowed at unit h facts may)

  may_ecall : (place : Place) (at : ℕ) (h : Hart) → Facts place at → IsWordOf p place at h.pc → (i : Instr) → (i ≡ Ecall → MayCall place at h) →
      MayEcall p graph (Some i) h.pc (h.regs 17)
  may_ecall place at h facts word Ecall may = may_call place at h facts word (may refl)
  may_ecall place at h facts word other may = tt

  abbrev walk_of : ℕ → List ℕ → Registers → Walk
  walk_of at pending regs = record { at = at; pending = pending; regs = regs }

  -- what is known of a hart, and of its own part of the shadow stack, between two steps
  pub record Within (part : ℕ) (pending : List ℕ) (h : Hart) (m : Memory) : Type 0 where
    at : ℕ
    place : Place
    regs : Registers
    is : place_at p W at ≡ Some place
    few : length pending ≤ most_calls p
    inside : Inside p profile image graph bytes formed part place (walk_of at pending regs) h m

  -- changes outside of the own part keep it
  within_kept : (part : ℕ) (pending : List ℕ) (h : Hart) (m m' : Memory) → SameOn part (part + PART_SIZE) m m' → Within part pending h m → Within part pending h m'
  within_kept part pending h m m' same w = record {
    at = w.at;
    place = w.place;
    regs = w.regs;
    is = w.is;
    few = w.few;
    inside = inside_kept p profile image graph bytes formed part m m' same w.place (walk_of w.at pending w.regs) h w.inside;
  }

  -- the word at which a hart is
  pub record Worded (part at : ℕ) (pending : List ℕ) (r : Registers) (h : Hart) (place : Place) : Type 0 where
    pub stacked : List ℕ
    pub here : Here p part (loaded image) at stacked r h place
    pub standing : (newer : List ℕ) (v : ℕ) → Standing p profile image graph bytes formed at pending stacked r newer v place
    pub full : p.callee_saves ≡ false → stacked ≡ pending
    pub lean : place ≡ body V.Enter → StandsBy fresh r pending stacked × (r 1 < 2 ^ 64)
    pub call : here.instr ≡ Ecall → MayCall place at h

  module _ (part : ℕ) (low : part < 2 ^ 32) (at : ℕ) (small : at < 2 ^ 32) (pending : List ℕ) (r : Registers) (h : Hart) (m : Memory) where
    abbrev WordIs : Place → Type 0
    WordIs place = Worded part at pending r h place

    opening_worded : (entry : ℕ) → Facts (opening entry) at → pending ≡ [] → Here p part (loaded image) OPENING [] r h (opening entry) → WordIs (opening entry)
    opening_worded entry facts none there =
        let here : Here p part (loaded image) at [] r h (opening entry) =
        subst (λ (a : ℕ). Here p part (loaded image) a [] r h (opening entry)) (sym facts.0) there in
        record {
          stacked = [];
          here = here;
          standing = λ newer v. tt;
          full = λ saves. sym none;
          lean = λ e. absurd (cc);
          call = λ e. absurd (nowhere false (opening_instrs p entry) here.word Ecall refl (opening_lacks false p profile entry) (here.is ∙ ap Some e));
        }

    opens_worded : (entry : ℕ) → Facts (opening entry) at → pending ≡ [] → InOpens p profile image graph bytes formed part h m → WordIs (opening entry)
    opens_worded entry facts none (full_opens full i) =
        let may = full_may_stand p profile image graph bytes formed full entry at facts in
        opening_worded entry facts none (opening_here p full part low (loaded image) r h entry may.3 i)
    opens_worded entry facts none (lean_opens lean_is several this i) =
        let fits : Fits (V.LinkCall entry) (lean.call_at several) = subst (λ (a : ℕ). Reaches a entry) this.call facts.1.reaches in
        opening_worded entry facts none (lean_opening_here p part (loaded image) r h entry several this fits i)

    abbrev kind : Start
    kind = start_there p profile image graph bytes formed at

    full_stacked : (start : Start) (stacked : List ℕ) → start ≡ saved → StandsBy start r pending stacked → stacked ≡ pending
    full_stacked saved stacked is stands = stands
    full_stacked fresh stacked is stands = absurd (cc)

    link_low : (sites stacked : List ℕ) → SitesStand p profile image graph bytes formed sites → StandsBy fresh r sites stacked → r 1 < 2 ^ 64
    link_low [] stacked stand stands = absurd stands
    link_low (site ∷ older) stacked stand stands =
        let low = (site_stands p profile image graph bytes formed site older stand).small in let newest = stands.0 in omega arith

    unit_worded : (unit : U.Unit) → place_at p W at ≡ Some (body unit) → InUnitNow p profile image graph bytes formed part unit (walk_of at pending r) h m → WordIs (body unit)
    unit_worded unit is i =
        let here = place_facts p profile image graph bytes formed at (body unit) is in
        let may_here = stands_there p profile image graph bytes formed at unit here.is in
        let there = unit_here p part (loaded image) at i.stacked r h small low unit m (unit_stands_in p image graph formed at unit here.is) here.begins.fits i.word in
        let may : MayStand p (body unit) at i.stacked =
        (here.begins.fits, stacked_of kind r pending i.stacked i.stands (are_sites p profile image graph bytes formed pending i.stage.sites)) in
        record {
          stacked = i.stacked;
          here = there;
          standing = λ newer v. record { start = kind; may = may_here; stands = i.stands; sites = i.stage.sites };
          full = λ saves. full_stacked kind i.stacked (full_there p profile image graph bytes formed saves at) i.stands;
          lean = λ e.
              let stands : StandsBy fresh r pending i.stacked =
              subst (λ (start : Start). StandsBy start r pending i.stacked) (enter_fresh kind unit may_here e) i.stands in
              (stands, link_low pending i.stacked i.stage.sites stands);
          call = λ e. place_may p part (loaded image) at i.stacked r h m there.word there.pc (body unit) may i.word (there.is ∙ ap Some e);
        }

    pub worded : (place : Place) → place_at p W at ≡ Some place → Inside p profile image graph bytes formed part place (walk_of at pending r) h m → WordIs place
    worded handler is i =
        let there = handler_here p part (loaded image) at pending r h small low i in
        record {
          stacked = pending;
          here = there;
          standing = λ newer v. tt;
          full = λ saves. refl;
          lean = λ e. absurd (cc);
          call = λ e. place_may p part (loaded image) at pending r h m there.word there.pc handler tt i (there.is ∙ ap Some e);
        }
    worded (opening entry) is i = opens_worded entry (place_facts p profile image graph bytes formed at (opening entry) is) i.0 i.1
    worded closing is i =
        let there = closing_here p part (loaded image) at pending r h small low i in
        record {
          stacked = pending;
          here = there;
          standing = λ newer v. tt;
          full = λ saves. refl;
          lean = λ e. absurd (cc);
          call = λ e. place_may p part (loaded image) at pending r h m there.word there.pc closing tt i (there.is ∙ ap Some e);
        }
    worded (body unit) is i = unit_worded unit is i

  -- one step of a hart from inside of a place, and then what is owed
  module _ (ordered : IsGraph graph) (hart : ℕ) (below : hart < p.harts) (pending : List ℕ) (h : Hart) (s : Shared) (going : last_exit s.events ≡ None)
      (code : IsCodeOf (loaded image) s.memory) (w : Within (part_of hart) pending h s.memory) (Next : List ℕ → After → Type 0)
      (go_on : (newer : List ℕ) (a : After) (stacked : List ℕ) → Context (part_of hart) (loaded image) s.memory stacked a.shared →
      Within (part_of hart) newer a.hart a.shared.memory → Next newer a) where
    facts : Facts w.place w.at
    facts = place_facts p profile image graph bytes formed w.at w.place w.is

    stand : Stand (loaded image) w.at (place_instrs p w.place w.at)
    stand = place_stands p profile image graph bytes formed w.place w.at facts

    abbrev walk : Walk
    walk = walk_of w.at pending w.regs

    pub word_is : Worded (part_of hart) w.at pending w.regs h w.place
    word_is =
        let laid = laid_out p profile in let parts = laid.most in let low = stand.low in let high = stand.high in
        worded (part_of hart) (omega arith) w.at (omega arith) pending w.regs h s.memory w.place w.is w.inside

    abbrev there : Here p (part_of hart) (loaded image) w.at word_is.stacked w.regs h w.place
    there = word_is.here

    -- where a step went that ran, and what is known there: a handler does not run on
    record Gone (a : After) : Type 0 where
      newer : List ℕ
      few : length newer ≤ most_calls p
      other : w.place ≡ handler → ⊥
      went : Went p profile image graph bytes formed w.at pending w.regs newer a.hart.pc w.place
      next : Next newer a

    few_there : (v : ℕ) (newer : List ℕ) (place : Place) (start : Start) → place_at p W v ≡ Some place → Stage p profile image graph bytes formed place start v newer →
        (v < START → newer ≡ pending) → length newer ≤ most_calls p
    few_there v newer handler start is stage low =
        let handled = handler_low v (place_facts p profile image graph bytes formed v handler is) in
        let same = ap length (low handled.1) in let few = w.few in omega arith
    few_there v newer (opening entry) start is stage low = absurd stage
    few_there v newer closing start is stage low = let none = ap length stage.1 in omega arith
    few_there v newer (body unit) start is stage low =
        let most = stage.1.most in
        let all = most_of p p.callee_saves refl start (λ full. sym stage.0 ∙ full_there p profile image graph bytes formed full v) in omega arith

    abbrev InsideHere : Place → Walk → After → Type 0
    InsideHere place x a = Inside p profile image graph bytes formed (part_of hart) place x a.hart a.shared.memory

    gone_inside : (a : After) (stacked : List ℕ) → Context (part_of hart) (loaded image) s.memory stacked a.shared → w.at < a.hart.pc → InsideHere w.place walk a → Gone a
    gone_inside a stacked c low i =
        let word = (step_on p profile image graph bytes formed hart below a.hart a.shared c.going c.kept.code (λ x b. Unit {0}) (λ x b sites d now. tt) walk w.place w.is i).word in
        let size = word.1 in let here = word.2 in
        record {
          newer = pending;
          few = w.few;
          other = λ is. let stays : a.hart.pc ≡ w.at = subst (λ (q : Place). InsideHere q walk a) is i in omega arith;
          went = inl (nothing_inside p profile image graph bytes formed w.place w.at a.hart.pc facts low (omega arith), refl);
          next = go_on pending a stacked c (record { at = w.at; place = w.place; regs = w.regs; is = w.is; few = w.few; inside = i });
        }

    gone_to : (a : After) (stacked : List ℕ) → Context (part_of hart) (loaded image) s.memory stacked a.shared → (start : Start) (newer : List ℕ) →
        Arrived p profile image graph bytes formed w.place walk start a.hart.pc newer → Ready p profile image graph bytes formed (part_of hart) start newer a.hart a.shared.memory → Gone a
    gone_to a stacked c start newer to ready =
        let went : Went p profile image graph bytes formed w.at pending w.regs newer a.hart.pc w.place = inr (to.settled.place, to.settled.is, to.leads) in
        let few = few_there a.hart.pc newer to.settled.place start to.settled.is to.settled.stage
        (λ low. low_sites p profile image graph bytes formed w.at pending w.regs newer a.hart.pc low w.place w.is
        (sites_of p profile image graph bytes formed w.at pending word_is.stacked w.regs newer a.hart.pc w.place (word_is.standing newer a.hart.pc)) went) in
        record {
          newer = newer;
          few = few;
          other = λ is. subst (λ (q : Place). PlaceLeads p (by_class graph.lines) q w.at pending w.regs newer a.hart.pc) is to.leads;
          went = went;
          next = go_on newer a stacked c (record {
            at = a.hart.pc;
            place = to.settled.place;
            regs = a.hart.regs;
            is = to.settled.is;
            few = few;
            inside = (begins p profile image graph bytes formed hart below a.hart a.shared c.going c.kept.code to.settled.place start newer to.settled.is to.settled.stage ready).0;
          });
        }

    same_place : (x : Walk) (place : Place) → x ≡ walk → place_at p W x.at ≡ Some place → place ≡ w.place
    same_place x place same is = same_Some place w.place (sym is ∙ ap (λ (y : Walk). place_at p W y.at) same ∙ w.is)

    abbrev Rest : Walk → After → Type 0
    Rest x a = x ≡ walk → Gone a

    gone : (x : Walk) (a : After) (stacked : List ℕ) → Context (part_of hart) (loaded image) s.memory stacked a.shared →
        Now p profile image graph bytes formed (part_of hart) (Some x) a.hart a.shared.memory → Rest x a
    gone x a stacked c (starting none e mine) same = absurd (cc)
    gone x a stacked c (within y place b is low i) same =
        let here : y ≡ walk = sym (same_Some x y b) ∙ same in
        let place_is = same_place y place here is in
        gone_inside a stacked c (subst (λ (z : Walk). z.at < a.hart.pc) here low)
        (subst (λ (q : Place). InsideHere q walk a) place_is (subst (λ (z : Walk). InsideHere place z a) here i))
    gone x a stacked c (arrived y place start newer b is to ready) same =
        let here : y ≡ walk = sym (same_Some x y b) ∙ same in
        let place_is = same_place y place here is in
        gone_to a stacked c start newer
        (subst (λ (q : Place). Arrived p profile image graph bytes formed q walk start a.hart.pc newer) place_is
        (subst (λ (z : Walk). Arrived p profile image graph bytes formed place z start a.hart.pc newer) here to)) ready

    abbrev its : Instr
    its = there.instr

    abbrev left : After
    left = exec p its h s

    abbrev after : After
    after = step p h s

    begun : (place : Place) × (place_at p W w.at ≡ Some place) × IsWordOf p place w.at h.pc × MayEnd place h.pc after.turn
    begun =
        let b = (step_on p profile image graph bytes formed hart below h s going code Rest gone walk w.place w.is w.inside).begun in
        (b.0, b.1, b.2, b.3)

    word : IsWordOf p w.place w.at h.pc
    word = subst (λ (q : Place). IsWordOf p q w.at h.pc) (same_Some begun.0 w.place (sym begun.1 ∙ w.is)) begun.2

    may_end : MayEnd w.place h.pc after.turn
    may_end = subst (λ (q : Place). MayEnd q h.pc after.turn) (same_Some begun.0 w.place (sym begun.1 ∙ w.is)) begun.3

    abbrev Onward : After → Type 0
    Onward a = (newer : List ℕ) × ((length newer ≤ most_calls p) × Moves p graph (fetched s.memory) (Some its) h.pc pending a.hart.pc newer) × Next newer a

    abbrev pub Owed : After → Type 0
    Owed a =
        MayStop p h.pc a.turn × Writes p.callee_saves (part_of hart) pending s.memory a.shared.memory × (a.turn ≡ Ran → Onward a)

    abbrev Given : After → Type 0
    Given a = MayEnd w.place h.pc a.turn × (a.turn ≡ Ran → Gone a)

    given : Given after
    given = (may_end, λ ran. (step_on p profile image graph bytes formed hart below h s going code Rest gone walk w.place w.is w.inside).on ran refl)

    onward : left.turn ≡ Ran → Gone left → (START ≤ h.pc) × Onward left
    onward t g = (
      passes w.place w.at h.pc facts word g.other,
      (
        g.newer,
        (
          g.few,
          moves p profile image graph bytes formed ordered (part_of hart) w.at pending word_is.stacked w.regs w.place w.is h s (fetched s.memory)
              (fetched_there (loaded image) s.memory w.at (place_instrs p w.place w.at) code stand) there.word there.pc g.newer its there.fact t
              (word_is.standing g.newer left.hart.pc) g.went,
        ),
        g.next,
      ),
    )

    left_owed : Given left → Owed left
    left_owed g =
        let on : left.turn ≡ Ran → (START ≤ h.pc) × Onward left = λ t. onward t (g.1 t) in
        let written = writes p (part_of hart) (omega arith) (loaded image) w.at pending word_is.stacked w.regs h s w.place word_is.full word_is.lean there.word its there.fact in (
          stops w.at h.pc w.place facts word left.turn g.0 (λ t. (on t).0),
          written.here,
          λ t. (on t).1,
        )

    pub owed : Owed after
    owed =
        let context : Context (part_of hart) (loaded image) s.memory [] s =
        record { going = going; kept = record { code = code; held = tt; frame = λ k from out. refl } } in
        at_word (λ (a : After). Given a → Owed a) p h context stand there.word its there.is there.pc left_owed given

    pub its_code : fetched s.memory h.pc ≡ Some there.instr
    its_code = ap (fetched s.memory) there.pc ∙ fetched_there (loaded image) s.memory w.at (place_instrs p w.place w.at) code stand there.word there.instr there.is

    pub its_call : MayEcall p graph (Some there.instr) h.pc (h.regs 17)
    its_call = may_ecall w.place w.at h facts word there.instr word_is.call

  module _ (ordered : IsGraph graph) (count : ℕ) (may_run : MayRun p count) where
    -- what is known of all harts between two steps
    record Known (pending : Pending) (hs : Harts) (s : Shared) : Type 0 where
      going : last_exit s.events ≡ None
      code : IsCodeOf (loaded image) s.memory
      each : (k : ℕ) → k < count → Within (part_of k) (pending k) (hs k) s.memory

    known_disturbed : (pending : Pending) (hs : Harts) (s : Shared) (cs : List ByteChange) → AllByRecursion IsDataChange cs → Known pending hs s → Known pending hs (disturbed s cs)
    known_disturbed pending hs s cs low known = record {
      going = known.going;
      code = λ k from to. changed_above s.memory cs low k (omega arith) ∙ known.code k from to;
      each = λ k below.
          within_kept (part_of k) (pending k) (hs k) s.memory (changed s.memory cs) (λ j from to. changed_above s.memory cs low j (omega arith)) (known.each k below);
    }

    -- after a step of hart `k` the others are where they were, and their parts are as before
    known_after : (pending : Pending) (hs : Harts) (k : ℕ) → k < count → (s : Shared) → Known pending hs s → (newer : List ℕ) (a : After) (stacked : List ℕ) →
        Context (part_of k) (loaded image) s.memory stacked a.shared → Within (part_of k) newer a.hart a.shared.memory →
        Known (with_pending pending k newer) (with_hart hs k a.hart) a.shared
    known_after pending hs k below s known newer a stacked c w = record {
      going = c.going;
      code = c.kept.code;
      each = λ j low. elim (cases_eq j k) [
        | inl same ↦ rw (eq-eqb j k same) (subst (λ (i : ℕ). Within (part_of i) newer a.hart a.shared.memory) (sym same) w)
        | inr other ↦ rw (ne_eqb j k other)
            (within_kept (part_of j) (pending j) (hs j) s.memory a.shared.memory
            (other_part (part_of k) (part_of j) s.memory a.shared.memory (omega arith) (omega arith) (λ e. other (omega arith)) (omega arith) c.kept.frame)
            (known.each j low))
      ];
    }

    runs : (steps : List HartStep) → AreStepsOf count steps → (pending : Pending) (hs : Harts) (s : Shared) → Known pending hs s → ConfinedAlong p graph pending (steps_taken p hs s steps)
    unfolding steps_taken
    runs [] low pending hs s known = tt
    runs (t ∷ rest) low pending hs s known =
        let below = low.0.hart in
        let most = may_run.most in
        let now = disturbed s t.changes in
        let h = hs t.hart in
        let there = known_disturbed pending hs s t.changes low.0.changes known in
        let here = there.each t.hart below in
        let after = step p h now in
        let Along : List ℕ → List TakenStep → Type 0 = λ newer taken. ConfinedAlong p graph (with_pending pending t.hart newer) taken in
        let Next : List ℕ → After → Type 0 = λ newer a. Along newer (steps_taken p (with_hart hs t.hart a.hart) a.shared rest) in
        let go_on : (newer : List ℕ) (a : After) (stacked : List ℕ) → Context (part_of t.hart) (loaded image) now.memory stacked a.shared →
        Within (part_of t.hart) newer a.hart a.shared.memory → Next newer a =
        λ newer a stacked c w. runs rest low.1 (with_pending pending t.hart newer) (with_hart hs t.hart a.hart) a.shared
        (known_after pending hs t.hart below now there newer a stacked c w) in
        let code = its_code ordered t.hart (omega arith) (pending t.hart) h now there.going there.code here Next go_on in
        let call = its_call ordered t.hart (omega arith) (pending t.hart) h now there.going there.code here Next go_on in
        let owes = owed ordered t.hart (omega arith) (pending t.hart) h now there.going there.code here Next go_on in
        let (newer, leads, later) =
        calls_after after.turn (steps_taken p (with_hart hs t.hart after.hart) after.shared rest)
        (λ newer. (length newer ≤ most_calls p) × Moves p graph (fetched now.memory) (fetched now.memory h.pc) h.pc (pending t.hart) after.hart.pc newer) Along tt (rw code owes.2) in
        (newer, record { ends = owes.0; calls = rw code call; writes = owes.1; leads = leads }, later)

    start_known : (hs : Harts) (s : Shared) → MayStart image count hs s → Known (λ k. []) hs s
    start_known hs s start =
        let entry = (prologue p profile image graph bytes formed).0 in
        let most = may_run.most in
        record {
          going = start.going;
          code = start.code;
          each = λ k below. record {
            at = (hs k).pc;
            place = opening entry;
            regs = (hs k).regs;
            is = ap (place_at p W) (start.pc k below) ∙ at_opening p profile image graph bytes formed;
            few = omega arith;
            inside = (
              refl,
              opens_at p profile image graph bytes formed k (omega arith) (hs k) s start.going start.code profile (ap part_of (sym (start.number k below))) (start.pc k below),
            );
          };
        }

pub well_formed_confined : WellFormedIsConfined
well_formed_confined p image graph profile bytes ordered formed count may_run harts s start steps low =
    runs p profile image graph bytes formed ordered count may_run steps low (λ k. []) harts s (start_known p profile image graph bytes formed ordered count may_run harts s start)
