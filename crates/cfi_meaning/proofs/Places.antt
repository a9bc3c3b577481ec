-- From the state at a place the words before its unit, if any stand between, lead to that, whose step is tame.
use Rattle.std.proofs.Common.{◌≡◌, ℕ, suc, ◌+◌, ◌-◌, ◌*◌, ◌^◌, ◌<◌, ◌==◌, inl, inr, ◌≤◌, Bool, true, false, List, [], ◌∷◌, length, Option, Some, None, lit≤, refl, sym, ap, subst, ◌∙◌, arith}
use Rattle.std.specs.Prelude.{slice_get}
use Rattle.std.proofs.lemmas.Bool.{cases_Bool, cases_lt, eqb-true, or_cases, true≢false}
use Rattle.cfi_meaning.proofs.Prelude.{GraphVersion, OneLabel, TwoLabels, CalleeSaves, Contents, loaded, Memory, Profile, is_reserved, Registers, Ran, count, is_end, item_of, has_leaves, enters, in_leaf, arrival, entered_in, gate, word, Shifts, Short, Long, AsksSite, SameRegisters, Stand, Asks, is_lean, Fits, instrs_of, word_count, stands_in, HoldsMask, Own, OwnAfter, own_step, OwnRuns, words_along, IsTame, NamesNoReserved, TameStep, code_words, unit_at, IsAccepted, Choice, behind, is_later_at, lead, lead_unit, unit_here, IsImageOf, IsPlace, home_by, saved_by, ComesToPlace, at_unit, shown}
use Rattle.rv_image.proofs.Profiles.{laid_out}
use Rattle.cfi_unit.specs.declared.unit.Unit as U
use Rattle.cfi_unit.specs.declared.unit.Unit.TheVariants as V
use Rattle.cfi_unit.proofs.EffectRows.{full_asked}
use Rattle.cfi_rules.proofs.Places.{unit_facts}
use Rattle.cfi_rules.proofs.RuleFacts.{unit_stands_in}
use Rattle.cfi_rules.proofs.Standing.{unit_stands}
use Rattle.cfi_writer.proofs.Grouping.{later_behind, later_below, later_store, other_first}
use Rattle.cfi_writer.proofs.LeadWords.{IsLeadWord, from_lead, labels_there, lead_few, over, saver, saver_last, side_word, words_in, lead_word_count}
use Rattle.cfi_writer.proofs.Standing.{gate_after, word_is, arrival_saves}
use Rattle.cfi_writer.proofs.WholeCode.{written_units}
use Rattle.cfi_meaning.specs.PlaceLaws as law
use Rattle.cfi_meaning.proofs.Names.{place_free, store_is_place}
use Rattle.cfi_meaning.proofs.Prologue.{formed, written_graph}

-- where callers save sites the machine is at the place's gate with all sites; else it is at its word
full_by : (version : GraphVersion) (gate word : ℕ) (inside : Bool) (o : Own) → has_leaves version ≡ false → o.pc ≡ gate →
    record o { pc = home_by version gate word; pending = saved_by version inside o.pending } ≡ o
full_by OneLabel gate word inside o full at = ap (λ (a : ℕ). record o { pc = a }) (sym at)
full_by TwoLabels gate word inside o full at = ap (λ (a : ℕ). record o { pc = a }) (sym at)
full_by CalleeSaves gate word inside o full at = absurd (cc)

pub full_shown : (m : Choice) (k : ℕ) (o : Own) → has_leaves m.layout.closed.version ≡ false → o.pc ≡ gate m.layout k → shown m k o ≡ o
full_shown m k o = full_by m.layout.closed.version (gate m.layout k) (word m.layout k) (in_leaf (entered_in m.layout) k) o

lean_home : (version : GraphVersion) (gate word : ℕ) → has_leaves version ≡ true → home_by version gate word ≡ word
lean_home OneLabel gate word leaves = absurd (cc)
lean_home TwoLabels gate word leaves = absurd (cc)
lean_home CalleeSaves gate word leaves = refl

lean_shown : (m : Choice) (k : ℕ) (o : Own) → has_leaves m.layout.closed.version ≡ true → at_unit m k o ≡ shown m k o
lean_shown m k o leaves =
    ap (λ (a : ℕ). record (shown m k o) { pc = a }) (sym (lean_home m.layout.closed.version (gate m.layout k) (word m.layout k) leaves))

-- a tame step tells what its unit asks: a pending site, and of the registers what they hold
tame_site : (image : Memory) (u : U.Unit) (pending : List ℕ) (r : Registers) → IsTame image u pending r → AsksSite u pending
tame_site image V.Return [] r tame = absurd tame
tame_site image V.Return (site ∷ pending) r tame = omega arith
tame_site image other pending r tame = tt

lean_asks : (image : Memory) (u : U.Unit) (pending : List ℕ) (own r : Registers) → is_lean u ≡ true → IsTame image u pending own → SameRegisters own r →
    HoldsMask true r → Asks u r
lean_asks image (V.Stores Shifts rs1 imm members) pending own r lean tame same held = absurd (cc)
lean_asks image (V.Stores Short rs1 imm members) pending own r lean tame same held = held
lean_asks image (V.Stores Long rs1 imm members) pending own r lean tame same held = held
lean_asks image V.Enter pending own r lean tame same held = subst (λ (v : ℕ). v < 2 ^ 64) (sym (same.same 1 refl)) tame.2
lean_asks image other pending own r lean tame same held = tt

asks_by : (masked : Bool) (image : Memory) (u : U.Unit) (pending : List ℕ) (own r : Registers) → stands_in masked u ≡ true → IsTame image u pending own →
    SameRegisters own r → HoldsMask masked r → Asks u r
asks_by true image u pending own r stands tame same held = lean_asks image u pending own r stands tame same held
asks_by false image u pending own r stands tame same held = full_asked u r stands

-- a word of a side names no reserved register, is tame and does nothing but go on
pub lead_free : (o : Option ℕ) → NamesNoReserved (lead_unit o)
lead_free None r named =
    elim (or_cases (0 == r) (0 == r) named) [
      | inl first ↦ ap is_reserved (sym (eqb-true 0 r first))
      | inr second ↦ ap is_reserved (sym (eqb-true 0 r second))
    ]
lead_free (Some label) r named = absurd (cc)

pub lead_tame : (image : Memory) (o : Option ℕ) (pending : List ℕ) (regs : Registers) → IsTame image (lead_unit o) pending regs
lead_tame image None pending regs = lit≤ tt
lead_tame image (Some label) pending regs = tt

pub goes_on : (p : Profile) (label : Option ℕ) (o : Own) → own_step p o (lead_unit label) ≡ record { turn = Ran; state = record o { pc = o.pc + 4 } }
goes_on p None o = refl
goes_on p (Some label) o = refl

-- where callers save sites, each word before a unit is that of a side
abbrev OfSide : U.Unit → Type 0
OfSide u = (label : Option ℕ) × (lead_unit label ≡ u)

abbrev AreOfSides : List U.Unit → Type 0
AreOfSides us = (j : ℕ) (u : U.Unit) → slice_get us j ≡ Some u → OfSide u

of_side : (m : Choice) (k j : ℕ) (u : U.Unit) → has_leaves m.layout.closed.version ≡ false → IsLeadWord m k j u → OfSide u
of_side m k j u full (side_word i o there at target same) = (o, sym same)
of_side m k j u full (over leaves saves at same) = absurd (true≢false (sym leaves ∙ full))
of_side m k j u full (saver leaves saves last same) = absurd (true≢false (sym leaves ∙ full))

words_led : (us : List U.Unit) → AreOfSides us → (words_along us ≡ length us) × (words_in us ≡ length us)
words_led [] of = (refl, refl)
words_led (v ∷ us) of =
    let (label, same) = of 0 v refl in
    let size : word_count v ≡ 1 = ap word_count (sym same) ∙ lead_word_count label in
    let (along, inside) = words_led us (λ j w get. of (suc j) w get) in
    (omega arith, omega arith)

record Quiet (p : Profile) (image : Memory) (u : U.Unit) (o : Own) : Type 0 where
  label : Option ℕ
  same : lead_unit label ≡ u
  step : TameStep p.callee_saves image u o

runs_led : (p : Profile) (image : Memory) (us : List U.Unit) (o : Own) → ((j : ℕ) (u : U.Unit) → slice_get us j ≡ Some u → Quiet p image u (record o { pc = o.pc + 4 * j })) →
    OwnRuns p image us o (record o { pc = o.pc + 4 * length us })
runs_led p image [] o each = let same : o.pc + 4 * 0 ≡ o.pc = omega arith in ap (λ (a : ℕ). record o { pc = a }) same
runs_led p image (u ∷ us) o each =
    let first : o.pc + 4 * 0 ≡ o.pc = omega arith in
    let here = each 0 u refl in
    let tame : TameStep p.callee_saves image u o = subst (λ (a : ℕ). TameStep p.callee_saves image u (record o { pc = a })) first here.step in
    let does : own_step p o u ≡ record { turn = Ran; state = record o { pc = o.pc + 4 } } = ap (own_step p o) (sym here.same) ∙ goes_on p here.label o in
    let last : o.pc + 4 + 4 * length us ≡ o.pc + 4 * length (u ∷ us) = omega arith in
    let rest = runs_led p image us (record o { pc = o.pc + 4 })
    (λ j w get.
    let there : o.pc + 4 * suc j ≡ o.pc + 4 + 4 * j = omega arith in
    subst (λ (a : ℕ). Quiet p image w (record o { pc = a })) there (each (suc j) w get)) in (
      tame,
      ap (λ (a : OwnAfter). a.turn) does,
      subst (λ (a : OwnAfter). OwnRuns p image us a.state (record o { pc = o.pc + 4 * length (u ∷ us) })) (sym does)
          (subst (λ (a : ℕ). OwnRuns p image us (record o { pc = o.pc + 4 }) (record o { pc = a })) last rest),
    )

module _ (m : Choice) (image : Contents) (of : IsImageOf m image) where
  -- a unit that is written stands
  stands_here : (a : ℕ) (u : U.Unit) → unit_at m.layout.profile (code_words image.code) a ≡ Some u → Fits u a × Stand (loaded image) a (instrs_of u a)
  stands_here a u e =
      let p = m.layout.profile in
      let here = unit_facts p of.accepted.profile image (written_graph m image of) of.bytes (formed m image of) a u e in
      (here.begins.fits, unit_stands p (laid_out p of.accepted.profile) image of.bytes a u here)

  version_here : (a : ℕ) (u : U.Unit) → unit_at m.layout.profile (code_words image.code) a ≡ Some u → stands_in m.layout.profile.callee_saves u ≡ true
  version_here a u e = unit_stands_in m.layout.profile image (written_graph m image of) (formed m image of) a u e

  -- and its step is one that the machine keeps where it is tame and names no reserved register
  pub steps_there : (a : ℕ) (u : U.Unit) (o : Own) → unit_at m.layout.profile (code_words image.code) a ≡ Some u → a ≡ o.pc → NamesNoReserved u →
      IsTame (loaded image) u o.pending o.regs → TameStep m.layout.profile.callee_saves (loaded image) u o
  steps_there a u o written at free tame =
      let here = stands_here a u written in
      let version = version_here a u written in
      record {
        fits = subst (Fits u) at here.0;
        stands = subst (λ (n : ℕ). Stand (loaded image) n (instrs_of u n)) at here.1;
        free = free;
        some = tame_site (loaded image) u o.pending o.regs tame;
        leaves = λ callee. subst (λ (masked : Bool). stands_in masked u ≡ true) callee version;
        asks = λ r same held. asks_by m.layout.profile.callee_saves (loaded image) u o.pending o.regs r version tame same held;
        tame = tame;
      }

  unit_written : (k : ℕ) → k < count m.layout.program → is_later_at m k ≡ false →
      unit_at m.layout.profile (code_words image.code) (word m.layout k) ≡ Some (unit_here m k)
  unit_written k below first =
      subst (λ (ws : List ℕ). unit_at m.layout.profile ws (word m.layout k) ≡ Some (unit_here m k)) (sym of.code)
      ((written_units m of.accepted).own k below first)

  pub lead_written : (k j : ℕ) (u : U.Unit) → k < count m.layout.program → slice_get (lead m k) j ≡ Some u →
      unit_at m.layout.profile (code_words image.code) (gate m.layout k + 4 * j) ≡ Some u
  lead_written k j u below some =
      subst (λ (ws : List ℕ). unit_at m.layout.profile ws (gate m.layout k + 4 * j) ≡ Some u) (sym of.code)
      ((written_units m of.accepted).led k j u below some)

  -- where callees save sites, what saves those of the calls that enter a place is its last word before the unit
  pub saver_written : (k : ℕ) → k < count m.layout.program → has_leaves m.layout.closed.version ≡ true → enters (entered_in m.layout) k ≡ true →
      (unit_at m.layout.profile (code_words image.code) (arrival m.layout k) ≡ Some V.Enter) × (arrival m.layout k + 20 ≡ word m.layout k)
  saver_written k below leaves saves =
      let (j, is) = saver_last m (labels_there m of.accepted) leaves k saves in
      let behind = is.behind in
      let own = word_is m of.accepted k in
      let arrives = arrival_saves m.layout.closed.version (gate m.layout k) (word m.layout k) (enters (entered_in m.layout) k) leaves saves in
      let at : gate m.layout k + 4 * j ≡ arrival m.layout k = omega arith in
      (subst (λ (a : ℕ). unit_at m.layout.profile (code_words image.code) a ≡ Some V.Enter) at (lead_written k j V.Enter below is.there), omega arith)

  -- a place that has a unit, whose step is tame
  module _ (k : ℕ) (o : Own) (place : IsPlace m k) (first : is_later_at m k ≡ false) (at : o.pc ≡ gate m.layout k)
      (tame : IsTame (loaded image) (unit_here m k) (shown m k o).pending o.regs) where
    unit_step : TameStep m.layout.profile.callee_saves (loaded image) (unit_here m k) (at_unit m k o)
    unit_step = steps_there (word m.layout k) (unit_here m k) (at_unit m k o) (unit_written k place.below first) refl (place_free m of.accepted k place first) tame

    -- where callers save sites
    module _ (full : has_leaves m.layout.closed.version ≡ false) where
      of_sides : AreOfSides (lead m k)
      of_sides j u get = of_side m k j u full (from_lead m k j u get)

      lead_step : (j : ℕ) (u : U.Unit) → slice_get (lead m k) j ≡ Some u → Quiet m.layout.profile (loaded image) u (record o { pc = o.pc + 4 * j })
      lead_step j u get =
          let (label, same) = of_sides j u get in
          let there : gate m.layout k + 4 * j ≡ o.pc + 4 * j = ap (λ (a : ℕ). a + 4 * j) (sym at) in
          record {
            label = label;
            same = same;
            step = steps_there (gate m.layout k + 4 * j) u (record o { pc = o.pc + 4 * j }) (lead_written k j u place.below get) there
                (subst NamesNoReserved same (lead_free label))
                (subst (λ (v : U.Unit). IsTame (loaded image) v o.pending o.regs) same (lead_tame (loaded image) label o.pending o.regs));
          }

      unit_is : record o { pc = word m.layout k } ≡ at_unit m k o
      unit_is = ap (λ (s : Own). record s { pc = word m.layout k }) (sym (full_shown m k o full at))

      full_comes : ComesToPlace m image k o
      full_comes =
          let behind_gate = word_is m of.accepted k in
          let (along, inside) = words_led (lead m k) of_sides in
          let next : o.pc + 4 * length (lead m k) ≡ word m.layout k = omega arith in
          let few = lead_few m k full in
          let runs : OwnRuns m.layout.profile (loaded image) (lead m k) o (record o { pc = word m.layout k }) =
          subst (λ (a : ℕ). OwnRuns m.layout.profile (loaded image) (lead m k) o (record o { pc = a })) next
          (runs_led m.layout.profile (loaded image) (lead m k) o lead_step) in
          record {
            path = lead m k;
            few = omega arith;
            none = λ leaves. absurd (true≢false (sym leaves ∙ full));
            leads =
                subst (λ (s : Own). OwnRuns m.layout.profile (loaded image) (lead m k) s (at_unit m k o)) (sym (full_shown m k o full at))
                (subst (OwnRuns m.layout.profile (loaded image) (lead m k) o) unit_is runs);
            step = unit_step;
          }

    pub comes : ComesToPlace m image k o
    comes =
        elim (cases_Bool (has_leaves m.layout.closed.version)) [
          | inl leaves ↦ record { path = []; few = omega arith; none = λ callee. refl; leads = lean_shown m k o leaves; step = unit_step }
          | inr full ↦ full_comes full
        ]

pub place_runs : law.PlaceRuns
place_runs m image k o of other now = comes m image of k o now.place (other_first m k other) now.at (now.tame other)

-- the places of a group are no section's ends
goes_on_at : (m : Choice) (k i : ℕ) → IsPlace m k → i ≤ behind m k → IsPlace m (k + i)
goes_on_at m k i place few =
    elim (cases_lt 0 i) [
      | inl some ↦
          let later = later_behind m k i (omega arith) few in
          store_is_place m (k + i) (later_below m (k + i) later) (later_store m (k + i) later).0
      | inr start ↦ let here : k ≡ k + i = omega arith in subst (IsPlace m) here place
    ]

-- behind a place that is no section's end stands a place
pub place_behind : (m : Choice) (k : ℕ) → IsAccepted m → IsPlace m k → k + 1 < count m.layout.program
place_behind m k ok place =
    elim (cases_lt (k + 1) (count m.layout.program)) [
      | inl less ↦ less
      | inr past ↦
          let (last, counted, end) = ok.last in
          let below = place.below in
          let same : last ≡ k = omega arith in
          let ends : is_end (item_of m.layout.program k).kind ≡ true =
          subst (λ (n : ℕ). is_end (item_of m.layout.program n).kind ≡ true) same end in
          let not_end = place.no_end in
          absurd (cc)
    ]

pub next_gate : law.NextGate
next_gate m k ok place first =
    let next = place_behind m (k + behind m k) ok (goes_on_at m k (behind m k) place (omega arith)) in
    let below : k + (behind m k + 1) < count m.layout.program = omega arith in
    (below, gate_after m ok k first below)
