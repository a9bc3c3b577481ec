-- Over the words before a unit, where callees save sites: from a place's gate a word for computed jumps is passed and a jump leads over the
-- rest; where a call arrives its site is saved, or left in x1 in a leaf.
use Rattle.std.proofs.Common.{◌≡◌, ℕ, ◌+◌, ◌*◌, ◌%◌, ◌^◌, ◌<◌, ◌≤◌, inl, inr, Bool, true, false, List, [], ◌∷◌, length, Option, Some, None, refl, sym, ap, subst, ◌∙◌, arith}
use Rattle.std.specs.Prelude.{is_some, not, slice_get}
use Rattle.std.proofs.lemmas.Bool.{and_from, cases_Bool, false_from_ne_true, true≢false}
use Rattle.cfi_meaning.proofs.Prelude.{GraphVersion, OneLabel, TwoLabels, CalleeSaves, Contents, loaded, Memory, Profile, Registers, Ran, count, is_target, has_leaves, is_call_target, is_entry, enters, in_leaf, is_leaf, ProgramAtMap, arrival, entered_in, gate, word, MOST_PENDING, word_count, Own, OwnAfter, own_step, OwnRuns, words_along, IsTame, NamesNoReserved, TameStep, Choice, lead, lead_of_entry, lead_unit, IsImageOf, home_by, saved_by, shown_of}
use Rattle.cfi_leads.proofs.Ends.{entry_begins}
use Rattle.cfi_leads.proofs.Tables.{head_of_first}
use Rattle.cfi_unit.specs.declared.unit.Unit as U
use Rattle.cfi_unit.specs.declared.unit.Unit.TheVariants as V
use Rattle.cfi_writer.proofs.Entering.{call_enters, in_leaf_passed}
use Rattle.cfi_writer.proofs.FreshStarts.{word_there, arrives_by}
use Rattle.cfi_writer.proofs.LeadWords.{lead_cases, lean_lead, words_in, lead_word_count}
use Rattle.cfi_writer.proofs.LeanWords.{IsLeanWord, before_enter, before_jump, before_unit, jumps_over, saves_site}
use Rattle.cfi_writer.proofs.Standing.{at_gate, word_is}
use Rattle.cfi_meaning.proofs.Places.{goes_on, lead_free, lead_tame, lead_written, saver_written, steps_there}

-- a path of so many words at most leads from a state to another
pub record LeadsTo (m : Choice) (image : Contents) (most : ℕ) (o last : Own) : Type 0 where
  pub path : List U.Unit
  pub few : words_along path ≤ most
  pub runs : OwnRuns m.layout.profile (loaded image) path o last

-- a word before units changes nothing but the pc, is tame and names no reserved register
record IsPassed (u : U.Unit) (next : ℕ → ℕ) : Type 0 where
  one : word_count u ≡ 1
  free : NamesNoReserved u
  tame : (image : Memory) (pending : List ℕ) (regs : Registers) → IsTame image u pending regs
  goes : (p : Profile) (o : Own) → own_step p o u ≡ record { turn = Ran; state = record o { pc = next o.pc } }

abbrev passed_by : ℕ → ℕ
passed_by a = a + 4

passed : (label : Option ℕ) → IsPassed (lead_unit label) passed_by
passed label = record {
  one = lead_word_count label;
  free = lead_free label;
  tame = λ image pending regs. lead_tame image label pending regs;
  goes = λ p o. goes_on p label o;
}

jumped : (to : ℕ) → IsPassed (V.Jump to) (λ a. to)
jumped to = record { one = refl; free = λ r named. absurd (cc); tame = λ image pending regs. tt; goes = λ p o. refl }

enter_free : NamesNoReserved V.Enter
enter_free r named = absurd (cc)

-- a state at a place, where callees save sites
shown_by : (version : GraphVersion) (gate word : ℕ) (inside : Bool) (o : Own) → has_leaves version ≡ true →
    record o { pc = home_by version gate word; pending = saved_by version inside o.pending } ≡ record o { pc = word; pending = saved_by CalleeSaves inside o.pending }
shown_by OneLabel gate word inside o lean = absurd (cc)
shown_by TwoLabels gate word inside o lean = absurd (cc)
shown_by CalleeSaves gate word inside o lean = refl

pub lean_is : (layout : ProgramAtMap) (k : ℕ) (o : Own) → has_leaves layout.closed.version ≡ true →
    shown_of layout (Some k) o ≡ record o { pc = word layout k; pending = saved_by CalleeSaves (in_leaf (entered_in layout) k) o.pending }
lean_is layout k o = shown_by layout.closed.version (gate layout k) (word layout k) (in_leaf (entered_in layout) k) o

-- behind the word for computed jumps and the jump stands the gate of computed calls, and behind that what saves their sites
second : (word : ℕ) (jumps calls : Option ℕ) (target saves : Bool) → target ≡ true → saves ≡ true → is_some calls ≡ true →
    (label : ℕ) × (slice_get (lead_of_entry target saves word (calls ∷ jumps ∷ [])) 2 ≡ Some (V.Gate label))
    × (words_in (lead_of_entry target saves word (calls ∷ jumps ∷ [])) ≡ 8)
second word jumps (Some label) true true targeted saved some =
    let one = lead_word_count jumps in
    (label, refl, omega arith)
second word jumps None true true targeted saved some = absurd (cc)
second word jumps calls false saves targeted saved some = absurd (cc)
second word jumps calls true false targeted saved some = absurd (cc)

module _ (m : Choice) (image : Contents) (of : IsImageOf m image) where
  pub stays_there : (most : ℕ) (o last : Own) → last ≡ o → LeadsTo m image most o last
  stays_there most o last same = record { path = []; few = omega arith; runs = same }

  steps_on : (u : U.Unit) (size most : ℕ) (o next last : Own) → word_count u ≡ size → TameStep m.layout.profile.callee_saves (loaded image) u o →
      own_step m.layout.profile o u ≡ record { state = next; turn = Ran } → LeadsTo m image most next last → LeadsTo m image (size + most) o last
  steps_on u size most o next last sized step goes rest =
      let few = rest.few in
      record {
        path = u ∷ rest.path;
        few = omega arith;
        runs = (
          step,
          ap (λ (a : OwnAfter). a.turn) goes,
          subst (λ (a : OwnAfter). OwnRuns m.layout.profile (loaded image) rest.path a.state last) (sym goes) rest.runs,
        );
      }

  -- over a word that is passed
  over_word : (k j : ℕ) (u : U.Unit) (most : ℕ) (next : ℕ → ℕ) (o last : Own) → k < count m.layout.program → slice_get (lead m k) j ≡ Some u →
      o.pc ≡ gate m.layout k + 4 * j → IsPassed u next → LeadsTo m image most (record o { pc = next o.pc }) last → LeadsTo m image (1 + most) o last
  over_word k j u most next o last below there at is rest =
      steps_on u 1 most o (record o { pc = next o.pc }) last is.one
      (steps_there m image of (gate m.layout k + 4 * j) u o (lead_written m image of k j u below there) (sym at) is.free (is.tame (loaded image) o.pending o.regs))
      (is.goes m.layout.profile o) rest

  module _ (lean : has_leaves m.layout.closed.version ≡ true) where
    -- from a place's gate to its unit
    over_from : (k : ℕ) (u : U.Unit) (o : Own) → k < count m.layout.program → o.pc ≡ gate m.layout k → slice_get (lead m k) 0 ≡ Some u →
        IsLeanWord (lead m k) (word m.layout k) 0 u → LeadsTo m image 2 o (record o { pc = word m.layout k })
    over_from k u o below at there (before_unit label same words) =
        let behind = word_is m of.accepted k in
        let next : word m.layout k ≡ o.pc + 4 = omega arith in
        over_word k 0 u 1 passed_by o (record o { pc = word m.layout k }) below there (omega arith) (subst (λ (v : U.Unit). IsPassed v passed_by) (sym same) (passed label))
        (stays_there 1 (record o { pc = o.pc + 4 }) (record o { pc = word m.layout k }) (ap (λ (a : ℕ). record o { pc = a }) next))
    over_from k u o below at there (before_jump label same then) =
        over_word k 0 u 1 passed_by o (record o { pc = word m.layout k }) below there (omega arith) (subst (λ (v : U.Unit). IsPassed v passed_by) (sym same) (passed label))
        (over_word k (0 + 1) (V.Jump (word m.layout k)) 0 (λ a. word m.layout k) (record o { pc = o.pc + 4 }) (record o { pc = word m.layout k }) below then (omega arith)
        (jumped (word m.layout k)) (stays_there 0 (record o { pc = word m.layout k }) (record o { pc = word m.layout k }) refl))
    over_from k u o below at there (jumps_over same) =
        over_word k 0 u 1 (λ a. word m.layout k) o (record o { pc = word m.layout k }) below there (omega arith)
        (subst (λ (v : U.Unit). IsPassed v (λ a. word m.layout k)) (sym same) (jumped (word m.layout k)))
        (stays_there 1 (record o { pc = word m.layout k }) (record o { pc = word m.layout k }) refl)
    over_from k u o below at there (before_enter label same behind then) = absurd (omega arith)
    over_from k u o below at there (saves_site same behind words) = absurd (omega arith)

    pub over_lead : (k : ℕ) (o : Own) → k < count m.layout.program → o.pc ≡ gate m.layout k → LeadsTo m image 2 o (record o { pc = word m.layout k })
    over_lead k o below at =
        elim (lead_cases m k) [
          | inl none ↦ stays_there 2 o (record o { pc = word m.layout k }) (ap (λ (a : ℕ). record o { pc = a }) (at_gate m of.accepted k none ∙ sym at))
          | inr (u, there) ↦ over_from k u o below at there (word_there m of.accepted lean k 0 u there)
        ]

    -- where a call arrives, with its site in x1, which is saved there, or left to x1 where a leaf begins
    module _ (t : ℕ) (o : Own) (below : t < count m.layout.program) (room : length o.pending < MOST_PENDING) (even : o.regs 1 % 2 ≡ 0) (small : o.regs 1 < 2 ^ 64) where
      abbrev pub called : Own
      called = record o { pc = gate m.layout t; pending = o.regs 1 ∷ o.pending }

      -- the state there, in a leaf or in none
      shown_called : (inside : Bool) → in_leaf (entered_in m.layout) t ≡ inside →
          shown_of m.layout (Some t) called ≡ record o { pc = word m.layout t; pending = saved_by CalleeSaves inside (o.regs 1 ∷ o.pending) }
      shown_called inside is_inside =
          lean_is m.layout t called lean
          ∙ ap (λ (b : Bool). record o { pc = word m.layout t; pending = saved_by CalleeSaves b (o.regs 1 ∷ o.pending) }) is_inside

      over_saver : enters (entered_in m.layout) t ≡ true → o.pc ≡ arrival m.layout t → LeadsTo m image 5 o (shown_of m.layout (Some t) called)
      over_saver saves at =
          let (written, behind) = saver_written m image of t below lean saves in
          let outside : in_leaf (entered_in m.layout) t ≡ false =
          false_from_ne_true (in_leaf (entered_in m.layout) t) (λ inside. true≢false (sym saves ∙ in_leaf_passed (entered_in m.layout) t inside)) in
          let next : word m.layout t ≡ o.pc + 20 = omega arith in
          steps_on V.Enter 5 0 o (record o { pc = o.pc + 20; pending = o.regs 1 ∷ o.pending }) (shown_of m.layout (Some t) called) refl
          (steps_there m image of (arrival m.layout t) V.Enter o written (sym at) enter_free (room, even, small)) refl
          (stays_there 0 (record o { pc = o.pc + 20; pending = o.regs 1 ∷ o.pending }) (shown_of m.layout (Some t) called)
          (shown_called false outside ∙ ap (λ (a : ℕ). record o { pc = a; pending = o.regs 1 ∷ o.pending }) next))

      in_first : is_leaf (entered_in m.layout) t ≡ true → is_entry (entered_in m.layout) t ≡ true → o.pc ≡ arrival m.layout t → LeadsTo m image 5 o (shown_of m.layout (Some t) called)
      in_first leaf entry at =
          let inside : in_leaf (entered_in m.layout) t ≡ true =
          ap (is_leaf (entered_in m.layout)) (head_of_first (entered_in m.layout) t (entry_begins (entered_in m.layout) t entry)) ∙ leaf in
          let here : word m.layout t ≡ o.pc =
          sym (at ∙ arrives_by m.layout.closed.version (enters (entered_in m.layout) t) (gate m.layout t) (word m.layout t) lean (in_leaf_passed (entered_in m.layout) t inside)) in
          stays_there 5 o (shown_of m.layout (Some t) called) (shown_called true inside ∙ ap (λ (a : ℕ). record o { pc = a }) here)

      pub arrives : is_entry (entered_in m.layout) t ≡ true → o.pc ≡ arrival m.layout t → LeadsTo m image 5 o (shown_of m.layout (Some t) called)
      arrives entry at =
          elim (cases_Bool (is_leaf (entered_in m.layout) t)) [
            | inl leaf ↦ in_first leaf entry at
            | inr other ↦ over_saver (and_from (is_entry (entered_in m.layout) t) (not (is_leaf (entered_in m.layout) t)) entry (ap not other)) at
          ]

    -- where a computed call comes, at the gate before that
    pub arrives_beyond : (t : ℕ) (o : Own) (below : t < count m.layout.program) (room : length o.pending < MOST_PENDING) (even : o.regs 1 % 2 ≡ 0) (small : o.regs 1 < 2 ^ 64) →
        is_target m.layout.closed.sides t ≡ true → is_call_target m.layout.closed.sides t ≡ true → o.pc ≡ gate m.layout t + 8 →
        LeadsTo m image 6 o (shown_of m.layout (Some t) (called t o below room even small))
    arrives_beyond t o below room even small target serves at =
        let shape = lean_lead m of.accepted lean t in
        let saves = call_enters (entered_in m.layout) t serves in
        let (label, gated, whole) =
        second (word m.layout t) shape.jumps shape.calls (is_target m.layout.closed.sides t) (enters (entered_in m.layout) t) target saves (shape.called ∙ serves) in
        let there : slice_get (lead m t) 2 ≡ Some (V.Gate label) = ap (λ (us : List U.Unit). slice_get us 2) shape.lead_is ∙ gated in
        let words : words_in (lead m t) ≡ 8 = ap words_in shape.lead_is ∙ whole in
        let (written, arrives_at) = saver_written m image of t below lean saves in
        let behind = word_is m of.accepted t in
        over_word t 2 (V.Gate label) 5 passed_by o (shown_of m.layout (Some t) (called t o below room even small)) below there at (passed (Some label))
        (over_saver t (record o { pc = o.pc + 4 }) below room even small saves (omega arith))
