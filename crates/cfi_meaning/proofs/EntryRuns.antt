-- The opening comes to the state at the entry: where callers save sites at once, and else as a call comes to what it enters, with the closing's
-- address in x1.
use Rattle.std.proofs.Common.{◌≡◌, ℕ, ◌%◌, ◌^◌, ◌<◌, ◌≤◌, ◌==◌, inl, inr, Bool, true, false, List, [], ◌∷◌, length, refl, ap, subst, sym, ◌∙◌, arith}
use Rattle.std.specs.Prelude.{◌||◌}
use Rattle.std.proofs.lemmas.Bool.{cases_Bool, eq-eqb, or_left}
use Rattle.cfi_meaning.proofs.Prelude.{GraphVersion, OneLabel, TwoLabels, CalleeSaves, Contents, loaded, cleared, has_leaves, is_call_target, is_called, is_entry, enters, in_leaf, arrival_by, entered_in, gate, word, MOST_PENDING, entry_pending, Own, own_start, OwnRuns, own_shared, Choice, entry_arrival, entry_words_by, IsImageOf, home_by, saved_by, ComesToEntry, shown, places_start}
use Rattle.rv_image.proofs.Profiles.{laid_out}
use Rattle.cfi_meaning.specs.PlaceLaws as law
use Rattle.cfi_meaning.proofs.LeadRuns.{arrives}

-- the state at the entry, and the one that the opening leaves
full_start : (version : GraphVersion) (saves inside callee : Bool) (gate word closing : ℕ) (o : Own) → has_leaves version ≡ false → callee ≡ has_leaves version →
    record o { pc = home_by version gate word; pending = saved_by version inside (closing ∷ []) }
    ≡ record o { pc = arrival_by version saves gate word; pending = entry_pending callee closing }
full_start OneLabel saves inside callee gate word closing o full same = ap (λ (b : Bool). record o { pc = gate; pending = entry_pending b closing }) (sym same)
full_start TwoLabels saves inside callee gate word closing o full same = ap (λ (b : Bool). record o { pc = gate; pending = entry_pending b closing }) (sym same)
full_start CalleeSaves saves inside callee gate word closing o full same = absurd (cc)

none_saved : (callee : Bool) (closing : ℕ) → callee ≡ true → entry_pending callee closing ≡ []
none_saved true closing lean = refl
none_saved false closing lean = absurd (cc)

saver_words : (version : GraphVersion) → has_leaves version ≡ true → 5 ≤ entry_words_by version
saver_words OneLabel leaves = absurd (cc)
saver_words TwoLabels leaves = absurd (cc)
saver_words CalleeSaves leaves = omega arith

module _ (m : Choice) (image : Contents) (input : List ℕ) (of : IsImageOf m image) where
  abbrev entry : ℕ
  entry = m.layout.entry

  abbrev start : Own
  start = own_start m.layout.profile 0 (entry_arrival m) cleared (own_shared image input)

  is_entered : is_entry (entered_in m.layout) entry ≡ true
  is_entered = or_left (entry == entry) (is_called m.layout.program entry || is_call_target m.layout.closed.sides entry) (eq-eqb entry entry refl)

  at_once : has_leaves m.layout.closed.version ≡ false → ComesToEntry m image input
  at_once full = record {
    path = [];
    few = omega arith;
    leads =
        full_start m.layout.closed.version (enters (entered_in m.layout) entry) (in_leaf (entered_in m.layout) entry) m.layout.profile.callee_saves (gate m.layout entry)
        (word m.layout entry) m.layout.profile.closing (places_start m image input) full of.accepted.saves;
  }

  as_called : has_leaves m.layout.closed.version ≡ true → ComesToEntry m image input
  as_called leaves =
      let laid = laid_out m.layout.profile of.accepted.profile in
      let closing = laid.closing in
      let high = laid.high in
      let round = laid.round in
      let none : start.pending ≡ [] = none_saved m.layout.profile.callee_saves m.layout.profile.closing (of.accepted.saves ∙ leaves) in
      let counted : length start.pending ≡ 0 = ap length none in
      let room : length start.pending < MOST_PENDING = omega arith in
      let even : start.regs 1 % 2 ≡ 0 = omega arith in
      let small : start.regs 1 < 2 ^ 64 = omega arith in
      let runs = arrives m image of leaves entry start of.accepted.entry_there room even small is_entered refl in
      let few = runs.few in
      let enough = saver_words m.layout.closed.version leaves in
      record {
        path = runs.path;
        few = omega arith;
        leads =
            subst (λ (sites : List ℕ). OwnRuns m.layout.profile (loaded image) runs.path start (shown m entry (record start { pc = gate m.layout entry; pending = start.regs 1 ∷ sites })))
            none runs.runs;
      }

  comes : ComesToEntry m image input
  comes = elim (cases_Bool (has_leaves m.layout.closed.version)) [ inl leaves ↦ as_called leaves | inr full ↦ at_once full ]

pub entry_runs : law.EntryRuns
entry_runs m image input of = comes m image input of
