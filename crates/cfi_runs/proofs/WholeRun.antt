-- The opening, then a path, then a step or the closing: all of it is one run.
use Rattle.std.proofs.Common.{inl, ◌≡◌, ℕ, suc, ◌+◌, ◌-◌, ◌==◌, inr, Bool, true, false, List, [], ◌∷◌, length, None, refl, sym, subst, arith}
use Rattle.std.proofs.lemmas.Bool.{cases_Bool}
use Rattle.cfi_runs.proofs.Prelude.{Contents, loaded, CODE_START, Profile, SHADOW_START, Memory, cleared, Hart, Shared, After, start_hart, start_shared, last_exit, stops, Ran, word_count, opening_instrs, closing_instrs, SameRegisters, IsPart, Stand, SameData, MatchesAfter, ComesTo, AtOpening, entry_pending, Own, own_step, own_closing, own_start, OwnRuns, SitesFit, words_along, own_shared, CLOSING_WORDS, opening_words, HasPrologue, Keeps, RunsTo, RunKeepsMatch, Within}
use Rattle.rv_image.proofs.Profiles.{laid_out}
use Rattle.rv_code.proofs.Frames.{placed_outside}
use Rattle.cfi_unit.specs.declared.unit.Unit as U
use Rattle.cfi_unit.proofs.Parts.{opening_length, own_is_part}
use Rattle.cfi_runs.proofs.Calmly.{reached, within_going, within_then}
use Rattle.cfi_runs.proofs.Ends.{opening_keeps_match, closing_keeps_match}
use Rattle.cfi_runs.proofs.Paths.{path_keeps_match, sites_fit, unit_within}

module _ (p : Profile) (image : Contents) (input : List ℕ) (entry : ℕ) (has : HasPrologue p image entry) where
  abbrev memory : Memory
  memory = loaded image

  abbrev start : After
  start = stops (start_hart 0) (start_shared image input) Ran

  abbrev first : Own
  first = own_start p 0 entry cleared (own_shared image input)

  -- code is no data
  same_start : SameData (own_shared image input) (start_shared image input)
  unfolding loaded
  same_start = record {
    memory = λ a low. placed_outside _ CODE_START image.code a (inl (omega arith));
    left = refl;
    output = refl;
    events = refl;
  }

  abbrev At : Own → After → Type 0
  At o = ComesTo p.callee_saves SHADOW_START memory memory o

  fresh : last_exit (start_shared image input).events ≡ None
  unfolding last_exit
  fresh = refl

  own : IsPart p SHADOW_START
  own = let laid = laid_out p has.is in own_is_part p has.is 0 (omega arith)

  enters : AtOpening p memory memory entry 0 (start_hart 0) (start_shared image input)
  enters = record {
    is = has.is;
    below = let laid = laid_out p has.is in omega arith;
    number = refl;
    fits = has.fits;
    stands = has.opening;
    context = record { going = fresh; kept = record { code = λ k from to. refl; held = tt; frame = λ k from out. refl } };
    pc = refl;
  }

  -- the number in x10 is 0
  same_regs : SameRegisters cleared (start_hart 0).regs
  same_regs = record { same = λ k free. elim (cases_Bool (k == 10)) [ inl here ↦ rw here refl | inr other ↦ rw other refl ] }

  opened : Within p (opening_words p) (At first) start
  opened =
      let whole = opening_length p has.is entry in
      let laid = laid_out p has.is in
      let first_unit = laid.closing in
      let low = laid.low in
      let count : suc (length (opening_instrs p entry) - 1) ≡ opening_words p = omega arith in
      subst (λ (n : ℕ). Within p n (At first) start) count
      (inr (refl, opening_keeps_match p memory memory entry 0 cleared (own_shared image input) (start_hart 0) (start_shared image input) enters same_regs same_start))

  entry_fit : (callee : Bool) → SitesFit (entry_pending callee p.closing)
  entry_fit false =
      let laid = laid_out p has.is in
      let first_unit = laid.closing in
      let round = laid.round in
      let high = laid.high in
      record { each = ((omega arith, omega arith), tt); most = omega arith }
  entry_fit true = record { each = tt; most = omega arith }

  first_fit : SitesFit first.pending
  first_fit = entry_fit p.callee_saves

  walked : (path : List U.Unit) (o : Own) → OwnRuns p memory path first o → Within p (opening_words p + words_along path) (At o) start
  walked path o on =
      within_then p (At first) (At o) (opening_words p) (words_along path) start opened
      (λ b here. within_going p (At o) (words_along path) b here.0
      (path_keeps_match p SHADOW_START memory memory path first o b.hart b.shared own has.bytes first_fit on here.1))

  pub path_fit : (path : List U.Unit) (from o : Own) → OwnRuns p memory path from o → SitesFit from.pending → SitesFit o.pending
  path_fit [] from o same fit = subst (λ (x : Own). SitesFit x.pending) (sym same) fit
  path_fit (unit ∷ path) from o on fit = path_fit path (own_step p from unit).state o on.2 (sites_fit p memory unit from on.0 fit)

  told : (most : ℕ) (Q : After → Type 0) → Within p most Q start → RunsTo p image input most Q
  told most Q on = let r = reached p most Q start on in (r.steps, r.few, r.met)

  last : (path : List U.Unit) (o : Own) (n : ℕ) (Q : After → Type 0) → OwnRuns p memory path first o →
      ((h : Hart) (s : Shared) → At o (stops h s Ran) → Within p n Q (stops h s Ran)) → RunsTo p image input (opening_words p + (words_along path + n)) Q
  last path o n Q on next =
      let e : opening_words p + words_along path + n ≡ opening_words p + (words_along path + n) = omega arith in
      told (opening_words p + (words_along path + n)) Q
      (subst (λ (k : ℕ). Within p k Q start) e
      (within_then p (At o) Q (opening_words p + words_along path) n start (walked path o on)
      (λ b here. within_going p Q n b here.0 (next b.hart b.shared (refl, here.1)))))

  pub keeps : (path : List U.Unit) (o : Own) → OwnRuns p memory path first o → Keeps p image input entry path o
  keeps path o on = record {
    goes = told (opening_words p + words_along path) (At o) (walked path o on);
    next = λ unit now. last path o (word_count unit) (MatchesAfter p.callee_saves SHADOW_START memory memory (own_step p o unit)) on
        (λ h s here. unit_within p SHADOW_START memory memory unit o h s own has.bytes (path_fit path first o on first_fit) now here.1);
    closes = λ pc. last path o CLOSING_WORDS (MatchesAfter p.callee_saves SHADOW_START memory memory (own_closing p o)) on
        (λ h s here. inr (
          refl,
          closing_keeps_match p SHADOW_START memory memory o h s own (subst (λ (a : ℕ). Stand memory a closing_instrs) (sym pc) has.closing) here.1,
        ));
  }

pub run_keeps_match : RunKeepsMatch
run_keeps_match p image input entry path o has on = keeps p image input entry has path o on
