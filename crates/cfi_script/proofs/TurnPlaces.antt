-- Among the turns of a script: where each begins, and whose it is.
use Rattle.std.proofs.Common.{◌≡◌, ℕ, ◌+◌, ◌-◌, ◌^◌, ◌<◌, ◌≤◌, ◌∷◌, length, drop, get_or, refl, ap, subst, sym, ◌∙◌, arith}
use Rattle.std.proofs.lemmas.Bool.{le-ltb, lt-ltb}
use Rattle.std.proofs.lemmas.List.{drop_all, drop_more, get_or_past}
use Rattle.cfi_script.specs.Turns.{Turns, hart_in_turn}
use Rattle.cfi_script.specs.TurnPlace.{ComesAfter, IsTurnAt}

-- a turn that has so many steps is passed
passed : (t : ℕ × ℕ) (turns : Turns) (step : ℕ) → t.1 ≤ step → hart_in_turn (t ∷ turns) step ≡ hart_in_turn turns (step - t.1)
unfolding hart_in_turn
passed t turns step past = rw (le-ltb step t.1 past) refl

own : (t : ℕ × ℕ) (turns : Turns) (step : ℕ) → step < t.1 → hart_in_turn (t ∷ turns) step ≡ t.0
unfolding hart_in_turn
own t turns step within = rw (lt-ltb step t.1 within) refl

module _ (turns : Turns) (index before : ℕ) (after : ComesAfter turns index before) where
  abbrev turn : ℕ × ℕ
  turn = get_or turns index (0, 0)

  -- the turn after this one
  pub next_turn : index < length turns → ComesAfter turns (index + 1) (before + turn.1)
  next_turn there step from =
      let cut = drop_more turns index (0, 0) there in
      let less : step - before - turn.1 ≡ step - (before + turn.1) = omega arith in
      let long : turn.1 ≤ step - before = omega arith in
      after step (omega arith) ∙ ap (λ rest. hart_in_turn rest (step - before)) cut
      ∙ passed turn (drop (index + 1) turns) (step - before) long ∙ ap (hart_in_turn (drop (index + 1) turns)) less

  -- the step is one of this turn
  pub here : (step : ℕ) → before ≤ step → index < length turns → step - before < turn.1 → hart_in_turn turns step ≡ turn.0
  here step from there within =
      let cut = drop_more turns index (0, 0) there in
      after step from ∙ ap (λ rest. hart_in_turn rest (step - before)) cut ∙ own turn (drop (index + 1) turns) (step - before) within

  -- the last turn is past
  pub past : (step : ℕ) → before ≤ step → length turns ≤ index → hart_in_turn turns step ≡ turn.0
  unfolding hart_in_turn
  past step from none = after step from ∙ rw (drop_all index turns none, get_or_past turns index (0, 0) none) refl

  -- the turn, with the number of steps before the next one, or as many as a number of 64 bits tells
  pub with_end : (end : ℕ) → index < length turns → end ≤ before + turn.1 → (end + 1 < 2 ^ 64 → end ≡ before + turn.1) → IsTurnAt turns index before end
  with_end end there short exact = record {
    within = omega arith;
    after = after;
    own = λ step from below. here step from there (omega (arith, from, below, short));
    next = λ _ fits. subst (λ (n : ℕ). ComesAfter turns (index + 1) n) (sym (exact fits)) (next_turn there);
  }
