-- The marks of a split, unit by unit: which words start a unit, and that units cover the words.
use Rattle.std.proofs.Common.{◌≡◌, ℕ, zero, suc, ◌+◌, ◌-◌, ◌*◌, ◌≤◌, ◌<◌, inl, inr, true, false, List, [], ◌∷◌, length, drop, length-drop, refl, sym, ap, subst, ◌∙◌, Some, None, arith, lit≤, ◌^◌}
use Rattle.std.specs.Prelude.{slice_get}
use Rattle.std.proofs.lemmas.Bool.{cases_lt}
use Rattle.std.proofs.lemmas.List.{length-take, drop-drop}
use Rattle.std.proofs.lemmas.List.Elements.{All-drop}
use Rattle.rv_word.proofs.Cases.{cases_Option}
use Rattle.cfi_unit.specs.declared.unit.Unit as U
use Rattle.cfi_unit.specs.Laws.{AreWords}
use Rattle.cfi_unit.specs.Recognise.{recognised}
use Rattle.cfi_unit.specs.UnitWords.{Begins, word_count}
use Rattle.cfi_unit.proofs.Counts.{some_word}
use Rattle.cfi_unit.proofs.UnitInList.{words_counted}
use Rattle.cfi_unit.proofs.Told.{recognised_begins}
use Rattle.cfi_rules.specs.Split.{starts}

-- words that belong to a unit that began before bear no mark, and the marks go on after them
pub mark_inside : (k : ℕ) (ws : List ℕ) (at : ℕ) → k ≤ length ws → (j : ℕ) → j < k → slice_get (starts k ws at) j ≡ Some false
unfolding starts
mark_inside zero ws at room j below = absurd (omega arith)
mark_inside (suc k) [] at room j below = absurd (omega arith)
mark_inside (suc k) (w ∷ ws) at room zero below = refl
mark_inside (suc k) (w ∷ ws) at room (suc j) below = mark_inside k ws (at + 4) (omega arith) j (omega arith)

pub mark_after : (k : ℕ) (ws : List ℕ) (at : ℕ) → k ≤ length ws → (j : ℕ) →
    slice_get (starts k ws at) (k + j) ≡ slice_get (starts 0 (drop k ws) (at + 4 * k)) j
unfolding starts
mark_after zero ws at room j =
    let e : 0 + j ≡ j = omega arith in let f : at + 4 * 0 ≡ at = omega arith in rw (e, f) refl
mark_after (suc k) [] at room j = absurd (omega arith)
mark_after (suc k) (w ∷ ws) at room j =
    let e : suc k + j ≡ suc (k + j) = omega arith in
    let f : at + 4 + 4 * k ≡ at + 4 * suc k = omega arith in
    ap (slice_get (starts (suc k) (w ∷ ws) at)) e ∙ mark_after k ws (at + 4) (omega arith) j
    ∙ ap (λ a. slice_get (starts 0 (drop k ws) a) j) f

pub marks_after : (k : ℕ) (ws : List ℕ) (at : ℕ) → k ≤ length ws →
    length (starts k ws at) ≡ k + length (starts 0 (drop k ws) (at + 4 * k))
unfolding starts
marks_after zero ws at room =
    let e : 0 + length (starts 0 ws at) ≡ length (starts 0 ws at) = omega arith in
    let f : at + 4 * 0 ≡ at = omega arith in rw (f, e) refl
marks_after (suc k) [] at room = absurd (omega arith)
marks_after (suc k) (w ∷ ws) at room =
    let rest = marks_after k ws (at + 4) (omega arith) in
    let f : at + 4 + 4 * k ≡ at + 4 * suc k = omega arith in
    let same = ap (λ a. length (starts 0 (drop k ws) a)) f in omega (arith, rest, same)

-- where no unit fits the marks end; where one does, it bears a mark, and its other words follow
pub marks_none : (ws : List ℕ) (at : ℕ) → recognised ws at ≡ None → starts 0 ws at ≡ []
unfolding starts
marks_none [] at e = refl
marks_none (w ∷ ws) at e = rw (e, starts) refl

pub marks_unit : (w : ℕ) (ws : List ℕ) (at : ℕ) (u : U.Unit) → recognised (w ∷ ws) at ≡ Some u →
    starts 0 (w ∷ ws) at ≡ true ∷ starts (word_count u - 1) ws (at + 4)
unfolding starts
marks_unit w ws at u e = rw (e, starts) refl

pub none_in_none : (at : ℕ) (u : U.Unit) → recognised [] at ≡ Some u → ⊥
unfolding recognised
none_in_none at u e = cc

-- a unit of the split of some words: the unit that fits at word i, marked there and at none of its
-- other words; the next word, if there is one, is marked
pub record Marked (ws : List ℕ) (at i : ℕ) (u : U.Unit) : Type 0 where
  pub fits : recognised (drop i ws) (at + 4 * i) ≡ Some u
  pub mark : slice_get (starts 0 ws at) i ≡ Some true
  pub inner : (j : ℕ) → i < j → j < i + word_count u → slice_get (starts 0 ws at) j ≡ Some false
  pub next : i + word_count u < length (starts 0 ws at) → slice_get (starts 0 ws at) (i + word_count u) ≡ Some true
  pub room : i + word_count u ≤ length (starts 0 ws at)

-- a unit that begins some words has no more words than there are
pub begins_room : (ws : List ℕ) (at : ℕ) (u : U.Unit) → Begins ws at u → word_count u ≤ length ws
begins_room ws at u b =
    let same = ap length b.words_are in
    let whole = length-take (word_count u) ws in
    let counted = words_counted u at in
    omega (arith, same, whole, counted)

recognised_room : (ws : List ℕ) (at : ℕ) (u : U.Unit) → AreWords ws → recognised ws at ≡ Some u → word_count u ≤ length ws
recognised_room ws at u words e = begins_room ws at u (recognised_begins ws at u words e)

module _ (w : ℕ) (ws : List ℕ) (at : ℕ) (u : U.Unit) (e : recognised (w ∷ ws) at ≡ Some u) (room : word_count u ≤ length (w ∷ ws)) where
  -- the marks of the words after the first unit are the marks of the split from there
  pub head_after : (j : ℕ) → slice_get (starts 0 (w ∷ ws) at) (word_count u + j) ≡ slice_get (starts 0 (drop (word_count u) (w ∷ ws)) (at + 4 * word_count u)) j
  head_after j =
      let some : 1 ≤ word_count u = some_word u in
      let k : word_count u + j ≡ suc (word_count u - 1 + j) = omega arith in
      let c : suc (word_count u - 1) ≡ word_count u = omega arith in
      let f : at + 4 + 4 * (word_count u - 1) ≡ at + 4 * word_count u = omega arith in
      ap (slice_get (starts 0 (w ∷ ws) at)) k ∙ ap (λ ms. slice_get ms (suc (word_count u - 1 + j))) (marks_unit w ws at u e)
      ∙ mark_after (word_count u - 1) ws (at + 4) (omega arith) j
      ∙ ap (λ a. slice_get (starts 0 (drop (word_count u - 1) ws) a) j) f
      ∙ ap (λ n. slice_get (starts 0 (drop n (w ∷ ws)) (at + 4 * word_count u)) j) c

  pub head_length : length (starts 0 (w ∷ ws) at) ≡ word_count u + length (starts 0 (drop (word_count u) (w ∷ ws)) (at + 4 * word_count u))
  head_length =
      let some : 1 ≤ word_count u = some_word u in
      let c : suc (word_count u - 1) ≡ word_count u = omega arith in
      let f : at + 4 + 4 * (word_count u - 1) ≡ at + 4 * word_count u = omega arith in
      let one = ap length (marks_unit w ws at u e) in
      let more = marks_after (word_count u - 1) ws (at + 4) (omega arith) in
      let same = ap (λ a. length (starts 0 (drop (word_count u - 1) ws) a)) f in
      let same' = ap (λ n. length (starts 0 (drop n (w ∷ ws)) (at + 4 * word_count u))) c in
      omega (arith, one, more, same, same')

  pub head_mark : slice_get (starts 0 (w ∷ ws) at) 0 ≡ Some true
  head_mark = ap (λ ms. slice_get ms 0) (marks_unit w ws at u e)

  pub head_inner : (j : ℕ) → 0 < j → j < word_count u → slice_get (starts 0 (w ∷ ws) at) j ≡ Some false
  head_inner zero some below = absurd (omega arith)
  head_inner (suc j) some below =
      ap (λ ms. slice_get ms (suc j)) (marks_unit w ws at u e) ∙ mark_inside (word_count u - 1) ws (at + 4) (omega arith) j (omega arith)

-- there are no more marks than words
pub marks_room : (n : ℕ) (ws : List ℕ) (at : ℕ) → length ws ≤ n → AreWords ws → length (starts 0 ws at) ≤ length ws
unfolding starts
marks_room n [] at small words = lit≤ tt
marks_room zero (w ∷ ws) at small words = absurd (omega arith)
marks_room (suc n) (w ∷ ws) at small words =
    elim (cases_Option (recognised (w ∷ ws) at)) [
      | inl none ↦ let e = ap length (marks_none (w ∷ ws) at none) in omega (arith, e)
      | inr (u, e) ↦
          let room : word_count u ≤ length (w ∷ ws) = recognised_room (w ∷ ws) at u words e in
          let some : 1 ≤ word_count u = some_word u in
          let left : length (drop (word_count u) (w ∷ ws)) ≡ length (w ∷ ws) - word_count u = length-drop (word_count u) (w ∷ ws) in
          let fewer : length (w ∷ ws) ≡ suc (length ws) = refl in
          let more = marks_room n (drop (word_count u) (w ∷ ws)) (at + 4 * word_count u) (omega arith) (All-drop (λ x. x < 2 ^ 32) (word_count u) (w ∷ ws) words) in
          let sum = head_length w ws at u e room in
          omega (arith, more, sum, left)
    ]

-- the first mark, if there is one
pub first_marked : (ws : List ℕ) (at : ℕ) → 0 < length (starts 0 ws at) → slice_get (starts 0 ws at) 0 ≡ Some true
unfolding starts
first_marked [] at some = absurd (omega arith)
first_marked (w ∷ ws) at some =
    elim (cases_Option (recognised (w ∷ ws) at)) [
      | inl none ↦ let e = ap length (marks_none (w ∷ ws) at none) in absurd (omega (arith, e))
      | inr (u, e) ↦ ap (λ ms. slice_get ms 0) (marks_unit w ws at u e)
    ]

module _ (w : ℕ) (ws : List ℕ) (at : ℕ) (u : U.Unit) (e : recognised (w ∷ ws) at ≡ Some u) (room : word_count u ≤ length (w ∷ ws)) where
  -- the unit that fits first is one of the split
  pub marked_first : Marked (w ∷ ws) at 0 u
  marked_first = record {
    fits = ap (recognised (w ∷ ws)) (let f : at + 4 * 0 ≡ at = omega arith in f) ∙ e;
    mark = head_mark w ws at u e room;
    inner = λ j low high. head_inner w ws at u e room j low (omega arith);
    next = λ more.
        let sum = head_length w ws at u e room in
        let some : 0 < length (starts 0 (drop (word_count u) (w ∷ ws)) (at + 4 * word_count u)) = omega (arith, sum) in
        let k : 0 + word_count u ≡ word_count u + 0 = omega arith in
        ap (slice_get (starts 0 (w ∷ ws) at)) k ∙ head_after w ws at u e room 0
        ∙ first_marked (drop (word_count u) (w ∷ ws)) (at + 4 * word_count u) some;
    room = let sum = head_length w ws at u e room in omega (arith, sum);
  }

  -- and so are the units of the split of what follows
  pub marked_later : (j : ℕ) (v : U.Unit) → Marked (drop (word_count u) (w ∷ ws)) (at + 4 * word_count u) j v → Marked (w ∷ ws) at (word_count u + j) v
  marked_later j v m = record {
    fits =
        let f : at + 4 * (word_count u + j) ≡ at + 4 * word_count u + 4 * j = omega arith in
        ap (λ a. recognised (drop (word_count u + j) (w ∷ ws)) a) f
        ∙ ap (λ l. recognised l (at + 4 * word_count u + 4 * j)) (sym (drop-drop j (word_count u) (w ∷ ws))) ∙ m.fits;
    mark = head_after w ws at u e room j ∙ m.mark;
    inner = λ k low high.
        let f : k ≡ word_count u + (k - word_count u) = omega arith in
        ap (slice_get (starts 0 (w ∷ ws) at)) f ∙ head_after w ws at u e room (k - word_count u) ∙ m.inner (k - word_count u) (omega arith) (omega arith);
    next = λ more.
        let sum = head_length w ws at u e room in
        let f : word_count u + j + word_count v ≡ word_count u + (j + word_count v) = omega arith in
        ap (slice_get (starts 0 (w ∷ ws) at)) f ∙ head_after w ws at u e room (j + word_count v) ∙ m.next (omega (arith, sum));
    room = let sum = head_length w ws at u e room in let less = m.room in omega (arith, sum, less);
  }

-- each mark is a unit's
pub marked : (n : ℕ) (ws : List ℕ) (at : ℕ) → length ws ≤ n → AreWords ws → (i : ℕ) → slice_get (starts 0 ws at) i ≡ Some true →
    (u : U.Unit) × Marked ws at i u
unfolding starts
marked n [] at small words i mark = absurd (cc)
marked zero (w ∷ ws) at small words i mark = absurd (omega arith)
marked (suc n) (w ∷ ws) at small words i mark =
    elim (cases_Option (recognised (w ∷ ws) at)) [
      | inl none ↦ let e = marks_none (w ∷ ws) at none in let m : slice_get [] i ≡ Some true = ap (λ ms. slice_get ms i) (sym e) ∙ mark in absurd (cc)
      | inr (u, e) ↦
          let room : word_count u ≤ length (w ∷ ws) = recognised_room (w ∷ ws) at u words e in
          let some : 1 ≤ word_count u = some_word u in
          let left : length (drop (word_count u) (w ∷ ws)) ≡ length (w ∷ ws) - word_count u = length-drop (word_count u) (w ∷ ws) in
          let fewer : length (w ∷ ws) ≡ suc (length ws) = refl in
          elim (cases_lt i (word_count u)) [
            | inl here ↦ elim (cases_lt 0 i) [
              | inl inside ↦ let m = head_inner w ws at u e room i inside here in absurd (cc)
              | inr first ↦ let z : 0 ≡ i = omega arith in (u, subst (λ (k : ℕ). Marked (w ∷ ws) at k u) z (marked_first w ws at u e room))
            ]
            | inr later ↦
                let f : word_count u + (i - word_count u) ≡ i = omega arith in
                let rest = marked n (drop (word_count u) (w ∷ ws)) (at + 4 * word_count u) (omega arith) (All-drop (λ x. x < 2 ^ 32) (word_count u) (w ∷ ws) words)
                (i - word_count u) (sym (head_after w ws at u e room (i - word_count u)) ∙ ap (slice_get (starts 0 (w ∷ ws) at)) f ∙ mark) in
                (rest.0, subst (λ (k : ℕ). Marked (w ∷ ws) at k rest.0) f (marked_later w ws at u e room (i - word_count u) rest.0 rest.1))
          ]
    ]

-- each word that is not past the marks is a unit's
pub record Covers (ws : List ℕ) (at i s : ℕ) (u : U.Unit) : Type 0 where
  pub is : Marked ws at s u
  pub from : s ≤ i
  pub below : i < s + word_count u

pub covered : (n : ℕ) (ws : List ℕ) (at : ℕ) → length ws ≤ n → AreWords ws → (i : ℕ) → i < length (starts 0 ws at) →
    (s : ℕ) × (u : U.Unit) × Covers ws at i s u
unfolding starts
covered n [] at small words i below = absurd (omega arith)
covered zero (w ∷ ws) at small words i below = absurd (omega arith)
covered (suc n) (w ∷ ws) at small words i below =
    elim (cases_Option (recognised (w ∷ ws) at)) [
      | inl none ↦ let e = ap length (marks_none (w ∷ ws) at none) in absurd (omega (arith, e))
      | inr (u, e) ↦
          let room : word_count u ≤ length (w ∷ ws) = recognised_room (w ∷ ws) at u words e in
          let some : 1 ≤ word_count u = some_word u in
          let left : length (drop (word_count u) (w ∷ ws)) ≡ length (w ∷ ws) - word_count u = length-drop (word_count u) (w ∷ ws) in
          let fewer : length (w ∷ ws) ≡ suc (length ws) = refl in
          let sum = head_length w ws at u e room in
          elim (cases_lt i (word_count u)) [
            | inl here ↦ (0, u, record { is = marked_first w ws at u e room; from = omega arith; below = omega arith })
            | inr later ↦
                let rest = covered n (drop (word_count u) (w ∷ ws)) (at + 4 * word_count u) (omega arith) (All-drop (λ x. x < 2 ^ 32) (word_count u) (w ∷ ws) words)
                (i - word_count u) (omega (arith, sum)) in
                let from = rest.2.from in let below = rest.2.below in
                (word_count u + rest.0, rest.1, record { is = marked_later w ws at u e room rest.0 rest.1 rest.2.is; from = omega arith; below = omega arith })
          ]
    ]
