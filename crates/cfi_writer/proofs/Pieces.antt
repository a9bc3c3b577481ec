-- Pieces of code, of a program whose last place is a section's end: a leaf has just the places from its first one up to where the next piece
-- begins. What its places are, and which branches and jumps lead into it.
use Rattle.std.proofs.Common.{◌≡◌, ◌⊎◌, ℕ, zero, suc, ◌+◌, ◌-◌, ◌<◌, ◌≤◌, ◌==◌, inl, inr, Bool, true, false, Some, sym, ap, subst, ◌∙◌, arith}
use Rattle.std.specs.Prelude.{◌&&◌, ◌||◌, not}
use Rattle.std.proofs.lemmas.Bool.{and_from, cases_Bool, cases_eq, cases_lt, cond-false, eq-eqb, false_from_ne_true, or_parts, true≢false, not-false}
use Rattle.cfi_writer.proofs.Prelude.{EndsLast, count, item_of, Entered, begins, crosses_to, edge_target, ends_before, ends_leaf, head, is_in, is_leaf, leaf_end, next_piece, parts_them, spoils_inside, stands_in_leaf}
use Rattle.cfi_leads.proofs.Ends.{entry_begins, leaf_end_before, leaf_parts, next_before, next_from, next_here, next_last, next_on}
use Rattle.cfi_leads.proofs.Tables.{head_before, head_of_first}

together : (here there : Bool) → parts_them here there ≡ false → here ≡ there
together true there e = sym (not-false there e)
together false there e = sym e

-- what is not so where another thing is
never : (b c : Bool) → (b && not c) ≡ false → b ≡ true → c ≡ true
never true c none is = not-false c none
never false c none is = absurd (cc)

module _ (of : Entered) where
  pub leaf_begins : (e : ℕ) → is_leaf of e ≡ true → begins of e ≡ true
  leaf_begins e leaf = entry_begins of e (leaf_parts of e leaf).entry

  -- the piece of a place is that of the place before it, or begins with it
  next_first : (k : ℕ) → begins of (suc k) ≡ true → head of (suc k) ≡ suc k
  next_first k first = head_of_first of (suc k) first

  next_same : (k : ℕ) → begins of (suc k) ≡ false → head of (suc k) ≡ head of k
  unfolding head
  next_same k same = cond-false (begins of (suc k)) (suc k) (head of k) same

  pub head_same : (k : ℕ) → begins of (k + 1) ≡ false → head of (k + 1) ≡ head of k
  head_same k same =
      let next : k + 1 ≡ suc k = omega arith in
      ap (head of) next ∙ next_same k (subst (λ (n : ℕ). begins of n ≡ false) next same)

  -- behind a place at which one begins no place is in an earlier one
  pub head_from : (j k : ℕ) → begins of j ≡ true → j ≤ k → j ≤ head of k
  head_from j zero first less = omega arith
  head_from j (suc k) first less =
      elim (cases_Bool (begins of (suc k))) [
        | inl here ↦ let at = next_first k here in omega arith
        | inr same ↦
            let at = next_same k same in
            elim (cases_eq j (suc k)) [
              | inl one ↦ absurd (true≢false (sym first ∙ ap (begins of) one ∙ same))
              | inr apart ↦ let before = head_from j k first (omega arith) in omega arith
            ]
      ]

  -- where a piece ends, the next one begins, and none before
  piece_first : (k n : ℕ) → next_piece of k n < k + n → begins of (next_piece of k n) ≡ true
  piece_first k zero less = let here = next_last of k in absurd (omega arith)
  piece_first k (suc n) less =
      elim (cases_Bool (begins of k)) [
        | inl first ↦ ap (begins of) (next_here of k (suc n) first) ∙ first
        | inr same ↦
            let later = next_on of k n same in
            ap (begins of) later ∙ piece_first (k + 1) n (omega arith)
      ]

  pub end_behind : (e : ℕ) → e < leaf_end of e
  end_behind e = let from = next_from of (e + 1) (count of.program - (e + 1)) in omega arith

  pub end_before : (e k : ℕ) → e < k → k < count of.program → begins of k ≡ true → leaf_end of e ≤ k
  end_before e k from to first = next_before of (e + 1) (count of.program - (e + 1)) k (omega arith) (omega arith) first

  none_between : (e k : ℕ) → e < k → k < count of.program → k < leaf_end of e → begins of k ≡ false
  none_between e k from below to =
      false_from_ne_true (begins of k) (λ first. let past = end_before e k from below first in absurd (omega arith))

  pub in_piece : (e k : ℕ) → begins of e ≡ true → e ≤ k → k < count of.program → k < leaf_end of e → head of k ≡ e
  in_piece e zero first from below to =
      let none : 0 ≡ e = omega arith in
      head_of_first of 0 (ap (begins of) none ∙ first) ∙ none
  in_piece e (suc k) first from below to =
      elim (cases_eq (suc k) e) [
        | inl here ↦ head_of_first of (suc k) (ap (begins of) here ∙ first) ∙ here
        | inr apart ↦ next_same k (none_between e (suc k) (omega arith) below to) ∙ in_piece e k first (omega arith) (omega arith) (omega arith)
      ]

  -- of the places of a leaf
  module _ (e : ℕ) (leaf : is_leaf of e ≡ true) where
    -- each may stand there
    inside_parts : (k : ℕ) → k < count of.program → head of k ≡ e → spoils_inside of k ≡ false
    inside_parts k below here =
        let parts = or_parts (is_in of e k && spoils_inside of k) _ ((leaf_parts of e leaf).whole k below) in
        false_from_ne_true (spoils_inside of k)
        (λ spoilt. true≢false (sym (and_from (is_in of e k) (spoils_inside of k) (eq-eqb (head of k) e here) spoilt) ∙ parts.0))

    pub stands_there : (k : ℕ) → k < count of.program → head of k ≡ e → stands_in_leaf (item_of of.program k) ≡ true
    stands_there k below here =
        not-false (stands_in_leaf (item_of of.program k)) (or_parts (not (stands_in_leaf (item_of of.program k))) _ (inside_parts k below here)).0

    -- the last one does not go on
    pub last_there : (k : ℕ) → k < count of.program → head of k ≡ e → begins of (k + 1) ≡ true → ends_leaf (item_of of.program k).kind ≡ true
    last_there k below here next =
        never (begins of (k + 1)) (ends_leaf (item_of of.program k).kind)
        (or_parts (not (stands_in_leaf (item_of of.program k))) (begins of (k + 1) && not (ends_leaf (item_of of.program k).kind)) (inside_parts k below here)).1
        next

    outside_parts : (k : ℕ) → k < count of.program →
        (crosses_to of e k (edge_target (item_of of.program k)) || ((k + 1 == e) && not (ends_before (item_of of.program k).kind))) ≡ false
    outside_parts k below = (or_parts (is_in of e k && spoils_inside of k) _ ((leaf_parts of e leaf).whole k below)).1

    -- a branch or a jump leads from one of them to one of them, and from elsewhere to none
    pub stays_there : (k t : ℕ) → k < count of.program → edge_target (item_of of.program k) ≡ Some t → (head of k == e) ≡ (head of t == e)
    stays_there k t below some =
        let none = (or_parts (crosses_to of e k (edge_target (item_of of.program k))) _ (outside_parts k below)).0 in
        together (head of k == e) (head of t == e) (ap (crosses_to of e k) (sym some) ∙ none)

    -- the place before them does not go on
    pub ends_there : (k : ℕ) → k < count of.program → k + 1 ≡ e → ends_before (item_of of.program k).kind ≡ true
    ends_there k below next =
        never (k + 1 == e) (ends_before (item_of of.program k).kind)
        (or_parts (crosses_to of e k (edge_target (item_of of.program k))) _ (outside_parts k below)).1
        (eq-eqb (k + 1) e next)

    -- they are those from the first one up to the end
    module _ (below : e < count of.program) (last : EndsLast of.program) where
      pub end_inside : leaf_end of e < count of.program
      end_inside = leaf_end_before of e below last leaf

      pub end_first : begins of (leaf_end of e) ≡ true
      end_first = piece_first (e + 1) (count of.program - (e + 1)) (let inside = end_inside in omega arith)

      pub place_inside : (k : ℕ) → head of k ≡ e → (e ≤ k) × (k < leaf_end of e)
      place_inside k here =
          let before = head_before of k in
          let behind = end_behind e in
          elim (cases_lt k (leaf_end of e)) [
            | inl less ↦ (omega arith, less)
            | inr past ↦ let from = head_from (leaf_end of e) k end_first past in absurd (omega arith)
          ]

      pub place_outside : (k : ℕ) → k < count of.program → (head of k ≡ e → ⊥) → (k < e) ⊎ (leaf_end of e ≤ k)
      place_outside k there apart =
          elim (cases_lt k e) [
            | inl before ↦ inl before
            | inr from ↦
                elim (cases_lt k (leaf_end of e)) [
                  | inl less ↦ absurd (apart (in_piece e k (leaf_begins e leaf) from there less))
                  | inr past ↦ inr past
                ]
          ]
