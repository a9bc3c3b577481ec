-- Which addresses lie in leaves, under graphs of version 3: from the gate of a place to its word one does where the place is in a leaf, and
-- then it lies in that one.
use Rattle.std.proofs.Common.{◌≡◌, ℕ, zero, suc, ◌+◌, ◌-◌, ◌≤◌, ◌<◌, inl, inr, Bool, true, false, List, [], ◌∷◌, Some, None, refl, sym, ap, ◌∙◌, arith}
use Rattle.std.specs.Prelude.{is_some, nat_le, nat_lt, slice_get}
use Rattle.std.specs.List.{find}
use Rattle.std.proofs.lemmas.Bool.{and_from, and_parts, cases_Bool, cases_eq, cases_lt, cond-false, cond-true, false_from_ne_true, le-leb, leb-true, lt-ltb, ltb-true, true≢false}
use Rattle.std.proofs.lemmas.Option.{same_Some}
use Rattle.cfi_writer.proofs.Prelude.{EndsLast, count, is_end, item_of, has_leaves, Entered, lead_size, head, in_leaf, is_leaf, leaf_end, entered_in, gate, word, whole_at, leaf_of, IsAccepted, Choice}
use Rattle.cfi_leads.proofs.Tables.{head_before, head_of_first}
use Rattle.cfi_map.proofs.PartSizes.{unit_many}
use Rattle.cfi_pending.specs.Kinds as kinds
use Rattle.cfi_writer.proofs.LeafLines.{IsLeafPlace, from_leaf, leaf_at, leaves_of, to_leaf}
use Rattle.cfi_writer.proofs.Pieces.{end_behind, end_inside, leaf_begins, place_inside, place_outside}
use Rattle.cfi_writer.proofs.Standing.{gates_rise, next_gate, no_lead_in_leaf}

-- what is found in a list: nothing, or the only one that passes
find_none : {A : Type 0} (p : A → Bool) (xs : List A) → ((i : ℕ) (x : A) → slice_get xs i ≡ Some x → p x ≡ false) → find p xs ≡ None
find_none p [] none = refl
find_none p (x ∷ xs) none = cond-false (p x) (Some x) (find p xs) (none 0 x refl) ∙ find_none p xs (λ i y get. none (suc i) y get)

find_only : {A : Type 0} (p : A → Bool) (xs : List A) (i : ℕ) (y : A) → slice_get xs i ≡ Some y → p y ≡ true →
    ((j : ℕ) (x : A) → slice_get xs j ≡ Some x → p x ≡ true → x ≡ y) → find p xs ≡ Some y
find_only p [] i y get holds only = absurd (cc)
find_only p (x ∷ xs) zero y get holds only =
    let same : x ≡ y = same_Some x y get in
    cond-true (p x) (Some x) (find p xs) (ap p same ∙ holds) ∙ ap Some same
find_only p (x ∷ xs) (suc i) y get holds only =
    elim (cases_Bool (p x)) [
      | inl here ↦ cond-true (p x) (Some x) (find p xs) here ∙ ap Some (only 0 x refl here)
      | inr other ↦ cond-false (p x) (Some x) (find p xs) other ∙ find_only p xs i y get holds (λ j z there. only (suc j) z there)
    ]

module _ (m : Choice) (ok : IsAccepted m) where
  abbrev of : Entered
  of = entered_in m.layout

  -- the last place is a section's end
  pub ends_last : EndsLast m.layout.program
  ends_last some =
      let (n, counted, ends) = ok.last in
      let same : n ≡ count m.layout.program - 1 = omega arith in
      ap (λ (j : ℕ). is_end (item_of m.layout.program j).kind) (sym same) ∙ ends

  -- so another one has a place behind it
  pub next_below : (k : ℕ) → k < count m.layout.program → is_end (item_of m.layout.program k).kind ≡ false → k + 1 < count m.layout.program
  next_below k below other =
      elim (cases_lt (k + 1) (count m.layout.program)) [
        | inl more ↦ more
        | inr last ↦
            let (n, counted, ends) = ok.last in
            let same : n ≡ k = omega arith in
            absurd (true≢false (sym ends ∙ ap (λ (j : ℕ). is_end (item_of m.layout.program j).kind) same ∙ other))
      ]

  -- the word of a place stands from its gate on, and before the gates of later places
  pub word_from : (k : ℕ) → gate m.layout k ≤ word m.layout k
  word_from k = let at : word m.layout k ≡ gate m.layout k + lead_size of k = refl in omega arith

  pub gates_up : (j k : ℕ) → j ≤ k → k < count m.layout.program → gate m.layout j ≤ gate m.layout k
  gates_up j k most below =
      elim (cases_eq j k) [
        | inl same ↦ let here : gate m.layout j ≡ gate m.layout k = ap (gate m.layout) same in omega arith
        | inr apart ↦ let rise = gates_rise m ok j k (omega arith) below in omega arith
      ]

  word_before : (k n : ℕ) → k < n → n < count m.layout.program → word m.layout k < gate m.layout n
  word_before k n less below =
      let next = next_gate m ok k (omega arith) in
      let some = unit_many of k (item_of m.layout.program k) (whole_at m.whole k) in
      let up = gates_up (k + 1) n (omega arith) below in
      omega arith

  -- in a leaf it stands at the gate
  pub leaf_word : (e : ℕ) → is_leaf of e ≡ true → word m.layout e ≡ gate m.layout e
  leaf_word e leaf = no_lead_in_leaf m ok e (ap (is_leaf of) (head_of_first of e (leaf_begins of e leaf)) ∙ leaf)

  pub leaf_some : (e : ℕ) → e < count m.layout.program → is_leaf of e ≡ true → word m.layout e < gate m.layout (leaf_end of e)
  leaf_some e below leaf = word_before e (leaf_end of e) (end_behind of e) (end_inside of e leaf below ends_last)

  -- a leaf has the gates of its places, and nothing of others
  pub range_has : (e k : ℕ) → e < count m.layout.program → is_leaf of e ≡ true → k < count m.layout.program → head of k ≡ e →
      kinds.in_leaf (gate m.layout k) (leaf_at m.layout e) ≡ true
  range_has e k there leaf below here =
      let (from, to) = place_inside of e leaf there ends_last k here in
      let start = leaf_word e leaf in
      let up = gates_up e k from below in
      let rise = gates_rise m ok k (leaf_end of e) to (end_inside of e leaf there ends_last) in
      and_from (nat_le (word m.layout e) (gate m.layout k)) (nat_lt (gate m.layout k) (gate m.layout (leaf_end of e)))
      (le-leb (word m.layout e) (gate m.layout k) (omega arith)) (lt-ltb (gate m.layout k) (gate m.layout (leaf_end of e)) rise)

  range_lacks : (e k a : ℕ) → e < count m.layout.program → is_leaf of e ≡ true → k < count m.layout.program → (head of k ≡ e → ⊥) →
      gate m.layout k ≤ a → a ≤ word m.layout k → kinds.in_leaf a (leaf_at m.layout e) ≡ false
  range_lacks e k a there leaf below apart from to =
      false_from_ne_true (kinds.in_leaf a (leaf_at m.layout e))
      (λ inside.
      let parts = and_parts (nat_le (word m.layout e) a) (nat_lt a (gate m.layout (leaf_end of e))) inside in
      let low = leb-true (word m.layout e) a parts.0 in
      let high = ltb-true a (gate m.layout (leaf_end of e)) parts.1 in
      elim (place_outside of e leaf there ends_last k below apart) [
        | inl before ↦
            let less = word_before k e before there in
            let start = word_from e in
            absurd (omega arith)
        | inr past ↦ let up = gates_up (leaf_end of e) k past below in absurd (omega arith)
      ])

  module _ (lean : has_leaves m.layout.closed.version ≡ true) where
    pub no_leaf_at : (k a : ℕ) → k < count m.layout.program → in_leaf of k ≡ false → gate m.layout k ≤ a → a ≤ word m.layout k →
        leaf_of (leaves_of m) a ≡ None
    no_leaf_at k a below outside from to =
        find_none (kinds.in_leaf a) (leaves_of m)
        (λ i leaf get.
        let (e, there, is, same) = from_leaf m i leaf get in
        ap (kinds.in_leaf a) (sym same)
        ∙ range_lacks e k a is.below is.leaf below (λ here. true≢false (sym is.leaf ∙ ap (is_leaf of) (sym here) ∙ outside)) from to)

    pub the_leaf_at : (k : ℕ) → k < count m.layout.program → in_leaf of k ≡ true → leaf_of (leaves_of m) (gate m.layout k) ≡ Some (leaf_at m.layout (head of k))
    the_leaf_at k below inside =
        let before = head_before of k in
        let place : IsLeafPlace m.layout (head of k) = record { lean = lean; below = omega arith; leaf = inside } in
        let (i, get) = to_leaf m (head of k) place in
        let word_is = no_lead_in_leaf m ok k inside in
        find_only (kinds.in_leaf (gate m.layout k)) (leaves_of m) i (leaf_at m.layout (head of k)) get
        (range_has (head of k) k place.below inside below refl)
        (λ j leaf there has.
        let (e, at, is, same) = from_leaf m j leaf there in
        elim (cases_eq (head of k) e) [
          | inl one ↦ sym same ∙ ap (leaf_at m.layout) (sym one)
          | inr apart ↦
              let lacks = range_lacks e k (gate m.layout k) is.below is.leaf below apart (omega arith) (omega arith) in
              absurd (true≢false (sym has ∙ ap (kinds.in_leaf (gate m.layout k)) (sym same) ∙ lacks))
        ])

    pub leaf_there : (k a : ℕ) → k < count m.layout.program → gate m.layout k ≤ a → a ≤ word m.layout k → is_some (leaf_of (leaves_of m) a) ≡ in_leaf of k
    leaf_there k a below from to =
        elim (cases_Bool (in_leaf of k)) [
          | inr outside ↦ ap is_some (no_leaf_at k a below outside from to) ∙ sym outside
          | inl inside ↦
              let word_is = no_lead_in_leaf m ok k inside in
              let here : a ≡ gate m.layout k = omega arith in
              ap (λ (b : ℕ). is_some (leaf_of (leaves_of m) b)) here ∙ ap is_some (the_leaf_at k below inside) ∙ sym inside
        ]
