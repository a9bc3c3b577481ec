-- Rising places: those in a span, and the first of a list.
use Rattle.std.proofs.Common.{◌≡◌, ℕ, zero, suc, ◌+◌, ◌-◌, ◌<◌, ◌≤◌, Bool, true, false, ◌&&◌, ◌||◌, if◌then◌else◌, List, [], ◌∷◌, ◌++◌, length, get_or, take, drop, Option, Some, None, inl, inr, refl, sym, ap, subst, ◌∙◌, arith}
use Rattle.std.specs.List.{Contains, slice_get}
use Rattle.std.specs.List.Sorted.{IsPartitionedBy, IsStrictlyIncreasing}
use Rattle.std.proofs.Math.Dec.{ltb}
use Rattle.std.specs.Option.{option_or}
use Rattle.std.proofs.Math.Nat.{min-eq_left, min-eq_right}
use Rattle.std.proofs.lemmas.Bool.{and_from, and_parts, cases_Bool, cases_lt, lt-ltb, ltb-true}
use Rattle.std.proofs.lemmas.List.{append-nil, get_or-drop, get_or-take, get_or_default, length-drop, length-take-le}
use Rattle.std.proofs.lemmas.List.Elements.{All-contains}
use Rattle.least.specs.First.{first_below}
use Rattle.least.specs.Least.{lesser}
use Rattle.least.proofs.Firsts.{first_bound}
use Rattle.cfi_flow.specs.declared.span.Span.{Span}
use Rattle.cfi_flow.specs.Below.{where_below}
use Rattle.cfi_flow.specs.Kept.{mark_at, open_targets}
use Rattle.cfi_flow.specs.Pointed.{is_start}
use Rattle.cfi_flow.specs.Spans.{in_span}
use Rattle.cfi_flow.proofs.Listing.{below_all, below_same}
use Rattle.cfi_flow.proofs.Rising.{below_found, below_rising, rising_same}
use Rattle.cfi_flow.proofs.Spanning.{in_parts, in_yes}

-- what is found below a bound
pub found : (p : ℕ → Bool) (n t : ℕ) → Contains (where_below p n) t → (t < n) × (p t ≡ true)
found p n t h = (
  All-contains (λ (u : ℕ). u < n) (where_below p n) t (below_all (λ (u : ℕ). u < n) p n (λ k less holds. less)) h,
  All-contains (λ (u : ℕ). p u ≡ true) (where_below p n) t (below_all (λ (u : ℕ). p u ≡ true) p n (λ k less holds. holds)) h,
)

-- numbers that rise do so from each to each later one
pub rises : (xs : List ℕ) → IsStrictlyIncreasing xs → (i m : ℕ) → i + suc m < length xs → get_or xs i 0 < get_or xs (i + suc m) 0
rises xs rising i zero inside = rising i inside
rises xs rising i (suc m) inside =
    let before = rises xs rising i m (omega arith) in
    let step = rising (i + suc m) (omega arith) in
    let same : i + suc m + 1 ≡ i + suc (suc m) = omega arith in
    let last = ap (λ (k : ℕ). get_or xs k 0) same in
    omega arith

pub later : (xs : List ℕ) → IsStrictlyIncreasing xs → (i j : ℕ) → i < j → j < length xs → get_or xs i 0 < get_or xs j 0
later xs rising i j less inside =
    let same : i + suc (j - suc i) ≡ j = omega arith in
    subst (λ (k : ℕ). get_or xs i 0 < get_or xs k 0) same (rises xs rising i (j - suc i) (omega arith))

pub parted_below : (xs : List ℕ) (bound : ℕ) → IsStrictlyIncreasing xs → IsPartitionedBy (λ (x : ℕ). ltb x bound) xs
parted_below xs bound rising i j d low below holds =
    let less = ltb-true (get_or xs j d) bound holds in
    let first = get_or_default xs i 0 d (omega arith) in
    let second = get_or_default xs j 0 d below in
    elim (cases_lt i j) [
      | inl before ↦ let order = later xs rising i j before below in lt-ltb (get_or xs i d) bound (omega arith)
      | inr same ↦
          let one : j ≡ i = omega arith in
          subst (λ (k : ℕ). ltb (get_or xs k d) bound ≡ true) one holds
    ]

module _ (xs : List ℕ) (rising : IsStrictlyIncreasing xs) (s : Span) (from to : ℕ) (order : from ≤ to) (most : to ≤ length xs)
    (early : (k : ℕ) → k < from → get_or xs k 0 < s.from) (on : (k : ℕ) → from ≤ k → k < length xs → s.from ≤ get_or xs k 0)
    (low : (k : ℕ) → k < to → get_or xs k 0 < s.to) (high : (k : ℕ) → to ≤ k → k < length xs → s.to ≤ get_or xs k 0) where
  abbrev part : List ℕ
  part = take (to - from) (drop from xs)

  many : length part ≡ to - from
  many = length-take-le (to - from) (drop from xs) (omega (arith, length-drop from xs))

  at : (k d : ℕ) → k < to - from → get_or part k d ≡ get_or xs (from + k) d
  at k d less = get_or-take (to - from) (drop from xs) k d less ∙ get_or-drop from xs k d

  part_rises : IsStrictlyIncreasing part
  part_rises k inside =
      let first = at k 0 (omega (arith, many)) in
      let second = at (k + 1) 0 (omega (arith, many)) in
      let less = later xs rising (from + k) (from + (k + 1)) (omega arith) (omega (arith, many)) in
      omega arith

  -- those of rising places that are in a span
  pub part_is : (p : ℕ → Bool) (n : ℕ) → xs ≡ where_below p n → part ≡ where_below (λ t. p t && in_span s t) n
  part_is p n is =
      rising_same part (where_below (λ t. p t && in_span s t) n) part_rises (below_rising (λ t. p t && in_span s t) n)
      (λ t h.
      let k : ℕ = h.0 in
      let less : k < to - from = omega (arith, h.1, many) in
      let same : get_or xs (from + k) 0 ≡ t = get_or_default xs (from + k) 0 t (omega arith) ∙ sym (at k t less) ∙ h.2 in
      let member : Contains xs t = (from + k, omega arith, get_or_default xs (from + k) t 0 (omega arith) ∙ same) in
      let of = found p n t (subst (λ (ys : List ℕ). Contains ys t) is member) in
      let above = on (from + k) (omega arith) (omega arith) in
      let below = low (from + k) (omega arith) in
      below_found (λ u. p u && in_span s u) n t of.0 (and_from _ _ of.1 (in_yes s t (omega arith) (omega arith))))
      (λ t h.
      let of = found (λ u. p u && in_span s u) n t h in
      let both = and_parts (p t) (in_span s t) of.1 in
      let inside = in_parts s t both.1 in
      let above : s.from ≤ t = inside.0 in
      let below : t < s.to = inside.1 in
      let member = subst (λ (ys : List ℕ). Contains ys t) (sym is) (below_found p n t of.0 both.0) in
      let k : ℕ = member.0 in
      let there : k < length xs = member.1 in
      let same : get_or xs k 0 ≡ t = get_or_default xs k 0 t there ∙ member.2 in
      let first : from ≤ k = elim (cases_lt k from) [
        | inl off ↦ let no = early k off in absurd (omega arith)
        | inr yet ↦ yet
      ] in
      let last : k < to = elim (cases_lt k to) [
        | inl yet ↦ yet
        | inr off ↦ let no = high k off there in absurd (omega arith)
      ] in
      let back : from + (k - from) ≡ k = omega arith in
      (k - from, omega (arith, many), at (k - from) t (omega arith) ∙ ap (λ (m : ℕ). get_or xs m t) back ∙ member.2))

pub no_part : (p : ℕ → Bool) (s : Span) (n : ℕ) → s.to ≤ s.from → where_below (λ t. p t && in_span s t) n ≡ []
no_part p s n none =
    rising_same (where_below (λ t. p t && in_span s t) n) [] (below_rising (λ t. p t && in_span s t) n) (λ k inside. absurd (omega arith))
    (λ t h.
    let of = found (λ u. p u && in_span s u) n t h in
    let inside = in_parts s t (and_parts (p t) (in_span s t) of.1).1 in
    let above : s.from ≤ t = inside.0 in
    let below : t < s.to = inside.1 in
    absurd (omega arith))
    (λ t h. let below = h.1 in absurd (omega arith))

-- the first that is found
grown_first : (xs : List ℕ) (n : ℕ) → slice_get (xs ++ n ∷ []) 0 ≡ option_or (slice_get xs 0) (Some n)
grown_first [] n = refl
grown_first (x ∷ xs) n = refl

pub first_is : (p : ℕ → Bool) (n : ℕ) → slice_get (where_below p n) 0 ≡ first_below p n
unfolding where_below first_below
first_is p zero = refl
first_is p (suc n) =
    let before = first_is p n in
    elim (cases_Bool (p n)) [
      | inl holds ↦ rw holds (grown_first (where_below p n) n ∙ ap (λ (o : Option ℕ). option_or o (Some n)) before)
      | inr fails ↦ rw (fails, append-nil) (before ∙ sym (or_none (first_below p n)))
    ] where
      or_none : (o : Option ℕ) → option_or o None ≡ o
      or_none None = refl
      or_none (Some k) = refl

-- the lesser of two firsts
lesser_step : (a b : Option ℕ) (n : ℕ) (p q : Bool) → ((k : ℕ) → a ≡ Some k → k < n) → ((k : ℕ) → b ≡ Some k → k < n)
    → lesser (option_or a (if p then Some n else None)) (option_or b (if q then Some n else None))
    ≡ option_or (lesser a b) (if p || q then Some n else None)
lesser_step None None n true true low high = ap Some (min-eq_left (omega arith))
lesser_step None None n true false low high = refl
lesser_step None None n false true low high = refl
lesser_step None None n false false low high = refl
lesser_step None (Some k) n true q low high = let less = high k refl in ap Some (min-eq_right (omega arith))
lesser_step None (Some k) n false q low high = refl
lesser_step (Some k) None n p true low high = let less = low k refl in ap Some (min-eq_left (omega arith))
lesser_step (Some k) None n p false low high = refl
lesser_step (Some k) (Some m) n p q low high = refl

pub lesser_first : (p q : ℕ → Bool) (n : ℕ) → lesser (first_below p n) (first_below q n) ≡ first_below (λ t. p t || q t) n
unfolding first_below
lesser_first p q zero = refl
lesser_first p q (suc n) =
    lesser_step (first_below p n) (first_below q n) n (p n) (q n) (λ k e. first_bound p n k e) (λ k e. first_bound q n k e)
    ∙ ap (λ (o : Option ℕ). option_or o (if p n || q n then Some n else None)) (lesser_first p q n)

open_parts : (a b c : Bool) → ((a && b) || (a && c)) ≡ (a && (b || c))
open_parts true b c = refl
open_parts false b c = refl

pub first_opened : (taken begun : List Bool) (s : Span) (starts inside : List ℕ) → starts ≡ where_below (is_start taken begun) (length taken)
    → inside ≡ where_below (λ t. mark_at taken t && in_span s t) (length taken)
    → lesser (slice_get starts 0) (slice_get inside 0) ≡ slice_get (open_targets taken begun s) 0
first_opened taken begun s starts inside one two =
    rw (one, two)
    (rw (first_is (is_start taken begun) (length taken), first_is (λ t. mark_at taken t && in_span s t) (length taken))
    (lesser_first (is_start taken begun) (λ t. mark_at taken t && in_span s t) (length taken))
    ∙ sym (first_is (λ t. is_start taken begun t || mark_at taken t && in_span s t) (length taken))
    ∙ ap (λ (xs : List ℕ). slice_get xs 0) (below_same _ _ (length taken) (λ t below. open_parts (mark_at taken t) (mark_at begun t) (in_span s t))))
