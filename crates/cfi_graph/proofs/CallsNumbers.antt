-- The numbers of system calls that words spell, one by one: of one that is too large it is kept that there is one.
use Rattle.std.proofs.Common.{◌≡◌, ℕ, ◌<◌, ◌≤◌, ◌^◌, nat_lt, nat_le, Bool, true, false, ◌&&◌, ◌||◌, if◌then◌else◌, List, [], ◌∷◌, ◌++◌, length, map, Option, Some, None, refl, sym, ◌∙◌, ap, append_assoc, inl, inr, ◌⊎◌, arith}
use Rattle.std.specs.List.{list_all, list_any}
use Rattle.std.specs.Option.{option_and_then, option_map}
use Rattle.std.proofs.lemmas.Bool.{cases_Bool, le-leb, lt-ltb}
use Rattle.rv_word.proofs.Cases.{mapped}
use Rattle.std.proofs.lemmas.List.{append-nil, length-append, length-map}
use Rattle.rv_word.specs.Numbers.{MOST_NUMBERS}
use Rattle.text_lines.specs.Decimal.{decimal}
use Rattle.cfi_graph.specs.Calls.{decimals_of, if_few, small_in, with_size}

abbrev is_small : ℕ → Bool
is_small n = nat_lt n (2 ^ 11)

abbrev pub kept : ℕ → ℕ
kept n = (with_size n).0

abbrev pub large : ℕ → Bool
large n = (with_size n).1

abbrev few : List ℕ → Bool
few numbers = nat_lt 0 (length numbers) && nat_le (length numbers) MOST_NUMBERS

-- what numbers come to, with whether one was too large
abbrev pub told : List ℕ → Bool → Option (Option (List ℕ))
told numbers is_large = if few numbers then Some (if is_large then None else Some numbers) else None

-- the same with the numbers that are left
abbrev pub told_with : List ℕ → Bool → Option (List ℕ) → Option (Option (List ℕ))
told_with numbers is_large None = None
told_with numbers is_large (Some rest) = told (numbers ++ map kept rest) (is_large || list_any large rest)

-- either all are small, and kept as they are, or one is not
sizes : (ns : List ℕ) → ((list_any large ns ≡ false) × (list_all is_small ns ≡ true) × (map kept ns ≡ ns)) ⊎ ((list_any large ns ≡ true) × (list_all is_small ns ≡ false))
sizes [] = inl (refl, refl, refl)
sizes (n ∷ ns) = elim (cases_Bool (nat_lt n (2 ^ 11))) [
  | inl small ↦ elim (sizes ns) [
    | inl rest ↦ inl (rw (small, large) rest.0, rw small rest.1, rw (small, kept) (ap (λ xs. n ∷ xs) rest.2))
    | inr rest ↦ inr (rw (small, large) rest.0, rw small rest.1)
  ]
  | inr big ↦ inr (rw (big, large) refl, rw big refl)
]

small_or : (ns : List ℕ) → (if list_any large ns then None else Some (map kept ns)) ≡ small_in ns
small_or ns = elim (sizes ns) [
  | inl s ↦ rw (s.0, s.1, s.2) refl
  | inr s ↦ rw (s.0, s.1) refl
]

pub begins : (o : Option (List ℕ)) → told_with [] false o ≡ option_map small_in (option_and_then if_few o)
begins None = refl
begins (Some ns) =
    ap (λ (n : ℕ). if nat_lt 0 n && nat_le n MOST_NUMBERS then Some (if list_any large ns then None else Some (map kept ns)) else None) (length-map ns kept)
    ∙ by_few (few ns)
  where
    by_few : (b : Bool) → (if b then Some (if list_any large ns then None else Some (map kept ns)) else None) ≡ option_map small_in (if b then Some ns else None)
    by_few true = ap Some (small_or ns)
    by_few false = refl

module _ (numbers : List ℕ) (is_large : Bool) {words rest : List (List ℕ)} {word : List ℕ} {all : Option (Option (List ℕ))} where
  pub bad_number : words ≡ word ∷ rest → decimal word ≡ None → told_with numbers is_large (decimals_of words) ≡ all → None ≡ all
  unfolding decimals_of
  bad_number p e h = rw (p, e) at h

  -- a ninth number
  pub one_more : (n : ℕ) → words ≡ word ∷ rest → decimal word ≡ Some n → length numbers ≡ MOST_NUMBERS → told_with numbers is_large (decimals_of words) ≡ all → None ≡ all
  unfolding decimals_of
  one_more n p e full h = again (decimals_of rest) (rw (p, e) at h)
    where
      many : (others : List ℕ) → few (numbers ++ map kept (n ∷ others)) ≡ false
      many others =
          let long : MOST_NUMBERS < length (numbers ++ map kept (n ∷ others)) = omega (arith, full, length-append numbers (map kept (n ∷ others))) in
          grind (arith, long)

      again : (others : Option (List ℕ)) → told_with numbers is_large (option_map (λ ys. n ∷ ys) others) ≡ all → None ≡ all
      again None k = k
      again (Some ys) k = rw (many ys) at k

  pub next_number : (n : ℕ) → words ≡ word ∷ rest → decimal word ≡ Some n → told_with numbers is_large (decimals_of words) ≡ all → told_with (numbers ++ kept n ∷ []) (is_large || large n) (decimals_of rest) ≡ all
  unfolding decimals_of
  next_number n p e h = again (decimals_of rest) (rw (p, e) at h)
    where
      or_more : (a b c : Bool) → ((a || b) || c) ≡ (a || (b || c))
      or_more true b c = refl
      or_more false b c = refl

      again : (others : Option (List ℕ)) → told_with numbers is_large (option_map (λ ys. n ∷ ys) others) ≡ all → told_with (numbers ++ kept n ∷ []) (is_large || large n) others ≡ all
      again None k = k
      again (Some ys) k = ap (λ (xs : List ℕ). told xs ((is_large || large n) || list_any large ys)) (append_assoc numbers (kept n ∷ []) (map kept ys)) ∙ ap (λ (b : Bool). told (numbers ++ kept n ∷ map kept ys) b) (or_more is_large (large n) (list_any large ys)) ∙ k

  -- the same by what is told of the number
  pub next_told : (number : ℕ) (big : Bool) → words ≡ word ∷ rest → option_map with_size (decimal word) ≡ Some (number, big) → told_with numbers is_large (decimals_of words) ≡ all → told_with (numbers ++ number ∷ []) (is_large || big) (decimals_of rest) ≡ all
  next_told number big p e h =
      let m = mapped with_size (decimal word) (number, big) e in
      ap (λ (k : ℕ). told_with (numbers ++ k ∷ []) (is_large || big) (decimals_of rest)) (sym (ap (λ (q : ℕ × Bool). q.0) m.2))
      ∙ ap (λ (b : Bool). told_with (numbers ++ kept m.0 ∷ []) (is_large || b) (decimals_of rest)) (sym (ap (λ (q : ℕ × Bool). q.1) m.2))
      ∙ next_number m.0 p m.1 h

  pub one_more_told : (number : ℕ) (big : Bool) → words ≡ word ∷ rest → option_map with_size (decimal word) ≡ Some (number, big) → length numbers ≡ MOST_NUMBERS → told_with numbers is_large (decimals_of words) ≡ all → None ≡ all
  one_more_told number big p e full h =
      let m = mapped with_size (decimal word) (number, big) e in one_more m.0 p m.1 full h

pub no_number : (numbers : List ℕ) (is_large : Bool) {all : Option (Option (List ℕ))} → told_with numbers is_large (decimals_of []) ≡ all → told numbers is_large ≡ all
unfolding decimals_of
no_number numbers is_large h = ap (λ (xs : List ℕ). told xs is_large) (sym (append-nil numbers)) ∙ rw (or_none is_large) at h
  where
    or_none : (b : Bool) → (b || false) ≡ b
    or_none true = refl
    or_none false = refl

-- how many there are at the end
pub told_none : (numbers : List ℕ) (is_large : Bool) → length numbers ≡ 0 → told numbers is_large ≡ None
told_none [] is_large e = refl
told_none (n ∷ ns) is_large e = absurd (omega arith)

pub told_some : (numbers : List ℕ) (is_large : Bool) → (length numbers ≡ 0 → ⊥) → length numbers ≤ MOST_NUMBERS → told numbers is_large ≡ Some (if is_large then None else Some numbers)
told_some [] is_large some most = absurd (some refl)
told_some (n ∷ ns) is_large some most = rw (lt-ltb 0 (length (n ∷ ns)) (omega arith), le-leb (length (n ∷ ns)) MOST_NUMBERS most) refl

pub told_large : (numbers : List ℕ) (is_large : Bool) → is_large ≡ true → (length numbers ≡ 0 → ⊥) → length numbers ≤ MOST_NUMBERS → told numbers is_large ≡ Some None
told_large numbers is_large e some most = told_some numbers is_large some most ∙ ap (λ (b : Bool). Some (if b then None else Some numbers)) e

pub told_small : (numbers : List ℕ) (is_large : Bool) → is_large ≡ false → (length numbers ≡ 0 → ⊥) → length numbers ≤ MOST_NUMBERS → told numbers is_large ≡ Some (Some numbers)
told_small numbers is_large e some most = told_some numbers is_large some most ∙ ap (λ (b : Bool). Some (if b then None else Some numbers)) e
