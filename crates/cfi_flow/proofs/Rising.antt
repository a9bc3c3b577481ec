-- Numbers below a bound as a rising list: one list has just certain members.
use Rattle.std.proofs.Common.{◌≡◌, ◌==◌, ℕ, zero, suc, ◌+◌, ◌<◌, ◌≤◌, Bool, true, ◌||◌, List, [], ◌∷◌, ◌++◌, length, get_or, Option, Some, None, inl, inr, refl, sym, ap, ◌∙◌, arith, add-one}
use Rattle.std.specs.List.{All, Contains, cons_option, filter_map, list_any}
use Rattle.std.specs.List.Sorted.{IsStrictlyIncreasing}
use Rattle.std.proofs.Math.ListN.{get_or-append}
use Rattle.std.proofs.Math.Seq.{get_or-append_seam}
use Rattle.std.proofs.lemmas.Bool.{cases_Bool, cases_lt, eq-eqb, eqb-true, or_cases, or_left, or_right}
use Rattle.std.proofs.lemmas.List.{append-nil, get_or_default, length-append}
use Rattle.std.proofs.lemmas.List.Elements.{All-contains, Contains-append_left, Contains-append_right}
use Rattle.cfi_flow.specs.Below.{where_below}
use Rattle.cfi_flow.specs.Policy.{is_number}
use Rattle.cfi_flow.proofs.Listing.{below_all}

pub rising_with : (xs : List ℕ) (n : ℕ) → IsStrictlyIncreasing xs → All (λ t. t < n) xs → IsStrictlyIncreasing (xs ++ n ∷ [])
rising_with xs n rising below k inside =
    let more = length-append xs (n ∷ []) in
    let here : k < length xs = omega arith in
    let first = get_or-append xs (n ∷ []) 0 k here in
    elim (cases_lt (k + 1) (length xs)) [
      | inl less ↦
          let second = get_or-append xs (n ∷ []) 0 (k + 1) less in
          let old = rising k less in
          omega arith
      | inr last ↦
          let at : k + 1 ≡ length xs = omega arith in
          let second = ap (λ (i : ℕ). get_or (xs ++ n ∷ []) i 0) at ∙ get_or-append_seam xs n [] 0 in
          let old = below k 0 here in
          omega arith
    ]

pub below_rising : (p : ℕ → Bool) (n : ℕ) → IsStrictlyIncreasing (where_below p n)
unfolding where_below
below_rising p zero = λ k inside. absurd (omega arith)
below_rising p (suc n) =
    let before = below_rising p n in
    elim (cases_Bool (p n)) [
      | inl holds ↦ rw holds (rising_with (where_below p n) n before (below_all (λ (t : ℕ). t < n) p n (λ k less at. less)))
      | inr fails ↦ rw (fails, append-nil) before
    ]

pub below_found : (p : ℕ → Bool) (n t : ℕ) → t < n → p t ≡ true → Contains (where_below p n) t
unfolding where_below
below_found p zero t less holds = absurd (omega arith)
below_found p (suc n) t less holds = elim (cases_lt t n) [
  | inl before ↦ Contains-append_left (where_below p n) _ t (below_found p n t before holds)
  | inr last ↦
      let same : n ≡ t = omega arith in
      let at : p n ≡ true = ap p same ∙ holds in
      rw at (Contains-append_right (where_below p n) (n ∷ []) t (0, omega arith, same))
]

pub tail_rises : (x : ℕ) (xs : List ℕ) → IsStrictlyIncreasing (x ∷ xs) → IsStrictlyIncreasing xs
tail_rises x xs rising k inside =
    let step = rising (suc k) (omega arith) in
    rw add-one (rw add-one at step)

least_head : (x : ℕ) (xs : List ℕ) → IsStrictlyIncreasing (x ∷ xs) → (i : ℕ) → i < length xs → x < get_or xs i 0
least_head x xs rising zero inside = rising 0 (omega arith)
least_head x xs rising (suc i) inside =
    let before = least_head x xs rising i (omega arith) in
    let step : get_or xs i 0 < get_or xs (suc i) 0 = rw add-one at (tail_rises x xs rising i (omega arith)) in
    omega arith

-- rising lists with the same members are one
pub in_tail : (x : ℕ) (xs : List ℕ) (t : ℕ) → Contains xs t → Contains (x ∷ xs) t
in_tail x xs t h = let below = h.1 in (suc (h.0), omega arith, h.2)

from_head : (x : ℕ) (xs : List ℕ) (t i : ℕ) → i < length (x ∷ xs) → get_or (x ∷ xs) i t ≡ t → (x ≡ t → ⊥) → Contains xs t
from_head x xs t zero below e other = absurd (other e)
from_head x xs t (suc i) below e other = (i, omega arith, e)

head_least : (y : ℕ) (ys : List ℕ) (x : ℕ) → IsStrictlyIncreasing (y ∷ ys) → (i : ℕ) → i < length (y ∷ ys) → get_or (y ∷ ys) i x ≡ x → y ≤ x
head_least y ys x rising zero below e = omega arith
head_least y ys x rising (suc i) below e =
    let inside : i < length ys = omega arith in
    let more = least_head y ys rising i inside in
    let same : get_or ys i 0 ≡ get_or ys i x = get_or_default ys i 0 x inside in
    omega arith

past : (x : ℕ) (xs : List ℕ) → IsStrictlyIncreasing (x ∷ xs) → (t : ℕ) → Contains xs t → x ≡ t → ⊥
past x xs rising t h e =
    let inside : h.0 < length xs = h.1 in
    let more = least_head x xs rising h.0 inside in
    let same : get_or xs h.0 0 ≡ t = get_or_default xs h.0 0 t inside ∙ h.2 in
    omega arith

pub rising_same : (xs ys : List ℕ) → IsStrictlyIncreasing xs → IsStrictlyIncreasing ys → ((t : ℕ) → Contains xs t → Contains ys t)
    → ((t : ℕ) → Contains ys t → Contains xs t) → xs ≡ ys
rising_same [] [] rx ry to back = refl
rising_same [] (y ∷ ys) rx ry to back = let none = back y (0, omega arith, refl) in let below = none.1 in absurd (omega arith)
rising_same (x ∷ xs) [] rx ry to back = let none = to x (0, omega arith, refl) in let below = none.1 in absurd (omega arith)
rising_same (x ∷ xs) (y ∷ ys) rx ry to back =
    let there = to x (0, omega arith, refl) in
    let here = back y (0, omega arith, refl) in
    let low = head_least y ys x ry there.0 there.1 there.2 in
    let high = head_least x xs y rx here.0 here.1 here.2 in
    let same : x ≡ y = omega arith in
    let rest : xs ≡ ys = rising_same xs ys (tail_rises x xs rx) (tail_rises y ys ry)
    (λ t h. let at = to t (in_tail x xs t h) in from_head y ys t at.0 at.1 at.2 (λ e. past x xs rx t h (same ∙ e)))
    (λ t h. let at = back t (in_tail y ys t h) in from_head x xs t at.0 at.1 at.2 (λ e. past y ys ry t h (sym same ∙ e))) in
    cc

-- the members of what is found among names
in_cons : (o : Option ℕ) (rest : List ℕ) (t : ℕ) (b : Bool) → (Contains rest t → b ≡ true) → (i : ℕ) → i < length (cons_option o rest)
    → get_or (cons_option o rest) i t ≡ t → (is_number t o || b) ≡ true
in_cons None rest t b f i below e = f (i, below, e)
in_cons (Some k) rest t b f zero below e = or_left (k == t) b (eq-eqb k t e)
in_cons (Some k) rest t b f (suc i) below e = or_right (k == t) b (f (i, omega arith, e))

from_cons : (o : Option ℕ) (rest : List ℕ) (t : ℕ) (b : Bool) → (b ≡ true → Contains rest t) → (is_number t o || b) ≡ true → Contains (cons_option o rest) t
from_cons None rest t b f e = f e
from_cons (Some k) rest t b f e = elim (or_cases (k == t) b e) [
  | inl same ↦ (0, omega arith, eqb-true k t same)
  | inr later ↦ in_tail k rest t (f later)
]

number_is : (o : Option ℕ) (t : ℕ) → is_number t o ≡ true → o ≡ Some t
number_is None t e = absurd (cc)
number_is (Some k) t e = ap Some (eqb-true k t e)

module _ {X : Type 0} (h : X → Option ℕ) where
  pub named_in : (names : List X) (t : ℕ) → Contains (filter_map h names) t → list_any (λ (name : X). is_number t (h name)) names ≡ true
  named_in [] t c = let below = c.1 in absurd (omega arith)
  named_in (x ∷ names) t c =
      in_cons (h x) (filter_map h names) t (list_any (λ (name : X). is_number t (h name)) names) (named_in names t) c.0 c.1 c.2

  pub named_from : (names : List X) (t : ℕ) → list_any (λ (name : X). is_number t (h name)) names ≡ true → Contains (filter_map h names) t
  named_from [] t e = absurd (cc)
  named_from (x ∷ names) t e =
      from_cons (h x) (filter_map h names) t (list_any (λ (name : X). is_number t (h name)) names) (named_from names t) e

  pub named_below : (n : ℕ) → ((name : X) (t : ℕ) → h name ≡ Some t → t < n) → (names : List X) (t : ℕ)
      → list_any (λ (name : X). is_number t (h name)) names ≡ true → t < n
  named_below n below [] t e = absurd (cc)
  named_below n below (x ∷ names) t e = elim (or_cases (is_number t (h x)) (list_any (λ (name : X). is_number t (h name)) names) e) [
    | inl at ↦ below x t (number_is (h x) t at)
    | inr later ↦ named_below n below names t later
  ]

  -- what names name, rising and each once, are the numbers that some name names
  pub named_is : (names : List X) (n : ℕ) (xs : List ℕ) → IsStrictlyIncreasing xs → ((t : ℕ) → Contains xs t → Contains (filter_map h names) t)
      → ((t : ℕ) → Contains (filter_map h names) t → Contains xs t) → ((name : X) (t : ℕ) → h name ≡ Some t → t < n)
      → xs ≡ where_below (λ t. list_any (λ (name : X). is_number t (h name)) names) n
  named_is names n xs rising to back below =
      let test : ℕ → Bool = λ t. list_any (λ (name : X). is_number t (h name)) names in
      rising_same xs (where_below test n) rising (below_rising test n)
      (λ t c. let named = named_in names t (to t c) in below_found test n t (named_below n below names t named) named)
      (λ t c. back t (named_from names t (All-contains (λ (u : ℕ). test u ≡ true) (where_below test n) t (below_all (λ (u : ℕ). test u ≡ true) test n (λ k less holds. holds)) c)))
