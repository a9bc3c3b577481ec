-- A place is found in the outline exactly where the input has one, and what is found is that place.
use Rattle.std.proofs.Common.{◌≡◌, ◌==◌, ◌⊎◌, ℕ, zero, suc, ◌+◌, ◌*◌, ◌/◌, ◌%◌, ◌<◌, nat_lt, get_or, Bool, true, false, not, ◌&&◌, Some, List, [], ◌∷◌, length, inl, inr, refl, ap, subst, ◌∙◌, arith}
use Rattle.std.specs.Prelude.{position}
use Rattle.std.specs.List.{All, list_any, position_or_len}
use Rattle.std.proofs.lemmas.Bool.{cases_Bool, cases_lt, and_parts, and_from, eqb-true, eq-eqb, lt-ltb, ltb-true, or_left, or_right}
use Rattle.std.proofs.lemmas.List.Elements.{All-nil, All-cons, All-append, All-get_or}
use Rattle.std.proofs.lemmas.List.Folds.{list_any-append}
use Rattle.std.proofs.lemmas.List.Quantifiers.{position-Some}
use Rattle.obj_items.proofs.Prelude.{joined, InputParts, SectionParts, is_code, section_count, section_of, is_inside, is_start, starts_at, word_count, Item, is_spot, no_item, place_of, end_at, outline, section_items, start_at, start_item}
use Rattle.obj_items.proofs.NoFault.{code_there}

-- a place of the outline: an instruction's start, or the end of its section
pub record IsOfOutline (input : InputParts) (x : Item) : Type 0 where
  pub code : is_code (section_of input x.section) ≡ true
  pub either : ((i : ℕ) × (starts_at (section_of input x.section) i ≡ true) × (x ≡ start_at (section_of input x.section) x.section i))
      ⊎ (x ≡ end_at (section_of input x.section) x.section)

module _ {A : Type 0} (P : A → Type 0) (parts : ℕ → List A) (each : (k : ℕ) → All P (parts k)) where
  pub all_joined : (n : ℕ) → All P (joined parts n)
  unfolding joined
  all_joined zero = All-nil P
  all_joined (suc n) = All-append P (joined parts n) (parts n) (all_joined n) (each n)

starts_right : (input : InputParts) (k : ℕ) → is_code (section_of input k) ≡ true → (i : ℕ)
    → All (IsOfOutline input) (start_item (section_of input k) k i)
starts_right input k code i = elim (cases_Bool (starts_at (section_of input k) i)) [
  | inl starts ↦
      rw starts
      (All-cons (IsOfOutline input) (start_at (section_of input k) k i) [] (record { code = code; either = inl (i, starts, refl) }) (All-nil (IsOfOutline input)))
  | inr inside ↦ rw inside (All-nil (IsOfOutline input))
]

section_right : (input : InputParts) (k : ℕ) → All (IsOfOutline input) (section_items input k)
section_right input k = elim (cases_Bool (is_code (section_of input k))) [
  | inl code ↦
      rw code
      (All-append (IsOfOutline input) (joined (start_item (section_of input k) k) (word_count (section_of input k))) (end_at (section_of input k) k ∷ [])
      (all_joined (IsOfOutline input) (start_item (section_of input k) k) (starts_right input k code) (word_count (section_of input k)))
      (All-cons (IsOfOutline input) (end_at (section_of input k) k) [] (record { code = code; either = inr refl }) (All-nil (IsOfOutline input))))
  | inr other ↦ rw other (All-nil (IsOfOutline input))
]

pub outline_right : (input : InputParts) → All (IsOfOutline input) (outline input)
unfolding outline
outline_right input = all_joined (IsOfOutline input) (section_items input) (section_right input) (section_count input)

-- an offset is a start
pub start_parts : (s : SectionParts) (at : ℕ) → is_start s at ≡ true → (is_code s ≡ true) × (at % 4 ≡ 0) × (starts_at s (at / 4) ≡ true)
unfolding is_start
start_parts s at e =
    let parts = and_parts (is_code s && at % 4 == 0) (starts_at s (at / 4)) e in
    let two = and_parts (is_code s) (at % 4 == 0) parts.0 in
    (two.0, eqb-true (at % 4) 0 two.1, parts.1)

pub start_below : (s : SectionParts) (i : ℕ) → starts_at s i ≡ true → i < word_count s
start_below s i e = ltb-true i (word_count s) (and_parts (nat_lt i (word_count s)) (not (is_inside s i)) e).0

module _ {A : Type 0} (p : A → Bool) (parts : ℕ → List A) where
  any_joined : (n k : ℕ) → k < n → list_any p (parts k) ≡ true → list_any p (joined parts n) ≡ true
  unfolding joined
  any_joined zero k below e = absurd (omega arith)
  any_joined (suc n) k below e = elim (cases_lt k n) [
    | inl less ↦ list_any-append p (joined parts n) (parts n) ∙ or_left (list_any p (joined parts n)) (list_any p (parts n)) (any_joined n k less e)
    | inr most ↦
        let last : n ≡ k = omega arith in
        list_any-append p (joined parts n) (parts n)
        ∙ or_right (list_any p (joined parts n)) (list_any p (parts n)) (ap (λ j. list_any p (parts j)) last ∙ e)
  ]

module _ {A : Type 0} (p : A → Bool) where
  within : (xs : List A) → list_any p xs ≡ true → position_or_len p xs < length xs
  within [] e = absurd (cc)
  within (x ∷ xs) e = elim (cases_Bool (p x)) [
    | inl here ↦ let first : position_or_len p (x ∷ xs) ≡ 0 = rw here refl in omega arith
    | inr other ↦
        let rest : list_any p xs ≡ true = rw other at e in
        let next : position_or_len p (x ∷ xs) ≡ 1 + position_or_len p xs = rw other refl in
        let below = within xs rest in
        omega arith
  ]

  any_found : (xs : List A) → list_any p xs ≡ true → (j : ℕ) × (position p xs ≡ Some j)
  any_found xs e = let below = within xs e in (position_or_len p xs, rw (lt-ltb (position_or_len p xs) (length xs) below) refl)

spot_is : (k at : ℕ) (x : Item) → x.section ≡ k → x.offset ≡ at → is_spot k at x ≡ true
spot_is k at x section offset = and_from (x.section == k) (x.offset == at) (eq-eqb x.section k section) (eq-eqb x.offset at offset)

any_one : (k at : ℕ) (x : Item) → is_spot k at x ≡ true → list_any (is_spot k at) (x ∷ []) ≡ true
any_one k at x e = or_left (is_spot k at x) false e

-- where an instruction starts, or a section of code ends, a place stands
start_listed : (input : InputParts) (k at : ℕ) → is_start (section_of input k) at ≡ true → list_any (is_spot k at) (outline input) ≡ true
unfolding outline
start_listed input k at e =
    let s = section_of input k in
    let parts = start_parts (section_of input k) at e in
    let starts = joined (start_item (section_of input k) k) (word_count (section_of input k)) in
    let whole : 4 * (at / 4) ≡ at = omega (arith, parts.1) in
    let one : list_any (is_spot k at) (start_item (section_of input k) k (at / 4)) ≡ true =
    rw parts.2 (any_one k at (start_at (section_of input k) k (at / 4)) (spot_is k at (start_at (section_of input k) k (at / 4)) refl whole)) in
    let listed : list_any (is_spot k at) starts ≡ true =
    any_joined (is_spot k at) (start_item (section_of input k) k) (word_count (section_of input k)) (at / 4) (start_below (section_of input k) (at / 4) parts.2) one in
    let all : list_any (is_spot k at) (section_items input k) ≡ true =
    rw parts.0 (list_any-append (is_spot k at) starts (end_at (section_of input k) k ∷ []) ∙ or_left (list_any (is_spot k at) starts) _ listed) in
    any_joined (is_spot k at) (section_items input) (section_count input) k (code_there input k parts.0) all

-- what is found at an offset
pub record IsFound (input : InputParts) (k at j : ℕ) : Type 0 where
  pub below : j < length (outline input)
  pub section : (get_or (outline input) j no_item).section ≡ k
  pub offset : (get_or (outline input) j no_item).offset ≡ at
  pub item : IsOfOutline input (get_or (outline input) j no_item)

pub found_is : (input : InputParts) (k at j : ℕ) → place_of (outline input) k at ≡ Some j → IsFound input k at j
found_is input k at j e =
    let parts = position-Some (is_spot k at) (outline input) j no_item e in
    let x = get_or (outline input) j no_item in
    let both = and_parts (x.section == k) (x.offset == at) parts.1 in
    record {
      below = parts.0;
      section = eqb-true x.section k both.0;
      offset = eqb-true x.offset at both.1;
      item = All-get_or (IsOfOutline input) (outline input) j no_item parts.0 (outline_right input);
    }

-- at an instruction's start that instruction is found
pub record IsStartFound (input : InputParts) (k at j : ℕ) : Type 0 where
  pub found : place_of (outline input) k at ≡ Some j
  pub below : j < length (outline input)
  pub item : get_or (outline input) j no_item ≡ start_at (section_of input k) k (at / 4)

the_start : (input : InputParts) (k at : ℕ) (x : Item) → is_start (section_of input k) at ≡ true → x.section ≡ k → x.offset ≡ at → IsOfOutline input x
    → x ≡ start_at (section_of input k) k (at / 4)
the_start input k at x e section offset placed =
    let parts = start_parts (section_of input k) at e in
    let inside = start_below (section_of input k) (at / 4) parts.2 in
    elim placed.either [
      | inl (i, starts, is) ↦
          let here : x ≡ start_at (section_of input k) k i = subst (λ m. x ≡ start_at (section_of input m) m i) section is in
          let word : x.offset ≡ 4 * i = ap (λ (y : Item). y.offset) here in
          let index : i ≡ at / 4 = omega arith in
          here ∙ ap (start_at (section_of input k) k) index
      | inr is ↦
          let here : x ≡ end_at (section_of input k) k = subst (λ m. x ≡ end_at (section_of input m) m) section is in
          let last : x.offset ≡ (section_of input k).size = ap (λ (y : Item). y.offset) here in
          absurd (omega (arith, inside, parts.1))
    ]

pub place_there : (input : InputParts) (k at : ℕ) → is_start (section_of input k) at ≡ true → (j : ℕ) × IsStartFound input k at j
place_there input k at e =
    let found = any_found (is_spot k at) (outline input) (start_listed input k at e) in
    let is = found_is input k at found.0 found.1 in (
      found.0,
      record {
        found = found.1;
        below = is.below;
        item = the_start input k at (get_or (outline input) found.0 no_item) e is.section is.offset is.item;
      },
    )
