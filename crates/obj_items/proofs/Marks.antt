-- Marks of places: what one relocation adds, those of a section, and those of all sections.
use Rattle.std.proofs.Common.{◌≡◌, ℕ, ◌+◌, ◌<◌, Bool, true, false, ◌||◌, List, length, get_or, set, take, Option, Some, None, inl, inr, refl, sym, ap, subst, ◌∙◌, arith}
use Rattle.std.specs.List.{list_any, position_or_len}
use Rattle.std.specs.Option.{option_or}
use Rattle.std.specs.Prelude.{is_some, if◌then◌else◌}
use Rattle.std.proofs.Common.{add-one, get_or-set_same, get_or-set_other}
use Rattle.std.proofs.Math.Bool.{or-false, or_assoc}
use Rattle.std.proofs.lemmas.Bool.{cases_eq, cases_lt, or_right, lt-ltb, false_from_ne_true}
use Rattle.std.proofs.lemmas.List.Quantifiers.{position-Some}
use Rattle.std.proofs.lemmas.List.Folds.{list_any_more}
use Rattle.std.proofs.lemmas.List.Sums.{fails_before_first}
use Rattle.obj_items.proofs.Prelude.{first_below, Relocation, Item, AreInOrder, is_spot, no_item, place_of, is_the, pointed, takes}
use Rattle.obj_program.proofs.Ordered.{spot_once}

module _ (places : List Item) where
  abbrev pub place : ℕ → Item
  place i = get_or places i no_item

  -- a spot at a place marks just that one
  module _ (in_order : AreInOrder places) (marks : List Bool) (count : length marks ≡ length places) (section offset : ℕ) where
    pub marked : (k : ℕ) → Some k ≡ place_of places section offset → (i : ℕ) → i < length places
        → get_or (set marks k true) i false ≡ (get_or marks i false || is_the (place i).section (place i).offset (Some (section, offset)))
    marked k found i below =
        let at = position-Some (is_spot section offset) places k no_item (sym found) in
        let inside = at.0 in
        elim (cases_eq i k) [
          | inl same ↦
              let here : k < length marks = omega arith in
              ap (λ n. get_or (set marks k true) n false) same ∙ get_or-set_same marks k true false here
              ∙ sym (or_right (get_or marks i false) _ (subst (λ n. is_spot section offset (place n) ≡ true) (sym same) at.1))
          | inr other ↦
              get_or-set_other marks k i true false other
              ∙ sym (or-false (get_or marks i false))
              ∙ ap (λ b. get_or marks i false || b)
              (sym (false_from_ne_true (is_spot section offset (place i)) (λ there. other (spot_once places in_order section offset i k below inside there at.1))))
        ]

  nowhere : (section offset : ℕ) → None ≡ place_of places section offset → (i : ℕ) → i < length places → is_spot section offset (place i) ≡ false
  nowhere section offset none i below = elim (cases_lt (position_or_len (is_spot section offset) places) (length places)) [
    | inl found ↦
        let one : place_of places section offset ≡ Some (position_or_len (is_spot section offset) places) = rw (lt-ltb _ _ found) refl in
        let clash : None ≡ Some (position_or_len (is_spot section offset) places) = none ∙ one in
        absurd (cc)
    | inr past ↦ fails_before_first (is_spot section offset) places i no_item (omega arith)
  ]

  -- a spot at no place marks none, and so does no spot
  pub unmarked : (marks : List Bool) (section offset : ℕ) → None ≡ place_of places section offset → (i : ℕ) → i < length places
      → get_or marks i false ≡ (get_or marks i false || is_the (place i).section (place i).offset (Some (section, offset)))
  unmarked marks section offset none i below =
      sym (or-false (get_or marks i false)) ∙ ap (λ b. get_or marks i false || b) (sym (nowhere section offset none i below))

-- what the first relocations of a section mark, and one more
pub any_next : (before now next : Bool) (k offset : ℕ) (uses : List Relocation) (n : ℕ) (u : Relocation) (spot : Option (ℕ × ℕ)) → n < length uses
    → now ≡ (before || list_any (takes k offset) (take n uses)) → u ≡ get_or uses n u → spot ≡ pointed u → next ≡ (now || is_the k offset spot)
    → next ≡ (before || list_any (takes k offset) (take (n + 1) uses))
any_next before now next k offset uses n u spot below here is at e =
    e ∙ ap (λ b. b || is_the k offset spot) here ∙ or_assoc before (list_any (takes k offset) (take n uses)) (is_the k offset spot)
    ∙ ap (λ b. before || b)
    (ap (λ (s : Option (ℕ × ℕ)). list_any (takes k offset) (take n uses) || is_the k offset s) at
    ∙ ap (λ (v : Relocation). list_any (takes k offset) (take n uses) || takes k offset v) is
    ∙ sym (list_any_more (takes k offset) uses n u below))

-- the same of sections
pub sections_begin : (test : ℕ → Bool) → false ≡ is_some (first_below test 0)
unfolding first_below
sections_begin test = refl

either : (o : Option ℕ) (b : Bool) (n : ℕ) → (is_some o || b) ≡ is_some (option_or o (if b then Some n else None))
either (Some x) b n = refl
either None true n = refl
either None false n = refl

pub sections_next : (test : ℕ → Bool) (n : ℕ) (now next : Bool) → now ≡ is_some (first_below test n) → next ≡ (now || test n)
    → next ≡ is_some (first_below test (n + 1))
unfolding first_below
sections_next test n now next here e = e ∙ ap (λ b. b || test n) here ∙ either (first_below test n) (test n) n ∙ rw add-one refl
