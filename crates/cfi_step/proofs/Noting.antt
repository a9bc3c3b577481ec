-- The trails of all harts, where a step is noted.
use Rattle.std.proofs.Common.{◌≡◌, ◌≤◌, ◌==◌, ◌<◌, ◌+◌, ℕ, Bool, List, [], ◌∷◌, ◌++◌, length, set, Option, Some, None, inl, inr, refl, sym, subst, ◌∙◌, ap, arith, append-nil}
use Rattle.std.specs.Prelude.{is_some, slice_get, if◌then◌else◌}
use Rattle.std.proofs.lemmas.Bool.{cases_eq, eq-eqb, ne_eqb}
use Rattle.std.proofs.lemmas.List.{get_or-set_other, get_or-set_same, length-set, set-set}
use Rattle.std.proofs.lemmas.Option.{get_or_from_slice_get, slice_get-get_or, slice_get_within}
use Rattle.rv_image.specs.MemoryMap.{Profile}
use Rattle.cfi_unit.specs.declared.place.Place.{Place}
use Rattle.cfi_rules.specs.Split.{place_at}
use Rattle.cfi_rules.specs.Walks.{if_own, if_starts}
use Rattle.rv_machine.specs.Harts.{MachineParts, harts_in}
use Rattle.cfi_step.specs.Running.{AreNoted, IsNoted}
use Rattle.cfi_step.specs.Trail.{IsTrailOf, TrailParts}

-- an address is told where something starts there
pub starts_as : (place : Option Place) (pc : ℕ) (is : Bool) → is ≡ is_some place → (if is then pc ∷ [] else []) ≡ if_starts place pc []
starts_as None pc is same = rw same refl
starts_as (Some place) pc is same = rw same refl

own_is : (hart k : ℕ) (place : Option Place) → hart ≡ k → if_own (hart == k) place ≡ place
own_is hart k place same = rw (eq-eqb hart k same) refl

-- of another hart nothing starts
other_is : (hart k : ℕ) (place : Option Place) → (hart ≡ k → ⊥) → if_own (hart == k) place ≡ None
other_is hart k place other = rw (ne_eqb hart k other) refl

-- a place in a list after one is set
set_here : (items : List TrailParts) (k : ℕ) (new t : TrailParts) → slice_get (set items k new) k ≡ Some t → t ≡ new
set_here items k new t at =
    let within : k < length items = omega (arith, slice_get_within (set items k new) k t at, length-set items k new) in
    sym (get_or_from_slice_get (set items k new) k t new at) ∙ get_or-set_same items k new new within

set_elsewhere : (items : List TrailParts) (hart k : ℕ) (new t : TrailParts) → (hart ≡ k → ⊥) → slice_get (set items hart new) k ≡ Some t → slice_get items k ≡ Some t
set_elsewhere items hart k new t other at =
    let within : k < length items = omega (arith, slice_get_within (set items hart new) k t at, length-set items hart new) in
    slice_get-get_or items k t within
    ∙ ap Some (sym (get_or-set_other items hart k new t (λ e. other (sym e))) ∙ get_or_from_slice_get (set items hart new) k t t at)

-- the pc of a hart that is selected
pub selected_pc : (m : MachineParts) (hart : ℕ) → m.current ≡ hart → m.processor.pc ≡ (harts_in m hart).pc
selected_pc m hart same = rw (eq-eqb hart m.current (sym same)) refl

module _ (p : Profile) (words : List ℕ) (hart pc : ℕ) where
  -- what holds of the walk of a hart for which nothing starts here
  stays : (k : ℕ) (t : TrailParts) → if_own (hart == k) (place_at p words pc) ≡ None → IsNoted p words hart pc k t t
  stays k t none = record {
    walk = λ walk is.
        subst (λ (front : List ℕ). IsTrailOf front t) (sym (append-nil walk) ∙ ap (λ (place : Option Place). walk ++ if_starts place pc []) (sym none)) is;
    count = omega arith;
  }

  -- the trail of the hart that steps has its place in the list
  pub noted_own : (items : List TrailParts) (old new : TrailParts) → hart < length items → ((walk : List ℕ) → IsTrailOf walk old → IsTrailOf (walk ++ if_starts (place_at p words pc) pc []) new) → new.count ≤ old.count + 1
      → AreNoted p words hart pc (set items hart old) (set items hart new)
  noted_own items old new below grows count k t at = elim (cases_eq hart k) [
    | inl same ↦
        let here : slice_get (set items hart new) hart ≡ Some t = subst (λ (j : ℕ). slice_get (set items hart new) j ≡ Some t) (sym same) at in
        let is_new : t ≡ new = set_here items hart new t here in
        let within : hart < length (set items hart old) = omega (arith, length-set items hart old) in
        let first : slice_get (set items hart old) k ≡ Some old =
        ap (slice_get (set items hart old)) (sym same) ∙ slice_get-get_or (set items hart old) hart old within ∙ ap Some (get_or-set_same items hart old old below) in
        let one : IsNoted p words hart pc k old new = record {
          walk = λ walk trail. subst (λ (place : Option Place). IsTrailOf (walk ++ if_starts place pc []) new) (sym (own_is hart k (place_at p words pc) same)) (grows walk trail);
          count = count;
        } in
        (old, first, subst (λ (x : TrailParts). IsNoted p words hart pc k old x) (sym is_new) one)
    | inr other ↦
        let again : set (set items hart old) hart new ≡ set items hart new = set-set items hart old new in
        (t, set_elsewhere (set items hart old) hart k new t other (subst (λ (items' : List TrailParts). slice_get items' k ≡ Some t) (sym again) at), stays k t (other_is hart k (place_at p words pc) other))
  ]
