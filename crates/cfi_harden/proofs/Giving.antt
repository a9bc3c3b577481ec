-- What stands against a program being given stands before anything is placed.
use Rattle.std.proofs.Common.{◌≡◌, ℕ, ◌+◌, ◌^◌, nat_lt, Bool, true, false, if◌then◌else◌, Some, None, inl, inr, List, [], ◌∷◌, subst}
use Rattle.std.proofs.lemmas.Option.{none-some, same_Some}
use Rattle.rv_word.proofs.Cases.{cases_Option, mapped}
use Rattle.cfi_harden.proofs.Prelude.{e_shnum, duplicate, fault_of, ItemFault, said_by, unread, input_by, refusal_in, unfinished, Refusal, Given, alone, joined, RefusesGiven, first_unread, IsEarly}
use Rattle.elf_object.specs.Fault.{fault_of as object_fault}
use Rattle.obj_check.specs.declared.fault.ItemFault.TheVariants as items
use Rattle.refusals.specs.declared.refusal.Refusal.TheVariants as R

-- of one object
counted_early : (b : Bool) (n : ℕ) (refusal : Refusal) → (if b then Some (R.TooManySections n) else None) ≡ Some refusal → IsEarly refusal
counted_early true n refusal is = subst IsEarly (same_Some _ _ is) tt
counted_early false n refusal is = absurd (none-some refusal is)

unread_early : (k sections : ℕ) (object : List ℕ) (refusal : Refusal) → unread k sections object ≡ Some refusal → IsEarly refusal
unread_early k sections object refusal is = elim (cases_Option (object_fault object)) [
  | inl none ↦
      let count = sections + e_shnum object in
      counted_early (nat_lt (2 ^ 16) count) count refusal (rw none at is)
  | inr (fault, some) ↦
      let first : Some (R.ObjectIn fault k) ≡ Some refusal = rw some at is in
      subst IsEarly (same_Some (R.ObjectIn fault k) refusal first) tt
]

-- of several
first_early : (k sections : ℕ) (objects : List (List ℕ)) (refusal : Refusal) → first_unread k sections objects ≡ Some refusal → IsEarly refusal
unfolding first_unread
first_early k sections [] refusal is = absurd (none-some refusal is)
first_early k sections (object ∷ objects) refusal is = elim (cases_Option (unread k sections object)) [
  | inl none ↦ first_early (k + 1) (sections + e_shnum object) objects refusal (rw none at is)
  | inr (first, some) ↦
      let same : Some first ≡ Some refusal = rw some at is in
      subst IsEarly (same_Some first refusal same) (unread_early k sections object first some)
]

items_early : (objects : List (List ℕ)) (fault : ItemFault) → IsEarly (refusal_in objects fault)
items_early objects (items.Undefined n) = tt
items_early objects other = tt

unfinished_early : (objects : List (List ℕ)) (refusal : Refusal) → unfinished objects ≡ Some refusal → IsEarly refusal
unfinished_early objects refusal is = elim (cases_Option (duplicate (said_by objects).symbols)) [
  | inl none ↦
      let (fault, some, same) = mapped (refusal_in objects) (fault_of (input_by objects)) refusal (rw none at is) in
      subst IsEarly same (items_early objects fault)
  | inr (name, some) ↦
      let first : Some (R.Duplicate name) ≡ Some refusal = rw some at is in
      subst IsEarly (same_Some (R.Duplicate name) refusal first) tt
]

joined_early : (objects : List (List ℕ)) (refusal : Refusal) → RefusesGiven (joined objects) refusal → IsEarly refusal
joined_early objects refusal is = elim (cases_Option (first_unread 1 0 objects)) [
  | inl none ↦ unfinished_early objects refusal (rw none at is)
  | inr (first, some) ↦
      let same : Some first ≡ Some refusal = rw some at is in
      subst IsEarly (same_Some first refusal same) (first_early 1 0 objects first some)
]

pub given_early : (given : Given) (refusal : Refusal) → RefusesGiven given refusal → IsEarly refusal
given_early (alone object) (R.Object fault) is = tt
given_early (alone object) (R.Items fault) is = tt
given_early (alone object) other is = absurd is
given_early (joined objects) refusal is = joined_early objects refusal is
