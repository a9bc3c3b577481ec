-- Objects that are added one after another, and the first of them that is unread.
use Rattle.std.proofs.Common.{◌≡◌, ℕ, ◌+◌, ◌<◌, ◌≤◌, Some, None, List, [], ◌∷◌, ◌++◌, drop, length, length-append, get_or, map, take, Result, Ok, Err, refl, sym, ap, subst, ◌∙◌, arith}
use Rattle.std.specs.Option.{option_or}
use Rattle.std.proofs.lemmas.List.{drop_all, drop_more, get_or-map, length-map, take_all, take_more}
use Rattle.std.proofs.lemmas.List.Sums.{sum_by_push}
use Rattle.cfi_harden.proofs.Prelude.{End, Fault, NoMemory, e_shnum, Refusal, Program, IsAdded, section_total, unread, IsFinished, unfinished, first_unread, joined, AddsAll, Reads}

-- of the objects that are left the first that is unread is that of all
abbrev pub IsLeft : List (List ℕ) → List (List ℕ) → ℕ → Type 0
IsLeft join objects i =
    (join ≡ take i objects) × (first_unread (length join + 1) (section_total join) (drop i objects) ≡ first_unread 1 0 objects)

first_next : (k sections : ℕ) (object : List ℕ) (objects : List (List ℕ)) → unread k sections object ≡ None →
    first_unread k sections (object ∷ objects) ≡ first_unread (k + 1) (sections + e_shnum object) objects
unfolding first_unread
first_next k sections object objects none = rw none refl

first_here : (k sections : ℕ) (object : List ℕ) (objects : List (List ℕ)) (refusal : Refusal) → unread k sections object ≡ Some refusal →
    first_unread k sections (object ∷ objects) ≡ Some refusal
unfolding first_unread
first_here k sections object objects refusal some = rw some refl

-- objects that files hold, of which the one with the index i comes next
module _ {X : Type 0} (bytes : X → List ℕ) (files : List X) (join : List (List ℕ)) (i : ℕ) (left : IsLeft join (map bytes files) i) where
  module _ (file : X) (object : List ℕ) (inside : i < length files) (is : file ≡ get_or files i file) (same : object ≡ bytes file) where
    there : get_or (map bytes files) i [] ≡ object
    there = get_or-map bytes files i file [] inside ∙ ap bytes (sym is) ∙ sym same

    within : i < length (map bytes files)
    within = let count = length-map files bytes in omega arith

    here : drop i (map bytes files) ≡ object ∷ drop (i + 1) (map bytes files)
    here = drop_more (map bytes files) i [] within ∙ ap (λ (o : List ℕ). o ∷ drop (i + 1) (map bytes files)) there

    taken : take (i + 1) (map bytes files) ≡ take i (map bytes files) ++ object ∷ []
    taken = take_more (map bytes files) i [] within ∙ ap (λ (o : List ℕ). take i (map bytes files) ++ o ∷ []) there

    of_all : first_unread (length join + 1) (section_total join) (object ∷ drop (i + 1) (map bytes files)) ≡ first_unread 1 0 (map bytes files)
    of_all = ap (first_unread (length join + 1) (section_total join)) (sym here) ∙ left.1

    pub one_more : (after : List (List ℕ)) → IsAdded join object (Ok tt) after → IsLeft after (map bytes files) (i + 1)
    one_more after (none, added) =
        let counted : section_total after ≡ section_total join + e_shnum object = ap section_total added ∙ sum_by_push e_shnum join object in
        let number : length after ≡ length join + 1 = ap length added ∙ length-append join (object ∷ []) in (
          added ∙ ap (λ (j : List (List ℕ)). j ++ object ∷ []) left.0 ∙ sym taken,
          ap (λ (n : ℕ). first_unread (n + 1) (section_total after) (drop (i + 1) (map bytes files))) number
              ∙ ap (λ (n : ℕ). first_unread (length join + 1 + 1) n (drop (i + 1) (map bytes files))) counted
              ∙ sym (first_next (length join + 1) (section_total join) object (drop (i + 1) (map bytes files)) none) ∙ of_all,
        )

    pub unread_here : (e : End Refusal) (after : List (List ℕ)) → IsAdded join object (Err e) after → AddsAll (map bytes files) (Err e) after
    unread_here (Fault refusal) after (some, same) =
        sym of_all ∙ first_here (length join + 1) (section_total join) object (drop (i + 1) (map bytes files)) refusal some
    unread_here NoMemory after is = tt

  pub all_added : length files ≤ i → AddsAll (map bytes files) (Ok tt) join
  unfolding first_unread
  all_added past =
      let many : length (map bytes files) ≤ i = let count = length-map files bytes in omega arith in
      (sym left.1 ∙ ap (first_unread (length join + 1) (section_total join)) (drop_all i (map bytes files) many), left.0 ∙ take_all i (map bytes files) many)

-- what several objects come to: the first that is not added is told
pub not_added : (objects join : List (List ℕ)) (e : End Refusal) → AddsAll objects (Err e) join → Reads (joined objects) (Err e)
not_added objects join (Fault refusal) some = rw some refl
not_added objects join NoMemory is = tt

-- or all are added, and it is what they come to as one
pub all_finished : (objects join : List (List ℕ)) (result : Result Program (End Refusal)) → AddsAll objects (Ok tt) join → IsFinished join result
    → Reads (joined objects) result
all_finished objects join result (none, same) finished = at_end result (subst (λ (os : List (List ℕ)). IsFinished os result) same finished)
  where
    only : option_or (first_unread 1 0 objects) (unfinished objects) ≡ unfinished objects
    only = rw none refl

    at_end : (r : Result Program (End Refusal)) → IsFinished objects r → Reads (joined objects) r
    at_end (Ok program) (clean, is) = (only ∙ clean, is)
    at_end (Err (Fault refusal)) is = only ∙ is
    at_end (Err NoMemory) is = tt
