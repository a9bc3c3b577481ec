-- The names of files that were read one after the other.
use Rattle.std.proofs.Common.{◌≡◌, ◌∙◌, ◌<◌, ◌≤◌, ℕ, zero, suc, List, [], ◌∷◌, ◌++◌, Option, Some, None, ap, append_assoc, arith, get_or, length, refl, subst, sym, take}
use Rattle.std.proofs.Math.Seq.{take-length}
use Rattle.std.proofs.lemmas.List.{append-nil, take_all}
use Rattle.tool_io.specs.Names.{AreRead, GoOn}
use Rattle.tool_common.specs.Reads.{file_names}

GoOn-trans : (a b c : Option (List (List ℕ))) (first next : List (List ℕ)) → GoOn a b first → GoOn b c next → GoOn a c (first ++ next)
GoOn-trans None b c first next begun more = tt
GoOn-trans (Some told) b c first next begun more =
    let later : GoOn (Some (told ++ first)) c next = subst (λ (o : Option (List (List ℕ))). GoOn o c next) begun more in
    later ∙ ap Some (append_assoc told first next)

names_more : (names : List (Option (List ℕ))) (i : ℕ) → i < length names
    → file_names (take i names) ++ file_names (get_or names i None ∷ []) ≡ file_names (take (suc i) names)
names_more [] i below = absurd (omega arith)
names_more (None ∷ names) zero below = refl
names_more (Some name ∷ names) zero below = refl
names_more (None ∷ names) (suc i) below = names_more names i (omega arith)
names_more (Some name ∷ names) (suc i) below = ap (λ (l : List (List ℕ)). name ∷ l) (names_more names i (omega arith))

-- the first names, and then some of the next one, are the first of all
names_part : (names : List (Option (List ℕ))) (i count : ℕ) → i < length names
    → (n : ℕ) × (take n (file_names names) ≡ file_names (take i names) ++ take count (file_names (get_or names i None ∷ [])))
names_part [] i count below = absurd (omega arith)
names_part (None ∷ names) zero zero below = (zero, refl)
names_part (None ∷ names) zero (suc count) below = (zero, refl)
names_part (Some name ∷ names) zero zero below = (zero, refl)
names_part (Some name ∷ names) zero (suc zero) below = (suc zero, refl)
names_part (Some name ∷ names) zero (suc (suc count)) below = (suc zero, refl)
names_part (None ∷ names) (suc i) count below = names_part names i count (omega arith)
names_part (Some name ∷ names) (suc i) count below =
    let (n, e) = names_part names i count (omega arith) in
    (suc n, ap (λ (l : List (List ℕ)). name ∷ l) e)

module _ (before now after : Option (List (List ℕ))) (names : List (Option (List ℕ))) (i : ℕ) (below : i < length names)
    (begun : GoOn before now (file_names (take i names))) where
  -- the next one was read too
  pub read_more : GoOn now after (file_names (get_or names i None ∷ [])) → GoOn before after (file_names (take (suc i) names))
  read_more more = subst (GoOn before after) (names_more names i below) (GoOn-trans before now after _ _ begun more)

  -- after the next one, if it was read, none was
  pub read_first : (one all : Type 0) → AreRead now after (file_names (get_or names i None ∷ [])) one → (all → ⊥) → AreRead before after (file_names names) all
  read_first one all more none =
      let (count, some) = more.first in
      let (n, e) = names_part names i count below in
      record { first = (n, subst (GoOn before after) (sym e) (GoOn-trans before now after _ _ begun some)); whole = λ is. absurd (none is) }

-- all of them were read
pub read_whole : (before now : Option (List (List ℕ))) (names : List (Option (List ℕ))) (i : ℕ) (all : Type 0) → length names ≤ i
    → GoOn before now (file_names (take i names)) → AreRead before now (file_names names) all
read_whole before now names i all above begun =
    let given = subst (λ (l : List (Option (List ℕ))). GoOn before now (file_names l)) (take_all i names above) begun in
    record { first = (length (file_names names), subst (GoOn before now) (sym (take-length (file_names names))) given); whole = λ _. given }

-- nothing more was read
none_more : (before : Option (List (List ℕ))) → GoOn before before []
none_more None = tt
none_more (Some told) = ap Some (sym (append-nil told))

-- nothing was read yet
pub none_yet : (before : Option (List (List ℕ))) (names : List (List ℕ)) (all : Type 0) → (all → ⊥) → AreRead before before names all
none_yet before names all none = record { first = (zero, none_more before); whole = λ is. absurd (none is) }

-- what follows from less tells no more
pub read_less : (before now : Option (List (List ℕ))) (names : List (List ℕ)) (all less : Type 0) → AreRead before now names all → (less → all)
    → AreRead before now names less
read_less before now names all less is implies = record { first = is.first; whole = λ holds. is.whole (implies holds) }
