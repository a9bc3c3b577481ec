-- A text of parts, one after the other: of an address each, or of a walk each.
use Rattle.std.proofs.Common.{◌≡◌, ◌∙◌, ap, sym, ℕ, ◌+◌, ◌<◌, ◌≤◌, List, ◌∷◌, ◌++◌, length, drop, get_or, add-one, drop-cons, append_assoc, append-nil}
use Rattle.std.proofs.lemmas.List.{drop_all}
use Rattle.std.specs.List.{flat_map}
use Rattle.cfi_step.specs.declared.report.HartWalk.{HartWalk}
use Rattle.tool_report.specs.ReportText.{hart_walk_text, hart_walks_text}

-- an element and those after it are left
abbrev pub IsLeft : {A : Type 0} → List A → ℕ → A → Type 0
IsLeft xs i x = drop i xs ≡ x ∷ drop (i + 1) xs

pub left_at : {A : Type 0} (xs : List A) (i : ℕ) (d : A) → i < length xs → IsLeft xs i (get_or xs i d)
left_at xs i d below = rw add-one (drop-cons xs i d below)

pub left_here : {A : Type 0} (xs : List A) (i : ℕ) (x : A) → i < length xs → x ≡ get_or xs i x → IsLeft xs i x
left_here xs i x below here = left_at xs i x below ∙ ap (λ y. y ∷ drop (i + 1) xs) (sym here)

pub next_part : {A : Type 0} (part : A → List ℕ) (front after : List ℕ) (xs : List A) (i : ℕ) (x : A) → IsLeft xs i x → after ≡ front ++ part x
    → after ++ flat_map part (drop (i + 1) xs) ≡ front ++ flat_map part (drop i xs)
next_part part front after xs i x left e = rw (e, left) (append_assoc front (part x) (flat_map part (drop (i + 1) xs)))

pub no_part : {A : Type 0} (part : A → List ℕ) (front : List ℕ) (xs : List A) (i : ℕ) → length xs ≤ i → front ++ flat_map part (drop i xs) ≡ front
no_part part front xs i h = rw (drop_all i xs h) (append-nil front)

-- the walks of harts, each with its number
pub next_hart : (front after : List ℕ) (walks : List HartWalk) (i : ℕ) (w : HartWalk) → IsLeft walks i w → after ≡ front ++ hart_walk_text i w
    → after ++ hart_walks_text (i + 1) (drop (i + 1) walks) ≡ front ++ hart_walks_text i (drop i walks)
unfolding hart_walks_text
next_hart front after walks i w left e =
    rw (e, left) (append_assoc front (hart_walk_text i w) (hart_walks_text (i + 1) (drop (i + 1) walks)))

pub no_hart : (front : List ℕ) (walks : List HartWalk) (i : ℕ) → length walks ≤ i → front ++ hart_walks_text i (drop i walks) ≡ front
unfolding hart_walks_text
no_hart front walks i h = rw (drop_all i walks h) (append-nil front)
