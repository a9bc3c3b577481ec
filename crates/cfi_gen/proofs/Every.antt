-- What holds of every member of a list.
use Rattle.std.proofs.Common.{ℕ, zero, suc, ◌<◌, ◌≤◌, ◌*◌, List, [], ◌∷◌, ◌++◌, length, get_or, map, arith}
use Rattle.std.specs.List.{flat_map, sum_by}
use Rattle.std.proofs.lemmas.List.Sums.{sum_by-cons}

abbrev pub Every : {X : Type 0} (P : X → Type 0) → List X → Type 0
Every P [] = Unit
Every P (x ∷ xs) = P x × Every P xs

pub every_at : {X : Type 0} (P : X → Type 0) (xs : List X) (d : X) (k : ℕ) → Every P xs → k < length xs → P (get_or xs k d)
every_at P [] d k all below = absurd (omega arith)
every_at P (x ∷ xs) d zero all below = all.0
every_at P (x ∷ xs) d (suc k) all below = every_at P xs d k all.1 (omega arith)

pub every_append : {X : Type 0} (P : X → Type 0) (xs ys : List X) → Every P xs → Every P ys → Every P (xs ++ ys)
every_append P [] ys first second = second
every_append P (x ∷ xs) ys first second = (first.0, every_append P xs ys first.1 second)

pub every_map : {X Y : Type 0} (P : X → Type 0) (Q : Y → Type 0) (f : X → Y) (xs : List X) → ((x : X) → P x → Q (f x)) → Every P xs
    → Every Q (map f xs)
every_map P Q f [] each all = tt
every_map P Q f (x ∷ xs) each all = (each x all.0, every_map P Q f xs each all.1)

pub every_of_each : {X Y : Type 0} (P : X → Type 0) (Q : Y → Type 0) (f : X → List Y) (xs : List X) → ((x : X) → P x → Every Q (f x)) → Every P xs
    → Every Q (flat_map f xs)
every_of_each P Q f [] each all = tt
every_of_each P Q f (x ∷ xs) each all = every_append Q (f x) (flat_map f xs) (each x all.0) (every_of_each P Q f xs each all.1)

-- a sum of sizes that are at most `most`
pub sum_within : {X : Type 0} (size : X → ℕ) (most : ℕ) (xs : List X) → Every (λ x. size x ≤ most) xs → sum_by size xs ≤ most * length xs
sum_within size most [] all = omega arith
sum_within size most (x ∷ xs) all = omega (arith, sum_by-cons size x xs, all.0, sum_within size most xs all.1)
