-- Lists that an array holds in its first places, with one filler in the others.
use Rattle.std.proofs.Common.{◌≡◌, ℕ, zero, suc, ◌+◌, ◌-◌, ◌<◌, refl, ap, ◌∙◌, List, [], ◌∷◌, length, take, drop, arith}
use Rattle.std.specs.Prelude.{replicate, slice_set}
use Rattle.std.specs.List.{AllByRecursion}

pub set_length : {A : Type 0} (items : List A) (k : ℕ) (x : A) → length (slice_set items k x) ≡ length items
set_length [] k x = refl
set_length (y ∷ ys) zero x = refl
set_length (y ∷ ys) (suc k) x = ap (λ n. suc n) (set_length ys k x)

set_before : {A : Type 0} (items : List A) (k : ℕ) (x : A) → drop (suc k) (slice_set items k x) ≡ drop (suc k) items
set_before [] k x = refl
set_before (y ∷ ys) zero x = refl
set_before (y ∷ ys) (suc k) x = set_before ys k x

drop_next : {A : Type 0} (items : List A) (k : ℕ) → drop (suc k) items ≡ drop 1 (drop k items)
drop_next items zero = refl
drop_next [] (suc k) = refl
drop_next (y ∷ ys) (suc k) = drop_next ys k

-- the fillers that are left after a write of the next place
pub tail_next : {A : Type 0} (items : List A) (n k : ℕ) (x f : A) → k < n → drop k items ≡ replicate (n - k) f →
    drop (k + 1) (slice_set items k x) ≡ replicate (n - (k + 1)) f
tail_next items n k x f below tail =
    let e : k + 1 ≡ suc k = omega arith in
    let g : n - k ≡ suc (n - (k + 1)) = omega arith in
    ap (λ j. drop j (slice_set items k x)) e ∙ set_before items k x ∙ drop_next items k ∙ ap (drop 1) tail
    ∙ ap (λ m. drop 1 (replicate m f)) g

-- what holds of each place still does after a write of one of which it holds, and of the first places
pub set_all : {A : Type 0} (P : A → Type 0) (items : List A) (k : ℕ) (x : A) → AllByRecursion P items → P x → AllByRecursion P (slice_set items k x)
set_all P [] k x all is = tt
set_all P (y ∷ ys) zero x all is = (is, all.1)
set_all P (y ∷ ys) (suc k) x all is = (all.0, set_all P ys k x all.1 is)

pub take_all : {A : Type 0} (P : A → Type 0) (k : ℕ) (items : List A) → AllByRecursion P items → AllByRecursion P (take k items)
take_all P zero items all = tt
take_all P (suc k) [] all = tt
take_all P (suc k) (y ∷ ys) all = (all.0, take_all P k ys all.1)
