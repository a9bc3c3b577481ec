-- A list is cut at the first separator.
use Rattle.std.proofs.Common.{◌≡◌, ℕ, ◌+◌, Bool, cond, List, [], ◌∷◌, length, take, drop, Some, None, position, ◌==◌, ap, arith, refl}
use Rattle.std.specs.List.{slice_split, position_or_len}
use Rattle.std.proofs.lemmas.Bool.{ltb-true, ltb-false}
use Rattle.std.proofs.lemmas.Option.{cond_some}
use Rattle.std.proofs.lemmas.List.Splits.{length-slice_split, slice_split_first, slice_split_none}
use Rattle.std.proofs.lemmas.List.Sums.{fails_before_first}
use Rattle.std.proofs.Math.Dec.{ltb}

pub cut_at : (p : ℕ → Bool) (xs : List ℕ) (k : ℕ) → position p xs ≡ Some k → slice_split p xs ≡ take k xs ∷ slice_split p (drop (k + 1) xs)
cut_at p xs k e =
    let m = cond_some (ltb (position_or_len p xs) (length xs)) (position_or_len p xs) k e in
    rw (← m.1) (slice_split_first p xs 0 (ltb-true _ _ m.0))

none_below : (b : Bool) (k : ℕ) → cond b (Some k) None ≡ None → b ≡ Bool.false
none_below Bool.true k e = cc
none_below Bool.false k e = refl

pub cut_none : (p : ℕ → Bool) (xs : List ℕ) → position p xs ≡ None → slice_split p xs ≡ xs ∷ []
cut_none p xs e =
    let past = ltb-false _ _ (none_below (ltb (position_or_len p xs) (length xs)) (position_or_len p xs) e) in
    slice_split_none p xs (λ k d h. fails_before_first p xs k d (omega arith))

-- a list is cut into one part at least
pub some_part : {P : Type 0} (separator : ℕ) (rest : List ℕ) → ((part : List ℕ) (parts : List (List ℕ)) → slice_split (λ b. b == separator) rest ≡ part ∷ parts → P) → P
some_part {P} separator rest go =
    let Q : List (List ℕ) → Type 0 = λ ws. slice_split (λ b. b == separator) rest ≡ ws → P in
    let all : (ws : List (List ℕ)) → Q ws = λ ws. elim ws as Q [ [] ↦ λ e. absurd (omega (arith, length-slice_split (λ b. b == separator) rest, ap length e)) | part ∷ parts ↦ λ e. go part parts e ] in
    all (slice_split (λ b. b == separator) rest) refl
