-- The scan over the fields of the headers.
use Rattle.std.proofs.Common.{◌≡◌, ◌==◌, ℕ, ◌+◌, ◌<◌, List, [], ◌∷◌, ◌++◌, length, drop, get_or, true, false, if◌then◌else◌, Some, refl, add-one, drop-cons, eq-eqb}
use Rattle.std.specs.Option.{option_or}
use Rattle.elf_bytes.specs.Fields.{number_at}
use Rattle.elf_image.specs.declared.field.Field.{Field}
use Rattle.elf_image.specs.Fault.{first_wrong}

-- a field that has its value is passed
pub passed : (bytes : List ℕ) (fs : List Field) (i : ℕ) (d : Field) → i < length fs
    → number_at bytes (get_or fs i d).at (get_or fs i d).size ≡ (get_or fs i d).value
    → first_wrong bytes (drop i fs) ≡ first_wrong bytes (drop (i + 1) fs)
unfolding first_wrong
passed bytes fs i d below same = rw (drop-cons fs i d below, eq-eqb _ _ same, add-one) refl

-- one that has another value is told
pub told : (bytes : List ℕ) (fs : List Field) (i : ℕ) (d : Field) → i < length fs
    → (number_at bytes (get_or fs i d).at (get_or fs i d).size == (get_or fs i d).value) ≡ false
    → first_wrong bytes (drop i fs) ≡ Some (get_or fs i d).at
unfolding first_wrong
told bytes fs i d below other = rw (drop-cons fs i d below, other) refl

-- the first wrong field of two lists is that of the first one, if it has one
pub first_wrong-append : (bytes : List ℕ) (fs gs : List Field)
    → first_wrong bytes (fs ++ gs) ≡ option_or (first_wrong bytes fs) (first_wrong bytes gs)
unfolding first_wrong
first_wrong-append bytes [] gs = refl
first_wrong-append bytes (f ∷ fs) gs = elim (number_at bytes f.at f.size == f.value) as (λ b.
    (if b then first_wrong bytes (fs ++ gs) else Some f.at)
    ≡ option_or (if b then first_wrong bytes fs else Some f.at) (first_wrong bytes gs)) [
      | true ↦ first_wrong-append bytes fs gs
      | false ↦ refl
    ]

-- and so for the four headers
pub in_headers : (bytes : List ℕ) (hs is js ks : List Field)
    → first_wrong bytes (hs ++ is ++ js ++ ks)
    ≡ option_or (option_or (option_or (first_wrong bytes hs) (first_wrong bytes is)) (first_wrong bytes js)) (first_wrong bytes ks)
in_headers bytes hs is js ks =
    rw (first_wrong-append bytes (hs ++ is ++ js) ks, first_wrong-append bytes (hs ++ is) js, first_wrong-append bytes hs is) refl
