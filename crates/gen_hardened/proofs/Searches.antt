-- What is found nowhere in an input's sections.
use Rattle.std.proofs.Common.{◌≡◌, ℕ, zero, suc, Bool, true, false, if◌then◌else◌, List, [], ◌∷◌, map, length, Option, None, refl}
use Rattle.gen_hardened.proofs.Prelude.{Reloc, Place, Found, least_below, nearest, nearest_below, Definition, is_acting, InputParts, section_count, ItemFault, nearest_in, place_of, missing_among, missing_at, missing_symbol}
use Rattle.gen_hardened.proofs.Bridge.{use_by}

none_nearest : {A : Type 0} (place : A → Place) (given : ℕ → Option A) (n : ℕ) → ((k : ℕ) → given k ≡ None)
    → nearest_below place given n ≡ None
unfolding nearest_below
none_nearest place given zero none = refl
none_nearest place given (suc n) none = rw (none_nearest place given n none, none n) refl

pub none_in : (input : InputParts) (given : ℕ → Option (Found ItemFault)) → ((k : ℕ) → given k ≡ None)
    → nearest_in input given ≡ None
none_in input given none = rw (none_nearest place_of given (section_count input) none) refl

pub nearest_none : (found : List (Found ItemFault)) → found ≡ [] → nearest place_of found ≡ None
unfolding nearest
nearest_none found none = rw none refl

pub none_least : (given : ℕ → Option ℕ) (n : ℕ) → ((k : ℕ) → given k ≡ None) → least_below given n ≡ None
unfolding least_below
none_least given zero none = refl
none_least given (suc n) none = rw (none_least given n none, none n) refl

same_both : {A : Type 0} (b : Bool) (x : A) → (if b then x else x) ≡ x
same_both true x = refl
same_both false x = refl

-- where each symbol is defined, no relocation names one that is not
missing_nowhere : (definition : ℕ → Definition) → ((m : ℕ) → missing_symbol (definition m) ≡ None) → (rs : List Reloc) (j : ℕ)
    → missing_at (map (use_by definition) rs) j ≡ None
missing_nowhere definition defined [] j = refl
missing_nowhere definition defined (r ∷ rs) zero = rw (defined r.symbol) (same_both (is_acting (use_by definition r)) None)
missing_nowhere definition defined (r ∷ rs) (suc j) = missing_nowhere definition defined rs j

pub none_missing : (definition : ℕ → Definition) → ((m : ℕ) → missing_symbol (definition m) ≡ None) → (rs : List Reloc)
    → missing_among (map (use_by definition) rs) ≡ None
none_missing definition defined rs =
    none_least (missing_at (map (use_by definition) rs)) (length (map (use_by definition) rs)) (missing_nowhere definition defined rs)
