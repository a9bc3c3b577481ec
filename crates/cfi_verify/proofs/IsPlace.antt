-- Whether something starts at an address of the prologue.
use Rattle.std.proofs.Common.{◌≡◌, ℕ, ◌<◌, ◌==◌, false, List, Option, Some, None, refl, sym, arith, inl, inr}
use Rattle.std.specs.Prelude.{is_some, nat_le, option_map}
use Rattle.std.proofs.lemmas.Bool.{cases_Bool, eqb-true, ne_eqb, lt-leb}
use Rattle.cfi_verify.proofs.Prelude.{Profile, START, is_handler, is_start, entry_of, unit_at, place_at, starts_prologue}
use Rattle.rv_image.proofs.Profiles.{LaidOut}

some_of : {A B : Type 0} (f : A → B) (x : Option A) → is_some (option_map f x) ≡ is_some x
some_of f None = refl
some_of f (Some x) = refl

module _ (p : Profile) (laid : LaidOut p) where
  -- below the first unit, a part of the prologue
  pub place_below : (words : List ℕ) (a : ℕ) → a < p.units_from → starts_prologue p words a ≡ is_some (place_at p words a)
  unfolding place_at unit_at is_start
  place_below words a below =
      let under : nat_le p.units_from a ≡ false = lt-leb p.units_from a below in
      elim (cases_Bool (is_handler a)) [
        | inl handler ↦ rw (handler, place_at) refl
        | inr other ↦ elim (cases_Bool (a == START)) [
          | inl opening ↦ let not_closing = ne_eqb a p.closing (λ e. let is = eqb-true a START opening in omega arith) in rw (other, opening, not_closing, place_at) (sym (some_of _ (entry_of p words)))
          | inr elsewhere ↦ elim (cases_Bool (a == p.closing)) [
            | inl closing ↦ rw (other, elsewhere, closing, place_at) refl
            | inr nowhere ↦ rw (other, elsewhere, nowhere, place_at, unit_at, is_start, under) refl
          ]
        ]
      ]
