-- Two tables of words that differ only where any call may stand.
use Rattle.std.proofs.Common.{◌≡◌, ◌≢◌, ℕ, List, Option, Some, None, inl, inr, refl}
use Rattle.std.specs.Prelude.{slice_index}
use Rattle.std.proofs.lemmas.Bool.{cases_eq, eq-eqb, ne_eqb}
use Rattle.cfi_rules.specs.Rules.{fits_table}

pub same_fits : (table other : List ℕ) (call k : ℕ) (word : Option ℕ) → (k ≢ call → slice_index table k ≡ slice_index other k) →
    fits_table table call k word ≡ fits_table other call k word
same_fits table other call k None same = refl
same_fits table other call k (Some word) same =
    elim (cases_eq k call) [
      | inl here ↦ rw (eq-eqb k call here) refl
      | inr elsewhere ↦ rw (ne_eqb k call elsewhere, same elsewhere) refl
    ]
