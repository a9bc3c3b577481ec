-- Where the unit at a word ends: past it, not past the end of all, and no unit starts between.
use Rattle.std.proofs.Common.{◌≡◌, ◌≤◌, ◌<◌, ℕ, ◌+◌, ◌-◌, Bool, false, List, inl, inr, ap, ◌∙◌, arith}
use Rattle.std.specs.Prelude.{slice_get}
use Rattle.rv_word.proofs.Cases.{cases_Option}
use Rattle.least.specs.First.{first_below}
use Rattle.least.proofs.Firsts.{first_none, found_parts}
use Rattle.cfi_reader.specs.declared.entry.Entry.{Entry}
use Rattle.cfi_reader.specs.Entries.{is_started}
use Rattle.cfi_starts.specs.Entries.{next_in}

pub record Ends (entries : List Entry) (end k next : ℕ) : Type 0 where
  pub later : k < next
  pub within : next ≤ end
  pub inside : (j : ℕ) → k < j → j < next → is_started (slice_get entries j) ≡ false

pub ends : (entries : List Entry) (end k : ℕ) → k < end → Ends entries end k (next_in entries end k)
unfolding next_in
ends entries end k below =
    let test : ℕ → Bool = λ j. is_started (slice_get entries (k + 1 + j)) in
    elim (cases_Option (first_below test (end - (k + 1)))) [
      | inl none ↦ rw none (record {
        later = below;
        within = omega arith;
        inside = λ j low high.
            let there : k + 1 + (j - (k + 1)) ≡ j = omega arith in
            ap (λ i. is_started (slice_get entries i)) (omega arith) ∙ first_none test (end - (k + 1)) (j - (k + 1)) none (omega arith);
      })
      | inr (i, found) ↦
          let parts = found_parts test (end - (k + 1)) i found in
          rw found (record {
            later = omega arith;
            within = omega (arith, parts.0);
            inside = λ j low high.
                ap (λ i. is_started (slice_get entries i)) (omega arith) ∙ first_none test i (j - (k + 1)) parts.2 (omega arith);
          })
    ]
