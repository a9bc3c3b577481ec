-- What was written since files were read alone.
use Rattle.std.proofs.Common.{◌≡◌, ◌∙◌, ◌⊎◌, ◌∷◌, ℕ, List, [], Option, None, Some, inl, inr, refl, subst, arith}
use Rattle.cfi_tool.proofs.Prelude.{Becomes, IsOnlyRead, Ghosts, IsShort, IsStopped, outcome_outputs, outcome_status, AreWhole, IsTorn, OutputParts, Wrote, Outcome, Usage, Help, Version, Unread, Rewrite, Verify, Run, Compare, Demo}
use Rattle.tool_objects.specs.declared.rewrite.RewriteOutcome.TheVariants as outcome

module _ {S : Type 0} (files : Ghosts S) (a b c : S) (read : IsOnlyRead files a b) where
  pub only_read_since : IsOnlyRead files b c → IsOnlyRead files a c
  only_read_since later = record {
    kept = λ name. later.kept name ∙ read.kept name;
    absence_kept = λ name.
        let after = later.absence_kept name in
        let before = read.absence_kept name in
        (λ absent. before.0 (after.0 absent), λ absent. after.1 (before.1 absent));
    no_write = later.no_write ∙ read.no_write;
    read_faults_later = omega (arith, read.read_faults_later, later.read_faults_later);
    long_reads_later = omega (arith, read.long_reads_later, later.long_reads_later);
  }

  whole_since : (outputs : List OutputParts) → AreWhole files b c outputs → AreWhole files a c outputs
  whole_since [] whole = tt
  whole_since (output ∷ outputs) whole = (
    record {
      bytes = subst (λ (held : Option (List ℕ)). Becomes held (files.content c output.name) output.bytes) (read.kept output.name) whole.0.bytes;
      there = whole.0.there;
    },
    whole_since outputs whole.1,
  )

  pub wrote_since : (outputs : List OutputParts) (torn : Option (List ℕ)) → Wrote files b c outputs torn → Wrote files a c outputs torn
  wrote_since outputs torn wrote = record {
    whole = whole_since outputs wrote.whole;
    kept = λ name other told. wrote.kept name other told ∙ read.kept name;
    absence_kept = λ name other told.
        let later = wrote.absence_kept name other told in
        let earlier = read.absence_kept name in
        (λ absent. earlier.0 (later.0 absent), λ absent. later.1 (earlier.1 absent));
  }

  pub torn_since : (outputs : List OutputParts) → IsTorn files b c outputs → IsTorn files a c outputs
  torn_since outputs is = record { done = is.done; failed = is.failed; left = is.left; split = is.split; wrote = wrote_since is.done (Some is.failed.name) is.wrote }

  pub short_since : (given : Outcome) → IsShort files b c given → IsShort files a c given
  short_since given is = record { done = is.done; left = is.left; split = is.split; wrote = wrote_since is.done None is.wrote }

  pub stopped_since : (put_before put_now : Option (List ℕ)) (given : Outcome) → IsStopped files b c put_before put_now given
      → IsStopped files a c put_before put_now given
  stopped_since put_before put_now given (inl torn) = inl (torn_since (outcome_outputs given) torn.0, torn.1)
  stopped_since put_before put_now given (inr part) = inr (wrote_since (outcome_outputs given) None part.0, part.1)

no_status : (n : ℕ) → n ≡ 0 → (n ≡ 1) ⊎ (n ≡ 2) ⊎ (n ≡ 3) ⊎ (n ≡ 6) → ⊥
no_status n zero is = grind (arith, zero, is)

-- what ends with one of these statuses has no file
pub status_unwritten : (given : Outcome)
    → (outcome_status given ≡ 1) ⊎ (outcome_status given ≡ 2) ⊎ (outcome_status given ≡ 3) ⊎ (outcome_status given ≡ 6) → outcome_outputs given ≡ []
status_unwritten (Rewrite (outcome.Refused refusal)) is = refl
status_unwritten (Rewrite (outcome.Rewritten written)) is = absurd (no_status 0 refl is)
status_unwritten Usage is = refl
status_unwritten (Help text) is = refl
status_unwritten (Version text) is = refl
status_unwritten (Unread unread) is = refl
status_unwritten (Verify verdict) is = refl
status_unwritten (Run given) is = refl
status_unwritten (Compare given) is = refl
status_unwritten (Demo given) is = refl
