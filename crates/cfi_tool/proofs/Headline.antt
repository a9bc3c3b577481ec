-- What status 0 says of a command that was asked for, and what a report's status does.
use Rattle.std.proofs.Common.{◌≡◌, ◌⊎◌, ◌≤◌, ℕ, List, [], None, inl, inr, refl, subst, arith, lit≤}
use Rattle.cfi_tool.proofs.Prelude.{Ghosts, Compared, RunEnd, Content, IsUnread, unread_status, Wrote, Fault, TooLong, CompareWords, IsTold, answer_status, ExplainsDemo, IsDemonstrated, IsExit, IsUnsettled, demo_status, end_status, IsRewritten, RewriteWords, IsRan, RunWords, DemoOutcome, Explains, ExplainsRequest, outcome_outputs, outcome_status, outcome_text, Outcome, Usage, Help, Version, Unread, Rewrite, Verify, Run, Compare, Demo}
use Rattle.cfi_compare.specs.declared.answer.Compared.TheVariants as compared
use Rattle.cfi_step.specs.declared.report.RunEnd.TheVariants as ends
use Rattle.tool_common.specs.declared.read.Unread.{Unread as UnreadFile}
use Rattle.tool_objects.specs.declared.compare.CompareOutcome.TheVariants as told
use Rattle.tool_objects.specs.declared.demo.DemoOutcome.TheVariants as shown
use Rattle.tool_objects.specs.declared.rewrite.RewriteOutcome.TheVariants as rewritten
use Rattle.tool_images.specs.declared.run.RunOutcome.TheVariants as ran
use Rattle.cfi_tool.specs.Request.{Request, compare as compares, demo as demos, asks, names_of, taken, rewrite as rewrites, run as runs}

-- the status of a command that came to its end
abbrev pub IsDone : ℕ → Type 0
IsDone n = (n ≡ 0) ⊎ (10 ≤ n)

small_report : (n : ℕ) → (n ≡ 1) ⊎ (n ≡ 2) ⊎ (n ≡ 3) ⊎ (n ≡ 6) → IsDone n → ⊥
small_report n small large = grind (arith, small, large)

unread_small : (unread : UnreadFile) → IsDone (unread_status unread) → ⊥
unread_small (Fault name) done = small_report 3 (inr (inr (inl refl))) done
unread_small (TooLong name) done = small_report 6 (inr (inr (inr refl))) done

module _ (content : Content) where
  -- what an outcome says that is explained, of the request that the words ask for
  module _ (failed : List ℕ) (words : List (List ℕ)) (asked : Request) (is : taken words ≡ asks asked) where
    of_request : (given : Outcome) (request : Request) → taken words ≡ asks request → ExplainsRequest content request given
        → ExplainsRequest content asked given
    of_request given request second holds =
        let same : request ≡ asked = cc (is, second) in
        subst (λ (r : Request). ExplainsRequest content r given) same holds

    pub explained_request : (given : Outcome) → Explains content failed words given → IsDone (outcome_status given)
        → ExplainsRequest content asked given
    explained_request Usage explained done = absurd (cc (explained, is))
    explained_request (Help text) explained done = absurd (cc (explained, is))
    explained_request (Version text) explained done = absurd (cc (explained, is))
    explained_request (Unread unread) explained done = absurd (unread_small unread done)
    explained_request (Rewrite given) (request, second, holds) done = of_request (Rewrite given) request second holds
    explained_request (Verify given) (request, second, holds) done = of_request (Verify given) request second holds
    explained_request (Run given) (request, second, holds) done = of_request (Run given) request second holds
    explained_request (Compare given) (request, second, holds) done = of_request (Compare given) request second holds
    explained_request (Demo given) (request, second, holds) done = of_request (Demo given) request second holds

  -- a program was run
  pub ran_is : (given_words : RunWords) (given : Outcome) → ExplainsRequest content (runs given_words) given → IsDone (outcome_status given)
      → IsRan content given_words (outcome_status given) (outcome_text given)
  ran_is words (Run (ran.Refused refusal)) is done = absurd (small_report 1 (inl refl) done)
  ran_is words (Run (ran.Rejected reject)) is done = absurd (small_report 1 (inl refl) done)
  ran_is words (Run (ran.Ran version report)) is done = (version, report, is, refl, refl)
  ran_is words other is done = absurd is

  -- a program was compared
  pub told_is : (given_words : CompareWords) (given : Outcome) → ExplainsRequest content (compares given_words) given → IsDone (outcome_status given)
      → IsTold content given_words (outcome_status given) (outcome_text given)
  told_is words (Compare (told.Refused refusal)) is done = absurd (small_report 1 (inl refl) done)
  told_is words (Compare (told.Compared result)) is done = (result, is, refl, refl)
  told_is words other is done = absurd is

  -- the object of a number was demonstrated
  pub shown_is : (number : ℕ) (given : Outcome) → ExplainsRequest content (demos number) given
      → IsDemonstrated number (outcome_status given) (outcome_text given)
  shown_is number (Demo result) is = (result, is, refl, refl)
  shown_is number other is = absurd is

-- a hardened program was written
pub rewritten_is : {S : Type 0} (files : Ghosts S) (before now : S) (given_words : RewriteWords) (given : Outcome)
    → ExplainsRequest (files.content before) (rewrites given_words) given → outcome_status given ≡ 0 → Wrote files before now (outcome_outputs given) None
    → IsRewritten files before now given_words (outcome_text given)
rewritten_is files before now words (Rewrite (rewritten.Refused refusal)) is zero wrote = absurd (omega (arith, zero))
rewritten_is files before now words (Rewrite (rewritten.Rewritten written)) is zero wrote =
    record { written = written; explained = is; wrote = wrote; text_is = refl }
rewritten_is files before now words other is zero wrote = absurd is

-- an end that is no exit, and a comparison without an end, have large statuses
end_large : (end : RunEnd) → (IsExit end → ⊥) → 10 ≤ end_status end
end_large (ends.Exit status) open_end = absurd (open_end tt)
end_large (ends.Handler handler) open_end = lit≤ tt
end_large (ends.Break pc) open_end = lit≤ tt
end_large (ends.LoadFault pc address) open_end = lit≤ tt
end_large ends.Limit open_end = lit≤ tt

unsettled_large : (result : Compared) → IsUnsettled result → 10 ≤ answer_status result
unsettled_large (compared.Untame because section offset) is = lit≤ tt
unsettled_large compared.Limit is = lit≤ tt
unsettled_large (compared.Same events) is = absurd is
unsettled_large (compared.Differs index source image) is = absurd is

pub demo_done : (number : ℕ) (result : DemoOutcome) → ExplainsDemo number result → IsDone (demo_status result)
demo_done number (shown.Ran report) (hardened, image, run, open_end) = inr (end_large report.end open_end)
demo_done number (shown.Compared result) (hardened, image, report, exit, run, unsettled) = inr (unsettled_large result unsettled)
demo_done number (shown.Shown told) is = inl refl

module _ (content : Content) (failed : List ℕ) (words : List (List ℕ)) (number : ℕ) (asked : taken words ≡ asks (demos number)) where
  no_file : (unread : UnreadFile) → IsUnread content failed [] unread → ⊥
  no_file (Fault name) is = is.0
  no_file (TooLong name) is = is.0

  of_number : (given : Outcome) → ExplainsRequest content (demos number) given → IsDone (outcome_status given)
  of_number (Demo result) is = demo_done number result is
  of_number other is = absurd is

  -- a demonstration always comes to its end
  pub demo_ends : (given : Outcome) → Explains content failed words given → IsDone (outcome_status given)
  demo_ends Usage explained = absurd (cc (explained, asked))
  demo_ends (Help text) explained = inl refl
  demo_ends (Version text) explained = inl refl
  demo_ends (Unread unread) (request, is, holds) =
      let same : request ≡ demos number = cc (is, asked) in
      absurd (no_file unread (subst (λ (r : Request). IsUnread content failed (names_of r) unread) same holds))
  demo_ends (Rewrite given) (request, is, holds) = of_number (Rewrite given) (of_request content failed words (demos number) asked (Rewrite given) request is holds)
  demo_ends (Verify given) (request, is, holds) = of_number (Verify given) (of_request content failed words (demos number) asked (Verify given) request is holds)
  demo_ends (Run given) (request, is, holds) = of_number (Run given) (of_request content failed words (demos number) asked (Run given) request is holds)
  demo_ends (Compare given) (request, is, holds) = of_number (Compare given) (of_request content failed words (demos number) asked (Compare given) request is holds)
  demo_ends (Demo given) (request, is, holds) = of_number (Demo given) (of_request content failed words (demos number) asked (Demo given) request is holds)
