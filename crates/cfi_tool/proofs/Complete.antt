-- What is answered to a request is complete.
use Rattle.std.proofs.Common.{◌≡◌, ℕ, List, [], ◌∷◌, Some, Ok, subst}
use Rattle.cfi_tool.proofs.Prelude.{Content, IsLong, IsReached, IsUnread, Fault, TooLong, IsComplete, Explains, ExplainsRequest, IsReadFault, outcome_status, Outcome, Usage, Help, Version, Unread, Rewrite, Verify, Run, Compare, Demo}
use Rattle.tool_common.proofs.Held.{none_long}
use Rattle.tool_objects.proofs.Complete.{all_held, compare_complete, rewrite_complete}
use Rattle.tool_images.proofs.Complete.{run_complete, verify_complete}
use Rattle.cfi_tool.specs.Request.{Request, asks, compare as compares, demo as demos, names_of, taken, rewrite as rewrites, run as runs, verify as verifies}
use Rattle.cfi_tool.proofs.Headline.{demo_done}

module _ (content : Content) where
  -- a command's own outcome
  of_outcome : (request : Request) (given : Outcome) → ExplainsRequest content request given → IsComplete content request (outcome_status given)
  of_outcome (rewrites words) (Rewrite result) is = rewrite_complete content words result is
  of_outcome (verifies words) (Verify verdict) is = verify_complete content words verdict is
  of_outcome (runs words) (Run result) is = run_complete content words result is
  of_outcome (compares words) (Compare result) is = compare_complete content words result is
  of_outcome (demos number) (Demo result) is = demo_done number result is
  of_outcome request other is = absurd is

  -- a file that is too long is none that is held
  too_long : (request : Request) (name : List ℕ) (status : ℕ) → IsReached content (names_of request) name → IsLong (content name)
      → IsComplete content request status
  too_long (rewrites words) name status reached long = λ given policy held policy_held none.
      let (all, are) = all_held content words.objects given (words.policy ∷ []) (policy ∷ []) held (policy_held, tt) in
      absurd (none_long content (names_of (rewrites words)) all name are reached long)
  too_long (verifies words) name status reached long = λ image_bytes graph_bytes image graph held spell well.
      absurd (none_long content (names_of (verifies words)) (image_bytes ∷ graph_bytes ∷ []) name held reached long)
  too_long (runs words) name status reached long = λ image_bytes graph_bytes script_bytes input image graph changes held spell given well.
      absurd (none_long content (names_of (runs words)) (image_bytes ∷ graph_bytes ∷ script_bytes ∷ input ∷ []) name held reached long)
  too_long (compares words) name status reached long = λ given policy image map input objects held none.
      let (all, are) = all_held content words.objects given (words.policy ∷ Some words.image ∷ Some words.map ∷ words.input ∷ []) (policy ∷ image ∷ map ∷ input ∷ []) objects held in
      absurd (none_long content (names_of (compares words)) all name are reached long)
  too_long (demos number) name status reached long = absurd reached

  module _ (failed : List ℕ) (words : List (List ℕ)) (asked : Request) (is : taken words ≡ asks asked) where
    -- what is explained of a request that the words ask for is so of the one that they ask for
    moved : (given : Outcome) (request : Request) → taken words ≡ asks request → ExplainsRequest content request given
        → IsComplete content asked (outcome_status given)
    moved given request second holds =
        let same : request ≡ asked = cc (is, second) in
        of_outcome asked given (subst (λ (r : Request). ExplainsRequest content r given) same holds)

    pub complete_is : (given : Outcome) → Explains content failed words given → (IsReadFault (Ok given) → ⊥)
        → IsComplete content asked (outcome_status given)
    complete_is Usage explained unfailed = absurd (cc (explained, is))
    complete_is (Help text) explained unfailed = absurd (cc (explained, is))
    complete_is (Version text) explained unfailed = absurd (cc (explained, is))
    complete_is (Unread (Fault name)) explained unfailed = absurd (unfailed tt)
    complete_is (Unread (TooLong name)) (request, second, holds) unfailed =
        let same : request ≡ asked = cc (is, second) in
        let (reached, long) = subst (λ (r : Request). IsUnread content failed (names_of r) (TooLong name)) same holds in
        too_long asked name.now 6 reached long
    complete_is (Rewrite given) (request, second, holds) unfailed = moved (Rewrite given) request second holds
    complete_is (Verify given) (request, second, holds) unfailed = moved (Verify given) request second holds
    complete_is (Run given) (request, second, holds) unfailed = moved (Run given) request second holds
    complete_is (Compare given) (request, second, holds) unfailed = moved (Compare given) request second holds
    complete_is (Demo given) (request, second, holds) unfailed = moved (Demo given) request second holds
