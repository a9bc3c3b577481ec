-- Completeness: where a command's files are delivered and nothing stands against what they hold, its status is that of its success.
use Rattle.std.specs.Prelude.{◌≡◌, ℕ, List, [], ◌∷◌, Some}
use Rattle.cfi_compare.specs.declared.answer.Compared as A
use Rattle.cfi_harden.specs.Given.{Given}
use Rattle.cfi_harden.specs.Refused.{Refuses}
use Rattle.cfi_harden.specs.Request as asks
use Rattle.tool_common.specs.Held.{AreHeld, IsHeldNamed}
use Rattle.tool_common.specs.Reads.{Content}
use Rattle.tool_common.specs.Words.{text_named}
use Rattle.refusals.specs.declared.refusal.Refusal.{Refusal}
use Rattle.tool_objects.specs.Compare.{CompareWords, IsCompareRefused, IsComparison, answer_status, asked_at}
use Rattle.tool_objects.specs.Objects.{HoldObjects}
use Rattle.tool_objects.specs.Rewrite.{RewriteWords, request_of}

-- no refusal stands against a request
abbrev pub IsUnrefused : asks.Request → Type 0
IsUnrefused request = (refusal : Refusal) → Refuses request refusal → ⊥

-- a program against which no refusal stands is hardened
abbrev pub RewriteIsComplete : Content → RewriteWords → ℕ → Type 0
RewriteIsComplete content words status =
    (given : Given) (policy : List ℕ) → HoldObjects content words.objects given → IsHeldNamed content words.policy policy
    → IsUnrefused (request_of words given (text_named words.policy policy)) → status ≡ 0

-- files of which none is refused are compared, and the status is that of their comparison
abbrev pub CompareIsComplete : Content → CompareWords → ℕ → Type 0
CompareIsComplete content words status =
    (given : Given) (policy image map input : List ℕ) → HoldObjects content words.objects given
    → AreHeld content (words.policy ∷ Some words.image ∷ Some words.map ∷ words.input ∷ []) (policy ∷ image ∷ map ∷ input ∷ [])
    → let request = asked_at map given words.entry (text_named words.policy policy) in
    ((refusal : Refusal) → IsCompareRefused request image map refusal → ⊥)
    → (result : A.Compared) × IsComparison request image map input words.limit result × (status ≡ answer_status result)
