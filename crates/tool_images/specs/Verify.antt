-- `verify IMAGE GRAPH`: whether an image goes with its graph.
use Rattle.std.specs.Prelude.{◌≡◌, ℕ, List, [], ◌∷◌, ◌++◌, codes, Option, Some, None}
use Rattle.rv_image.specs.Image.{Contents}
use Rattle.cfi_graph.specs.Graph.{GraphParts}
use Rattle.cfi_rules.specs.RejectText.{reject_text}
use Rattle.cfi_rules.specs.declared.reject.Reject.{Reject}
use Rattle.cfi_pair.specs.Judgement as rules
use Rattle.cfi_pair.specs.Spelled.{Spell}
use Rattle.cfi_pair.specs.declared.judging.Verdict.TheVariants as says
use Rattle.tool_common.specs.Lines.{with_newline}
use Rattle.tool_images.specs.Refused.{IsRefusal}
use Rattle.tool_common.specs.Reads.{Content, Gave}
use Rattle.refusals.specs.Refusals.{refusal_line}
use Rattle.tool_words.specs.declared.asked.VerifyWords as W
use Rattle.tool_images.specs.declared.verify.Verdict.{Verdict}
use Rattle.tool_images.specs.declared.verify.Verdict.TheVariants.{Accepted, Refused, Rejected}

-- what is asked for: the names of two files
pub record VerifyWords : Type 0 where
  pub image : List ℕ
  pub graph : List ℕ

-- what the words after the command ask for, if they are taken
abbrev pub verify_words : List (List ℕ) → Option VerifyWords
verify_words (image ∷ graph ∷ []) = Some (record { image = image; graph = graph })
verify_words words = None

-- the files that are read, in their order
abbrev pub verify_names : VerifyWords → List (Option (List ℕ))
verify_names asks = Some asks.image ∷ Some asks.graph ∷ []

-- the words as they were read
abbrev pub verify_asked : W.VerifyWords → VerifyWords
verify_asked w = record { image = w.image.now; graph = w.graph.now }

-- what the rules say of an image and its graph
abbrev pub IsJudgement : Contents → GraphParts → Verdict → Type 0
IsJudgement image graph Accepted = rules.IsJudgement image graph says.Accepted
IsJudgement image graph (Refused refusal) = ⊥
IsJudgement image graph (Rejected reject) = rules.IsJudgement image graph (says.Rejected reject)

-- the files spell a pair that has this judgement
abbrev pub HasJudgement : List ℕ → List ℕ → Verdict → Type 0
HasJudgement image_bytes graph_bytes verdict =
    (image : Contents) × (graph : GraphParts) × Spell image_bytes graph_bytes image graph × IsJudgement image graph verdict

-- the verdict on two files
abbrev pub IsVerdictOf : List ℕ → List ℕ → Verdict → Type 0
IsVerdictOf image graph Accepted = HasJudgement image graph Accepted
IsVerdictOf image graph (Refused refusal) = IsRefusal image graph None refusal
IsVerdictOf image graph (Rejected reject) = HasJudgement image graph (Rejected reject)

-- the two files gave an image and a graph that have this verdict
pub record ExplainsVerdict (content : Content) (asks : VerifyWords) (verdict : Verdict) : Type 0 where
  pub image_bytes : List ℕ
  pub graph_bytes : List ℕ
  pub image_gave : Gave (content asks.image) image_bytes
  pub graph_gave : Gave (content asks.graph) graph_bytes
  pub verdict_is : IsVerdictOf image_bytes graph_bytes verdict

-- the line of an image that breaks a rule
abbrev pub rejected_line : Reject → List ℕ
rejected_line reject = codes "rejected " ++ reject_text reject

abbrev pub verdict_line : Verdict → List ℕ
verdict_line Accepted = codes "accepted"
verdict_line (Refused refusal) = refusal_line refusal
verdict_line (Rejected reject) = rejected_line reject

abbrev pub verdict_status : Verdict → ℕ
verdict_status Accepted = 0
verdict_status (Refused refusal) = 1
verdict_status (Rejected reject) = 1

-- the files spell an image and a graph that meet every rule, are safe and confined, and the text says so
abbrev pub IsAccepted : Content → VerifyWords → List ℕ → Type 0
IsAccepted content asks text = ExplainsVerdict content asks Accepted × (text ≡ with_newline (verdict_line Accepted))
