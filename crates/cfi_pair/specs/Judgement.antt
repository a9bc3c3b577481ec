-- What the rules say of an image and its graph.
use Rattle.std.specs.Prelude.{◌≡◌, ◌⊎◌, ℕ, List, Result, Ok, Err}
use Rattle.rv_image.specs.Image.{Contents}
use Rattle.cfi_graph.specs.Graph.{GraphParts}
use Rattle.cfi_confined.specs.Confined.{IsConfined}
use Rattle.cfi_rules.specs.Along.{IsSafe}
use Rattle.cfi_rules.specs.Rules.{IsRejected, IsWellFormed, pair_profile}
use Rattle.cfi_pair.specs.Spelled.{Spell}
use Rattle.cfi_pair.specs.declared.judging.Verdict.{Verdict}
use Rattle.cfi_pair.specs.declared.judging.Verdict.TheVariants.{Accepted, Rejected}
use Rattle.rv_word.specs.declared.end.End.{End}
use Rattle.cfi_pair.specs.declared.opening.PairFault.{PairFault}
use Rattle.rv_word.specs.declared.end.End.TheVariants.{NoMemory}

-- accepted: the pair meets every rule, is safe and is confined, so that where the graph has a list of system calls the program makes no
-- others (`confined_is_listed` of cfi_confined); rejected: by the first rule that fails
abbrev pub IsJudgement : Contents → GraphParts → Verdict → Type 0
IsJudgement image graph Accepted =
    IsWellFormed (pair_profile image graph) image graph × IsSafe (pair_profile image graph) image graph
    × IsConfined (pair_profile image graph) image graph
IsJudgement image graph (Rejected reject) = IsRejected (pair_profile image graph) image graph reject

-- the texts spell a pair that has this judgement
abbrev pub HasJudgement : List ℕ → List ℕ → Verdict → Type 0
HasJudgement image_bytes graph_bytes verdict =
    (image : Contents) × (graph : GraphParts) × Spell image_bytes graph_bytes image graph × IsJudgement image graph verdict

-- every pair that meets the rules is accepted, but for want of memory
abbrev pub IsComplete : List ℕ → List ℕ → Result Verdict (End PairFault) → Type 0
IsComplete image_bytes graph_bytes result =
    (image : Contents) (graph : GraphParts) → Spell image_bytes graph_bytes image graph → IsWellFormed (pair_profile image graph) image graph
    → (result ≡ Ok Accepted) ⊎ (result ≡ Err NoMemory)
