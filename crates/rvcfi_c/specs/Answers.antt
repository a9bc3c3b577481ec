-- What the library answers of two texts.
use Rattle.std.specs.Prelude.{◌≡◌, ◌⊎◌, ℕ, List, Some, Result, Ok, Err}
use Rattle.rv_image.specs.Image.{Contents}
use Rattle.elf_image.specs.Fault.{fault_of}
use Rattle.elf_image.specs.declared.refusal.ImageRefusal.{ImageRefusal}
use Rattle.cfi_graph.specs.Graph.{GraphParts}
use Rattle.cfi_rules.specs.Rules.{IsWellFormed, pair_profile}
use Rattle.cfi_pair.specs.Judgement.{HasJudgement}
use Rattle.cfi_pair.specs.Numbers.{verdict_of}
use Rattle.cfi_pair.specs.Opening.{IsPairEnd}
use Rattle.cfi_pair.specs.Spelled.{Spell}
use Rattle.cfi_pair.specs.declared.judging.Verdict.{Verdict}
use Rattle.rv_word.specs.declared.end.End.{End}
use Rattle.cfi_pair.specs.declared.opening.PairFault.{PairFault}
use Rattle.cfi_pair.specs.declared.verdict.RvcfiVerdict.{RvcfiVerdict}

-- what may be said of two texts: of want of memory nothing
abbrev pub IsSaid : List ℕ → List ℕ → Result Verdict (End PairFault) → Type 0
IsSaid image graph (Ok verdict) = HasJudgement image graph verdict
IsSaid image graph (Err end) = IsPairEnd image graph end

-- the verdict tells what may be said
abbrev pub IsVerdictOf : List ℕ → List ℕ → RvcfiVerdict → Type 0
IsVerdictOf image graph verdict = (said : Result Verdict (End PairFault)) × IsSaid image graph said × (verdict ≡ verdict_of said)

-- a text is no image
abbrev pub IsNoImage : List ℕ → Type 0
IsNoImage bytes = (refusal : ImageRefusal) × (fault_of bytes ≡ Some refusal)

-- every pair that meets the rules is accepted, but for want of memory
abbrev pub IsComplete : List ℕ → List ℕ → ℕ → Type 0
IsComplete image graph outcome =
    (contents : Contents) (parts : GraphParts) → Spell image graph contents parts
    → IsWellFormed (pair_profile contents parts) contents parts → (outcome ≡ 0) ⊎ (outcome ≡ 4)
