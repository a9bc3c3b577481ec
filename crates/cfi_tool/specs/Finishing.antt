-- What stands of an outcome's files and text where a write or the output fails, or where there is no memory.
use Rattle.std.specs.Prelude.{ℕ, ◌⊎◌, List, Option, None}
use Rattle.std.specs.Io.KnownBytes.{Keeps}
use Rattle.tool_io.specs.declared.files.Files.{Ghosts}
use Rattle.cfi_tool.specs.Explains.{IsPart}
use Rattle.cfi_tool.specs.Outcomes.{outcome_outputs, outcome_text}
use Rattle.tool_common.specs.Writes.{IsCut, IsTorn, Wrote}
use Rattle.cfi_tool.specs.declared.outcome.Outcome.{Outcome}

-- a fault: of a file, where those before it were written whole and nothing was put, or of the output, where all files were written
-- and some first part of the text
abbrev pub IsStopped : {S : Type 0} → Ghosts S → S → S → Option (List ℕ) → Option (List ℕ) → Outcome → Type 0
IsStopped files before now put_before put_now outcome =
    (IsTorn files before now (outcome_outputs outcome) × Keeps put_before put_now)
    ⊎ (Wrote files before now (outcome_outputs outcome) None × IsPart put_before put_now (outcome_text outcome))

-- want of memory: the first of the files were written
abbrev pub IsShort : {S : Type 0} → Ghosts S → S → S → Outcome → Type 0
IsShort files before now outcome = IsCut files before now (outcome_outputs outcome)
