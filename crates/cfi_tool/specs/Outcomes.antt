-- The text and the status of what a command comes to.
use Rattle.std.specs.Prelude.{ℕ, List, [], string_bytes}
use Rattle.tool_objects.specs.Compare.{compare_line, compare_status}
use Rattle.tool_objects.specs.Demo.{demo_status, demo_text}
use Rattle.tool_objects.specs.Rewrite.{rewrite_line, rewrite_outputs, rewrite_status}
use Rattle.tool_images.specs.Run.{run_status, run_text}
use Rattle.tool_images.specs.Verify.{verdict_line, verdict_status}
use Rattle.tool_common.specs.Lines.{with_newline}
use Rattle.tool_common.specs.Writes.{OutputParts}
use Rattle.tool_common.specs.Reads.{unread_line, unread_status}
use Rattle.tool_words.specs.CommandLine.{usage}
use Rattle.cfi_tool.specs.declared.outcome.Outcome.{Outcome}
use Rattle.cfi_tool.specs.declared.outcome.Outcome.TheVariants.{Usage, Help, Version, Unread, Rewrite, Verify, Run, Compare, Demo}

abbrev pub outcome_text : Outcome → List ℕ
outcome_text Usage = with_newline usage
outcome_text (Help text) = string_bytes text
outcome_text (Version text) = string_bytes text
outcome_text (Unread unread) = with_newline (unread_line unread)
outcome_text (Rewrite outcome) = with_newline (rewrite_line outcome)
outcome_text (Verify verdict) = with_newline (verdict_line verdict)
outcome_text (Run outcome) = run_text outcome
outcome_text (Compare outcome) = with_newline (compare_line outcome)
outcome_text (Demo outcome) = demo_text outcome

abbrev pub outcome_status : Outcome → ℕ
outcome_status Usage = 2
outcome_status (Help text) = 0
outcome_status (Version text) = 0
outcome_status (Unread unread) = unread_status unread
outcome_status (Rewrite outcome) = rewrite_status outcome
outcome_status (Verify verdict) = verdict_status verdict
outcome_status (Run outcome) = run_status outcome
outcome_status (Compare outcome) = compare_status outcome
outcome_status (Demo outcome) = demo_status outcome

-- the files that are written, in their order
abbrev pub outcome_outputs : Outcome → List OutputParts
outcome_outputs (Rewrite outcome) = rewrite_outputs outcome
outcome_outputs Usage = []
outcome_outputs (Help text) = []
outcome_outputs (Version text) = []
outcome_outputs (Unread unread) = []
outcome_outputs (Verify verdict) = []
outcome_outputs (Run outcome) = []
outcome_outputs (Compare outcome) = []
outcome_outputs (Demo outcome) = []
