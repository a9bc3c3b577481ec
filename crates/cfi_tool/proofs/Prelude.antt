-- The definitions that proofs of this crate cite, which they import from here.
pub use Rattle.tool_io.specs.Contents.{Becomes}
pub use Rattle.tool_io.specs.Names.{AreRead}
pub use Rattle.tool_io.specs.Reading.{IsOnlyRead}
pub use Rattle.tool_io.specs.declared.files.Files.{Ghosts}
pub use Rattle.cfi_step.specs.declared.report.RunEnd.{RunEnd}
pub use Rattle.cfi_writer.specs.Hardened.{HardenedParts}
pub use Rattle.cfi_compare.specs.declared.answer.Compared.{Compared}
pub use Rattle.tool_words.specs.CommandLine.{VERIFY}
pub use Rattle.tool_words.specs.HelpWords.{asks_help, asks_version}
pub use Rattle.tool_words.specs.Plain.{AsksFor, Operands, TakesMarked, TakesPlain, mark_left, none_left, one_more}
pub use Rattle.tool_words.specs.Reading.{Reading, clap_reading, if_alone, reading, spelled}
pub use Rattle.tool_words.specs.declared.asked.Asked.{Asked}
pub use Rattle.tool_words.specs.declared.end.WordsEnd.{WordsEnd}
pub use Rattle.tool_words.specs.declared.end.WordsEnd.TheVariants.{NoMemory, Refused}
pub use Rattle.tool_common.specs.Reads.{Content, IsLong, IsReached, IsUnread, unread_status}
pub use Rattle.tool_common.specs.Writes.{AreApart, AreWhole, IsTorn, OutputParts, Wrote}
pub use Rattle.tool_common.specs.declared.read.Unread.TheVariants.{Fault, TooLong}
pub use Rattle.tool_report.specs.ReportText.{end_status}
pub use Rattle.tool_images.specs.Run.{IsRan, RunWords}
pub use Rattle.tool_images.specs.Verify.{IsAccepted, VerifyWords}
pub use Rattle.tool_objects.specs.Compare.{CompareWords, IsTold, answer_status}
pub use Rattle.tool_objects.specs.Demo.{ExplainsDemo, IsDemonstrated, IsExit, IsUnsettled, demo_status}
pub use Rattle.tool_objects.specs.Rewrite.{AreNamedApart, IsRewritten, IsSpelledOut, RewriteWords, outputs_of}
pub use Rattle.tool_objects.specs.declared.demo.DemoOutcome.{DemoOutcome}
pub use Rattle.tool_objects.specs.declared.rewrite.Rewritten.{Rewritten}
pub use Rattle.cfi_tool.specs.Complete.{IsComplete}
pub use Rattle.cfi_tool.specs.Explains.{Explains, ExplainsRequest, IsRead, IsReadFault}
pub use Rattle.cfi_tool.specs.Finishing.{IsShort, IsStopped}
pub use Rattle.cfi_tool.specs.Outcomes.{outcome_outputs, outcome_status, outcome_text}
pub use Rattle.cfi_tool.specs.Request.{IsKept, IsRight, IsWordsEnd, Taken, TakenMarked, TakenPlainly, asked, compare, demo, if_request, read_names, request_of, rewrite, run, taken_by, untaken}
unfoldable pub use Rattle.cfi_tool.specs.Request.{taken}
pub use Rattle.cfi_tool.specs.declared.outcome.Outcome.{Outcome}
pub use Rattle.cfi_tool.specs.declared.outcome.Outcome.TheVariants.{Compare, Demo, Help, Rewrite, Run, Unread, Usage, Verify, Version}
