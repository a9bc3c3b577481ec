-- The definitions that proofs of this crate cite, which they import from here.
pub use Rattle.rv_word.specs.declared.end.End.{End}
pub use Rattle.rv_word.specs.declared.end.End.TheVariants.{Fault, NoMemory}
pub use Rattle.rv_image.specs.Form.{graph_version, image_version, profile_for}
pub use Rattle.rv_image.specs.Image.{Contents, IsImageSize, image_profile}
pub use Rattle.rv_image.specs.MemoryMap.{DATA_END, DATA_START, Profile, profile_of, profile_under}
pub use Rattle.rv_image.specs.declared.form.Form.{Form}
pub use Rattle.rv_image.specs.declared.form.Form.TheVariants.{Plain}
pub use Rattle.rv_image.specs.declared.version.GraphVersion.{GraphVersion}
pub use Rattle.rv_image.specs.declared.version.ImageVersion.{ImageVersion}
pub use Rattle.rv_code.specs.SameMachine.{IsSameMachine}
pub use Rattle.rv_code.specs.State.{After, start_hart, start_shared}
pub use Rattle.text_lines.specs.Answers.{Answers, line_fault}
pub use Rattle.text_lines.specs.declared.fault.LineFault.{LineFault}
pub use Rattle.text_lines.specs.declared.reason.Reason.{Reason}
pub use Rattle.cfi_graph.specs.Graph.{GraphParts, is_class, is_site}
pub use Rattle.cfi_map_text.specs.Map.{MapParts}
unfoldable pub use Rattle.cfi_map_text.specs.MapText.{map_of}
unfoldable pub use Rattle.elf_image.specs.Fault.{fault_of}
pub use Rattle.elf_image.specs.Header.{data_start}
unfoldable pub use Rattle.elf_image.specs.Spelling.{spelling}
pub use Rattle.tool_io.specs.Contents.{Becomes}
pub use Rattle.tool_io.specs.Names.{AreRead}
pub use Rattle.tool_io.specs.declared.files.Files.{Ghosts}
pub use Rattle.refusals.specs.declared.map_reason.MapReason.TheVariants.{Place, Text}
pub use Rattle.refusals.specs.declared.refusal.Refusal.{Refusal}
pub use Rattle.obj_program.specs.DataAtMap.{init_size}
pub use Rattle.obj_program.specs.Program.{Program}
pub use Rattle.cfi_flow.specs.Policy.{instruction_at}
pub use Rattle.cfi_map.specs.GraphAtMap.{ProgramAtMap, program_at}
pub use Rattle.cfi_map.specs.LegalMap.{IsLegalMap, gates_of}
pub use Rattle.cfi_map.specs.MapFault.{IsWrongLine}
pub use Rattle.cfi_map.specs.Placing.{IsPlacementOf, Spaced}
pub use Rattle.cfi_map.specs.Source.{first_astray, source_start}
pub use Rattle.src_machine.specs.Beginning.{Ends, IsBegun}
pub use Rattle.src_machine.specs.Laws.{WrongIsNotLegal}
pub use Rattle.src_machine.specs.Running.{SourceParts, source_of}
pub use Rattle.src_machine.specs.declared.source_fault.SourceFault.{SourceFault}
pub use Rattle.cfi_rules.specs.Rules.{IsWellFormed, pair_profile}
pub use Rattle.cfi_writer.specs.Hardened.{HardenedParts}
pub use Rattle.cfi_harden.specs.Given.{Given, alone, joined}
pub use Rattle.cfi_harden.specs.Hardened.{IsWrittenOf}
pub use Rattle.cfi_harden.specs.Prepared.{IsPrepared, IsPreparedOf, PreparedParts}
pub use Rattle.cfi_harden.specs.Preparing.{Reads}
pub use Rattle.cfi_harden.specs.Refused.{HardensProgram, IsEarly, PreparesProgram, Refuses}
pub use Rattle.cfi_harden.specs.Request.{ProgramRequest, Request, program_request}
pub use Rattle.cfi_harden.specs.Room.{HasDataRoom}
pub use Rattle.cfi_meaning.specs.Bounds.{most_steps}
pub use Rattle.cfi_meaning.specs.Compared.{compared}
pub use Rattle.cfi_meaning.specs.Hardened.{NeverDiffersOf}
pub use Rattle.cfi_meaning.specs.NeverDiffers.{NoRunDiffers}
pub use Rattle.cfi_compare.specs.Told.{told_answer}
pub use Rattle.cfi_compare.specs.declared.answer.Compared.{Compared}
pub use Rattle.gen_hardened.specs.Laws.{DemoIsNeverRefused, entered}
pub use Rattle.cfi_launch.specs.SafeRun.{IsSafeRun, undisturbed_script}
pub use Rattle.tool_common.specs.Held.{AreHeld, IsHeldNamed}
pub use Rattle.tool_common.specs.Reads.{Content, GaveAll, file_names}
pub use Rattle.tool_common.specs.Words.{text_named}
pub use Rattle.tool_common.specs.Writes.{AreApart, AreWhole, IsCut, IsOther, IsTold, IsTorn, OutputParts, Wrote}
pub use Rattle.tool_objects.specs.Compare.{CompareWords, ExplainsCompare, IsCompareOf, IsCompareRefused, IsComparison, IsMapOf, IsRoomy, IsRunnable, asked_at, at_map, compare_asked, compare_status, first_out, form_told, map_form}
pub use Rattle.tool_objects.specs.Comparing.{IsAfterImage, IsImageCompared, IsResult, IsRoomyEnd}
pub use Rattle.tool_objects.specs.Complete.{CompareIsComplete, RewriteIsComplete}
pub use Rattle.tool_objects.specs.Demo.{IsComparedAt, STEP_LIMIT}
pub use Rattle.tool_objects.specs.Demonstration.{CanRunAt, IsAnswerAt, IsDifference, IsDrawn, IsImageIn, IsSourceOn, NoneDiffers}
pub use Rattle.tool_objects.specs.GivenBytes.{given_by}
pub use Rattle.tool_objects.specs.Laws.{WrittenIsRead}
pub use Rattle.tool_objects.specs.Objects.{GaveObjects, HoldObjects, Objects, names_with, one, several}
pub use Rattle.tool_objects.specs.Rewrite.{ExplainsRewrite, HasSizes, IsMade, IsRewriteOf, RewriteWords, request_of, rewrite_asked, rewrite_status}
pub use Rattle.tool_objects.specs.Spelled.{IsSpelledWith}
pub use Rattle.tool_objects.specs.declared.compare.CompareOutcome.{CompareOutcome}
pub use Rattle.tool_objects.specs.declared.rewrite.Sizes.{Sizes}
