-- The definitions that proofs of this crate cite, which they import from here.
pub use Rattle.rv_word.specs.declared.end.End.{End}
pub use Rattle.rv_word.specs.declared.end.End.TheVariants.{Fault, NoMemory}
pub use Rattle.rv_image.specs.Form.{graph_version, image_version, profile_for}
pub use Rattle.rv_image.specs.MemoryMap.{CODE_SIZE, Profile}
pub use Rattle.rv_image.specs.declared.form.Form.{Form}
pub use Rattle.rv_image.specs.declared.form.Form.TheVariants.{Harts, HartsLean, HartsSplit, Lean, Plain, Split}
pub use Rattle.rv_image.specs.declared.version.GraphVersion.{GraphVersion}
pub use Rattle.text_lines.specs.Lines.{lines_of, words_of}
pub use Rattle.text_lines.specs.Reading.{if_right}
unfoldable pub use Rattle.text_lines.specs.Reading.{one_named}
pub use Rattle.text_lines.specs.declared.fault.LineFault.{LineFault}
pub use Rattle.cfi_graph.specs.Calls.{Listed, calls_of, judged_calls, may_be_calls}
pub use Rattle.cfi_graph.specs.Graph.{GraphParts, IsGraph, are_calls, has_leaves, is_rising}
pub use Rattle.cfi_policy.specs.Policy.{calls_told, head_at, policy_names}
unfoldable pub use Rattle.cfi_policy.specs.Policy.{listed_head, policy_head}
pub use Rattle.cfi_map_text.specs.Map.{IsMap, MapParts}
pub use Rattle.cfi_map_text.specs.declared.map.MapLine.{MapLine}
pub use Rattle.elf_tables.specs.Header.{e_shnum}
pub use Rattle.obj_input.specs.Names.{find_spot}
unfoldable pub use Rattle.obj_join.specs.Duplicate.{duplicate}
unfoldable pub use Rattle.obj_link.specs.SaidOf.{said_by}
unfoldable pub use Rattle.obj_check.specs.Fault.{fault_of}
pub use Rattle.obj_check.specs.declared.fault.ItemFault.{ItemFault}
pub use Rattle.refusals.specs.declared.refusal.Refusal.{Refusal}
unfoldable pub use Rattle.obj_program.specs.AtMap.{instr_at}
pub use Rattle.obj_program.specs.MapFit.{FitsMaps}
pub use Rattle.obj_program.specs.Program.{Program, count, is_end, is_spot, item_of, no_item, place_of}
pub use Rattle.obj_program.specs.Sound.{IsSound}
pub use Rattle.obj_items.specs.Added.{IsAdded, section_total, unread}
pub use Rattle.obj_items.specs.Finished.{IsFinished, input_by, refusal_in, unfinished}
pub use Rattle.cfi_closed.specs.Closed.{ClosedGraph, Side}
pub use Rattle.cfi_flow.specs.Closing.{IsClosed, IsSide}
pub use Rattle.cfi_flow.specs.Entry.{entry_place}
pub use Rattle.cfi_flow.specs.Labels.{used_labels}
pub use Rattle.cfi_flow.specs.Policy.{if_instruction, instruction_at}
pub use Rattle.cfi_map.specs.GraphAtMap.{ProgramAtMap, entered_in, graph_lines, program_at}
pub use Rattle.cfi_map.specs.Groups.{AreGroups, bounds_in}
pub use Rattle.cfi_map.specs.LegalMap.{IsLegalMap, gates_of}
pub use Rattle.cfi_map.specs.Placement.{whole_at}
unfoldable pub use Rattle.cfi_map.specs.Placement.{words_from}
pub use Rattle.cfi_map.specs.Placing.{IsPlacement, Spaced}
pub use Rattle.cfi_map.specs.PlacingLaws.{Fits}
pub use Rattle.cfi_map.specs.Sizes.{whole_size, whole_sizes}
pub use Rattle.cfi_map.specs.Source.{first_astray}
pub use Rattle.cfi_writer.specs.Accepted.{IsAccepted}
pub use Rattle.cfi_writer.specs.GraphOf.{IsGraphOf}
pub use Rattle.cfi_writer.specs.Hardened.{AreGiven, HardenedParts, IsWritten, chosen}
pub use Rattle.cfi_writer.specs.Laws.{written_code}
pub use Rattle.cfi_writer.specs.MapLines.{map_lines}
pub use Rattle.cfi_writer.specs.Units.{Choice}
pub use Rattle.cfi_writer.specs.Writing.{IsWritable, IsWrittenAs}
pub use Rattle.cfi_harden.specs.Fitting.{IsFitting, RefusesPlaced}
pub use Rattle.cfi_harden.specs.Given.{Given, IsGiven, RefusesGiven, alone, joined}
unfoldable pub use Rattle.cfi_harden.specs.Given.{first_unread}
pub use Rattle.cfi_harden.specs.Hardened.{IsWrittenOf}
pub use Rattle.cfi_harden.specs.HardenedLaws.{HardenedIsRight, WrittenIsAccepted}
pub use Rattle.cfi_harden.specs.Joining.{AddsAll}
pub use Rattle.cfi_harden.specs.Prepared.{IsClosedUnder, IsPrepared, IsPreparedOf, PreparedParts, entered_of}
pub use Rattle.cfi_harden.specs.Preparing.{Enters, Reads}
pub use Rattle.cfi_harden.specs.Ready.{IsReady}
pub use Rattle.cfi_harden.specs.Refused.{Hardens, HardensPrepared, HardensProgram, IsEarly, PreparesProgram, Refuses, RefusesProgram}
pub use Rattle.cfi_harden.specs.Request.{ProgramRequest, Request, policy_asked, program_request}
