-- The definitions that proofs of this crate cite, which they import from here.
pub use Rattle.rv_word.specs.Memory.{zeros}
unfoldable pub use Rattle.rv_word.specs.Memory.{placed}
pub use Rattle.rv_word.specs.declared.no_memory.NoMemory.{NoMemory}
pub use Rattle.rv_image.specs.Form.{image_version, profile_for}
pub use Rattle.rv_image.specs.MemoryMap.{CODE_SIZE, CODE_START, DATA_START, Profile, profile_of}
pub use Rattle.rv_image.specs.declared.form.Form.{Form}
pub use Rattle.rv_image.specs.declared.version.GraphVersion.{GraphVersion}
pub use Rattle.rv_image.specs.declared.version.GraphVersion.TheVariants.{CalleeSaves, OneLabel, TwoLabels}
pub use Rattle.rv_image.specs.declared.version.ImageVersion.{ImageVersion}
unfoldable pub use Rattle.least.specs.First.{first_below}
pub use Rattle.rv_instr.specs.Registers.{Registers, cleared, get_reg, set_reg}
pub use Rattle.rv_instr.specs.declared.instr.Instr.{Instr}
pub use Rattle.rv_instr.specs.declared.instr.Instr.TheVariants.{Branch}
pub use Rattle.rv_code.specs.Arithmetic.{branch_taken}
unfoldable pub use Rattle.rv_code.specs.Decode.{decoded}
pub use Rattle.rv_code.specs.SameMachine.{IsSameMachine}
unfoldable pub use Rattle.rv_code.specs.State.{last_exit}
pub use Rattle.rv_code.specs.declared.turn.Turn.{Turn}
pub use Rattle.rv_code.specs.declared.turn.Turn.TheVariants.{Ran}
pub use Rattle.cfi_map_text.specs.Map.{IsMap, MapParts, is_gate, map_line_in_range}
pub use Rattle.cfi_map_text.specs.declared.map.MapLine.{MapLine}
pub use Rattle.obj_input.specs.declared.item_kind.ItemKind.{ItemKind}
unfoldable pub use Rattle.obj_program.specs.DataAtMap.{data_at}
pub use Rattle.obj_program.specs.MapFit.{EndsLast}
pub use Rattle.obj_program.specs.Program.{Program, count, is_end, item_of, no_item}
pub use Rattle.obj_program.specs.Sound.{IsSound, aims, is_direct}
pub use Rattle.obj_program.specs.declared.item.Item.{Item}
pub use Rattle.cfi_closed.specs.Closed.{ClosedGraph, class_reaches}
pub use Rattle.cfi_leads.specs.Entered.{Entered, entered_at}
pub use Rattle.cfi_leads.specs.Leads.{lead_size}
pub use Rattle.cfi_leads.specs.Leaves.{in_leaf}
pub use Rattle.cfi_map.specs.GraphAtMap.{ProgramAtMap, words_at}
pub use Rattle.cfi_map.specs.Groups.{AreGroups, Bounds, bounds_in, is_short, is_store, joins_in, members_after}
unfoldable pub use Rattle.cfi_map.specs.Groups.{members_before}
pub use Rattle.cfi_map.specs.LegalMap.{AreLegal, IsLegalMap, gates_of}
pub use Rattle.cfi_map.specs.MapFault.{BeginsLegal, IsWrongLine}
pub use Rattle.cfi_map.specs.Placement.{is_ecall, kind_size, lean_size, size_by, size_of, whole_at}
unfoldable pub use Rattle.cfi_map.specs.Placement.{AreGates}
pub use Rattle.cfi_map.specs.Source.{Source, init_here, instr_here, source_start}
pub use Rattle.cfi_map.specs.SourceStep.{SourceAfter, acts, branches, closes, exits, if_taken, place_after, returns_from, step_at, step_item, unless, unless_ended}
unfoldable pub use Rattle.cfi_map.specs.SourceStep.{source_step}
pub use Rattle.cfi_map.specs.Untame.{computed, computed_place, if_reached, is_off_graph, is_off_window, is_too_deep, is_unlisted, is_wrong_return, place_with_gate, reason, return_address}
pub use Rattle.cfi_map.specs.declared.reason.Reason.{Reason}
pub use Rattle.src_machine.specs.Laws.{BeginsAsLegal, OneIsFirst, WrongIsNotLegal}
pub use Rattle.src_machine.specs.MapLine.{follows, follows_at, has_whole, is_named, is_past_whole, is_right, is_wrong, line_at, may_be_short, no_line, stands, stores_before}
pub use Rattle.src_machine.specs.Placed.{AreRead}
pub use Rattle.src_machine.specs.State.{IsInside, IsThere, Leaves, StateParts, source_in}
pub use Rattle.src_machine.specs.declared.turn.SourceTurn.{SourceTurn}
pub use Rattle.src_machine.specs.declared.turn.SourceTurn.TheVariants.{Exit}
