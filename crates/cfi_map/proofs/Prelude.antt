-- The definitions that proofs of this crate cite, which they import from here.
unfoldable pub use Rattle.rv_word.specs.Memory.{placed, write}
pub use Rattle.rv_image.specs.Form.{image_version, profile_for}
pub use Rattle.rv_image.specs.MemoryMap.{CODE_SIZE, IsProfile, Profile, lean_version_1, version_1}
pub use Rattle.rv_image.specs.declared.form.Form.{Form}
pub use Rattle.rv_image.specs.declared.version.GraphVersion.{GraphVersion}
pub use Rattle.rv_image.specs.declared.version.GraphVersion.TheVariants.{CalleeSaves, OneLabel, TwoLabels}
pub use Rattle.rv_instr.specs.Registers.{Registers, get_reg, set_reg}
pub use Rattle.rv_instr.specs.declared.instr.Instr.{Instr}
pub use Rattle.rv_instr.specs.declared.instr.UpperOp.TheVariants.{Auipc, Lui}
pub use Rattle.rv_code.specs.Arithmetic.{branch_taken}
unfoldable pub use Rattle.rv_code.specs.Decode.{decoded}
pub use Rattle.rv_code.specs.State.{After, Hart, Shared}
unfoldable pub use Rattle.rv_code.specs.State.{last_exit}
pub use Rattle.rv_code.specs.Step.{exec}
pub use Rattle.rv_code.specs.declared.turn.Turn.{Turn}
pub use Rattle.rv_code.specs.declared.turn.Turn.TheVariants.{Break, Exit, Ran}
pub use Rattle.cfi_graph.specs.declared.line.GraphLine.{GraphLine}
pub use Rattle.cfi_graph.specs.declared.line.Sort.TheVariants.{Both, Calls, Jumps}
pub use Rattle.rv_reloc.specs.declared.kinds.DataPatch.TheVariants.{Abs64}
pub use Rattle.obj_input.specs.declared.item_kind.ItemKind.{ItemKind}
pub use Rattle.obj_program.specs.AtMap.{distance, low_part, patched_instr}
unfoldable pub use Rattle.obj_program.specs.AtMap.{instr_at}
unfoldable pub use Rattle.obj_program.specs.DataAtMap.{data_at}
pub use Rattle.obj_program.specs.Program.{Program, count, is_end, item_of, no_item}
unfoldable pub use Rattle.obj_program.specs.Range.{out_of_range}
pub use Rattle.obj_program.specs.Sound.{IsSound, aims, is_of, is_own}
pub use Rattle.obj_program.specs.declared.item.DataReloc.{DataReloc}
pub use Rattle.obj_program.specs.declared.item.Item.{Item}
pub use Rattle.obj_program.specs.declared.item.Patch.{Patch}
pub use Rattle.obj_program.specs.declared.item.Value.TheVariants.{GateOf, Number}
pub use Rattle.cfi_class.specs.Classes.{has}
pub use Rattle.cfi_layout.specs.LongSet.{AreShorts, HoldsAllForced, IsLongSet, IsShort, is_forced, is_in_reach, is_whole, sizes_under, starts_under}
unfoldable pub use Rattle.cfi_layout.specs.LongSet.{sizes_where}
pub use Rattle.cfi_layout.specs.Starts.{Placed, code_size, flag}
unfoldable pub use Rattle.cfi_layout.specs.Starts.{starts_from}
pub use Rattle.cfi_layout.specs.declared.short.Short.{Short}
pub use Rattle.cfi_closed.specs.Closed.{ClosedGraph, Side, class_at, class_of, class_reaches, is_same, is_target, is_target_of, side_reaches}
pub use Rattle.cfi_leads.specs.Entered.{Entered, entered_at}
pub use Rattle.cfi_leads.specs.Entries.{aims_at}
pub use Rattle.cfi_leads.specs.Leads.{lead_size}
pub use Rattle.cfi_leads.specs.Leaves.{in_leaf}
unfoldable pub use Rattle.cfi_leads.specs.Leaves.{head, is_spoilt_by, next_piece}
pub use Rattle.cfi_leads.specs.Marks.{marked}
pub use Rattle.cfi_map.specs.GraphAtMap.{ProgramAtMap, arrival, entered_in, graph_lines, jump_line, leaf_lines_by, program_at, word, words_at}
unfoldable pub use Rattle.cfi_map.specs.GraphAtMap.{class_lines, leaf_lines_from, place_lines}
pub use Rattle.cfi_map.specs.Groups.{AreDirectTargets, AreFirstStores, AreGreedy, AreGroups, Bounds, MOST_APART, MOST_STORES, are_near, base, base_of, bounds_in, fits_mask, is_direct_target, is_entered, is_later, is_own_at, is_short, is_store, joins_in, level, level_of, may_join, may_share, members_after}
unfoldable pub use Rattle.cfi_map.specs.Groups.{all_from, members_before}
unfoldable pub use Rattle.cfi_map.specs.LabelOf.{tagged}
pub use Rattle.cfi_map.specs.Mapped.{IsMapped}
pub use Rattle.cfi_map.specs.Placement.{is_ecall, kind_size, lean_size, size_by, size_of, whole_at}
unfoldable pub use Rattle.cfi_map.specs.Placement.{AreGates, words_from}
pub use Rattle.cfi_map.specs.Placing.{IsPlacement, IsPlacementOf}
pub use Rattle.cfi_map.specs.PlacingLaws.{IsShortAt, PlacementsFit, grouped_size}
unfoldable pub use Rattle.cfi_map.specs.PlacingLaws.{saved_bytes}
pub use Rattle.cfi_map.specs.Shortening.{IsShortened, joined}
pub use Rattle.cfi_map.specs.Shorts.{is_branch, short_at, short_to, shorts_of, with_short}
unfoldable pub use Rattle.cfi_map.specs.Shorts.{shorts_below}
pub use Rattle.cfi_map.specs.Sizes.{grouped_parts, whole_size, whole_sizes}
unfoldable pub use Rattle.cfi_map.specs.Sizes.{grouped_sizes, part_sizes}
pub use Rattle.cfi_map.specs.Source.{Source, instr_here, source_start}
pub use Rattle.cfi_map.specs.SourceStep.{SourceAfter, StepTurn, acts, branches, breaks, calls, exits, goes_to, going_on, hart_at, if_taken, leaves, place_after, ran, returns_from, step_at, turn_at, unless, unless_ended, untame}
unfoldable pub use Rattle.cfi_map.specs.SourceStep.{after_steps, source_step}
pub use Rattle.cfi_map.specs.Untame.{computed, computed_place, if_reached, place_with_gate}
pub use Rattle.cfi_map.specs.World.{SameWorld}
pub use Rattle.cfi_map.specs.declared.reason.Reason.{Reason}
