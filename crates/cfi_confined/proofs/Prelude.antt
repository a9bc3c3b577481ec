-- The definitions that proofs of this crate cite, which they import from here.
pub use Rattle.rv_word.specs.Bits.{wrap}
pub use Rattle.rv_word.specs.Memory.{Memory, read}
unfoldable pub use Rattle.rv_word.specs.Memory.{placed, write}
pub use Rattle.rv_word.specs.Numbers.{is_listed}
pub use Rattle.rv_word.specs.Same.{SameOn}
pub use Rattle.rv_image.specs.Image.{Contents}
unfoldable pub use Rattle.rv_image.specs.Image.{loaded}
pub use Rattle.rv_image.specs.MemoryMap.{DATA_END, IsFullProfile, IsProfile, MayRun, PART_SIZE, Profile, START, can_load, can_store, lean_version_1, part_of, version_1, version_2}
pub use Rattle.rv_image.specs.declared.version.GraphVersion.{GraphVersion}
pub use Rattle.rv_image.specs.declared.version.GraphVersion.TheVariants.{CalleeSaves, OneLabel, TwoLabels}
pub use Rattle.rv_instr.specs.Registers.{Registers, get_reg}
pub use Rattle.rv_instr.specs.declared.instr.BranchOp.{BranchOp}
pub use Rattle.rv_instr.specs.declared.instr.BranchOp.TheVariants.{Beq}
pub use Rattle.rv_instr.specs.declared.instr.ImmediateOp.TheVariants.{Addi}
pub use Rattle.rv_instr.specs.declared.instr.Instr.{Instr}
pub use Rattle.rv_instr.specs.declared.instr.Instr.TheVariants.{Branch, Ebreak, Ecall, Fence, Immediate, Jal, Jalr, Load, Register, Shift, ShiftWord, Store, Upper}
pub use Rattle.rv_instr.specs.declared.instr.StoreOp.{StoreOp}
pub use Rattle.rv_instr.specs.declared.instr.StoreOp.TheVariants.{Sd}
pub use Rattle.rv_instr.specs.declared.instr.UpperOp.TheVariants.{Auipc, Lui}
pub use Rattle.rv_code.specs.Arithmetic.{branch_taken, load_size, store_size}
unfoldable pub use Rattle.rv_code.specs.Decode.{decoded}
unfoldable pub use Rattle.rv_code.specs.Encode.{code_of}
pub use Rattle.rv_code.specs.Run.{ByteChange, HartStep, IsDataChange, RunAfter, changed, disturbed, if_ran, next_or_stop, stepped}
unfoldable pub use Rattle.rv_code.specs.Run.{run}
pub use Rattle.rv_code.specs.State.{After, Hart, Harts, Shared, start_hart, start_shared, with_hart}
unfoldable pub use Rattle.rv_code.specs.State.{last_exit}
pub use Rattle.rv_code.specs.Step.{address, can_fetch, exec, exec_decoded, offset, step_unless_ended, stops, store_at}
unfoldable pub use Rattle.rv_code.specs.Step.{step}
pub use Rattle.rv_code.specs.declared.turn.Turn.{Turn}
pub use Rattle.rv_code.specs.declared.turn.Turn.TheVariants.{Break, Exit, FetchFault, Illegal, LoadFault, Ran, StoreFault}
pub use Rattle.cfi_graph.specs.Graph.{ClassLine, GraphParts, IsGraph, calls_in, class_in, has_leaves}
pub use Rattle.cfi_graph.specs.declared.line.GraphLine.{GraphLine}
pub use Rattle.cfi_graph.specs.declared.line.GraphLine.TheVariants.{Call, Class, Edge, Site}
pub use Rattle.cfi_graph.specs.declared.line.Key.TheVariants.{Address}
pub use Rattle.cfi_graph.specs.declared.line.SiteKind.{SiteKind}
pub use Rattle.cfi_graph.specs.declared.line.Sort.{Sort}
pub use Rattle.cfi_unit.specs.Context.{Context, IsCodeOf}
pub use Rattle.cfi_unit.specs.EventLaw.{MayCall}
pub use Rattle.cfi_unit.specs.Flow.{Sites, flow_of}
pub use Rattle.cfi_unit.specs.InPlace.{InBranch, InCall, InCheck, InClosing, InEnter, InGuarded, InIcall, InIjump, InLeafReturn, InLean, InOpening, InPush, InReturn, InStores, InUnit, InWord, branch_jump, branch_test, call_jump, call_push, check_addi, check_andi, check_label, check_lui, check_lw, check_opcode, check_other, check_outside, check_region, check_srli, check_sub, check_word, closing_ecall, closing_number, enter_bne, enter_deep, enter_grow, enter_slli, enter_store, guarded_call, guarded_load, guarded_other, guarded_test, icall_check, icall_jump, icall_push, ijump_check, ijump_jump, leaf_jump, lean_check, lean_jump, lean_lower, lean_upper, long_addi, long_and, only, opening_call, opening_lone, opening_own, push_addi, push_auipc, push_bne, push_deep, push_grow, push_slli, push_store, return_addi, return_beq, return_jump, return_ld, return_other, shifts_addi, shifts_slli, shifts_srli, short_and, stores_mask, stores_store}
pub use Rattle.cfi_unit.specs.Leads.{HasLabel, Legal, Returns, destination}
pub use Rattle.cfi_unit.specs.Members.{member_instr}
pub use Rattle.cfi_unit.specs.Place.{IsWordOf, place_instrs, place_size}
pub use Rattle.cfi_unit.specs.Prologue.{OPENING, call_at, opening_instrs, set_up}
pub use Rattle.cfi_unit.specs.Shadow.{MOST_PENDING, slot}
pub use Rattle.cfi_unit.specs.Stand.{Stand}
pub use Rattle.cfi_unit.specs.Templates.{is_full, is_lean}
pub use Rattle.cfi_unit.specs.UnitLaw.{MayStand}
pub use Rattle.cfi_unit.specs.UnitWords.{BAD_RETURN, BAD_TARGET, CheckFits, DEEP, Fits, Reaches, after_unit, check, is_plain, jump, jump_offset, mask_made, near_offset, past, push, skip_offset, word_count}
unfoldable pub use Rattle.cfi_unit.specs.UnitWords.{words_of}
pub use Rattle.cfi_unit.specs.declared.mask.Mask.{Mask}
pub use Rattle.cfi_unit.specs.declared.mask.Mask.TheVariants.{Long, Shifts, Short}
pub use Rattle.cfi_unit.specs.declared.members.Member.{Member}
pub use Rattle.cfi_unit.specs.declared.place.Place.{Place}
pub use Rattle.cfi_unit.specs.declared.target_word.TargetWord.{TargetWord}
pub use Rattle.cfi_unit.specs.declared.target_word.TargetWord.TheVariants.{First, Third}
pub use Rattle.cfi_pending.specs.Opening.{InLone, InOwn, InSetUp}
pub use Rattle.cfi_pending.specs.PendingLeads.{GoesBack, PendingLeads}
pub use Rattle.cfi_pending.specs.StartLaw.{stands_in}
pub use Rattle.cfi_pending.specs.Starts.{StandsBy, Start, fresh, may_stand, saved}
pub use Rattle.cfi_rules.specs.Along.{AreStepsOf, MayBreak, MayEnd, MayExit, MayFault, MayStart, OpeningLeads, PlaceLeads, Walk}
pub use Rattle.cfi_rules.specs.Laws.{AreBytes}
pub use Rattle.cfi_rules.specs.Lines.{holds_of, is_among, jump_word, or_class, serves, stands_at}
unfoldable pub use Rattle.cfi_rules.specs.Lines.{class_with, line_at, targets_for}
pub use Rattle.cfi_rules.specs.Listed.{AddsListed, IsListedCall}
pub use Rattle.cfi_rules.specs.Rules.{IsWellFormed, asks, call_of, edge_of, is_call_to, is_edge_to, is_lone_site, is_site_with, same_kind, site_of}
pub use Rattle.cfi_rules.specs.Split.{is_handler}
unfoldable pub use Rattle.cfi_rules.specs.Split.{code_words, place_at}
pub use Rattle.cfi_rules.specs.Taken.{TakenStep}
unfoldable pub use Rattle.cfi_rules.specs.Taken.{steps_taken}
pub use Rattle.cfi_rules.specs.Unsafe.{astray_call, astray_call_graph, breaking_closing, breaking_closing_graph, calling_opening, handler_graph, high_pointer, illegal_handler, lean_opening_graph, loading_handler, one_pointer_graph, opening_graph, storing_handler, storing_opening}
pub use Rattle.cfi_rules.specs.Walk.{InClass, by_class}
pub use Rattle.cfi_rules.specs.declared.asks.Asks.{Asks}
pub use Rattle.cfi_confined.specs.Confined.{ComputedMoves, ConfinedAlong, IsAllowed, IsConfined, IsConfinedStep, IsHandler, IsSiteTo, LeadsOver, MayEcall, MayStop, Moves, NoSite, Pending, Writes, WritesData, WritesOwn, before_call, before_site, call_line, class_line, fetched, most_calls, most_skip, past_target, with_pending}
pub use Rattle.cfi_confined.specs.Laws.{ConfinedIsListed, ConfinedKeepsCode, PendingIsTold, WellFormedIsConfined}
pub use Rattle.cfi_confined.specs.Unconfined.{FaultsAreUnconfined, borrowed_edge, borrowed_edge_graph, early_return, early_return_graph, lean_graph, long_branch, long_branch_graph, moved_link, running_handler, saved_early, saved_high, saved_pointer, short_call, short_call_graph, unlisted_entry, unlisted_entry_graph, unlisted_jump, unlisted_jump_graph}
