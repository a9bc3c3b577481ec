-- The definitions that proofs of this crate cite, which they import from here.
pub use Rattle.rv_word.specs.Bits.{wrap}
pub use Rattle.rv_word.specs.Memory.{Memory, read, zeros}
unfoldable pub use Rattle.rv_word.specs.Memory.{placed, write}
pub use Rattle.rv_word.specs.Numbers.{is_listed}
pub use Rattle.rv_image.specs.Image.{Contents}
unfoldable pub use Rattle.rv_image.specs.Image.{loaded}
pub use Rattle.rv_image.specs.MemoryMap.{CODE_START, DATA_END, DATA_START, IsFullProfile, IsProfile, Profile, SHADOW_START, can_load, can_store, lean_version_1, lean_version_2, part_of, version_1}
pub use Rattle.rv_image.specs.declared.version.ImageVersion.TheVariants.{OneHart}
pub use Rattle.rv_instr.specs.Operands.{names}
pub use Rattle.rv_instr.specs.Registers.{Registers, cleared, get_reg, set_reg}
pub use Rattle.rv_instr.specs.Reserved.{is_reserved}
pub use Rattle.rv_instr.specs.declared.instr.BranchOp.{BranchOp}
pub use Rattle.rv_instr.specs.declared.instr.ImmediateOp.TheVariants.{Addi}
pub use Rattle.rv_instr.specs.declared.instr.Instr.{Instr}
pub use Rattle.rv_instr.specs.declared.instr.Instr.TheVariants.{Ebreak, Ecall, Fence, Immediate, Load, Register, Shift, ShiftWord, Store, Upper}
pub use Rattle.rv_instr.specs.declared.instr.LoadOp.{LoadOp}
pub use Rattle.rv_instr.specs.declared.instr.StoreOp.{StoreOp}
pub use Rattle.rv_instr.specs.declared.instr.StoreOp.TheVariants.{Sb, Sd, Sh, Sw}
pub use Rattle.rv_instr.specs.declared.instr.UpperOp.TheVariants.{Auipc, Lui}
pub use Rattle.rv_code.specs.Arithmetic.{branch_taken, difference, immediate_result, load_result, load_size, register_result, shift_result, shift_word_result, store_size}
pub use Rattle.rv_code.specs.Continue.{continue}
unfoldable pub use Rattle.rv_code.specs.Decode.{decoded}
pub use Rattle.rv_code.specs.Run.{ByteChange}
pub use Rattle.rv_code.specs.State.{After, Hart, Shared, start_hart, start_shared}
unfoldable pub use Rattle.rv_code.specs.State.{last_exit}
pub use Rattle.rv_code.specs.Step.{exec, load_at, offset, puts, stops}
unfoldable pub use Rattle.rv_code.specs.Step.{step}
pub use Rattle.rv_code.specs.SystemCall.{answers, bad_address, bad_descriptor, ends, event_of, no_such_call, read_call, reads_input, system_call, write_call, writes_output}
unfoldable pub use Rattle.rv_code.specs.SystemCall.{bytes_of}
pub use Rattle.rv_code.specs.declared.event.Event.{Event}
pub use Rattle.rv_code.specs.declared.turn.Turn.{Turn}
pub use Rattle.rv_code.specs.declared.turn.Turn.TheVariants.{Exit, Ran}
pub use Rattle.cfi_unit.specs.Between.{Unchanged}
pub use Rattle.cfi_unit.specs.Effect.{ActDoes, CallDoes, EnterDoes, ExitDoes, FlowDoes, ReturnDoes, UnitDoes}
pub use Rattle.cfi_unit.specs.EffectLaw.{Enters, GoesOn, MakesMask, UnitIsDone}
pub use Rattle.cfi_unit.specs.Flow.{Act, Flow, flow_of}
pub use Rattle.cfi_unit.specs.Leads.{HasLabel, destination, sum_of}
pub use Rattle.cfi_unit.specs.Leaving.{CallsAt, Executes, LeftTo, SameRegisters, SameScratch, StoresEach, masked, pushed, stored_at, with_memory}
pub use Rattle.cfi_unit.specs.Members.{IsMember, MOST_MEMBERS}
pub use Rattle.cfi_unit.specs.Prologue.{OPENING, closing_instrs, lean_lone_set_up, lean_own_set_up, opening_instrs}
pub use Rattle.cfi_unit.specs.PrologueEffect.{ClosingDoes, EntersOpening, OpeningDoes, stack_of}
pub use Rattle.cfi_unit.specs.Shadow.{IsPart, MOST_PENDING, slot}
pub use Rattle.cfi_unit.specs.Stand.{Stand}
pub use Rattle.cfi_unit.specs.Templates.{is_lean}
pub use Rattle.cfi_unit.specs.UnitLaw.{ReturnsTo}
pub use Rattle.cfi_unit.specs.UnitWords.{Fits, MaskFits, STORE_MASK, after_unit, instrs_of, is_plain, word_count}
pub use Rattle.cfi_unit.specs.declared.mask.Mask.{Mask}
pub use Rattle.cfi_unit.specs.declared.mask.Mask.TheVariants.{Shifts, Short}
pub use Rattle.cfi_unit.specs.declared.members.Member.{Member}
pub use Rattle.cfi_unit.specs.declared.target_word.TargetWord.{TargetWord}
pub use Rattle.cfi_unit.specs.declared.target_word.TargetWord.TheVariants.{First, Third}
pub use Rattle.cfi_runs.specs.Distances.{field, level, lowest}
pub use Rattle.cfi_runs.specs.GroupRuns.{Chained, GoesAlong, IsWhole, Link, PlacesRun, Walked}
pub use Rattle.cfi_runs.specs.GroupStores.{IsPast, StoresRun, TellsLow, members_from, own_store}
pub use Rattle.cfi_runs.specs.Mask.{HoldsMask}
pub use Rattle.cfi_runs.specs.MatchLaws.{ComesTo}
pub use Rattle.cfi_runs.specs.Matching.{Matches, MatchesAfter, SameData}
pub use Rattle.cfi_runs.specs.Openings.{AtOpening, EntryFits, LeanOpeningDoes, LeanOpeningRuns, entry_pending}
pub use Rattle.cfi_runs.specs.Own.{Own, OwnAfter, calls, computed, executes, goes, links, own_act, own_closing, own_exit, own_start, own_step, returns, saves, stored_all}
pub use Rattle.cfi_runs.specs.OwnRuns.{OwnRuns, SitesFit, words_along}
pub use Rattle.cfi_runs.specs.Tame.{ActTame, ExitTame, IsTame, NamesNoReserved, ReturnTame, TameStep, TestTame, act_names, exit_names, touched}
pub use Rattle.cfi_runs.specs.WholeRun.{CLOSING_WORDS, HasPrologue, Keeps, RunKeepsMatch, RunsTo, opening_words, own_shared}
pub use Rattle.cfi_runs.specs.Within.{Within}
