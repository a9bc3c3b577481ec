-- The definitions that proofs of this crate cite, which they import from here.
pub use Rattle.rv_image.specs.Form.{graph_version}
pub use Rattle.rv_image.specs.Image.{Contents, image_profile}
pub use Rattle.rv_image.specs.MemoryMap.{Profile, profile_of}
pub use Rattle.rv_image.specs.declared.version.GraphVersion.{GraphVersion}
pub use Rattle.rv_image.specs.declared.version.ImageVersion.{ImageVersion}
pub use Rattle.rv_code.specs.Run.{ByteChange, next_or_stop, run_alone}
unfoldable pub use Rattle.rv_code.specs.Run.{run}
pub use Rattle.rv_code.specs.State.{After, Hart, Shared}
unfoldable pub use Rattle.rv_code.specs.Step.{step}
pub use Rattle.rv_code.specs.declared.event.Event.{Event}
pub use Rattle.rv_code.specs.declared.turn.Turn.{Turn}
pub use Rattle.rv_code.specs.declared.turn.Turn.TheVariants.{Break, Exit, FetchFault, Illegal, LoadFault, Ran, StoreFault}
pub use Rattle.rv_sys.specs.Calls.{Calls}
pub use Rattle.rv_machine.specs.Parts.{Parts, after_step, hart_in, shared_in}
pub use Rattle.obj_program.specs.Program.{Program, item_of}
pub use Rattle.cfi_map.specs.GraphAtMap.{ProgramAtMap}
pub use Rattle.cfi_map.specs.Source.{Source, source_start}
pub use Rattle.cfi_map.specs.SourceStep.{StepTurn, breaks, exits, ran, untame}
unfoldable pub use Rattle.cfi_map.specs.SourceStep.{source_step}
pub use Rattle.cfi_map.specs.declared.reason.Reason.{Reason}
pub use Rattle.src_machine.specs.Running.{IsStep, IsUnchanged, SourceParts, counted, source_of}
pub use Rattle.src_machine.specs.Told.{told}
pub use Rattle.src_machine.specs.declared.turn.SourceTurn.{SourceTurn}
pub use Rattle.cfi_runs.specs.WholeRun.{undisturbed}
pub use Rattle.cfi_meaning.specs.Bounds.{entry_words_by, last_words, most_steps, most_words_by}
pub use Rattle.cfi_meaning.specs.Compared.{Difference, SourceRun, TraceItem, broke, called, exited, first_difference, has_ended, image_end, run_from, running, same, same_item, source_end, stopped, trace, verdict}
unfoldable pub use Rattle.cfi_meaning.specs.Compared.{source_run}
pub use Rattle.cfi_compare.specs.Followed.{Agree, IsAnswered, IsFinished, IsFollowed, agree_at, answer_of, both_same, end_items, end_told, is_stop, item_or, same_side, settled}
pub use Rattle.cfi_compare.specs.Told.{IsOwnState, told_answer, told_item}
pub use Rattle.cfi_compare.specs.declared.answer.Compared.{Compared}
