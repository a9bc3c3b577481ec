-- The definitions that proofs of this crate cite, which they import from here.
pub use Rattle.rv_word.specs.Memory.{Memory, zeros}
unfoldable pub use Rattle.rv_word.specs.Memory.{placed, write}
pub use Rattle.rv_image.specs.Form.{image_version}
pub use Rattle.rv_image.specs.Image.{Contents}
unfoldable pub use Rattle.rv_image.specs.Image.{loaded}
pub use Rattle.rv_image.specs.MemoryMap.{DATA_START, IsProfile, Profile, SHADOW_START, can_load, can_store, lean_version_1, lean_version_2, version_1, version_2}
pub use Rattle.rv_image.specs.declared.version.GraphVersion.{GraphVersion}
pub use Rattle.rv_image.specs.declared.version.GraphVersion.TheVariants.{CalleeSaves, OneLabel, TwoLabels}
pub use Rattle.rv_instr.specs.Operands.{names}
pub use Rattle.rv_instr.specs.Registers.{Registers, cleared, get_reg, set_reg}
pub use Rattle.rv_instr.specs.Reserved.{is_reserved}
pub use Rattle.rv_instr.specs.declared.instr.BranchOp.{BranchOp}
pub use Rattle.rv_instr.specs.declared.instr.BranchOp.TheVariants.{Beq, Bge, Bgeu, Blt, Bltu, Bne}
pub use Rattle.rv_instr.specs.declared.instr.Instr.{Instr}
pub use Rattle.rv_instr.specs.declared.instr.StoreOp.{StoreOp}
pub use Rattle.rv_instr.specs.declared.instr.StoreOp.TheVariants.{Sb, Sd, Sh, Sw}
pub use Rattle.rv_instr.specs.declared.instr.UpperOp.TheVariants.{Auipc, Lui}
pub use Rattle.rv_code.specs.Arithmetic.{branch_taken, load_size, signed_less, store_size}
pub use Rattle.rv_code.specs.Continue.{continue}
unfoldable pub use Rattle.rv_code.specs.Decode.{decoded}
pub use Rattle.rv_code.specs.Run.{ByteChange, next_or_stop, run_alone}
pub use Rattle.rv_code.specs.State.{After, Hart, Shared, start_hart, start_shared}
unfoldable pub use Rattle.rv_code.specs.State.{last_exit}
pub use Rattle.rv_code.specs.Step.{address, exec}
unfoldable pub use Rattle.rv_code.specs.Step.{step}
pub use Rattle.rv_code.specs.declared.event.Event.{Event}
pub use Rattle.rv_code.specs.declared.turn.Turn.{Turn}
pub use Rattle.rv_code.specs.declared.turn.Turn.TheVariants.{Break, Exit, FetchFault, Illegal, LoadFault, Ran, StoreFault}
pub use Rattle.cfi_graph.specs.Graph.{GraphParts, has_leaves}
pub use Rattle.cfi_graph.specs.declared.line.GraphLine.{GraphLine}
pub use Rattle.cfi_graph.specs.declared.line.SiteKind.{SiteKind}
pub use Rattle.obj_input.specs.declared.item_kind.ItemKind.{ItemKind}
pub use Rattle.obj_program.specs.Program.{count, is_end, item_of, no_item}
pub use Rattle.obj_program.specs.Sound.{is_direct}
pub use Rattle.obj_program.specs.Suits.{names_reserved, suits}
pub use Rattle.obj_program.specs.declared.item.Item.{Item}
pub use Rattle.cfi_class.specs.Classes.{has}
pub use Rattle.cfi_closed.specs.Closed.{Side, class_at, class_if, class_of, class_reaches, has_site, is_of, is_same, is_target, is_target_of, side_reaches}
pub use Rattle.cfi_closed.specs.declared.side.Site.{Site}
pub use Rattle.cfi_flow.specs.Sites.{site_kind}
pub use Rattle.cfi_leads.specs.Entered.{Entered}
pub use Rattle.cfi_leads.specs.Entries.{aims_at, call_target, if_kind, is_call, is_call_target, is_called, is_entry, serves_calls}
pub use Rattle.cfi_leads.specs.Leads.{enters}
pub use Rattle.cfi_leads.specs.Leaves.{begins, edge_target, ends_before, in_leaf, is_edge, is_leaf, may_stand}
unfoldable pub use Rattle.cfi_leads.specs.Leaves.{head}
pub use Rattle.cfi_map.specs.GraphAtMap.{ProgramAtMap, aim_of, arrival, arrival_by, arrival_to, entered_in, gate, gate_to, graph_lines, program_at, word, words_at}
pub use Rattle.cfi_map.specs.Groups.{base_of, is_short, is_store}
pub use Rattle.cfi_map.specs.LabelOf.{all_classes, next_after}
unfoldable pub use Rattle.cfi_map.specs.LabelOf.{empty_classes, site_label, site_number}
pub use Rattle.cfi_map.specs.LegalMap.{IsLegalMap}
pub use Rattle.cfi_map.specs.Placement.{size_of, whole_at}
pub use Rattle.cfi_map.specs.Source.{Source, init_here, instr_here, source_start}
pub use Rattle.cfi_map.specs.SourceStep.{SourceAfter, StepTurn, acts, breaks, closes, exits, going_on, if_taken, leaves, place_after, ran, returns_from, step_at, turn_at, unless, unless_ended, untame}
unfoldable pub use Rattle.cfi_map.specs.SourceStep.{after_steps, source_step}
pub use Rattle.cfi_map.specs.Untame.{MOST_CALLS, WINDOW, computed, computed_place, if_reached, is_off_base, is_off_graph, is_off_window, is_too_deep, is_unlisted, is_wrong_return, place_with_gate, reason, return_address}
pub use Rattle.cfi_map.specs.declared.reason.Reason.{Reason}
pub use Rattle.cfi_unit.specs.EffectLaw.{AsksSite}
pub use Rattle.cfi_unit.specs.Leads.{HasLabel, sum_of}
pub use Rattle.cfi_unit.specs.Leaving.{SameRegisters, with_memory}
pub use Rattle.cfi_unit.specs.Prologue.{OPENING, closing_instrs}
pub use Rattle.cfi_unit.specs.Shadow.{IsPart, MOST_PENDING}
pub use Rattle.cfi_unit.specs.Stand.{Stand}
pub use Rattle.cfi_unit.specs.Templates.{Asks, is_lean}
pub use Rattle.cfi_unit.specs.UnitWords.{Fits, Reaches, after_unit, instrs_of, mask_words, word_count}
pub use Rattle.cfi_unit.specs.declared.mask.Mask.{Mask}
pub use Rattle.cfi_unit.specs.declared.mask.Mask.TheVariants.{Long, Shifts, Short}
pub use Rattle.cfi_unit.specs.declared.members.Member.{Member}
pub use Rattle.cfi_unit.specs.declared.target_word.TargetWord.{TargetWord}
pub use Rattle.cfi_unit.specs.declared.target_word.TargetWord.TheVariants.{First}
pub use Rattle.cfi_pending.specs.StartLaw.{stands_in}
pub use Rattle.cfi_rules.specs.Lines.{holds_of, if_serves, is_among, jump_word}
unfoldable pub use Rattle.cfi_rules.specs.Lines.{class_with, targets_for}
pub use Rattle.cfi_rules.specs.Rules.{IsWellFormed}
pub use Rattle.cfi_rules.specs.Split.{entry_of}
unfoldable pub use Rattle.cfi_rules.specs.Split.{code_words, unit_at}
pub use Rattle.cfi_rules.specs.Walk.{InClass}
pub use Rattle.cfi_runs.specs.Distances.{field, level}
pub use Rattle.cfi_runs.specs.GroupRuns.{IsWhole, Walked}
pub use Rattle.cfi_runs.specs.GroupStores.{IsPast, TellsLow, members_from, own_store}
pub use Rattle.cfi_runs.specs.Mask.{HoldsMask}
pub use Rattle.cfi_runs.specs.MatchLaws.{ComesTo}
pub use Rattle.cfi_runs.specs.Matching.{MatchesAfter, SameData}
pub use Rattle.cfi_runs.specs.Openings.{EntryFits, entry_pending}
pub use Rattle.cfi_runs.specs.Own.{Own, OwnAfter, calls, executes, goes, own_closing, own_past, own_start, own_step, returns}
pub use Rattle.cfi_runs.specs.OwnRuns.{OwnRuns, SitesFit, words_along}
pub use Rattle.cfi_runs.specs.Tame.{IsTame, NamesNoReserved, ReturnTame, TameStep, touched}
pub use Rattle.cfi_runs.specs.WholeRun.{Ends, HasPrologue, RunsTo, own_shared, undisturbed}
pub use Rattle.cfi_runs.specs.Within.{Within}
pub use Rattle.cfi_writer.specs.Accepted.{IsAccepted, IsSiteOf}
pub use Rattle.cfi_writer.specs.Hardened.{chosen}
pub use Rattle.cfi_writer.specs.Laws.{written_classes, written_heads}
pub use Rattle.cfi_writer.specs.SideLaws.{AreLabelled, word_asked}
pub use Rattle.cfi_writer.specs.Units.{Choice, Group, behind, call_unit, entry_arrival, group_at, instr_of, inverse, is_later_at, lead, lead_of_entry, lead_unit, lean_unit_of, low_at, mask_at, mask_by, member_at, member_for, offset_at, offset_of, unit_by, unit_here, unit_of, units}
pub use Rattle.cfi_meaning.specs.Bounds.{entry_words_by, last_words, most_steps, most_words, most_words_by}
pub use Rattle.cfi_meaning.specs.Compared.{Compared, Difference, SourceRun, TraceItem, broke, called, differs, exited, first_difference, has_ended, image_end, run_from, running, same_bytes, same_event, same_item, source_end, stopped, trace, verdict}
unfoldable pub use Rattle.cfi_meaning.specs.Compared.{compared_from, source_run}
pub use Rattle.cfi_meaning.specs.Hardened.{HardenedKeepsMeaning, HardenedNeverDiffers, HoldsOf, HoldsOfWritten}
pub use Rattle.cfi_meaning.specs.ImageOf.{IsImageOf, IsPlace}
pub use Rattle.cfi_meaning.specs.KindStep.{kind_step}
pub use Rattle.cfi_meaning.specs.LaterStores.{is_at_later}
pub use Rattle.cfi_meaning.specs.Matches.{Matches, MatchesIsOwn, address_of, gate_of, home_by, is_outside, own_of, saved_at, saved_by, saved_now, shown_of, sites_at, sites_now, sites_of}
pub use Rattle.cfi_meaning.specs.Meaning.{EndsAs, KeepsMeaning, MeaningKept}
pub use Rattle.cfi_meaning.specs.NeverDiffers.{NoRunDiffers}
pub use Rattle.cfi_meaning.specs.PlaceLaws.{ComesThrough, ComesToEntry, ComesToPlace, at_unit, shown}
pub use Rattle.cfi_meaning.specs.PlaceSteps.{Chained, Linked, PlacesRun, TamePlace, at_word, base_value, holds_store, makes_call, place_step, places_start}
pub use Rattle.cfi_meaning.specs.PlacesKept.{ComesBackOutside, EndsLike, Follows, KeepsPlaces}
pub use Rattle.cfi_meaning.specs.StepLaws.{Answers, HardenedKeepsSteps, HardenedPastFirst, IsPastFirst, KeepsStep, LeadsOver, StandsPastFirst, is_at_store}
