-- The definitions that proofs of this crate cite, which they import from here.
pub use Rattle.rv_word.specs.declared.end.End.{End}
pub use Rattle.rv_word.specs.declared.end.End.TheVariants.{Fault}
pub use Rattle.rv_image.specs.Form.{graph_version, image_version, profile_for}
pub use Rattle.rv_image.specs.MemoryMap.{CODE_SIZE}
pub use Rattle.rv_image.specs.declared.form.Form.{Form}
pub use Rattle.rv_image.specs.declared.version.GraphVersion.{GraphVersion}
pub use Rattle.rv_image.specs.declared.version.GraphVersion.TheVariants.{CalleeSaves, OneLabel, TwoLabels}
pub use Rattle.least.specs.declared.place.Place.{Place}
pub use Rattle.rv_instr.specs.declared.instr.Instr.{Instr}
pub use Rattle.text_lines.specs.declared.fault.LineFault.{LineFault}
pub use Rattle.cfi_graph.specs.Graph.{GraphParts}
pub use Rattle.cfi_graph.specs.declared.line.Sort.{Sort}
pub use Rattle.cfi_policy.specs.Policy.{PolicyParts}
unfoldable pub use Rattle.elf_image.specs.Spelling.{spelling}
pub use Rattle.obj_input.specs.declared.item_kind.ItemKind.{ItemKind}
pub use Rattle.refusals.specs.declared.refusal.Refusal.{Refusal}
unfoldable pub use Rattle.obj_program.specs.DataAtMap.{data_at}
pub use Rattle.obj_program.specs.Program.{Program, count, item_of, no_item}
pub use Rattle.obj_program.specs.declared.item.Item.{Item}
pub use Rattle.cfi_class.specs.Classes.{AreInOne, IsIn}
pub use Rattle.cfi_class.specs.Labels.{AreLabels, IsLeastFree}
pub use Rattle.cfi_layout.specs.LongSet.{IsLongSet}
pub use Rattle.cfi_closed.specs.Closed.{ClosedGraph, Side}
pub use Rattle.cfi_flow.specs.Closing.{AreClasses, IsClosed, IsSide, raw_for, sets_of, with_class}
pub use Rattle.cfi_flow.specs.Entry.{entry_place}
pub use Rattle.cfi_flow.specs.Labels.{used_labels}
pub use Rattle.cfi_flow.specs.Policy.{IsRaw, wrong_line}
pub use Rattle.cfi_flow.specs.Raw.{RawGraph}
pub use Rattle.cfi_leads.specs.Entered.{Entered, entered_at}
pub use Rattle.cfi_leads.specs.Leads.{lead_size}
pub use Rattle.cfi_leads.specs.Leaves.{in_leaf}
pub use Rattle.cfi_map.specs.GraphAtMap.{ProgramAtMap, aim_of, arrival, entered_in, graph_lines, program_at}
pub use Rattle.cfi_map.specs.Groups.{bounds_in, is_short, is_store, may_join}
unfoldable pub use Rattle.cfi_map.specs.LabelOf.{site_label}
pub use Rattle.cfi_map.specs.Placement.{is_ecall, kind_size, lean_size, size_by, size_of, whole_at}
unfoldable pub use Rattle.cfi_map.specs.Placement.{AreGates}
pub use Rattle.cfi_map.specs.Placing.{IsPlacement, IsPlacementOf, Spaced}
pub use Rattle.cfi_map.specs.Shorts.{is_branch, shorts_of}
pub use Rattle.cfi_map.specs.Sizes.{grouped_parts, whole_size}
unfoldable pub use Rattle.cfi_map.specs.Sizes.{grouped_sizes}
pub use Rattle.cfi_map.specs.Source.{first_astray}
pub use Rattle.cfi_unit.specs.declared.target_word.TargetWord.{TargetWord}
pub use Rattle.cfi_rules.specs.Lines.{jump_word}
pub use Rattle.cfi_rules.specs.Placed.{placed_code}
unfoldable pub use Rattle.cfi_rules.specs.Split.{code_words}
pub use Rattle.cfi_runs.specs.Distances.{field, level, lowest}
pub use Rattle.cfi_runs.specs.GroupStores.{members_from}
pub use Rattle.cfi_writer.specs.Hardened.{AreGiven, HardenedParts, IsWritten, chosen}
pub use Rattle.cfi_writer.specs.Laws.{written_code}
pub use Rattle.cfi_writer.specs.Units.{Choice, Group, group_at, instr_of, is_later_at, lead, lean_unit_of, low_by, mask_at, member_at, offset_at, unit_by, unit_here, unit_of, unit_places, units}
unfoldable pub use Rattle.cfi_writer.specs.Units.{followers, units_of}
pub use Rattle.cfi_harden.specs.Fitting.{RefusesPlaced}
pub use Rattle.cfi_harden.specs.Given.{Given, IsGiven, RefusesGiven, alone, joined}
pub use Rattle.cfi_harden.specs.Hardened.{IsHardened, IsWrittenOf}
pub use Rattle.cfi_harden.specs.Prepared.{FailsAt, IsClosedUnder, IsPreparedOf, IsWrongPolicy, PreparedParts}
pub use Rattle.cfi_harden.specs.Refused.{IsEarly, Refuses, RefusesProgram}
pub use Rattle.cfi_harden.specs.Request.{ProgramRequest, Request, policy_asked, policy_end, program_request}
pub use Rattle.cfi_single.specs.OneWay.{GivenInOneWay, HardenedInOneWay, HardenedIsNotRefused, PreparedInOneWay, RefusedInOneWay}
