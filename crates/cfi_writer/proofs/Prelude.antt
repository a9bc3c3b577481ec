-- The definitions that proofs of this crate cite, which they import from here.
pub use Rattle.rv_word.specs.Bits.{wrap}
pub use Rattle.rv_word.specs.Numbers.{IsNumber, MOST_NUMBERS}
pub use Rattle.rv_image.specs.Form.{graph_version, image_version, profile_for}
pub use Rattle.rv_image.specs.Image.{IsImageSize}
pub use Rattle.rv_image.specs.MemoryMap.{CODE_SIZE, CODE_START, IsProfile, Profile, START, UNITS_START, lean_version_1, lean_version_2, profile_under, profile_with, version_1, version_2}
pub use Rattle.rv_image.specs.declared.form.Form.{Form}
pub use Rattle.rv_image.specs.declared.version.GraphVersion.{GraphVersion}
pub use Rattle.rv_image.specs.declared.version.GraphVersion.TheVariants.{CalleeSaves, OneLabel, TwoLabels}
pub use Rattle.rv_image.specs.declared.version.ImageVersion.{ImageVersion}
pub use Rattle.rv_image.specs.declared.version.Versions.{Versions}
pub use Rattle.rv_instr.specs.InRange.{IsInstr}
pub use Rattle.rv_instr.specs.Operands.{written}
pub use Rattle.rv_instr.specs.Reserved.{is_reserved}
pub use Rattle.rv_instr.specs.declared.instr.Instr.{Instr}
pub use Rattle.rv_instr.specs.declared.instr.Instr.TheVariants.{Immediate, Jalr, Load, Store, Upper}
pub use Rattle.rv_instr.specs.declared.instr.StoreOp.{StoreOp}
pub use Rattle.rv_instr.specs.declared.instr.UpperOp.{UpperOp}
pub use Rattle.rv_instr.specs.declared.instr.UpperOp.TheVariants.{Auipc, Lui}
unfoldable pub use Rattle.rv_code.specs.Decode.{decoded}
unfoldable pub use Rattle.rv_code.specs.Encode.{code_of}
pub use Rattle.rv_code.specs.Step.{offset}
pub use Rattle.cfi_graph.specs.Calls.{may_be_calls}
pub use Rattle.cfi_graph.specs.Graph.{ClassLine, GraphParts, IsGraph, are_calls, calls_in, class_in, fits_version, has_leaves, is_class, is_code_address, is_code_end, is_code_length, is_label, is_rising, is_sort_of, key_below, key_of, line_in_range, targets_rise}
pub use Rattle.cfi_graph.specs.declared.line.GraphLine.{GraphLine}
pub use Rattle.cfi_graph.specs.declared.line.GraphLine.TheVariants.{Call, Class, Edge}
pub use Rattle.cfi_graph.specs.declared.line.Key.{Key}
pub use Rattle.cfi_graph.specs.declared.line.Key.TheVariants.{Head, Range}
pub use Rattle.cfi_graph.specs.declared.line.SiteKind.{SiteKind}
pub use Rattle.cfi_graph.specs.declared.line.Sort.{Sort}
pub use Rattle.cfi_graph.specs.declared.line.Sort.TheVariants.{Both, Calls, Jumps}
pub use Rattle.cfi_policy.specs.Policy.{PolicyParts}
pub use Rattle.cfi_map_text.specs.Map.{IsMap, MapParts, map_line_below, map_line_in_range, place_below}
pub use Rattle.cfi_map_text.specs.declared.map.MapLine.{MapLine}
unfoldable pub use Rattle.elf_image.specs.Spelling.{spelling}
pub use Rattle.rv_reloc.specs.Value.{hi20, lo12, low_bits}
pub use Rattle.rv_reloc.specs.Word.{is_high_in_range}
pub use Rattle.obj_input.specs.declared.item_kind.ItemKind.{ItemKind}
pub use Rattle.obj_program.specs.AtMap.{distance, distance_to, high_part, low_part, patched_instr, value_at, with_lower, with_upper}
unfoldable pub use Rattle.obj_program.specs.AtMap.{instr_at}
pub use Rattle.obj_program.specs.DataAtMap.{init_size}
unfoldable pub use Rattle.obj_program.specs.DataAtMap.{data_at}
pub use Rattle.obj_program.specs.MapFit.{EndsLast}
pub use Rattle.obj_program.specs.Program.{AreInOrder, Program, count, is_before, is_end, item_of, no_item}
pub use Rattle.obj_program.specs.Sound.{IsSound, aims, is_direct, is_own, is_patch, is_read}
pub use Rattle.obj_program.specs.Suits.{names_reserved, stands_on, suits}
pub use Rattle.obj_program.specs.declared.item.Item.{Item}
pub use Rattle.obj_program.specs.declared.item.Patch.{Patch}
pub use Rattle.obj_program.specs.declared.item.Value.TheVariants.{Number}
pub use Rattle.cfi_class.specs.Classes.{IsIn, has}
pub use Rattle.cfi_class.specs.Labels.{AreLabels}
pub use Rattle.cfi_closed.specs.Closed.{ClosedGraph, IsSideInside, Side, has_site, is_of, is_target, is_target_of, sorts_of}
pub use Rattle.cfi_closed.specs.declared.side.Site.{Site}
unfoldable pub use Rattle.cfi_flow.specs.Below.{where_below}
pub use Rattle.cfi_flow.specs.Closing.{IsClosed, IsSide, class_reached, raw_for, with_class}
pub use Rattle.cfi_flow.specs.Labels.{is_gate, used_labels}
pub use Rattle.cfi_flow.specs.Policy.{IsRaw}
pub use Rattle.cfi_flow.specs.Raw.{RawGraph}
pub use Rattle.cfi_flow.specs.Sites.{site_kind}
pub use Rattle.cfi_leads.specs.Entered.{Entered, entered_at}
pub use Rattle.cfi_leads.specs.Entries.{aims_at, call_target, if_kind, is_call, is_call_target, is_called, is_entry, serves_calls}
pub use Rattle.cfi_leads.specs.Leads.{enters, lead_size, lead_words, words_of_entry, words_of_sides}
pub use Rattle.cfi_leads.specs.Leaves.{begins, crosses_to, edge_target, ends_before, ends_leaf, in_leaf, is_edge, is_in, is_leaf, leaf_end, may_stand, parts_them, spoils_inside, stands_in_leaf, writes_link}
unfoldable pub use Rattle.cfi_leads.specs.Leaves.{head, is_spoilt_by, next_piece}
pub use Rattle.cfi_map.specs.GraphAtMap.{ProgramAtMap, aim_of, arrival, arrival_by, arrival_to, call_lines, entered_in, gate, gate_to, graph_lines, head_lines, jump_line, jump_line_by, leaf_line, leaf_lines_by, line_for, line_of_kind, with_line, word, words_at}
unfoldable pub use Rattle.cfi_map.specs.GraphAtMap.{class_lines, leaf_lines_from, place_lines}
pub use Rattle.cfi_map.specs.Groups.{AreGroups, base, base_of, is_direct_target, is_entered, is_forward, is_short, is_store, level_of}
unfoldable pub use Rattle.cfi_map.specs.Groups.{members_before}
pub use Rattle.cfi_map.specs.LabelOf.{Tagged, all_classes, class_count, next_after, number, tag, with_empty}
unfoldable pub use Rattle.cfi_map.specs.LabelOf.{empty_classes, label_at, labels_of, site_label, site_number, tagged}
pub use Rattle.cfi_map.specs.LegalMap.{IsLegalMap, gates_of}
pub use Rattle.cfi_map.specs.Placement.{IsLegal, call_size, is_ecall, is_ecall_instr, kind_size, lean_size, size_by, size_of, whole_at}
unfoldable pub use Rattle.cfi_map.specs.Placement.{AreGates, words_from}
pub use Rattle.cfi_map.specs.Placing.{Spaced}
pub use Rattle.cfi_map.specs.PlacingLaws.{IsShortAt}
pub use Rattle.cfi_map.specs.Shorts.{is_branch, is_kept, is_skipped}
pub use Rattle.cfi_map.specs.Sizes.{whole_sizes}
unfoldable pub use Rattle.cfi_map.specs.Sizes.{part_sizes}
pub use Rattle.cfi_unit.specs.Flow.{flow_of}
pub use Rattle.cfi_unit.specs.Guarded.{AreNumbers}
pub use Rattle.cfi_unit.specs.Members.{AreMembers, IsMember, MOST_MEMBERS}
pub use Rattle.cfi_unit.specs.Templates.{is_full}
pub use Rattle.cfi_unit.specs.UnitWords.{BAD_RETURN, BAD_TARGET, CheckFits, DEEP, Fits, IsNear, MaskFits, Reaches, after_unit, is_lui, is_plain, mask_words, near_offset, past, skip_offset, word_count}
unfoldable pub use Rattle.cfi_unit.specs.UnitWords.{words_of}
pub use Rattle.cfi_unit.specs.declared.mask.Mask.{Mask}
pub use Rattle.cfi_unit.specs.declared.mask.Mask.TheVariants.{Long, Shifts, Short}
pub use Rattle.cfi_unit.specs.declared.members.Member.{Member}
pub use Rattle.cfi_unit.specs.declared.target_word.TargetWord.{TargetWord}
pub use Rattle.cfi_unit.specs.declared.target_word.TargetWord.TheVariants.{First, Second, Third}
pub use Rattle.cfi_pending.specs.Kinds.{IsOfItsKind, Leaf, begins_at, goes_on, is_enter, is_fresh, is_gate_there, is_right_behind, is_right_target, leaf_of, may_be_called, may_be_reached, stands_by}
pub use Rattle.cfi_pending.specs.StartLaw.{stands_in}
pub use Rattle.cfi_pending.specs.Starts.{is_link}
pub use Rattle.cfi_rules.specs.Laws.{AreBytes}
pub use Rattle.cfi_rules.specs.Lines.{call_word, if_serves, is_among, is_word_of, jump_word, or_class, read_of, serves}
unfoldable pub use Rattle.cfi_rules.specs.Lines.{class_with, leaves_in, targets_for}
pub use Rattle.cfi_rules.specs.Placed.{is_head, line_of, placed_code}
unfoldable pub use Rattle.cfi_rules.specs.Placed.{AllAhead, AllFit, code_from}
pub use Rattle.cfi_rules.specs.Rules.{IsWellFormed, admits, asks, gate_of, is_of_version, may_call, same_word, site_of, test_is_of_version}
pub use Rattle.cfi_rules.specs.Sound.{Bears, EndsIn, StartsIn, may_be_entered, target_of}
unfoldable pub use Rattle.cfi_rules.specs.Split.{code_words, unit_at, unit_in}
pub use Rattle.cfi_rules.specs.declared.asks.Asks.{Asks}
pub use Rattle.cfi_runs.specs.Distances.{field, level, lowest}
pub use Rattle.cfi_runs.specs.GroupStores.{IsMasked, IsPast, members_from}
pub use Rattle.cfi_writer.specs.Accepted.{IsAccepted, IsSiteOf}
pub use Rattle.cfi_writer.specs.Chosen.{AreStarts, IsChosen, instr_if}
unfoldable pub use Rattle.cfi_writer.specs.Chosen.{labels_before}
pub use Rattle.cfi_writer.specs.GraphOf.{IsGraphOf}
pub use Rattle.cfi_writer.specs.Hardened.{INIT_ROOM, chosen}
pub use Rattle.cfi_writer.specs.Laws.{WrittenEntry, WrittenIsGraph, WrittenIsSound, WrittenIsWellFormed, WrittenLines, WrittenUnits, written_classes, written_code, written_heads}
pub use Rattle.cfi_writer.specs.MapLines.{map_line, map_lines}
unfoldable pub use Rattle.cfi_writer.specs.MapLines.{lines_from}
pub use Rattle.cfi_writer.specs.SideLaws.{AreLabelled, GatesListed, SitesServed, TargetsBear, word_asked, word_of_side}
pub use Rattle.cfi_writer.specs.Units.{Choice, Group, behind, bounds_at, call_unit, entry_arrival, gate_unit, group_at, instr_of, inverse, is_later_at, later_from, lead, lead_by, lead_of_entry, lead_of_sides, lead_unit, lean_unit_of, least_at, low_at, low_by, mask_at, mask_by, member_at, member_for, offset_at, offset_of, unit_by, unit_here, unit_of, unit_places, units}
unfoldable pub use Rattle.cfi_writer.specs.Units.{followers, units_of}
pub use Rattle.cfi_writer.specs.Writing.{IsCoded, IsDescribed, IsImageWith, IsWritable, IsWrittenAs}
