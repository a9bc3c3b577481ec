-- The definitions that proofs of this crate cite, which they import from here.
pub use Rattle.rv_image.specs.Image.{Contents}
pub use Rattle.rv_image.specs.MemoryMap.{CODE_START, Profile, START, lies_within, profile_with}
pub use Rattle.rv_image.specs.declared.version.GraphVersion.{GraphVersion}
pub use Rattle.rv_image.specs.declared.version.GraphVersion.TheVariants.{CalleeSaves, OneLabel, TwoLabels}
pub use Rattle.rv_image.specs.declared.version.Versions.{Versions}
pub use Rattle.least.specs.Least.{IsLeast, lesser}
pub use Rattle.rv_instr.specs.Operands.{written}
unfoldable pub use Rattle.rv_code.specs.Decode.{decoded}
pub use Rattle.cfi_graph.specs.Graph.{ClassLine, GraphParts, IsGraph, calls_in, class_in, fits_version, has_leaves, is_code_address, is_rising, key_below, key_of, line_in_range}
pub use Rattle.cfi_graph.specs.declared.line.GraphLine.{GraphLine}
pub use Rattle.cfi_graph.specs.declared.line.GraphLine.TheVariants.{Call, Calls, Class, Edge, Leaf, Site}
pub use Rattle.cfi_graph.specs.declared.line.Key.TheVariants.{Address}
pub use Rattle.cfi_unit.specs.Laws.{AreWords}
pub use Rattle.cfi_unit.specs.Members.{MOST_MEMBERS, member_of}
pub use Rattle.cfi_unit.specs.Recognise.{target_in}
unfoldable pub use Rattle.cfi_unit.specs.Recognise.{recognised}
pub use Rattle.cfi_unit.specs.UnitWords.{BAD_RETURN, BAD_TARGET, Begins, DEEP, Fits, after_unit, instr_at, mask_words, may_precede, near_offset, skips_jump, word_count}
unfoldable pub use Rattle.cfi_unit.specs.UnitWords.{words_of}
pub use Rattle.cfi_unit.specs.declared.mask.Mask.{Mask}
pub use Rattle.cfi_unit.specs.declared.mask.Mask.TheVariants.{Long, Shifts, Short}
pub use Rattle.cfi_unit.specs.declared.place.Place.{Place}
pub use Rattle.cfi_unit.specs.declared.target_word.TargetWord.{TargetWord}
pub use Rattle.cfi_unit.specs.declared.target_word.TargetWord.TheVariants.{First, Second, Third}
pub use Rattle.cfi_pending.specs.Kinds.{begins_at, in_leaf, is_fresh, is_gate, is_gate_there, is_right_behind, leaf_of, may_be_called, may_be_reached, stands_by}
pub use Rattle.cfi_pending.specs.Starts.{is_link}
pub use Rattle.cfi_reader.specs.Entries.{is_quiet, is_started, is_unit, plain_entry, writes_link}
unfoldable pub use Rattle.cfi_reader.specs.Entries.{entries_of, inside}
pub use Rattle.cfi_reader.specs.declared.entry.Entry.{Entry}
pub use Rattle.cfi_scan.specs.Calm.{is_calm}
pub use Rattle.cfi_scan.specs.Carry.{word_of}
pub use Rattle.cfi_scan.specs.Pieces.{HasSeen, IsCut, IsOf, Listed, Sight, ends, prologue_count}
pub use Rattle.cfi_scan.specs.Stream.{IsSplitUp}
unfoldable pub use Rattle.cfi_scan.specs.Stream.{AllStand, last_of, spelled, width}
pub use Rattle.cfi_rules.specs.Laws.{AreBytes}
pub use Rattle.cfi_rules.specs.Lines.{holds_of, is_among, is_outside, read_of}
unfoldable pub use Rattle.cfi_rules.specs.Lines.{leaves_in, line_at, targets_for}
pub use Rattle.cfi_rules.specs.Rules.{Holds, IsFirst, admits, admitted_in, call_of, edge_of, fails, fails_prologue, gate_of, goes_wrong, is_astray, is_bad_end, is_borne, is_call_to, is_edge_to, is_label, is_lone_site, is_of_version, is_site_with, is_stop, is_unused, lacks_end, lacks_gate, may_call, may_call_to, may_go, may_stand_at, order, pair_profile, prologue_word_fits, signs_in, site_of}
pub use Rattle.cfi_rules.specs.Split.{entry_of, is_handler, is_marked, unit_starts, unit_words}
unfoldable pub use Rattle.cfi_rules.specs.Split.{code_words, is_start, place_at, starts, unit_at}
pub use Rattle.cfi_rules.specs.declared.asks.Asks.{Asks}
pub use Rattle.cfi_rules.specs.declared.reject.Rule.{Rule}
pub use Rattle.cfi_starts.specs.Entries.{IsBefore, call_at, call_in, count_of, edge_at, edge_in, end_of, enters_at, fails_target_at, fresh_at, gate_at, gate_in, goes_on, goes_wrong_at, is_enter, is_right_behind_at, is_whole, lacks_end_at, may_be_called_at, may_be_reached_at, may_call_at, may_go_at, may_stand, next_at, or_inside, signs_at, site_at, site_in, stands_outside, stands_within, stands_wrong_at, starts_at}
unfoldable pub use Rattle.cfi_starts.specs.Entries.{entry_at, next_in}
pub use Rattle.cfi_starts.specs.Leaves.{ArePast}
pub use Rattle.cfi_starts.specs.Starts.{StartParts, profile_in}
pub use Rattle.cfi_fails.specs.Fails.{fails_at, fails_end_at, fails_gate_at, fails_unit_at, is_bad_end_at, is_barred, is_barred_at, is_lone_at, is_of_others, is_stop_entry, is_unused_at, may_not_call, misses_start, misses_start_at}
pub use Rattle.cfi_verify.specs.Pass.{AreShut, AreWhole, HasPassed, HoldsAt, HoldsEarly, IsEntered, IsShut, IsShutAt, IsShutLeaf, KindHoldsAt, NoneStands, WordHolds, ends_in_stop}
pub use Rattle.cfi_verify.specs.Scan.{Pair, Scanned, Tells, numbers_in, starts_prologue}
