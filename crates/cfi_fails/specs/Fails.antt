-- The rules, by what the listing of a code says of an address.
use Rattle.std.specs.Prelude.{ℕ, ◌+◌, ◌*◌, ◌/◌, ◌==◌, nat_lt, nat_le, ◌&&◌, ◌||◌, not, Bool, true, false, List, Option, is_some}
use Rattle.std.specs.List.{list_any}
use Rattle.rv_image.specs.declared.version.GraphVersion.{GraphVersion}
use Rattle.rv_image.specs.MemoryMap.{Profile}
use Rattle.cfi_graph.specs.declared.line.GraphLine.{GraphLine}
use Rattle.cfi_graph.specs.declared.line.GraphLine.TheVariants.{Site, Edge, Call}
use Rattle.cfi_graph.specs.Graph.{GraphParts, calls_in, has_leaves}
use Rattle.cfi_reader.specs.declared.entry.Entry.{Entry}
use Rattle.cfi_reader.specs.declared.entry.Entry.TheVariants as E
use Rattle.cfi_reader.specs.Entries.{is_quiet}
use Rattle.cfi_scan.specs.Pieces.{Listed, prologue_count}
use Rattle.cfi_rules.specs.Lines.{holds_of, is_outside, jump_word, leaves_in, line_at, targets_for}
use Rattle.cfi_rules.specs.Rules.{fails_prologue, is_call_to, is_edge_to, is_site_with, lacks_gate, same_word}
use Rattle.cfi_rules.specs.declared.reject.Rule.{Rule}
use Rattle.cfi_rules.specs.declared.reject.Rule.TheVariants as R
use Rattle.cfi_starts.specs.Entries.{entry_at, edge_at, call_at, site_at, gate_at, starts_at, count_of, signs_at, stands_wrong_at, fails_leaf_at, fails_target_at}

abbrev pub is_stop_entry : Entry → Bool
is_stop_entry E.Stop = true
is_stop_entry _ = false

-- no unit with this entry stands in code whose graph has this version: it is one of other images, by who saves the sites of calls, or a
-- computed jump whose check reads another word
abbrev pub is_of_others : GraphVersion → Entry → Bool
is_of_others version (E.Ijump which label) = has_leaves version || not (same_word which (jump_word version))
is_of_others version (E.Call field) = has_leaves version
is_of_others version (E.Icall label) = has_leaves version
is_of_others version E.Stores = has_leaves version
is_of_others version (E.LinkCall field) = not (has_leaves version)
is_of_others version E.Enter = not (has_leaves version)
is_of_others version (E.LeanIjump label) = not (has_leaves version)
is_of_others version (E.LeanIcall label) = not (has_leaves version)
is_of_others version E.LeafReturn = not (has_leaves version)
is_of_others version E.LeanStores = not (has_leaves version)
is_of_others version _ = false

-- nor where the graph has a list of system calls a bare call, or one that is guarded otherwise, and nor where it has none a guarded one
abbrev pub may_not_call : Bool → Entry → Bool
may_not_call has_list E.Ecall = has_list
may_not_call has_list (E.Guarded same) = not (has_list && same)
may_not_call has_list _ = false

-- a graph does not admit a unit with this entry
abbrev pub is_barred : GraphVersion → Bool → Entry → Bool
is_barred version has_list entry = is_of_others version entry || may_not_call has_list entry

module _ (p : Profile) where
  -- a target is no unit's start
  abbrev pub misses_start : Listed → Option ℕ → Bool
  misses_start t target = holds_of target (λ x. not (starts_at p t x))

  abbrev pub misses_start_at : Listed → ℕ → Bool
  misses_start_at t a = misses_start t (edge_at p t a) || misses_start t (call_at p t a)

  -- the rules, in the words of specs/Rules
  abbrev pub is_barred_at : Listed → GraphParts → ℕ → Bool
  is_barred_at t graph a = is_barred graph.version (is_some (calls_in graph.lines)) (entry_at p t.entries a)

  -- of a unit there that is of a transfer, a gate or a system call it is so
  abbrev pub is_barred_busy_at : Listed → GraphParts → ℕ → Bool
  is_barred_busy_at t graph a = is_barred_at t graph a && not (is_quiet (entry_at p t.entries a))

  abbrev pub fails_unit_at : Listed → GraphParts → ℕ → Bool
  fails_unit_at t graph a =
      (nat_lt t.done (count_of p t) && (a == p.units_from + 4 * t.done)) || (is_barred_at t graph a || stands_wrong_at p t (leaves_in graph.lines) a)

  abbrev pub fails_unlisted_at : Listed → List GraphLine → ℕ → Bool
  fails_unlisted_at t lines a =
      holds_of (edge_at p t a) (λ target. not (is_edge_to (line_at lines a) target))
      || holds_of (call_at p t a) (λ target. not (is_call_to (line_at lines a) target))

  abbrev pub is_unused_at : Listed → ℕ → GraphLine → Bool
  is_unused_at t a (Edge from to) = not (is_some (edge_at p t a))
  is_unused_at t a (Call from to) = not (is_some (call_at p t a))
  is_unused_at t a other = false

  abbrev pub fails_unused_at : Listed → List GraphLine → ℕ → Bool
  fails_unused_at t lines a = holds_of (line_at lines a) (is_unused_at t a)

  abbrev pub is_lone_at : Listed → ℕ → GraphLine → Bool
  is_lone_at t a (Site address kind label) = not (is_some (site_at p t a))
  is_lone_at t a other = false

  abbrev pub fails_site_at : Listed → List GraphLine → ℕ → Bool
  fails_site_at t lines a =
      holds_of (site_at p t a) (λ asked. not (is_site_with (line_at lines a) asked && is_some (targets_for lines asked.kind asked.which asked.label)))
      || holds_of (line_at lines a) (is_lone_at t a)

  abbrev pub fails_gate_at : Listed → GraphParts → ℕ → Bool
  fails_gate_at t graph a = list_any (lacks_gate graph.version (signs_at p t (leaves_in graph.lines)) a) graph.lines

  abbrev pub fails_astray_at : Listed → GraphParts → ℕ → Bool
  fails_astray_at t graph a = holds_of (gate_at p t a) (λ label. is_outside graph.version graph.lines label a)

  -- the last unit ends the code and is no stop
  abbrev pub is_bad_end_at : Listed → ℕ → Bool
  is_bad_end_at t a =
      (t.done == count_of p t)
      && (nat_lt t.last t.done && ((a == p.units_from + 4 * t.last) && not (is_stop_entry (entry_at p t.entries a))))

  abbrev pub fails_end_at : Listed → ℕ → Bool
  fails_end_at t a = is_bad_end_at t a || ((a == p.units_from) && nat_le (t.fed / 4) (prologue_count p))

  abbrev pub fails_at : Rule → Listed → GraphParts → ℕ → Bool
  fails_at R.Prologue t graph a = fails_prologue p t.prologue a
  fails_at R.Unit t graph a = fails_unit_at t graph a
  fails_at R.Leaf t graph a = fails_leaf_at p t graph.lines a
  fails_at R.Target t graph a = fails_target_at p t graph.lines a
  fails_at R.Unlisted t graph a = fails_unlisted_at t graph.lines a
  fails_at R.Unused t graph a = fails_unused_at t graph.lines a
  fails_at R.Site t graph a = fails_site_at t graph.lines a
  fails_at R.Gate t graph a = fails_gate_at t graph a
  fails_at R.Astray t graph a = fails_astray_at t graph a
  fails_at R.End t graph a = fails_end_at t a
