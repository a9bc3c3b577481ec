use Rattle.std.proofs.Common.{◌≡◌, ◌-◌}
use Rattle.cfi_map.proofs.Prelude.{item_of, all_from, may_share}
use Rattle.cfi_map.proofs.groups.all_share.Given as goal

abbrev pub invariant-loop-j : goal.invariant-loop-j
invariant-loop-j l =
    all_from (may_share (item_of l.items) l.other.base l.other.level) l.first (l.k - l.first)
    ≡ all_from (may_share (item_of l.items) l.other.base l.other.level) l.j (l.k - l.j)
