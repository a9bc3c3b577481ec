use Rattle.std.proofs.Common.{◌≡◌, ◌++◌, ◌==◌, length, map, take}
use Rattle.std.specs.List.{filter}
use Rattle.cfi_script.proofs.script.append.Given as goal

abbrev pub invariant-loop-at : goal.invariant-loop-at
invariant-loop-at l =
    (l.into.items ≡ l.initial.into.items ++ map (λ c. c.1) (filter (λ c. c.0 == l.step) (take l.at-index l.changes))) × (l.len ≡ length l.initial.into.items)
