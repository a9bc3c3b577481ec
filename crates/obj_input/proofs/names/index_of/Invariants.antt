use Rattle.std.proofs.Common.{◌≡◌, ◌≤◌, List, ℕ, length, take}
use Rattle.obj_input.specs.Indexed.{first_definition, looked_up}
use Rattle.obj_input.proofs.names.index_of.Given as goal

abbrev pub invariant-loop-name : goal.invariant-loop-name
invariant-loop-name l =
    (called : List ℕ) → length called ≤ 256 → looked_up called l.index ≡ first_definition (take l.name-index l.names) called
