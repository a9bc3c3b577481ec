use Rattle.std.proofs.Common.{◌≡◌, ◌++◌, ◌+◌, ◌/◌, List, ℕ, drop, length, map, take}
use Rattle.elf_names.specs.Marks.{AreMarks, spelled}
use Rattle.elf_names.specs.Numbers.{AreNumbers}
use Rattle.elf_names.proofs.marks.push_numbers.Given as goal

abbrev pub invariant-loop-at : goal.invariant-loop-at
invariant-loop-at l =
    AreMarks l.texts l.table l.marks.items
    × (length l.marks.items ≡ length l.table / 64 + 1)
    × ((names : List (List ℕ)) → AreNumbers l.fn.texts l.fn.numbers.items names
    → AreNumbers l.texts l.numbers.items (names ++ map (λ (at : ℕ). spelled (drop at l.table)) (take l.at-index l.starts)))
