use Rattle.std.proofs.Common.{◌≡◌, ℕ, length}
use Rattle.obj_input.specs.Listed.{listed}
use Rattle.obj_join.specs.Numbers.{before, filling_of}
use Rattle.obj_join.proofs.slots.fillings.Given as goal

abbrev pub invariant-loop-slot : goal.invariant-loop-slot
invariant-loop-slot l =
    (resolve : ℕ → ℕ) → l.places ≡ listed (before resolve l.symbols) (length l.symbols)
    → l.uses.items ≡ listed (filling_of resolve l.symbols l.slots) l.slot
