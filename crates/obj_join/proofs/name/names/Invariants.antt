use Rattle.std.proofs.Common.{◌≡◌, ℕ, length, map}
use Rattle.least.specs.Nearest.{joined}
use Rattle.obj_input.specs.Listed.{listed}
use Rattle.obj_join.specs.Symbols.{number_if}
use Rattle.obj_join.specs.Stands.{definition}
use Rattle.obj_join.specs.Found.{is_found}
use Rattle.obj_join.specs.SaidInput.{is_named, named}
use Rattle.obj_join.proofs.name.names.Given as goal

abbrev pub invariant-loop-number : goal.invariant-loop-number
invariant-loop-number l =
    (resolve : ℕ → ℕ) → l.definitions ≡ listed (definition resolve l.definers) (length l.definers)
    → l.names.items ≡ map (named resolve l.definers) (joined (number_if (is_named (is_found l.definers) l.definers)) l.number)
