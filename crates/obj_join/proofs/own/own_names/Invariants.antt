use Rattle.std.proofs.Common.{◌≡◌, true, ℕ, length, map}
use Rattle.least.specs.Nearest.{joined}
use Rattle.obj_input.specs.Listed.{listed}
use Rattle.obj_join.specs.Symbols.{number_if}
use Rattle.obj_join.specs.Stands.{definition}
use Rattle.obj_join.specs.SaidInput.{is_named, named}
use Rattle.obj_join.proofs.own.own_names.Given as goal

abbrev pub invariant-loop-number : goal.invariant-loop-number
invariant-loop-number l =
    (resolve : ℕ → ℕ) → l.definitions ≡ listed (definition resolve l.symbols) (length l.symbols)
    → l.names.items ≡ map (named resolve l.symbols) (joined (number_if (is_named (λ n. true) l.symbols)) l.number)
