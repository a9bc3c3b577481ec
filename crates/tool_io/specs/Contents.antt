-- What a file holds, and what a write does to it where that is told: `None` tells nothing.
use Rattle.std.specs.Prelude.{◌≡◌, ℕ, List, ⊤, None, Some}
use Rattle.std.specs.declared.option.Option.{Option}

-- bytes that were told are these now
abbrev pub Becomes : Option (List ℕ) → Option (List ℕ) → List ℕ → Type 0
Becomes None new bytes = ⊤
Becomes (Some old) new bytes = new ≡ Some bytes
