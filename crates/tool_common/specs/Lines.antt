-- The lines that the tool prints.
use Rattle.std.specs.Prelude.{ℕ, List, ◌++◌, codes}

abbrev pub with_newline : List ℕ → List ℕ
with_newline line = line ++ codes "\n"
