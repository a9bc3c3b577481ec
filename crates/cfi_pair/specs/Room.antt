-- What C gets of a list in room that it hands in.
use Rattle.std.specs.Prelude.{ℕ, List, ◌++◌, length, min, take, drop}

-- the first places hold numbers, as many as there is room for, and the others are as they were
abbrev pub held : List ℕ → List ℕ → List ℕ
held numbers places = take (min (length numbers) (length places)) numbers ++ drop (min (length numbers) (length places)) places
