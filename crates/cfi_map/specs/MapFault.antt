-- Where a map that is not legal is wrong: at the first line with which its lines are no longer those of a placement's first
-- places. In the text of a map the line with index `j` has the number j + 2, and the number after the last is that of the
-- line `end`, which is wrong where lines are missing.
use Rattle.std.specs.Prelude.{◌≡◌, ℕ, ◌+◌, take}
use Rattle.cfi_map_text.specs.Map.{MapParts}
use Rattle.obj_program.specs.Program.{Program}
use Rattle.cfi_closed.specs.Closed.{ClosedGraph}
use Rattle.cfi_leads.specs.Entered.{entered_at}
use Rattle.cfi_map.specs.LegalMap.{AreLegal}

-- the first lines are legal lines of as many first places of the whole program
abbrev pub BeginsLegal : Program → ClosedGraph → ℕ → MapParts → ℕ → Type 0
BeginsLegal program closed entry map n =
    AreLegal (entered_at program closed entry) (take n program.items) (record map { lines = take n map.lines })

-- the number of the first wrong line
pub record IsWrongLine (program : Program) (closed : ClosedGraph) (entry : ℕ) (map : MapParts) (number : ℕ) : Type 0 where
  pub index : ℕ
  pub numbered : number ≡ index + 2
  pub before : BeginsLegal program closed entry map index
  pub wrong : BeginsLegal program closed entry map (index + 1) → ⊥
