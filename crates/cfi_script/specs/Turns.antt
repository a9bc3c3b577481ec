-- Turns: a hart, and how many steps it takes in a row. The harts of a run's steps have one spelling as turns, in which
-- neighbours are of different harts.
use Rattle.std.specs.Prelude.{ℕ, suc, ◌-◌, ◌==◌, nat_lt, List, [], ◌∷◌, if◌then◌else◌}

abbrev pub Turns : Type 0
Turns = List (ℕ × ℕ)

-- one more step before these turns
abbrev pub with_turn : ℕ → Turns → Turns
with_turn h [] = (h, 1) ∷ []
with_turn h (t ∷ turns) = if h == t.0 then (h, suc t.1) ∷ turns else (h, 1) ∷ t ∷ turns

-- the turns of steps by these harts
unfoldable pub turns_of : List ℕ → Turns
turns_of [] = []
turns_of (h ∷ harts) = with_turn h (turns_of harts)

-- the hart whose turn it is after so many steps; after the last turn hart 0 goes on
unfoldable pub hart_in_turn : Turns → ℕ → ℕ
hart_in_turn [] step = 0
hart_in_turn (t ∷ turns) step = if nat_lt step t.1 then t.0 else hart_in_turn turns (step - t.1)
