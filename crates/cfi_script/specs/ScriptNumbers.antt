-- Tests of the reader of a script's bytes, and how it cuts a text at its turns; only contracts of private functions rest
-- on these.
use Rattle.std.specs.Prelude.{ℕ, nat_le, Bool, ◌&&◌, List, ◌∷◌, Option, None, option_map}
use Rattle.text_lines.specs.Lines.{words_of}
use Rattle.cfi_script.specs.ScriptText.{turn_of}

abbrev pub is_capital : ℕ → Bool
is_capital b = nat_le 65 b && nat_le b 70

-- the turn that the first of some lines is, if it is one and others follow, and these
abbrev pub first_turn : List (List ℕ) → Option ((ℕ × ℕ) × List (List ℕ))
first_turn (line ∷ next ∷ rest) = option_map (λ turn. (turn, next ∷ rest)) (turn_of (words_of line))
first_turn lines = None
