-- Functions drawn from a number, the state of a linear congruential generator.
use Rattle.std.specs.Prelude.{ℕ, zero, suc, ◌+◌, ◌*◌, ◌/◌, ◌%◌, ◌^◌, Bool, ◌==◌, not, if◌then◌else◌, List, [], ◌∷◌}
use Rattle.cfi_gen.specs.declared.function.Function.{Function}
use Rattle.cfi_gen.specs.declared.function.Shape.{Shape}
use Rattle.cfi_gen.specs.declared.function.Shape.TheVariants.{Leaf, Call, Table, Skip}

-- the state after a draw, and what the draw gives
unfoldable pub next : ℕ → ℕ
next s = (1103515245 * s + 12345) % 2 ^ 31

abbrev pub drawn : ℕ → ℕ
drawn s = next s / 65536

-- functions call only within their block of fifty
abbrev pub are_near : ℕ → ℕ → Bool
are_near i j = i / 50 == j / 50

-- the shape of function `i` for the drawn number `k` below 4, where it would call function `j`
unfoldable pub shape_of : ℕ → ℕ → ℕ → Shape
shape_of i k j =
    if k == 3 then Skip
    else if not (are_near i j) then Leaf
    else if k == 1 then Call j
    else if k == 2 then Table j
    else Leaf

-- function `i` at a state, after three draws
unfoldable pub function_at : ℕ → ℕ → Function
function_at i s = record {
  amount = drawn s % 2048;
  shape = shape_of i (drawn (next s) % 4) (i + 1 + drawn (next (next s)) % 8);
}

-- the functions from `i` on
unfoldable pub functions_from : ℕ → ℕ → ℕ → List Function
functions_from zero i s = []
functions_from (suc count) i s = function_at i s ∷ functions_from count (i + 1) (next (next (next s)))
