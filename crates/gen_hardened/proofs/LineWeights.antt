-- What the lines of the code weigh together, by what their words are read as.
use Rattle.std.proofs.Common.{◌≡◌, ℕ, zero, suc, ◌+◌, ◌*◌, ◌≤◌, ◌<◌, List, [], ◌∷◌, ◌++◌, length, refl, ap, arith, lit<}
use Rattle.std.specs.List.{flat_map, sum_by}
use Rattle.std.proofs.lemmas.List.Sums.{sum_by-append, sum_by-cons}
use Rattle.gen_hardened.proofs.Prelude.{IsInstr, decoded, number_at, Function, Shape, Leaf, Call, Table, Skip, addi, auipc, bne, jalr, ld, lui, minus, sd, called, closing_lines, function_lines, high, low, main_lines, opening_lines, program_lines, shape_lines, Line, code_bytes, marked, plain}
use Rattle.gen_hardened.proofs.Encoded.{line, word_decoded}
use Rattle.gen_hardened.proofs.Weights.{heaviest_word, weight_of, word_weight}

-- the word of a line
abbrev pub word_of : Line → ℕ
word_of l = number_at (code_bytes (l ∷ [])) 0 4

-- what a line weighs, be its instruction in range or not
unfoldable pub line_weight : Line → ℕ
line_weight l = word_weight (decoded (word_of l))

-- the word at a place is that of the line there
pub word_there : (ls : List Line) (k : ℕ) → k < length ls → number_at (code_bytes ls) (4 * k) 4 ≡ word_of (line ls k)
unfolding number_at code_bytes
word_there [] k below = absurd (omega arith)
word_there (l ∷ ls) zero below = refl
word_there (l ∷ ls) (suc k) below =
    let next : 4 * suc k ≡ suc (suc (suc (suc (4 * k)))) = omega arith in
    rw next (word_there ls k (omega arith))

-- no line weighs more than a call of a computed address
pub heaviest_line : (l : Line) → line_weight l ≤ 84
unfolding line_weight
heaviest_line l = heaviest_word (decoded (word_of l))

weighs : (l : Line) → IsInstr l.instr → line_weight l ≡ weight_of l.instr
unfolding line_weight
weighs l range = ap word_weight (word_decoded (l ∷ []) 0 (lit< tt) range)

opening_weighs : (amount : ℕ) → sum_by line_weight (opening_lines amount) ≤ 112
unfolding opening_lines
opening_weighs amount =
    omega (
      arith,
      weighs (plain (addi 2 2 (minus 16))) (lit< tt, lit< tt, lit< tt),
      weighs (plain (sd 1 8 2)) (lit< tt, lit< tt, lit< tt),
      heaviest_line (plain (addi 10 10 amount)),
    )

shape_weighs : (shape : Shape) → sum_by line_weight (shape_lines shape) ≤ 120
unfolding shape_lines
shape_weighs Leaf = omega arith
shape_weighs (Call j) = omega (arith, weighs (marked (auipc 1) (called j)) (lit< tt, lit< tt), heaviest_line (plain (jalr 1 0 1)))
shape_weighs (Table j) =
    omega (
      arith,
      weighs (marked (lui 5) (high (8 * j))) (lit< tt, lit< tt),
      weighs (marked (ld 5 0 5) (low (8 * j))) (lit< tt, lit< tt, lit< tt),
      heaviest_line (plain (jalr 1 0 5)),
    )
shape_weighs Skip = omega (arith, heaviest_line (plain (bne 10 0 4)), weighs (plain (addi 10 10 1)) (lit< tt, lit< tt, lit< tt))

closing_weighs : sum_by line_weight closing_lines ≤ 100
unfolding closing_lines
closing_weighs =
    omega (
      arith,
      weighs (plain (ld 1 8 2)) (lit< tt, lit< tt, lit< tt),
      weighs (plain (addi 2 2 16)) (lit< tt, lit< tt, lit< tt),
      heaviest_line (plain (jalr 0 0 1)),
    )

function_weighs : (f : Function) → sum_by line_weight (function_lines f) ≤ 332
unfolding function_lines
function_weighs f =
    omega (
      arith,
      opening_weighs f.amount,
      shape_weighs f.shape,
      closing_weighs,
      sum_by-append line_weight (opening_lines f.amount) (shape_lines f.shape ++ closing_lines),
      sum_by-append line_weight (shape_lines f.shape) closing_lines,
    )

functions_weigh : (fs : List Function) → sum_by line_weight (flat_map function_lines fs) ≤ 332 * length fs
functions_weigh [] = omega arith
functions_weigh (f ∷ fs) =
    omega (arith, function_weighs f, functions_weigh fs, sum_by-append line_weight (function_lines f) (flat_map function_lines fs))

lines_weigh : (ls : List Line) → sum_by line_weight ls ≤ 84 * length ls
lines_weigh [] = omega arith
lines_weigh (l ∷ ls) = omega (arith, heaviest_line l, lines_weigh ls, sum_by-cons line_weight l ls)

pub program_weighs : (fs : List Function) → sum_by line_weight (program_lines fs) ≤ 17 * 84 + 332 * length fs
unfolding program_lines main_lines
program_weighs fs =
    omega (arith, lines_weigh main_lines, functions_weigh fs, sum_by-append line_weight main_lines (flat_map function_lines fs))
