-- The code of the program: `main`, which calls each function of a table, and the functions.
use Rattle.std.specs.Prelude.{ℕ, pos, ◌+◌, ◌*◌, List, [], ◌∷◌, ◌++◌}
use Rattle.std.specs.List.{flat_map}
use Rattle.cfi_gen.specs.declared.mark.Mark.{Mark}
use Rattle.cfi_gen.specs.declared.function.Function.{Function}
use Rattle.cfi_gen.specs.declared.function.Shape.{Shape}
use Rattle.cfi_gen.specs.declared.function.Shape.TheVariants.{Leaf, Call, Table, Skip}
use Rattle.cfi_gen.specs.Assembly.{addi, auipc, bne, jalr, ld, lui, minus, sd}
use Rattle.cfi_gen.specs.Lines.{Line, marked, plain}

-- the numbers of symbols: `main` is 1, `table` 2, and the functions follow
abbrev pub table_symbol : ℕ
table_symbol = 2

abbrev pub function_symbol : ℕ → ℕ
function_symbol j = j + 3

abbrev pub mark : ℕ → ℕ → ℕ → Mark
mark kind symbol addend = record { kind = kind; symbol = symbol; addend = pos addend }

-- R_RISCV_HI20 and R_RISCV_LO12_I of `table` and an offset
abbrev pub high : ℕ → List Mark
high offset = mark 26 table_symbol offset ∷ []

abbrev pub low : ℕ → List Mark
low offset = mark 27 table_symbol offset ∷ []

-- R_RISCV_CALL_PLT of a function, and R_RISCV_RELAX
abbrev pub called : ℕ → List Mark
called j = mark 19 (function_symbol j) 0 ∷ mark 51 0 0 ∷ []

-- `main`: from the table's start to its end
unfoldable pub main_lines : List Line
main_lines =
    plain (addi 2 2 (minus 32))
    ∷ plain (sd 1 24 2)
    ∷ plain (sd 8 16 2)
    ∷ plain (sd 9 8 2)
    ∷ marked (lui 8) (high 0)
    ∷ marked (addi 8 8 0) (low 0)
    ∷ marked (lui 9) (high 16000)
    ∷ marked (addi 9 9 0) (low 16000)
    ∷ plain (ld 5 0 8)
    ∷ plain (jalr 1 0 5)
    ∷ plain (addi 8 8 8)
    ∷ plain (bne 8 9 (minus 6))  -- back by 12 bytes, to the load
    ∷ plain (ld 9 8 2)
    ∷ plain (ld 8 16 2)
    ∷ plain (ld 1 24 2)
    ∷ plain (addi 2 2 32)
    ∷ plain (jalr 0 0 1)
    ∷ []

-- a function keeps its return address and adds to x10
unfoldable pub opening_lines : ℕ → List Line
opening_lines amount =
    plain (addi 2 2 (minus 16))
    ∷ plain (sd 1 8 2)
    ∷ plain (addi 10 10 amount)
    ∷ []

-- what it does then
unfoldable pub shape_lines : Shape → List Line
shape_lines Leaf = []
shape_lines (Call j) =
    marked (auipc 1) (called j)
    ∷ plain (jalr 1 0 1)
    ∷ []
shape_lines (Table j) =
    marked (lui 5) (high (8 * j))
    ∷ marked (ld 5 0 5) (low (8 * j))
    ∷ plain (jalr 1 0 5)
    ∷ []
shape_lines Skip =
    plain (bne 10 0 4)  -- over 8 bytes
    ∷ plain (addi 10 10 1)
    ∷ []

-- and returns
unfoldable pub closing_lines : List Line
closing_lines =
    plain (ld 1 8 2)
    ∷ plain (addi 2 2 16)
    ∷ plain (jalr 0 0 1)
    ∷ []

unfoldable pub function_lines : Function → List Line
function_lines f = opening_lines f.amount ++ (shape_lines f.shape ++ closing_lines)

-- the whole code
unfoldable pub program_lines : List Function → List Line
program_lines fs = main_lines ++ flat_map function_lines fs
