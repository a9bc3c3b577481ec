-- What stands at each line of `main` and of the functions.
use Rattle.std.proofs.Common.{◌≡◌, ℕ, pos, zero, suc, ◌+◌, ◌*◌, ◌^◌, ◌<◌, List, [], ◌∷◌, ◌++◌, length, refl, sym, ap, subst, ◌∙◌, arith, lit<, append_assoc, length-append}
use Rattle.std.specs.List.{flat_map}
use Rattle.gen_hardened.proofs.Prelude.{first_below, some_reserved, Function, Shape, Leaf, Call, Table, Skip, addi, bne, jalr, ld, minus, sd, closing_lines, function_lines, main_lines, opening_lines, program_lines, shape_lines, Line}
use Rattle.gen_hardened.proofs.Drawn.{AreNear, IsNear, IsNearShape}
use Rattle.gen_hardened.proofs.Spots.{IsEntry, Spot, SpotsAt, at_first, at_high, at_low, at_plain, at_second, part_entry, spots_joined}

-- what holds at `at + k` and at the next, `count` in a row
abbrev InRow : (ℕ → Type 0) → ℕ → ℕ → ℕ → Type 0
InRow P at k zero = Unit {0}
InRow P at k (suc count) = P (at + k) × InRow P at (suc k) count

infixr 20 ◌▸◌
abbrev ◌▸◌ : {A B : Type 0} → A → B → A × B
a ▸ b = (a, b)

each_in_row : (P : ℕ → Type 0) (at k count : ℕ) → InRow P at k count → (i : ℕ) → i < count → P (at + (k + i))
each_in_row P at k zero row i below = absurd (omega arith)
each_in_row P at k (suc count) row zero below = let same : k ≡ k + 0 = omega arith in subst (λ j. P (at + j)) same row.0
each_in_row P at k (suc count) row (suc i) below =
    let same : suc k + i ≡ k + suc i = omega arith in
    subst (λ j. P (at + j)) same (each_in_row P at (suc k) count row.1 i (omega arith))

from_row : (n : ℕ) (ls : List Line) (at : ℕ) (b : List Line) → InRow (Spot n ls) at 0 (length b) → SpotsAt n ls at b
from_row n ls at b row k below =
    let same : 0 + k ≡ k = omega arith in
    subst (λ j. Spot n ls (at + j)) same (each_in_row (Spot n ls) at 0 (length b) row k below)

main_spots : (n : ℕ) (ls back : List Line) → ls ≡ [] ++ (main_lines ++ back) → SpotsAt n ls 0 main_lines
unfolding main_lines some_reserved first_below
main_spots n ls back whole =
    let plainly = at_plain n ls [] main_lines back whole in
    let highly = at_high n ls [] main_lines back whole in
    let lowly = at_low n ls [] main_lines back whole in
    let load : IsEntry ls 8 = part_entry n ls [] main_lines back whole 8 (lit< tt) refl in
    from_row n ls 0 main_lines (
    plainly 0 (addi 2 2 (minus 32)) (lit< tt) refl (lit< tt, lit< tt, lit< tt) refl tt
    ▸ plainly 1 (sd 1 24 2) (lit< tt) refl (lit< tt, lit< tt, lit< tt) refl tt
    ▸ plainly 2 (sd 8 16 2) (lit< tt) refl (lit< tt, lit< tt, lit< tt) refl tt
    ▸ plainly 3 (sd 9 8 2) (lit< tt) refl (lit< tt, lit< tt, lit< tt) refl tt
    ▸ highly 4 8 0 (lit< tt) refl (lit< tt, lit< tt) refl refl
    ▸ lowly 5 (addi 8 8 0) 0 (lit< tt) refl (lit< tt, lit< tt, lit< tt) refl refl
    ▸ highly 6 9 16000 (lit< tt) refl (lit< tt, lit< tt) refl refl
    ▸ lowly 7 (addi 9 9 0) 16000 (lit< tt) refl (lit< tt, lit< tt, lit< tt) refl refl
    ▸ plainly 8 (ld 5 0 8) (lit< tt) refl (lit< tt, lit< tt, lit< tt) refl tt
    ▸ plainly 9 (jalr 1 0 5) (lit< tt) refl (lit< tt, lit< tt, lit< tt) refl tt
    ▸ plainly 10 (addi 8 8 8) (lit< tt) refl (lit< tt, lit< tt, lit< tt) refl tt
    ▸ plainly 11 (bne 8 9 (minus 6)) (lit< tt) refl (lit< tt, lit< tt, lit< tt) refl (8, load, refl)
    ▸ plainly 12 (ld 9 8 2) (lit< tt) refl (lit< tt, lit< tt, lit< tt) refl tt
    ▸ plainly 13 (ld 8 16 2) (lit< tt) refl (lit< tt, lit< tt, lit< tt) refl tt
    ▸ plainly 14 (ld 1 24 2) (lit< tt) refl (lit< tt, lit< tt, lit< tt) refl tt
    ▸ plainly 15 (addi 2 2 32) (lit< tt) refl (lit< tt, lit< tt, lit< tt) refl tt
    ▸ plainly 16 (jalr 0 0 1) (lit< tt) refl (lit< tt, lit< tt, lit< tt) refl tt
    ▸ tt)

-- the parts of a function that stands after some lines, and before others
module _ (n : ℕ) (ls front back : List Line) where
  opening_spots : (amount : ℕ) → amount < 2 ^ 12 → ls ≡ front ++ (opening_lines amount ++ back)
      → SpotsAt n ls (length front) (opening_lines amount)
  unfolding opening_lines some_reserved first_below
  opening_spots amount small whole =
      let plainly = at_plain n ls front (opening_lines amount) back whole in
      from_row n ls (length front) (opening_lines amount) (
      plainly 0 (addi 2 2 (minus 16)) (lit< tt) refl (lit< tt, lit< tt, lit< tt) refl tt
      ▸ plainly 1 (sd 1 8 2) (lit< tt) refl (lit< tt, lit< tt, lit< tt) refl tt
      ▸ plainly 2 (addi 10 10 amount) (lit< tt) refl (lit< tt, lit< tt, small) refl tt
      ▸ tt)

  closing_spots : ls ≡ front ++ (closing_lines ++ back) → SpotsAt n ls (length front) closing_lines
  unfolding closing_lines some_reserved first_below
  closing_spots whole =
      let plainly = at_plain n ls front closing_lines back whole in
      from_row n ls (length front) closing_lines (
      plainly 0 (ld 1 8 2) (lit< tt) refl (lit< tt, lit< tt, lit< tt) refl tt
      ▸ plainly 1 (addi 2 2 16) (lit< tt) refl (lit< tt, lit< tt, lit< tt) refl tt
      ▸ plainly 2 (jalr 0 0 1) (lit< tt) refl (lit< tt, lit< tt, lit< tt) refl tt
      ▸ tt)

  call_spots : (j : ℕ) → j < n → ls ≡ front ++ (shape_lines (Call j) ++ back) → SpotsAt n ls (length front) (shape_lines (Call j))
  unfolding shape_lines
  call_spots j near whole =
      from_row n ls (length front) (shape_lines (Call j)) (
      at_first n ls front (shape_lines (Call j)) back whole 0 j near (lit< tt) refl refl
      ▸ at_second n ls front (shape_lines (Call j)) back whole 0 j (lit< tt) refl refl
      ▸ tt)

  table_spots : (j : ℕ) → ls ≡ front ++ (shape_lines (Table j) ++ back) → SpotsAt n ls (length front) (shape_lines (Table j))
  unfolding shape_lines some_reserved first_below
  table_spots j whole =
      let b = shape_lines (Table j) in
      from_row n ls (length front) (shape_lines (Table j)) (
      at_high n ls front b back whole 0 5 (8 * j) (lit< tt) refl (lit< tt, lit< tt) refl refl
      ▸ at_low n ls front b back whole 1 (ld 5 0 5) (8 * j) (lit< tt) refl (lit< tt, lit< tt, lit< tt) refl refl
      ▸ at_plain n ls front b back whole 2 (jalr 1 0 5) (lit< tt) refl (lit< tt, lit< tt, lit< tt) refl tt
      ▸ tt)

  -- its branch goes to the line after it
  skip_spots : IsEntry ls (length front + 2) → ls ≡ front ++ (shape_lines Skip ++ back)
      → SpotsAt n ls (length front) (shape_lines Skip)
  unfolding shape_lines some_reserved first_below
  skip_spots over whole =
      let plainly = at_plain n ls front (shape_lines Skip) back whole in
      from_row n ls (length front) (shape_lines Skip) (
      plainly 0 (bne 10 0 4) (lit< tt) refl (lit< tt, lit< tt, lit< tt) refl (length front + 2, over, ap pos (omega arith))
      ▸ plainly 1 (addi 10 10 1) (lit< tt) refl (lit< tt, lit< tt, lit< tt) refl tt
      ▸ tt)

  shape_spots : (shape : Shape) → IsNearShape n shape → IsEntry ls (length front + length (shape_lines shape))
      → ls ≡ front ++ (shape_lines shape ++ back) → SpotsAt n ls (length front) (shape_lines shape)
  unfolding shape_lines
  shape_spots Leaf near after whole = λ k below. absurd (omega arith)
  shape_spots (Call j) near after whole = call_spots j near whole
  shape_spots (Table j) near after whole = table_spots j whole
  shape_spots Skip near after whole = skip_spots after whole

in_parts : (front a b c back : List Line) → front ++ ((a ++ (b ++ c)) ++ back) ≡ front ++ (a ++ ((b ++ c) ++ back))
in_parts front a b c back = simp append_assoc

past_first : (front a b c back : List Line) → front ++ ((a ++ (b ++ c)) ++ back) ≡ (front ++ a) ++ (b ++ (c ++ back))
past_first front a b c back = simp append_assoc

past_second : (front a b c back : List Line) → front ++ ((a ++ (b ++ c)) ++ back) ≡ ((front ++ a) ++ b) ++ (c ++ back)
past_second front a b c back = simp append_assoc

closing_entry : (n : ℕ) (ls front back : List Line) → ls ≡ front ++ (closing_lines ++ back) → IsEntry ls (length front + 0)
unfolding closing_lines
closing_entry n ls front back whole = part_entry n ls front closing_lines back whole 0 (lit< tt) refl

function_spots : (n : ℕ) (ls front back : List Line) (f : Function) → IsNear n f → ls ≡ front ++ (function_lines f ++ back)
    → SpotsAt n ls (length front) (function_lines f)
unfolding function_lines
function_spots n ls front back f near whole =
    let a = opening_lines f.amount in
    let b = shape_lines f.shape in
    let first = whole ∙ in_parts front a b closing_lines back in
    let second = whole ∙ past_first front a b closing_lines back in
    let third = whole ∙ past_second front a b closing_lines back in
    let place : length (front ++ a) ≡ length front + length a = length-append front a in
    let last : length ((front ++ a) ++ b) ≡ length (front ++ a) + length b = length-append (front ++ a) b in
    let after : IsEntry ls (length (front ++ a) + length b) =
    subst (λ t. IsEntry ls t) (omega (arith, last)) (closing_entry n ls ((front ++ a) ++ b) back third) in
    let closing : SpotsAt n ls (length (front ++ a) + length b) closing_lines =
    subst (λ at. SpotsAt n ls at closing_lines) last (closing_spots n ls ((front ++ a) ++ b) back third) in
    let rest : SpotsAt n ls (length (front ++ a)) (b ++ closing_lines) =
    spots_joined n ls (length (front ++ a)) b closing_lines
    (shape_spots n ls (front ++ a) (closing_lines ++ back) f.shape near.shape after second) closing in
    spots_joined n ls (length front) a (b ++ closing_lines)
    (opening_spots n ls front ((b ++ closing_lines) ++ back) f.amount near.amount first)
    (subst (λ at. SpotsAt n ls at (b ++ closing_lines)) place rest)

-- along the functions
functions_spots : (n : ℕ) (ls front : List Line) (fs : List Function) → AreNear n fs → ls ≡ front ++ flat_map function_lines fs
    → SpotsAt n ls (length front) (flat_map function_lines fs)
functions_spots n ls front [] near whole = λ k below. absurd (omega arith)
functions_spots n ls front (f ∷ fs) near whole =
    let rest = flat_map function_lines fs in
    let next = whole ∙ sym (append_assoc front (function_lines f) rest) in
    let others : SpotsAt n ls (length front + length (function_lines f)) rest =
    subst (λ at. SpotsAt n ls at rest) (length-append front (function_lines f))
    (functions_spots n ls (front ++ function_lines f) fs near.1 next) in
    spots_joined n ls (length front) (function_lines f) rest (function_spots n ls front rest f near.0 whole) others

pub program_spots : (n : ℕ) (fs : List Function) → AreNear n fs → (k : ℕ) → k < length (program_lines fs)
    → Spot n (program_lines fs) k
unfolding program_lines
program_spots n fs near k below =
    let functions = flat_map function_lines fs in
    let main : SpotsAt n (program_lines fs) 0 main_lines = main_spots n (program_lines fs) functions refl in
    let same : 0 + k ≡ k = omega arith in
    let start : length main_lines ≡ 0 + length main_lines = omega arith in
    let others : SpotsAt n (program_lines fs) (0 + length main_lines) functions =
    subst (λ at. SpotsAt n (program_lines fs) at functions) start (functions_spots n (program_lines fs) main_lines fs near refl) in
    subst (λ j. Spot n (program_lines fs) j) same (spots_joined n (program_lines fs) 0 main_lines functions main others k below)
