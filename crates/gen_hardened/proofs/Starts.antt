-- Each function's symbol stands for the line where the function begins.
use Rattle.std.proofs.Common.{◌≡◌, ℕ, zero, suc, ◌+◌, ◌*◌, ◌<◌, false, List, [], ◌∷◌, ◌++◌, length, get_or, refl, sym, ap, ap₂, ◌∙◌, arith, append_assoc, length-append}
use Rattle.std.specs.List.{flat_map}
use Rattle.gen_hardened.proofs.Prelude.{SymbolPart, no_symbol, Within, Function, function_lines, function_symbol, main_lines, opening_lines, program_lines, function_symbols, Line, code_size, symbol_definition}
use Rattle.gen_hardened.proofs.Encoded.{line}
use Rattle.gen_hardened.proofs.Spots.{IsEntry, is_tail, part_entry}

-- a symbol stands for a line that may be gone to
record IsStart (ls : List Line) (s : SymbolPart) : Type 0 where
  place : ℕ
  entry : IsEntry ls place
  section : s.section ≡ 1
  value : s.value ≡ 4 * place

-- a function begins with no second word of a call
begins : (f : Function) → (0 < length (function_lines f)) × (is_tail (line (function_lines f) 0).instr ≡ false)
unfolding function_lines opening_lines
begins f = (omega arith, refl)

starts_along : (ls front : List Line) (fs : List Function) (at i j : ℕ) → ls ≡ front ++ flat_map function_lines fs
    → at ≡ 4 * length front → j < length fs → IsStart ls (get_or (function_symbols at i fs) j no_symbol)
unfolding function_symbols
starts_along ls front [] at i j whole place below = absurd (omega arith)
starts_along ls front (f ∷ fs) at i zero whole place below =
    let first = begins f in
    let same : length front + 0 ≡ length front = omega arith in
    record {
      place = length front + 0;
      entry = part_entry 0 ls front (function_lines f) (flat_map function_lines fs) whole 0 first.0 first.1;
      section = refl;
      value = omega arith;
    }
starts_along ls front (f ∷ fs) at i (suc j) whole place below =
    starts_along ls (front ++ function_lines f) fs (at + code_size (function_lines f)) (i + 1) j
    (whole ∙ sym (append_assoc front (function_lines f) (flat_map function_lines fs)))
    (omega (arith, length-append front (function_lines f))) (omega arith)

pub function_start : (fs : List Function) (j : ℕ) → j < length fs
    → (t : ℕ) × IsEntry (program_lines fs) t × (symbol_definition fs (function_symbol j) ≡ Within 1 (4 * t))
unfolding program_lines
function_start fs j below =
    let start = starts_along (program_lines fs) main_lines fs (code_size main_lines) 0 j refl refl below in
    let number : j + 3 ≡ suc (suc (suc j)) = omega arith in
    (start.place, start.entry, ap (symbol_definition fs) number ∙ ap₂ Within start.section start.value)
