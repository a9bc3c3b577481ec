-- How a program is placed at a legal map.
use Rattle.std.proofs.Common.{◌≡◌, ℕ, zero, suc, ◌+◌, ◌^◌, ◌%◌, ◌<◌, ◌==◌, nat_lt, nat_le, true, false, List, [], ◌∷◌, ◌++◌, length, length-append, inl, inr, Option, Some, sym, ap, subst, ◌∙◌, arith, unwrap_or}
use Rattle.std.specs.Prelude.{◌&&◌, slice_index}
use Rattle.std.specs.List.{list_all}
use Rattle.std.specs.List.Sorted.{IsStrictlyIncreasing}
use Rattle.std.proofs.Math.Seq.{get_or-append_seam}
use Rattle.std.proofs.lemmas.Bool.{and_parts, cases_lt, ltb-true}
use Rattle.std.proofs.lemmas.List.{get_or_append_left}
use Rattle.src_machine.proofs.Prelude.{placed, zeros, profile_for, CODE_SIZE, CODE_START, DATA_START, Form, cleared, set_reg, MapLine, IsMap, MapParts, is_gate, map_line_in_range, decoded, data_at, Program, count, is_end, item_of, ClosedGraph, entered_at, IsLegalMap, gates_of, Source, init_here, instr_here, source_start, AreRead, ProgramAtMap}
use Rattle.cfi_map.proofs.PartSizes.{gates_rise}
use Rattle.cfi_map.proofs.Placing.{as_many_gates}

-- a gate of a map lies in code
gate_small : (form : Form) (line : MapLine) → map_line_in_range form line ≡ true → line.gate < 2 ^ 32
gate_small form line fits =
    let three = and_parts (is_gate form line.gate && line.offset % 4 == 0 && nat_lt line.section (2 ^ 16)) (nat_lt line.offset (2 ^ 32)) fits in
    let two = and_parts (is_gate form line.gate && line.offset % 4 == 0) (nat_lt line.section (2 ^ 16)) three.0 in
    let one = and_parts (is_gate form line.gate) (line.offset % 4 == 0) two.0 in
    let end = and_parts (line.gate % 4 == 0 && nat_le (profile_for form).units_from line.gate) (nat_lt line.gate (CODE_START + CODE_SIZE)) one.0 in
    let high = ltb-true line.gate (CODE_START + CODE_SIZE) end.1 in
    omega arith

small_all : (form : Form) (lines : List MapLine) → list_all (map_line_in_range form) lines ≡ true → (k : ℕ) → slice_index (gates_of lines) k < 2 ^ 32
small_all form [] fits k = omega arith
small_all form (line ∷ lines) fits zero = gate_small form line (and_parts (map_line_in_range form line) (list_all (map_line_in_range form) lines) fits).0
small_all form (line ∷ lines) fits (suc k) = small_all form lines (and_parts (map_line_in_range form line) (list_all (map_line_in_range form) lines) fits).1 k

pub gates_small : (g : MapParts) → IsMap g → (gates : List ℕ) → gates ≡ gates_of g.lines → (k : ℕ) → slice_index gates k < 2 ^ 32
gates_small g map gates is k = subst (λ (gs : List ℕ). slice_index gs k < 2 ^ 32) (sym is) (small_all g.form g.lines map.range k)

-- a program at a legal map, at its gates
module _ (program : Program) (closed : ClosedGraph) (entry : ℕ) (g : MapParts) (legal : IsLegalMap program closed entry g) where
  pub gates_counted : (gates : List ℕ) → gates ≡ gates_of g.lines → length gates ≡ count program
  gates_counted gates are =
      ap length are ∙ as_many_gates (entered_at program closed entry) legal.gates.0 0 (profile_for g.form).units_from program.items (gates_of g.lines) legal.gates.1

  pub gates_rising : (gates : List ℕ) → gates ≡ gates_of g.lines → IsStrictlyIncreasing gates
  gates_rising gates are =
      subst IsStrictlyIncreasing (sym are)
      (gates_rise (entered_at program closed entry) legal.gates.0 0 (profile_for g.form).units_from program.items (gates_of g.lines) legal.gates.1)

-- with the word of one instruction more
pub read_more : (layout : ProgramAtMap) (k : ℕ) (code more : List ℕ) (word : ℕ) → AreRead layout k code →
    (is_end (item_of layout.program k).kind ≡ false → decoded word ≡ Some (instr_here layout k)) → more ≡ code ++ word ∷ [] → AreRead layout (k + 1) more
read_more layout k code more word of here is = record {
  counted = ap length is ∙ length-append code (word ∷ []) ∙ ap (λ n. n + 1) of.counted;
  read = λ j below instruction. elim (cases_lt j k) [
    | inl before ↦
        let inside : j < length code = omega (arith, of.counted) in
        ap decoded (ap (λ (c : List ℕ). slice_index c j) is ∙ get_or_append_left code (word ∷ []) 0 j inside) ∙ of.read j before instruction
    | inr past ↦
        let same : k ≡ j = omega arith in
        let last : j ≡ length code = omega (arith, of.counted) in
        ap decoded (ap (λ (c : List ℕ). slice_index c j) is ∙ ap (λ (n : ℕ). slice_index (code ++ word ∷ []) n) last ∙ get_or-append_seam code word [] 0)
        ∙ subst (λ (n : ℕ). is_end (item_of layout.program n).kind ≡ false → decoded word ≡ Some (instr_here layout n)) same here instruction
  ];
}

-- the state in which a program starts whose data are these
pub started : (layout : ProgramAtMap) (input init : List ℕ) (closing entry : ℕ) → closing ≡ layout.profile.closing → entry ≡ layout.entry →
    data_at layout.program layout.gates ≡ Some init →
    ◌≡◌ {A = Source} (record {
      place = Some entry;
      regs = set_reg (set_reg cleared 2 (2 ^ 28)) 1 closing;
      shared = record { memory = placed zeros DATA_START init; left = input; output = []; events = [] };
      pending = [];
    }) (source_start layout input)
started layout input init closing entry one at are =
    let filled : init ≡ init_here layout = sym (ap (λ (o : Option (List ℕ)). unwrap_or o []) are) in
    λ i. record {
      place = Some (at i);
      regs = set_reg (set_reg cleared 2 (2 ^ 28)) 1 (one i);
      shared = record { memory = placed zeros DATA_START (filled i); left = input; output = []; events = [] };
      pending = [];
    }
