-- The instruction of a place at a map has its fields in range, and writes the register that its word names; `lui x0` has the number that
-- its word has.
use Rattle.std.proofs.Common.{◌≡◌, ℕ, ◌/◌, ◌^◌, ◌<◌, inl, inr, true, List, Some, None, refl, sym, ap, subst, ◌∙◌, lit<, arith, unwrap_or}
use Rattle.std.specs.Prelude.{ℤ, ◌&&◌, not}
use Rattle.std.proofs.lemmas.Bool.{and_parts}
use Rattle.std.proofs.lemmas.Option.{cond_some, same_Some}
use Rattle.rv_word.proofs.Cases.{cases_Option, mapped}
use Rattle.cfi_writer.proofs.Prelude.{hi20, lo12, low_bits, is_high_in_range, IsInstr, written, Instr, Upper, Jalr, Load, Store, Immediate, UpperOp, Lui, Auipc, decoded, code_of, distance, distance_to, high_part, instr_at, low_part, patched_instr, value_at, with_lower, with_upper, Program, item_of, names_reserved, stands_on, suits, Patch}
use Rattle.rv_code.proofs.Inverse.{code_of-decoded, decoded-in_range}
use Rattle.rv_reloc.proofs.Pair.{below}
use Rattle.obj_input.specs.declared.item_kind.ItemKind.TheVariants as is
use Rattle.obj_program.specs.Sound.{is_of}
use Rattle.obj_program.specs.declared.item.Patch.TheVariants as put

upper_range : (i : Instr) (field : ℕ) → field < 2 ^ 20 → IsInstr i → IsInstr (with_upper i field)
upper_range (Upper op rd imm) field small range = (range.0, small)
upper_range other field small range = range

lower_range : (i : Instr) (field : ℕ) → field < 2 ^ 12 → IsInstr i → IsInstr (with_lower i field)
lower_range (Jalr rd rs1 imm) field small range = (range.0, range.1, small)
lower_range (Load op rd rs1 imm) field small range = (range.0, range.1, small)
lower_range (Store op rs1 rs2 imm) field small range = (range.0, range.1, small)
lower_range (Immediate op rd rs1 imm) field small range = (range.0, range.1, small)
lower_range other field small range = range

high_range : (i j : Instr) (value : ℤ) → IsInstr i → high_part i value ≡ Some j → IsInstr j
high_range i j value range gives =
    let g = cond_some (is_high_in_range value) (with_upper i (low_bits 20 (hi20 value))) j gives in
    subst IsInstr g.1 (upper_range i (low_bits 20 (hi20 value)) (below 20 (hi20 value) (lit< tt)) range)

low_range : (i j : Instr) (value : ℤ) → IsInstr i → low_part i value ≡ j → IsInstr j
low_range i j value range gives = subst IsInstr gives (lower_range i (low_bits 12 (lo12 value)) (below 12 (lo12 value) (lit< tt)) range)

patched_range : (program : Program) (gates words : List ℕ) (k : ℕ) (i j : Instr) (patch : Patch) → IsInstr i → patched_instr program gates words k i patch ≡ Some j → IsInstr j
patched_range program gates words k i j put.Own range gives = subst IsInstr (same_Some i j gives) range
patched_range program gates words k i j (put.High v) range gives = high_range i j (value_at gates v) range gives
patched_range program gates words k i j (put.RelativeHigh v) range gives = high_range i j (distance_to gates words k v) range gives
patched_range program gates words k i j (put.Low v) range gives = low_range i j (value_at gates v) range (same_Some (low_part i (value_at gates v)) j gives)
patched_range program gates words k i j (put.RelativeLow n) range gives =
    let from = mapped (low_part i) (distance gates words n (item_of program n).patch) j gives in
    low_range i j from.0 range from.2

pub instr_range : (program : Program) (gates words : List ℕ) (k : ℕ) (j : Instr) → (item_of program k).word < 2 ^ 32 →
    instr_at program gates words k ≡ Some j → IsInstr j
unfolding instr_at
instr_range program gates words k j small gives =
    elim (cases_Option (decoded (item_of program k).word)) [
      | inl none ↦ let wrong : None ≡ Some j = rw none at gives in absurd (cc)
      | inr (i, is) ↦
          let own : patched_instr program gates words k i (item_of program k).patch ≡ Some j = rw is at gives in
          patched_range program gates words k i j (item_of program k).patch (decoded-in_range (item_of program k).word i small is) own
    ]

-- and so has what stands for a place without one
pub instr_there : (program : Program) (gates words : List ℕ) (k : ℕ) (d : Instr) → (item_of program k).word < 2 ^ 32 → IsInstr d →
    IsInstr (unwrap_or (instr_at program gates words k) d)
instr_there program gates words k d small range =
    elim (cases_Option (instr_at program gates words k)) [
      | inl none ↦ rw none range
      | inr (j, some) ↦ rw some (instr_range program gates words k j small some)
    ]

-- it writes what its word does: a relocation changes immediates alone
upper_written : (i : Instr) (field : ℕ) → written (with_upper i field) ≡ written i
upper_written (Upper op rd imm) field = refl
upper_written other field = refl

lower_written : (i : Instr) (field : ℕ) → written (with_lower i field) ≡ written i
lower_written (Jalr rd rs1 imm) field = refl
lower_written (Load op rd rs1 imm) field = refl
lower_written (Store op rs1 rs2 imm) field = refl
lower_written (Immediate op rd rs1 imm) field = refl
lower_written other field = refl

high_written : (i j : Instr) (value : ℤ) → high_part i value ≡ Some j → written j ≡ written i
high_written i j value gives =
    let g = cond_some (is_high_in_range value) (with_upper i (low_bits 20 (hi20 value))) j gives in
    sym (ap written g.1) ∙ upper_written i (low_bits 20 (hi20 value))

low_written : (i j : Instr) (value : ℤ) → low_part i value ≡ j → written j ≡ written i
low_written i j value gives = sym (ap written gives) ∙ lower_written i (low_bits 12 (lo12 value))

patched_written : (program : Program) (gates words : List ℕ) (k : ℕ) (i j : Instr) (patch : Patch) →
    patched_instr program gates words k i patch ≡ Some j → written j ≡ written i
patched_written program gates words k i j put.Own gives = sym (ap written (same_Some i j gives))
patched_written program gates words k i j (put.High v) gives = high_written i j (value_at gates v) gives
patched_written program gates words k i j (put.RelativeHigh v) gives = high_written i j (distance_to gates words k v) gives
patched_written program gates words k i j (put.Low v) gives = low_written i j (value_at gates v) (same_Some (low_part i (value_at gates v)) j gives)
patched_written program gates words k i j (put.RelativeLow n) gives =
    let from = mapped (low_part i) (distance gates words n (item_of program n).patch) j gives in
    low_written i j from.0 from.2

pub instr_written : (program : Program) (gates words : List ℕ) (k : ℕ) (i j : Instr) → decoded (item_of program k).word ≡ Some i →
    instr_at program gates words k ≡ Some j → written j ≡ written i
unfolding instr_at
instr_written program gates words k i j read gives =
    let own : patched_instr program gates words k i (item_of program k).patch ≡ Some j = rw read at gives in
    patched_written program gates words k i j (item_of program k).patch own

-- no relocation stands on `lui x0`, and none on a system instruction
own_gate : (program : Program) (gates words : List ℕ) (k : ℕ) (i j : Instr) (patch : Patch) → stands_on patch is.Gate i ≡ true →
    patched_instr program gates words k i patch ≡ Some j → i ≡ j
own_gate program gates words k i j put.Own stands gives = same_Some i j gives
own_gate program gates words k i j (put.High v) stands gives = absurd (cc)
own_gate program gates words k i j (put.RelativeHigh v) stands gives = absurd (cc)
own_gate program gates words k i j (put.Low v) stands gives = absurd (cc)
own_gate program gates words k i j (put.RelativeLow n) stands gives = absurd (cc)

own_call : (program : Program) (gates words : List ℕ) (k : ℕ) (i j : Instr) (patch : Patch) → stands_on patch is.System i ≡ true →
    patched_instr program gates words k i patch ≡ Some j → i ≡ j
own_call program gates words k i j put.Own stands gives = same_Some i j gives
own_call program gates words k i j (put.High v) stands gives = absurd (cc)
own_call program gates words k i j (put.RelativeHigh v) stands gives = absurd (cc)
own_call program gates words k i j (put.Low v) stands gives = absurd (cc)
own_call program gates words k i j (put.RelativeLow n) stands gives = absurd (cc)

-- so a system instruction is that of its word
pub own_system : (program : Program) (gates words : List ℕ) (k : ℕ) (j : Instr) →
    is_of is.System (item_of program k).patch (decoded (item_of program k).word) ≡ true → instr_at program gates words k ≡ Some j →
    decoded (item_of program k).word ≡ Some j
unfolding instr_at
own_system program gates words k j read gives =
    elim (cases_Option (decoded (item_of program k).word)) [
      | inl none ↦ let wrong : None ≡ Some j = rw none at gives in absurd (cc)
      | inr (i, e) ↦
          let own : patched_instr program gates words k i (item_of program k).patch ≡ Some j = rw e at gives in
          let of : is_of is.System (item_of program k).patch (Some i) ≡ true = rw e at read in
          let stands = (and_parts (suits is.System i && not (names_reserved i)) (stands_on (item_of program k).patch is.System i) of).1 in
          e ∙ ap Some (own_call program gates words k i j (item_of program k).patch stands own)
    ]

-- the number of `lui x0` is that of its word
number_of : (op : UpperOp) (rd imm word : ℕ) → rd < 32 → imm < 2 ^ 20 → code_of (Upper op rd imm) ≡ word → imm ≡ word / 2 ^ 12
unfolding code_of
number_of Lui rd imm word low small is = omega arith
number_of Auipc rd imm word low small is = omega arith

pub gate_number : (program : Program) (gates words : List ℕ) (k : ℕ) (op : UpperOp) (rd imm : ℕ) → (item_of program k).word < 2 ^ 32 →
    is_of is.Gate (item_of program k).patch (decoded (item_of program k).word) ≡ true → instr_at program gates words k ≡ Some (Upper op rd imm) →
    imm ≡ (item_of program k).word / 2 ^ 12
unfolding instr_at
gate_number program gates words k op rd imm small read gives =
    elim (cases_Option (decoded (item_of program k).word)) [
      | inl none ↦ let wrong : None ≡ Some (Upper op rd imm) = rw none at gives in absurd (cc)
      | inr (i, e) ↦
          let own : patched_instr program gates words k i (item_of program k).patch ≡ Some (Upper op rd imm) = rw e at gives in
          let of : is_of is.Gate (item_of program k).patch (Some i) ≡ true = rw e at read in
          let stands = (and_parts (suits is.Gate i && not (names_reserved i)) (stands_on (item_of program k).patch is.Gate i) of).1 in
          let same = own_gate program gates words k i (Upper op rd imm) (item_of program k).patch stands own in
          let here : decoded (item_of program k).word ≡ Some (Upper op rd imm) = e ∙ ap Some same in
          let range = decoded-in_range (item_of program k).word (Upper op rd imm) small here in
          number_of op rd imm (item_of program k).word range.0 range.1 (code_of-decoded (item_of program k).word (Upper op rd imm) small here)
    ]
