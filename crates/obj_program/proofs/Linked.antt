-- The word that a linker writes is decoded to the instruction with the new immediate.
use Rattle.std.proofs.Common.{◌≡◌, ℕ, ◌+◌, ◌*◌, ◌/◌, ◌%◌, ◌^◌, ◌<◌, ◌≤◌, Bool, true, false, Option, Some, None, List, refl, ap, sym, subst, ◌∙◌, lit<, arith}
use Rattle.std.specs.Prelude.{ℤ, option_and_then, option_map, if◌then◌else◌}
use Rattle.std.proofs.lemmas.Bool.{and_parts}
use Rattle.rv_instr.specs.declared.instr.Instr.{Instr}
use Rattle.rv_instr.specs.declared.instr.Instr.TheVariants.{Upper, Jalr, Load, Store, Immediate}
use Rattle.rv_instr.specs.declared.instr.UpperOp.{UpperOp}
use Rattle.rv_instr.specs.declared.instr.UpperOp.TheVariants.{Lui, Auipc}
use Rattle.rv_instr.specs.declared.instr.LoadOp.{LoadOp}
use Rattle.rv_instr.specs.declared.instr.LoadOp.TheVariants.{Lb, Lh, Lw, Ld, Lbu, Lhu, Lwu}
use Rattle.rv_instr.specs.declared.instr.StoreOp.{StoreOp}
use Rattle.rv_instr.specs.declared.instr.StoreOp.TheVariants.{Sb, Sh, Sw, Sd}
use Rattle.rv_instr.specs.declared.instr.ImmediateOp.{ImmediateOp}
use Rattle.rv_instr.specs.declared.instr.ImmediateOp.TheVariants.{Addi, Slti, Sltiu, Xori, Ori, Andi, Addiw}
use Rattle.rv_code.specs.Decode.{decoded}
use Rattle.rv_code.specs.Encode.{code_of, immediate_code, load_code, store_code, upper_code}
use Rattle.rv_code.proofs.Inverse.{code_of-decoded, decoded-in_range}
use Rattle.rv_code.proofs.ReadBack.{decoded-code_of}
use Rattle.rv_reloc.specs.Value.{hi20, lo12, low_bits}
use Rattle.rv_reloc.specs.Word.{is_high_in_range, with_bits, with_i, with_s, with_u}
use Rattle.rv_reloc.specs.declared.kinds.CodePatch.{CodePatch}
use Rattle.rv_reloc.specs.declared.kinds.CodePatch.TheVariants.{Hi20, Lo12S}
use Rattle.rv_reloc.proofs.Pair.{below}
use Rattle.obj_input.specs.declared.item_kind.ItemKind.{ItemKind}
use Rattle.obj_program.specs.declared.item.Patch.{Patch}
use Rattle.obj_program.specs.declared.item.Patch.TheVariants as put
use Rattle.obj_program.specs.AtMap.{distance, distance_to, high_part, instr_at, low_part, patched_instr, value_at, with_lower}
use Rattle.obj_program.specs.LinkedWord.{LinkedIsDecoded, linked, linked_by, low_kind}
use Rattle.obj_program.specs.Program.{Program, item_of}
use Rattle.obj_program.specs.Suits.{has_lower, is_upper, stands_on}
use Rattle.obj_program.specs.Sound.{is_of}
use Rattle.obj_program.proofs.Read.{read_there}

-- what an operation fixes in a word lies below the fields past it
upper_low : (op : UpperOp) → upper_code op < 2 ^ 7
upper_low Lui = omega arith
upper_low Auipc = omega arith

load_low : (op : LoadOp) → load_code op ≤ 0x707f
load_low Lb = omega arith
load_low Lh = omega arith
load_low Lw = omega arith
load_low Ld = omega arith
load_low Lbu = omega arith
load_low Lhu = omega arith
load_low Lwu = omega arith

immediate_low : (op : ImmediateOp) → immediate_code op ≤ 0x707f
immediate_low Addi = omega arith
immediate_low Slti = omega arith
immediate_low Sltiu = omega arith
immediate_low Xori = omega arith
immediate_low Ori = omega arith
immediate_low Andi = omega arith
immediate_low Addiw = omega arith

store_low : (op : StoreOp) → (funct3 : ℕ) × (funct3 < 8) × (store_code op ≡ 0x23 + 2 ^ 12 * funct3)
store_low Sb = (0, omega arith, refl)
store_low Sh = (1, omega arith, refl)
store_low Sw = (2, omega arith, refl)
store_low Sd = (3, omega arith, refl)

-- a word with another immediate, in the forms I and S
form_i : (word field fixed rd rs1 imm : ℕ) → word < 2 ^ 32 → fixed ≤ 0x707f → rd < 32 → rs1 < 32 →
    fixed + 2 ^ 7 * rd + 2 ^ 15 * rs1 + 2 ^ 20 * imm ≡ word → with_i field word ≡ fixed + 2 ^ 7 * rd + 2 ^ 15 * rs1 + 2 ^ 20 * field
form_i word field fixed rd rs1 imm small low a b is = omega arith

form_s : (word field funct3 rs1 rs2 imm : ℕ) → word < 2 ^ 32 → field < 2 ^ 12 → funct3 < 8 → rs1 < 32 → rs2 < 32 →
    0x23 + 2 ^ 12 * funct3 + 2 ^ 15 * rs1 + 2 ^ 20 * rs2 + (2 ^ 7 * (imm % 2 ^ 5) + 2 ^ 25 * (imm / 2 ^ 5)) ≡ word →
    with_s field word ≡ 0x23 + 2 ^ 12 * funct3 + 2 ^ 15 * rs1 + 2 ^ 20 * rs2 + (2 ^ 7 * (field % 2 ^ 5) + 2 ^ 25 * (field / 2 ^ 5))
form_s word field funct3 rs1 rs2 imm small fits f a b is =
    let low : word % 2 ^ 7 ≡ 0x23 = omega arith in
    let high : word / 2 ^ 12 ≡ funct3 + 2 ^ 3 * rs1 + 2 ^ 8 * rs2 + 2 ^ 13 * (imm / 2 ^ 5) = omega arith in
    let inner : with_bits 7 5 (field % 2 ^ 5) word ≡ 0x23 + 2 ^ 7 * (field % 2 ^ 5) + 2 ^ 12 * (funct3 + 2 ^ 3 * rs1 + 2 ^ 8 * rs2 + 2 ^ 13 * (imm / 2 ^ 5)) = omega arith in
    ap (with_bits 25 7 (field / 2 ^ 5)) inner ∙ omega arith

-- the immediate of the form into which a low part goes
abbrev with_low : CodePatch → ℕ → ℕ → ℕ
with_low Lo12S field word = with_s field word
with_low other field word = with_i field word

-- a linked word is decoded to the instruction with the new immediate
module _ (word field : ℕ) (small : word < 2 ^ 32) where
  upper_linked : (op : UpperOp) (rd imm : ℕ) → field < 2 ^ 20 → decoded word ≡ Some (Upper op rd imm) →
      decoded (with_u field word) ≡ Some (Upper op rd field)
  unfolding code_of
  upper_linked op rd imm fits is =
      let code = code_of-decoded word (Upper op rd imm) small is in
      let range = decoded-in_range word (Upper op rd imm) small is in
      let low = upper_low op in
      let register = range.0 in
      let same : with_u field word ≡ code_of (Upper op rd field) = omega (arith, code) in
      ap decoded same ∙ decoded-code_of (Upper op rd field) (range.0, fits)

  lower_linked : (i : Instr) → field < 2 ^ 12 → has_lower i ≡ true → decoded word ≡ Some i →
      decoded (with_low (low_kind (Some i)) field word) ≡ Some (with_lower i field)
  unfolding code_of
  lower_linked (Jalr rd rs1 imm) fits has is =
      let code = code_of-decoded word (Jalr rd rs1 imm) small is in
      let range = decoded-in_range word (Jalr rd rs1 imm) small is in
      ap decoded (form_i word field 0x67 rd rs1 imm small (omega arith) range.0 range.1 code) ∙ decoded-code_of (Jalr rd rs1 field) (range.0, range.1, fits)
  lower_linked (Load op rd rs1 imm) fits has is =
      let code = code_of-decoded word (Load op rd rs1 imm) small is in
      let range = decoded-in_range word (Load op rd rs1 imm) small is in
      ap decoded (form_i word field (load_code op) rd rs1 imm small (load_low op) range.0 range.1 code)
      ∙ decoded-code_of (Load op rd rs1 field) (range.0, range.1, fits)
  lower_linked (Immediate op rd rs1 imm) fits has is =
      let code = code_of-decoded word (Immediate op rd rs1 imm) small is in
      let range = decoded-in_range word (Immediate op rd rs1 imm) small is in
      ap decoded (form_i word field (immediate_code op) rd rs1 imm small (immediate_low op) range.0 range.1 code)
      ∙ decoded-code_of (Immediate op rd rs1 field) (range.0, range.1, fits)
  lower_linked (Store op rs1 rs2 imm) fits has is =
      let code = code_of-decoded word (Store op rs1 rs2 imm) small is in
      let range = decoded-in_range word (Store op rs1 rs2 imm) small is in
      let (funct3, few, fixed_is) = store_low op in
      let parts = ap (λ n. n + 2 ^ 15 * rs1 + 2 ^ 20 * rs2 + (2 ^ 7 * (imm % 2 ^ 5) + 2 ^ 25 * (imm / 2 ^ 5))) (sym fixed_is) ∙ code in
      let back = ap (λ n. n + 2 ^ 15 * rs1 + 2 ^ 20 * rs2 + (2 ^ 7 * (field % 2 ^ 5) + 2 ^ 25 * (field / 2 ^ 5))) (sym fixed_is) in
      ap decoded (form_s word field funct3 rs1 rs2 imm small fits few range.0 range.1 parts ∙ back)
      ∙ decoded-code_of (Store op rs1 rs2 field) (range.0, range.1, fits)
  lower_linked other fits has is = absurd (cc)

if_taken : (b : Bool) (i : Instr) (w : ℕ) → decoded w ≡ Some i →
    (if b then Some i else None) ≡ option_and_then decoded (if b then Some w else None)
if_taken true i w is = sym is
if_taken false i w is = refl

module _ (word : ℕ) (i : Instr) (small : word < 2 ^ 32) (is : decoded word ≡ Some i) where
  high_linked : (value : ℤ) → is_upper i ≡ true → high_part i value ≡ option_and_then decoded (linked Hi20 value word)
  high_linked value upper = high_of i value upper is
    where
      high_of : (j : Instr) (value : ℤ) → is_upper j ≡ true → decoded word ≡ Some j → high_part j value ≡ option_and_then decoded (linked Hi20 value word)
      high_of (Upper op rd imm) value upper is =
          if_taken (is_high_in_range value) _ _ (upper_linked word (low_bits 20 (hi20 value)) small op rd imm (below 20 (hi20 value) (lit< tt)) is)
      high_of other value upper is = absurd (cc)

  low_linked : (value : ℤ) → has_lower i ≡ true → Some (low_part i value) ≡ option_and_then decoded (linked (low_kind (decoded word)) value word)
  low_linked value has =
      subst (λ (o : Option Instr). Some (low_part i value) ≡ option_and_then decoded (linked (low_kind o) value word)) (sym is)
      (sym (lower_linked word (low_bits 12 (lo12 value)) small i (below 12 (lo12 value) (lit< tt)) has is) ∙ low_taken i value)
    where
      low_taken : (j : Instr) (value : ℤ) → decoded (with_low (low_kind (Some j)) (low_bits 12 (lo12 value)) word) ≡
          option_and_then decoded (linked (low_kind (Some j)) value word)
      low_taken (Store op rs1 rs2 imm) value = refl
      low_taken other value = refl

  by_patch : (program : Program) (gates words : List ℕ) (k : ℕ) (kind : ItemKind) (patch : Patch) → stands_on patch kind i ≡ true →
      patched_instr program gates words k i patch ≡ option_and_then decoded (linked_by program gates words k word patch)
  by_patch program gates words k kind put.Own stands = sym is
  by_patch program gates words k kind (put.High v) stands = high_linked (value_at gates v) (and_parts _ _ stands).1
  by_patch program gates words k kind (put.Low v) stands = low_linked (value_at gates v) (and_parts _ _ stands).1
  by_patch program gates words k kind (put.RelativeHigh v) stands = high_linked (distance_to gates words k v) (and_parts _ _ stands).1
  by_patch program gates words k kind (put.RelativeLow j) stands = by_distance (distance gates words j (item_of program j).patch)
    where
      by_distance : (o : Option ℤ) → option_map (low_part i) o ≡
          option_and_then decoded (option_and_then (λ value. linked (low_kind (decoded word)) value word) o)
      by_distance None = refl
      by_distance (Some value) = low_linked value (and_parts _ _ stands).1

by_read : (program : Program) (gates words : List ℕ) (k word : ℕ) (kind : ItemKind) (patch : Patch) (o : Option Instr) → word < 2 ^ 32 →
    decoded word ≡ o → is_of kind patch o ≡ true →
    option_and_then (λ i. patched_instr program gates words k i patch) o ≡ option_and_then decoded (linked_by program gates words k word patch)
by_read program gates words k word kind patch None small is read = absurd (cc)
by_read program gates words k word kind patch (Some i) small is read =
    by_patch word i small is program gates words k kind patch (and_parts _ _ read).1

pub linked_is_decoded : LinkedIsDecoded
unfolding instr_at
linked_is_decoded program gates words k sound below some small =
    by_read program gates words k (item_of program k).word (item_of program k).kind (item_of program k).patch (decoded (item_of program k).word) small refl
    (read_there program k sound below some)
