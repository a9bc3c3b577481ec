-- The instruction in each hole: a word that is as a pattern says is that of an instruction of its form, with
-- fields in range, and the word of such an instruction is as the pattern says.
use Rattle.std.proofs.Common.{◌≡◌, ◌≢◌, ℕ, ◌==◌, ◌&&◌, ◌<◌, ◌^◌, Bool, true, false, not, refl, ap, sym, ◌∙◌}
use Rattle.std.specs.Prelude.{Option, Some, None, nat_lt, if◌then◌else◌, is_none}
use Rattle.std.proofs.lemmas.Bool.{and_parts, eqb-false, eqb-true, ltb-true, not-true}
use Rattle.rv_word.specs.Numbers.{IsNumber}
use Rattle.rv_instr.specs.InRange.{IsInstr}
use Rattle.rv_instr.specs.declared.instr.Instr.{Instr}
use Rattle.rv_instr.specs.declared.instr.Instr.TheVariants.{Upper, Jal, Branch, Store, Immediate, Register}
use Rattle.rv_instr.specs.declared.instr.UpperOp.TheVariants.{Lui, Auipc}
use Rattle.rv_instr.specs.declared.instr.ImmediateOp.TheVariants.{Addi}
use Rattle.rv_instr.specs.declared.instr.BranchOp.{BranchOp}
use Rattle.rv_instr.specs.declared.instr.RegisterOp.TheVariants.{And}
use Rattle.rv_code.specs.Decode.{decoded}
use Rattle.rv_code.specs.Encode.{code_of}
use Rattle.rv_code.proofs.Inverse.{code_of-decoded, decoded-in_range}
use Rattle.rv_code.proofs.ReadBack.{decoded-code_of}
use Rattle.cfi_unit.specs.declared.members.Member.{Member}
use Rattle.cfi_unit.specs.declared.pattern.Pattern.TheVariants as P
use Rattle.cfi_unit.specs.Members.{IsMember, member_instr, member_of}
use Rattle.cfi_unit.specs.Reach.{led_to}
use Rattle.cfi_unit.specs.UnitWords.{BAD_TARGET, Reaches, gate, is_plain, jump_offset, is_jump}
use Rattle.cfi_unit.specs.Patterns.{decodes_to, has_form, matches}
use Rattle.cfi_unit.proofs.LedBack.{led_back}

-- the instruction that a word is
record Formed (test : Instr → Bool) (w : ℕ) : Type 0 where
  pub instr : Instr
  pub has : test instr ≡ true
  pub code : code_of instr ≡ w
  pub fields : IsInstr instr

formed : (test : Instr → Bool) (w : ℕ) → w < 2 ^ 32 → decodes_to test (decoded w) ≡ true → Formed test w
formed test w small e = by (decoded w) refl e
  where
    by : (o : Option Instr) → decoded w ≡ o → decodes_to test o ≡ true → Formed test w
    by None is e = absurd (cc)
    by (Some i) is e = record { instr = i; has = e; code = code_of-decoded w i small is; fields = decoded-in_range w i small is }

-- the word of an instruction passes a test that the instruction passes
pub passes : (test : Instr → Bool) (i : Instr) → IsInstr i → test i ≡ true → decodes_to test (decoded (code_of i)) ≡ true
passes test i fields has = ap (decodes_to test) (decoded-code_of i fields) ∙ has

-- a gate
gate_form : (here : ℕ) (i : Instr) → has_form P.Gate here i ≡ true → IsInstr i → (label : ℕ) × ((label < 2 ^ 20) × (i ≡ gate label))
gate_form here (Upper Lui rd imm) e r = (imm, (r.1, ap (λ k. Upper Lui k imm) (eqb-true rd 0 e)))
gate_form here (Upper Auipc rd imm) e r = absurd (cc)
gate_form here other e r = absurd (cc)

pub gate_hole : (w here : ℕ) → w < 2 ^ 32 → matches P.Gate w here ≡ true → (label : ℕ) × ((label < 2 ^ 20) × (code_of (gate label) ≡ w))
gate_hole w here small m =
    let f = formed (has_form P.Gate here) w small m in
    let (label, (low, is)) = gate_form here f.instr f.has f.fields in
    (label, (low, ap code_of (sym is) ∙ f.code))

-- a label that is asked for
label_form : (here : ℕ) (i : Instr) → has_form P.Label here i ≡ true → IsInstr i → (label : ℕ) × ((label < 2 ^ 20) × (i ≡ Upper Lui 4 label))
label_form here (Upper Lui rd imm) e r = (imm, (r.1, ap (λ k. Upper Lui k imm) (eqb-true rd 4 e)))
label_form here (Upper Auipc rd imm) e r = absurd (cc)
label_form here other e r = absurd (cc)

pub label_hole : (w here : ℕ) → w < 2 ^ 32 → matches P.Label w here ≡ true → (label : ℕ) × ((label < 2 ^ 20) × (code_of (Upper Lui 4 label) ≡ w))
label_hole w here small m =
    let f = formed (has_form P.Label here) w small m in
    let (label, (low, is)) = label_form here f.instr f.has f.fields in
    (label, (low, ap code_of (sym is) ∙ f.code))

-- a plain instruction
pub plain_hole : (w here : ℕ) → w < 2 ^ 32 → matches P.Plain w here ≡ true → (i : Instr) × ((IsInstr i) × ((is_plain i ≡ true) × (code_of i ≡ w)))
plain_hole w here small m = let f = formed (has_form P.Plain here) w small m in (f.instr, (f.fields, (f.has, f.code)))

-- a branch
pub record IsBranch (w : ℕ) : Type 0 where
  pub op : BranchOp
  pub rs1 : ℕ
  pub rs2 : ℕ
  pub imm : ℕ
  pub fields : IsInstr (Branch op rs1 rs2 imm)
  pub code : code_of (Branch op rs1 rs2 imm) ≡ w

skip_form : (here w : ℕ) (i : Instr) → has_form P.Skip here i ≡ true → IsInstr i → code_of i ≡ w → (b : IsBranch w) × (b.imm ≡ 4)
skip_form here w (Branch op rs1 rs2 imm) e r code =
    (record { op = op; rs1 = rs1; rs2 = rs2; imm = imm; fields = r; code = code }, eqb-true imm 4 e)
skip_form here w other e r code = absurd (cc)

pub skip_hole : (w here : ℕ) → w < 2 ^ 32 → matches P.Skip w here ≡ true → (b : IsBranch w) × (b.imm ≡ 4)
skip_hole w here small m = let f = formed (has_form P.Skip here) w small m in skip_form here w f.instr f.has f.fields f.code

near_form : (here w : ℕ) (i : Instr) → has_form P.Near here i ≡ true → IsInstr i → code_of i ≡ w → (b : IsBranch w) × ((b.imm == 4) ≡ false)
near_form here w (Branch op rs1 rs2 imm) e r code =
    (record { op = op; rs1 = rs1; rs2 = rs2; imm = imm; fields = r; code = code }, not-true (imm == 4) e)
near_form here w other e r code = absurd (cc)

pub near_hole : (w here : ℕ) → w < 2 ^ 32 → matches P.Near w here ≡ true → (b : IsBranch w) × ((b.imm == 4) ≡ false)
near_hole w here small m = let f = formed (has_form P.Near here) w small m in near_form here w f.instr f.has f.fields f.code

-- an instruction that leads from an address to a target
pub record Leads (rd w at : ℕ) : Type 0 where
  pub target : ℕ
  pub reaches : Reaches at target
  pub code : code_of (Jal rd (jump_offset at target)) ≡ w

leads : (rd w at imm : ℕ) → imm < 2 ^ 20 → code_of (Jal rd imm) ≡ w → Leads rd w at
leads rd w at imm small code =
    let back = led_back at imm small in
    record { target = led_to at imm; reaches = ap (led_to at) back; code = ap (λ n. code_of (Jal rd n)) back ∙ code }

jump_form : (w at : ℕ) (i : Instr) → has_form P.Jump at i ≡ true → IsInstr i → code_of i ≡ w → Leads 0 w at
jump_form w at (Jal rd imm) e r code = leads 0 w at imm r.1 (ap (λ k. code_of (Jal k imm)) (sym (eqb-true rd 0 e)) ∙ code)
jump_form w at other e r code = absurd (cc)

pub jump_hole : (w at : ℕ) → w < 2 ^ 32 → matches P.Jump w at ≡ true → Leads 0 w at
jump_hole w at small m = let f = formed (has_form P.Jump at) w small m in jump_form w at f.instr f.has f.fields f.code

link_form : (w at : ℕ) (i : Instr) → has_form P.Link at i ≡ true → IsInstr i → code_of i ≡ w → Leads 1 w at
link_form w at (Jal rd imm) e r code = leads 1 w at imm r.1 (ap (λ k. code_of (Jal k imm)) (sym (eqb-true rd 1 e)) ∙ code)
link_form w at other e r code = absurd (cc)

pub link_hole : (w at : ℕ) → w < 2 ^ 32 → matches P.Link w at ≡ true → Leads 1 w at
link_hole w at small m = let f = formed (has_form P.Link at) w small m in link_form w at f.instr f.has f.fields f.code

goto_form : (w at : ℕ) (i : Instr) → has_form P.Goto at i ≡ true → IsInstr i → code_of i ≡ w → (l : Leads 0 w at) × (l.target ≢ BAD_TARGET)
unfolding leads
goto_form w at (Jal rd imm) e r code =
    let p = and_parts (rd == 0) (not (led_to at imm == BAD_TARGET)) e in
    (leads 0 w at imm r.1 (ap (λ k. code_of (Jal k imm)) (sym (eqb-true rd 0 p.0)) ∙ code), eqb-false (led_to at imm) BAD_TARGET (not-true (led_to at imm == BAD_TARGET) p.1))
goto_form w at other e r code = absurd (cc)

pub goto_hole : (w at : ℕ) → w < 2 ^ 32 → matches P.Goto w at ≡ true → (l : Leads 0 w at) × (l.target ≢ BAD_TARGET)
goto_hole w at small m = let f = formed (has_form P.Goto at) w small m in goto_form w at f.instr f.has f.fields f.code

-- an address
pub record IsAddress (w : ℕ) : Type 0 where
  pub rs1 : ℕ
  pub imm : ℕ
  pub register : rs1 < 32
  pub field : imm < 2 ^ 12
  pub code : code_of (Immediate Addi 31 rs1 imm) ≡ w

address_form : (here w : ℕ) (i : Instr) → has_form P.Address here i ≡ true → IsInstr i → code_of i ≡ w → IsAddress w
address_form here w (Immediate Addi rd rs1 imm) e r code =
    record { rs1 = rs1; imm = imm; register = r.1; field = r.2; code = ap (λ k. code_of (Immediate Addi k rs1 imm)) (sym (eqb-true rd 31 e)) ∙ code }
address_form here w (Immediate other rd rs1 imm) e r code = absurd (cc)
address_form here w other e r code = absurd (cc)

pub address_hole : (w here : ℕ) → w < 2 ^ 32 → matches P.Address w here ≡ true → IsAddress w
address_hole w here small m = let f = formed (has_form P.Address here) w small m in address_form here w f.instr f.has f.fields f.code

-- a short mask
pub record IsMasked (w : ℕ) : Type 0 where
  pub rs1 : ℕ
  pub register : rs1 < 32
  pub code : code_of (Register And 31 rs1 4) ≡ w

masked_form : (here w : ℕ) (i : Instr) → has_form P.Masked here i ≡ true → IsInstr i → code_of i ≡ w → IsMasked w
masked_form here w (Register And rd rs1 rs2) e r code =
    let p = and_parts (rd == 31) (rs2 == 4) e in
    record {
      rs1 = rs1;
      register = r.1;
      code = ap (λ k. code_of (Register And 31 rs1 k)) (sym (eqb-true rs2 4 p.1)) ∙ ap (λ k. code_of (Register And k rs1 rs2)) (sym (eqb-true rd 31 p.0)) ∙ code;
    }
masked_form here w (Register other rd rs1 rs2) e r code = absurd (cc)
masked_form here w other e r code = absurd (cc)

pub masked_hole : (w here : ℕ) → w < 2 ^ 32 → matches P.Masked w here ≡ true → IsMasked w
masked_hole w here small m = let f = formed (has_form P.Masked here) w small m in masked_form here w f.instr f.has f.fields f.code

-- a number of a system call
number_form : (here : ℕ) (i : Instr) → has_form P.Number here i ≡ true → (n : ℕ) × (IsNumber n × (i ≡ Immediate Addi 31 0 n))
number_form here (Immediate Addi rd rs1 imm) e =
    let p = and_parts (rd == 31) ((rs1 == 0) && nat_lt imm 2048) e in
    let q = and_parts (rs1 == 0) (nat_lt imm 2048) p.1 in (
      imm,
      (
        ltb-true imm 2048 q.1,
        ap (λ k. Immediate Addi k rs1 imm) (eqb-true rd 31 p.0) ∙ ap (λ k. Immediate Addi 31 k imm) (eqb-true rs1 0 q.0),
      ),
    )
number_form here (Immediate other rd rs1 imm) e = absurd (cc)
number_form here other e = absurd (cc)

pub number_hole : (w here : ℕ) → w < 2 ^ 32 → matches P.Number w here ≡ true → (n : ℕ) × (IsNumber n × (code_of (Immediate Addi 31 0 n) ≡ w))
number_hole w here small m =
    let f = formed (has_form P.Number here) w small m in
    let (n, (low, is)) = number_form here f.instr f.has in
    (n, (low, ap code_of (sym is) ∙ f.code))

-- a store behind a mask
member_form : (here : ℕ) (i : Instr) → has_form P.Member here i ≡ true → IsInstr i → (m : Member) × (IsMember m × (i ≡ member_instr m))
member_form here (Store op rs1 rs2 imm) e r =
    let p = and_parts (rs1 == 31) (nat_lt imm 2048) e in (
      record { op = op; value = rs2; distance = imm },
      ((r.1, ltb-true imm 2048 p.1), ap (λ k. Store op k rs2 imm) (eqb-true rs1 31 p.0)),
    )
member_form here other e r = absurd (cc)

pub member_hole : (w here : ℕ) → w < 2 ^ 32 → matches P.Member w here ≡ true → (m : Member) × (IsMember m × (code_of (member_instr m) ≡ w))
member_hole w here small m =
    let f = formed (has_form P.Member here) w small m in
    let (member, (low, is)) = member_form here f.instr f.has f.fields in
    (member, (low, ap code_of (sym is) ∙ f.code))

-- a word that goes on with a branch over it, or with stores, is as a pattern says
pub is_jump_by : (here : ℕ) (i : Option Instr) → is_jump i ≡ decodes_to (has_form P.Jump here) i
is_jump_by here None = refl
is_jump_by here (Some (Jal rd imm)) = refl
is_jump_by here (Some other) = refl

pub is_member_by : (here : ℕ) (i : Option Instr) → is_none (member_of i) ≡ not (decodes_to (has_form P.Member here) i)
is_member_by here None = refl
is_member_by here (Some (Store op rs1 rs2 imm)) = none_if ((rs1 == 31) && nat_lt imm 2048) (record { op = op; value = rs2; distance = imm })
  where
    none_if : (b : Bool) (m : Member) → is_none (if b then Some m else None) ≡ not b
    none_if true m = refl
    none_if false m = refl
is_member_by here (Some other) = refl
