-- Where the first word of a unit leads, by its instruction.
use Rattle.std.proofs.Common.{◌≡◌, ◌≢◌, ℕ, ◌/◌, ◌^◌, ◌<◌, ◌==◌, ◌&&◌, Bool, true, false, not, inl, inr, List, [], ◌∷◌, refl, ap, sym, subst, ◌∙◌, arith}
use Rattle.std.specs.Prelude.{Some, None, if◌then◌else◌, nat_lt}
use Rattle.std.proofs.lemmas.Bool.{and_parts, cases_Bool, eqb-true}
use Rattle.rv_instr.specs.Reserved.{is_reserved}
use Rattle.rv_instr.specs.declared.instr.Instr.{Instr}
use Rattle.rv_instr.specs.declared.instr.Instr.TheVariants.{Upper, Jal, Jalr, Branch, Load, Store, Immediate, Shift, ShiftWord, Register, Fence, Ecall, Ebreak}
use Rattle.rv_instr.specs.declared.instr.ImmediateOp.{ImmediateOp}
use Rattle.rv_instr.specs.declared.instr.ImmediateOp.TheVariants.{Addi}
use Rattle.rv_instr.specs.declared.instr.RegisterOp.{RegisterOp}
use Rattle.rv_instr.specs.declared.instr.UpperOp.{UpperOp}
use Rattle.rv_instr.specs.declared.instr.BranchOp.{BranchOp}
use Rattle.rv_instr.specs.declared.instr.ShiftOp.{ShiftOp}
use Rattle.rv_instr.specs.declared.instr.ShiftOp.TheVariants.{Slli}
use Rattle.rv_instr.specs.declared.instr.LoadOp.{LoadOp}
use Rattle.rv_instr.specs.declared.instr.LoadOp.TheVariants.{Ld}
use Rattle.rv_code.specs.Decode.{decoded}
use Rattle.rv_code.specs.Encode.{code_of}
use Rattle.rv_code.proofs.Inverse.{code_of-decoded}
use Rattle.cfi_unit.specs.declared.pattern.Pattern.TheVariants as P
use Rattle.cfi_unit.specs.declared.pattern.End.{End}
use Rattle.cfi_unit.specs.declared.pattern.End.TheVariants as D
use Rattle.cfi_unit.specs.Reach.{led_to}
use Rattle.cfi_unit.specs.UnitWords.{BAD_TARGET, is_lui, skip_offset}
use Rattle.cfi_unit.specs.Patterns.{decodes_to, has_form, is_addi, is_and}
use Rattle.cfi_unit.specs.Shapes.{SHAPES, Shape, shape}
use Rattle.cfi_unit.specs.Opens.{InCode}
use Rattle.cfi_reader.specs.Left.{Reads}
use Rattle.cfi_reader.specs.Nodes.{rest_of}
use Rattle.cfi_reader.specs.Kept.{count_on}
use Rattle.cfi_reader.specs.Reading.{Opened}
use Rattle.cfi_reader.specs.FirstStep.{at_node, first_step, is_leaf_return, is_number, opens_address, opens_call, opens_return, opens_stores, stuck}
use Rattle.cfi_reader.specs.declared.first.First.TheVariants.{More, Done}
use Rattle.cfi_reader.proofs.Begin.{Agrees, FIRSTS, agrees, answers, choose, first_reads, none_agrees, pick}
use Rattle.cfi_reader.proofs.Opening.{done_by, first_entry, is_single, node_by}
use Rattle.cfi_reader.proofs.Entered.{number_there}

-- what each pattern is told, and what that leaves
abbrev told_none : List Bool
told_none = false ∷ false ∷ false ∷ false ∷ false ∷ false ∷ false ∷ false ∷ false ∷ false ∷ false ∷ false ∷ false ∷ false ∷ false ∷ []

abbrev told_gate : List Bool
told_gate = true ∷ false ∷ false ∷ false ∷ false ∷ false ∷ false ∷ false ∷ false ∷ false ∷ false ∷ false ∷ false ∷ false ∷ false ∷ []

abbrev told_plain : List Bool
told_plain = false ∷ true ∷ false ∷ false ∷ false ∷ false ∷ false ∷ false ∷ false ∷ false ∷ false ∷ false ∷ false ∷ false ∷ false ∷ []

abbrev told_stop : List Bool
told_stop = false ∷ false ∷ true ∷ false ∷ false ∷ false ∷ false ∷ false ∷ false ∷ false ∷ false ∷ false ∷ false ∷ false ∷ false ∷ []

abbrev told_jump : List Bool
told_jump = false ∷ false ∷ false ∷ true ∷ false ∷ false ∷ false ∷ false ∷ false ∷ false ∷ false ∷ false ∷ false ∷ false ∷ false ∷ []

abbrev told_ecall : List Bool
told_ecall = false ∷ false ∷ false ∷ false ∷ true ∷ false ∷ false ∷ false ∷ false ∷ false ∷ false ∷ false ∷ false ∷ false ∷ false ∷ []

abbrev told_ebreak : List Bool
told_ebreak = false ∷ false ∷ false ∷ false ∷ false ∷ true ∷ false ∷ false ∷ false ∷ false ∷ false ∷ false ∷ false ∷ false ∷ false ∷ []

abbrev told_near : List Bool
told_near = false ∷ false ∷ false ∷ false ∷ false ∷ false ∷ true ∷ false ∷ false ∷ false ∷ false ∷ false ∷ false ∷ false ∷ false ∷ []

abbrev told_skip : List Bool
told_skip = false ∷ false ∷ false ∷ false ∷ false ∷ false ∷ false ∷ true ∷ false ∷ false ∷ false ∷ false ∷ false ∷ false ∷ false ∷ []

abbrev told_push : List Bool
told_push = false ∷ false ∷ false ∷ false ∷ false ∷ false ∷ false ∷ false ∷ true ∷ false ∷ false ∷ false ∷ false ∷ false ∷ false ∷ []

abbrev told_return : List Bool
told_return = false ∷ false ∷ false ∷ false ∷ false ∷ false ∷ false ∷ false ∷ false ∷ true ∷ false ∷ false ∷ false ∷ false ∷ false ∷ []

abbrev told_address : List Bool
told_address = false ∷ false ∷ false ∷ false ∷ false ∷ false ∷ false ∷ false ∷ false ∷ false ∷ true ∷ false ∷ false ∷ false ∷ false ∷ []

abbrev told_number : List Bool
told_number = false ∷ false ∷ false ∷ false ∷ false ∷ false ∷ false ∷ false ∷ false ∷ false ∷ true ∷ true ∷ false ∷ false ∷ false ∷ []

abbrev told_link : List Bool
told_link = false ∷ false ∷ false ∷ false ∷ false ∷ false ∷ false ∷ false ∷ false ∷ false ∷ false ∷ false ∷ true ∷ false ∷ false ∷ []

abbrev told_masked : List Bool
told_masked = false ∷ false ∷ false ∷ false ∷ false ∷ false ∷ false ∷ false ∷ false ∷ false ∷ false ∷ false ∷ false ∷ true ∷ false ∷ []

abbrev told_leaf : List Bool
told_leaf = false ∷ false ∷ false ∷ false ∷ false ∷ false ∷ false ∷ false ∷ false ∷ false ∷ false ∷ false ∷ false ∷ false ∷ true ∷ []

leaves_none : pick (choose FIRSTS told_none) SHAPES ≡ []
unfolding code_of
leaves_none = refl

leaves_gate : pick (choose FIRSTS told_gate) SHAPES ≡ shape D.Gate [] ∷ []
unfolding code_of
leaves_gate = refl

leaves_plain : pick (choose FIRSTS told_plain) SHAPES ≡ shape D.Plain [] ∷ []
unfolding code_of
leaves_plain = refl

leaves_stop : pick (choose FIRSTS told_stop) SHAPES ≡ shape D.Stop [] ∷ []
unfolding code_of
leaves_stop = refl

leaves_jump : pick (choose FIRSTS told_jump) SHAPES ≡ shape D.Jump [] ∷ []
unfolding code_of
leaves_jump = refl

leaves_ecall : pick (choose FIRSTS told_ecall) SHAPES ≡ shape D.Ecall [] ∷ []
unfolding code_of
leaves_ecall = refl

leaves_ebreak : pick (choose FIRSTS told_ebreak) SHAPES ≡ shape D.Ebreak [] ∷ []
unfolding code_of
leaves_ebreak = refl

leaves_near : pick (choose FIRSTS told_near) SHAPES ≡ shape D.Near [] ∷ []
unfolding code_of
leaves_near = refl

leaves_skip : pick (choose FIRSTS told_skip) SHAPES ≡ rest_of 2
unfolding code_of
leaves_skip = refl

leaves_push : pick (choose FIRSTS told_push) SHAPES ≡ rest_of 46
unfolding code_of
leaves_push = refl

leaves_return : pick (choose FIRSTS told_return) SHAPES ≡ rest_of 78
unfolding code_of
leaves_return = refl

leaves_address : pick (choose FIRSTS told_address) SHAPES ≡ rest_of 11
unfolding code_of
leaves_address = refl

leaves_number : pick (choose FIRSTS told_number) SHAPES ≡ rest_of 3
unfolding code_of
leaves_number = refl

leaves_link : pick (choose FIRSTS told_link) SHAPES ≡ shape D.LinkCall [] ∷ []
unfolding code_of
leaves_link = refl

leaves_masked : pick (choose FIRSTS told_masked) SHAPES ≡ rest_of 99
unfolding code_of
leaves_masked = refl

leaves_leaf : pick (choose FIRSTS told_leaf) SHAPES ≡ shape D.LeafReturn [] ∷ []
unfolding code_of
leaves_leaf = refl

-- what begins a longer unit writes a register that units keep for themselves
reserved_number : (rd n : ℕ) → is_reserved n ≡ true → (rd == n) ≡ true → is_reserved rd ≡ true
reserved_number rd n r e = ap is_reserved (eqb-true rd n e) ∙ r

return_reserved : (op : LoadOp) (rd rs1 imm : ℕ) → opens_return op rd rs1 imm ≡ true → is_reserved rd ≡ true
return_reserved Ld rd rs1 imm e = reserved_number rd 31 refl (and_parts (rd == 31) _ e).0
return_reserved op rd rs1 imm e = absurd (cc)

call_reserved : (op : ShiftOp) (rd rs1 amount : ℕ) → opens_call op rd rs1 amount ≡ true → is_reserved rd ≡ true
call_reserved Slli rd rs1 amount e = reserved_number rd 30 refl (and_parts (rd == 30) _ e).0
call_reserved op rd rs1 amount e = absurd (cc)

stores_reserved : (op : RegisterOp) (rd rs2 : ℕ) → opens_stores op rd rs2 ≡ true → is_reserved rd ≡ true
stores_reserved op rd rs2 e = reserved_number rd 31 refl (and_parts (rd == 31) (rs2 == 4) (and_parts (is_and op) _ e).1).0

gate_free : (op : UpperOp) (rd : ℕ) → (is_lui op && (rd == 0)) ≡ true → is_reserved rd ≡ false
gate_free op rd e = ap is_reserved (eqb-true rd 0 (and_parts (is_lui op) (rd == 0) e).1)

and_assoc : (a b d : Bool) → ((a && b) && d) ≡ (a && (b && d))
and_assoc true b d = refl
and_assoc false b d = refl

addi_is : (op : ImmediateOp) → is_addi op ≡ true → op ≡ Addi
addi_is Addi e = refl
addi_is op e = absurd (cc)

module _ (calls : List ℕ) (word at : ℕ) (place : InCode at 1) (small : word < 2 ^ 32) (i : Instr) (is : decoded word ≡ Some i) where
  left_of : (bs : List Bool) (rs : List Shape) → answers i at ≡ bs → pick (choose FIRSTS bs) SHAPES ≡ rs → Reads rs (word ∷ []) at
  left_of bs rs e p =
      subst (λ (l : List Shape). Reads l (word ∷ []) at) p
      (first_reads word at bs (subst (λ (l : List Bool). Agrees FIRSTS l word at) e (agrees word at i place small is)))

  ends : (bs : List Bool) (end : End) → answers i at ≡ bs → pick (choose FIRSTS bs) SHAPES ≡ shape end [] ∷ [] → is_single end ≡ true →
      Opened calls word at (Done (first_entry end i))
  ends bs end e p single = done_by calls word at small i end is single (left_of bs (shape end [] ∷ []) e p)

  goes : (bs : List Bool) (node : ℕ) → answers i at ≡ bs → pick (choose FIRSTS bs) SHAPES ≡ rest_of node → node ≢ 1 → has_form P.Number at i ≡ false →
      Opened calls word at (at_node node)
  goes bs node e p other number =
      node_by calls word at small node other 0 0 (left_of bs (rest_of node) e p)
      (λ fits. let f : false ≡ true = sym (ap (decodes_to (has_form P.Number at)) is ∙ number) ∙ fits in absurd (cc))

  counts : (bs : List Bool) (imm : ℕ) → answers i at ≡ bs → pick (choose FIRSTS bs) SHAPES ≡ rest_of 3 → word / 2 ^ 20 ≡ imm →
      Opened calls word at (More (record { node = 3; numbers = count_on calls 0 imm; label = 0 }))
  counts bs imm e p is_imm =
      node_by calls word at small 3 (λ one. omega arith) (count_on calls 0 imm) 0 (left_of bs (rest_of 3) e p)
      (λ fits. ap (count_on calls 0) (sym is_imm))

module _ (calls : List ℕ) (word at : ℕ) (place : InCode at 1) (small : word < 2 ^ 32) where
  upper_leads : (op : UpperOp) (rd imm : ℕ) → decoded word ≡ Some (Upper op rd imm) → Opened calls word at (first_step calls (Upper op rd imm) at)
  upper_leads op rd imm is =
      let i : Instr = Upper op rd imm in
      elim (cases_Bool (is_lui op && (rd == 0))) [
        | inl gate ↦ rw gate (ends calls word at place small i is told_gate D.Gate (rw (gate, gate_free op rd gate) refl) leaves_gate refl)
        | inr other ↦
            rw other
            (elim (cases_Bool (is_reserved rd)) [
              | inl reserved ↦ rw reserved (goes calls word at place small i is told_none 0 (rw (other, reserved) refl) leaves_none (λ e. omega arith) refl)
              | inr free ↦ rw free (ends calls word at place small i is told_plain D.Plain (rw (other, free) refl) leaves_plain refl)
            ])
      ]

  jump_leads : (rd imm : ℕ) → decoded word ≡ Some (Jal rd imm) → Opened calls word at (first_step calls (Jal rd imm) at)
  jump_leads rd imm is =
      let i : Instr = Jal rd imm in
      elim (cases_Bool (rd == 0)) [
        | inl zero_rd ↦
            let one : (rd == 1) ≡ false = ap (λ (n : ℕ). n == 1) (eqb-true rd 0 zero_rd) in
            rw (one, zero_rd)
            (elim (cases_Bool (led_to at imm == BAD_TARGET)) [
              | inl bad ↦ rw bad (ends calls word at place small i is told_stop D.Stop (rw (zero_rd, bad, one) refl) leaves_stop refl)
              | inr good ↦ rw good (ends calls word at place small i is told_jump D.Jump (rw (zero_rd, good, one) refl) leaves_jump refl)
            ])
        | inr other ↦
            elim (cases_Bool (rd == 1)) [
              | inl link ↦ rw link (ends calls word at place small i is told_link D.LinkCall (rw (other, link) refl) leaves_link refl)
              | inr neither ↦ rw (neither, other) (goes calls word at place small i is told_none 0 (rw (other, neither) refl) leaves_none (λ e. omega arith) refl)
            ]
      ]

  -- a return to the site in x1
  jalr_leads : (rd rs1 imm : ℕ) → decoded word ≡ Some (Jalr rd rs1 imm) → Opened calls word at (first_step calls (Jalr rd rs1 imm) at)
  jalr_leads rd rs1 imm is =
      let i : Instr = Jalr rd rs1 imm in
      elim (cases_Bool (is_leaf_return rd rs1 imm)) [
        | inl leaf ↦ rw leaf (ends calls word at place small i is told_leaf D.LeafReturn (rw leaf refl) leaves_leaf refl)
        | inr other ↦ rw other (goes calls word at place small i is told_none 0 (rw other refl) leaves_none (λ e. omega arith) refl)
      ]

  register_leads : (op : RegisterOp) (rd rs1 rs2 : ℕ) → decoded word ≡ Some (Register op rd rs1 rs2) →
      Opened calls word at (first_step calls (Register op rd rs1 rs2) at)
  register_leads op rd rs1 rs2 is =
      let i : Instr = Register op rd rs1 rs2 in
      elim (cases_Bool (opens_stores op rd rs2)) [
        | inl begins ↦
            rw begins
            (goes calls word at place small i is told_masked 99 (rw (begins, stores_reserved op rd rs2 begins) refl) leaves_masked (λ e. omega arith) refl)
        | inr alone ↦
            rw alone
            (elim (cases_Bool (is_reserved rd)) [
              | inl reserved ↦ rw reserved (goes calls word at place small i is told_none 0 (rw (alone, reserved) refl) leaves_none (λ e. omega arith) refl)
              | inr free ↦ rw free (ends calls word at place small i is told_plain D.Plain (rw (alone, free) refl) leaves_plain refl)
            ])
      ]

  branch_leads : (op : BranchOp) (rs1 rs2 imm : ℕ) → decoded word ≡ Some (Branch op rs1 rs2 imm) → Opened calls word at (first_step calls (Branch op rs1 rs2 imm) at)
  branch_leads op rs1 rs2 imm is =
      let i : Instr = Branch op rs1 rs2 imm in
      elim (cases_Bool (imm == skip_offset)) [
        | inl skip ↦ rw skip (goes calls word at place small i is told_skip 2 (rw skip refl) leaves_skip (λ e. omega arith) refl)
        | inr near ↦ rw near (ends calls word at place small i is told_near D.Near (rw near refl) leaves_near refl)
      ]

  load_leads : (op : LoadOp) (rd rs1 imm : ℕ) → decoded word ≡ Some (Load op rd rs1 imm) → Opened calls word at (first_step calls (Load op rd rs1 imm) at)
  load_leads op rd rs1 imm is =
      let i : Instr = Load op rd rs1 imm in
      elim (cases_Bool (opens_return op rd rs1 imm)) [
        | inl begins ↦
            rw begins (goes calls word at place small i is told_return 78 (rw (begins, return_reserved op rd rs1 imm begins) refl) leaves_return (λ e. omega arith) refl)
        | inr alone ↦
            rw alone
            (elim (cases_Bool (is_reserved rd)) [
              | inl reserved ↦ rw reserved (goes calls word at place small i is told_none 0 (rw (alone, reserved) refl) leaves_none (λ e. omega arith) refl)
              | inr free ↦ rw free (ends calls word at place small i is told_plain D.Plain (rw (alone, free) refl) leaves_plain refl)
            ])
      ]

  shift_leads : (op : ShiftOp) (rd rs1 amount : ℕ) → decoded word ≡ Some (Shift op rd rs1 amount) → Opened calls word at (first_step calls (Shift op rd rs1 amount) at)
  shift_leads op rd rs1 amount is =
      let i : Instr = Shift op rd rs1 amount in
      elim (cases_Bool (opens_call op rd rs1 amount)) [
        | inl begins ↦
            rw begins (goes calls word at place small i is told_push 46 (rw (begins, call_reserved op rd rs1 amount begins) refl) leaves_push (λ e. omega arith) refl)
        | inr alone ↦
            rw alone
            (elim (cases_Bool (is_reserved rd)) [
              | inl reserved ↦ rw reserved (goes calls word at place small i is told_none 0 (rw (alone, reserved) refl) leaves_none (λ e. omega arith) refl)
              | inr free ↦ rw free (ends calls word at place small i is told_plain D.Plain (rw (alone, free) refl) leaves_plain refl)
            ])
      ]

  address_leads : (op : ImmediateOp) (rd rs1 imm : ℕ) → decoded word ≡ Some (Immediate op rd rs1 imm) → opens_address op rd ≡ true →
      Opened calls word at (first_step calls (Immediate op rd rs1 imm) at)
  address_leads op rd rs1 imm is begins =
      let i : Instr = Immediate op rd rs1 imm in
      let two = and_parts (is_addi op) (rd == 31) begins in
      let addi : is_addi op ≡ true = two.0 in
      let there : (rd == 31) ≡ true = two.1 in
      let kept : is_reserved rd ≡ true = reserved_number rd 31 refl there in
      elim (cases_Bool (is_number rs1 imm)) [
        | inl number ↦
            let zero_rs : rs1 ≡ 0 = eqb-true rs1 0 (and_parts (rs1 == 0) (nat_lt imm 2048) number).0 in
            let code : word ≡ code_of (Immediate Addi 31 0 imm) =
            sym (code_of-decoded word i small is) ∙ rw (addi_is op addi, eqb-true rd 31 there, zero_rs) refl in
            rw (begins, number)
            (counts calls word at place small i is told_number imm (rw (kept, addi, there, number) refl) leaves_number (ap (λ (w : ℕ). w / 2 ^ 20) code ∙ number_there imm))
        | inr other ↦
            rw (begins, other)
            (goes calls word at place small i is told_address 11 (rw (kept, addi, there, other) refl) leaves_address (λ e. omega arith) (rw (addi, there, other) refl))
      ]

  plain_leads : (op : ImmediateOp) (rd rs1 imm : ℕ) → decoded word ≡ Some (Immediate op rd rs1 imm) → opens_address op rd ≡ false →
      Opened calls word at (first_step calls (Immediate op rd rs1 imm) at)
  plain_leads op rd rs1 imm is alone =
      let i : Instr = Immediate op rd rs1 imm in
      let none : has_form P.Number at i ≡ false = sym (and_assoc (is_addi op) (rd == 31) ((rs1 == 0) && nat_lt imm 2048)) ∙ ap (λ (b : Bool). b && ((rs1 == 0) && nat_lt imm 2048)) alone in
      rw alone
      (elim (cases_Bool (is_reserved rd)) [
        | inl reserved ↦ rw reserved (goes calls word at place small i is told_none 0 (rw (none, alone, reserved) refl) leaves_none (λ e. omega arith) none)
        | inr free ↦ rw free (ends calls word at place small i is told_plain D.Plain (rw (none, alone, free) refl) leaves_plain refl)
      ])

  other_leads : (i : Instr) (rd : ℕ) → decoded word ≡ Some i → answers i at ≡ false ∷ not (is_reserved rd) ∷ false ∷ false ∷ false ∷ false ∷ false ∷ false ∷ false ∷ false ∷ false ∷ false ∷ false ∷ false ∷ false ∷ [] →
      has_form P.Number at i ≡ false → Opened calls word at (if is_reserved rd then stuck else Done (first_entry D.Plain i))
  other_leads i rd is e number =
      elim (cases_Bool (is_reserved rd)) [
        | inl reserved ↦ rw reserved (goes calls word at place small i is told_none 0 (rw reserved at e) leaves_none (λ f. omega arith) number)
        | inr free ↦ rw free (ends calls word at place small i is told_plain D.Plain (rw free at e) leaves_plain refl)
      ]

  pub first_leads : (i : Instr) → decoded word ≡ Some i → Opened calls word at (first_step calls i at)
  first_leads (Upper op rd imm) is = upper_leads op rd imm is
  first_leads (Jal rd imm) is = jump_leads rd imm is
  first_leads (Jalr rd rs1 imm) is = jalr_leads rd rs1 imm is
  first_leads (Branch op rs1 rs2 imm) is = branch_leads op rs1 rs2 imm is
  first_leads (Load op rd rs1 imm) is = load_leads op rd rs1 imm is
  first_leads (Store op rs1 rs2 imm) is = goes calls word at place small (Store op rs1 rs2 imm) is told_none 0 refl leaves_none (λ e. omega arith) refl
  first_leads (Immediate op rd rs1 imm) is =
      elim (cases_Bool (opens_address op rd)) [
        | inl begins ↦ address_leads op rd rs1 imm is begins
        | inr alone ↦ plain_leads op rd rs1 imm is alone
      ]
  first_leads (Shift op rd rs1 amount) is = shift_leads op rd rs1 amount is
  first_leads (ShiftWord op rd rs1 amount) is = other_leads (ShiftWord op rd rs1 amount) rd is refl refl
  first_leads (Register op rd rs1 rs2) is = register_leads op rd rs1 rs2 is
  first_leads (Fence fence) is = ends calls word at place small (Fence fence) is told_plain D.Plain refl leaves_plain refl
  first_leads Ecall is = ends calls word at place small Ecall is told_ecall D.Ecall refl leaves_ecall refl
  first_leads Ebreak is = ends calls word at place small Ebreak is told_ebreak D.Ebreak refl leaves_ebreak refl

  -- a word that is no instruction
  pub none_leads : decoded word ≡ None → Opened calls word at stuck
  none_leads is =
      node_by calls word at small 0 (λ e. omega arith) 0 0
      (subst (λ (l : List Shape). Reads l (word ∷ []) at) leaves_none (first_reads word at told_none (none_agrees word at place is)))
      (λ fits. let f : false ≡ true = sym (ap (decodes_to (has_form P.Number at)) is) ∙ fits in absurd (cc))
