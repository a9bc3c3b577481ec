-- Each unit that is written may stand where it does: its fields are in range, and its jumps reach what lies in the region of code.
use Rattle.std.proofs.Common.{◌≡◌, ◌≢◌, ℕ, ◌+◌, ◌*◌, ◌%◌, ◌^◌, ◌≤◌, ◌<◌, Bool, true, false, List, [], ◌∷◌, Option, Some, None, length, refl, sym, ap, ◌∙◌, arith}
use Rattle.std.specs.Prelude.{◌&&◌, ◌||◌, ◌==◌, nat_le, nat_lt, not}
use Rattle.std.specs.List.{AllByRecursion, list_all}
use Rattle.std.proofs.lemmas.Bool.{and_from, and_parts, leb-true, ltb-true, not-true, or_parts}
use Rattle.cfi_writer.proofs.Prelude.{CODE_SIZE, CODE_START, START, GraphVersion, OneLabel, TwoLabels, CalleeSaves, IsInstr, is_reserved, Instr, UpperOp, Lui, Auipc, ItemKind, is_direct, IsNumber, MOST_NUMBERS, may_be_calls, are_calls, is_rising, AreNumbers, AreMembers, BAD_RETURN, BAD_TARGET, CheckFits, DEEP, Fits, IsNear, MaskFits, Reaches, is_lui, is_plain, word_count, is_store, is_branch, TargetWord, jump_word, Group, call_unit, lean_unit_of, unit_by, unit_of}
use Rattle.rv_instr.specs.declared.instr.Instr.TheVariants as I
use Rattle.obj_input.specs.declared.item_kind.ItemKind.TheVariants as is
use Rattle.obj_program.specs.Suits as of
use Rattle.cfi_unit.proofs.Near.{branch_reached, near_reached}
use Rattle.cfi_unit.specs.declared.unit.Unit.TheVariants as V
use Rattle.cfi_writer.proofs.UnitOf.{is_right}

-- a register that is not named is not reserved
named_none : (a b c d : Bool) → not (a || b || c || d) ≡ true → (a ≡ false) × (b ≡ false) × (c ≡ false) × (d ≡ false)
named_none a b c d none =
    let all = not-true (a || b || c || d) none in
    let three = or_parts (a || b || c) d all in
    let two = or_parts (a || b) c three.0 in
    let one = or_parts a b two.0 in
    (one.0, one.1, two.1, three.1)

kept_free : (rd : ℕ) → (rd == 3) ≡ false → (rd == 4) ≡ false → (rd == 30) ≡ false → (rd == 31) ≡ false → not (is_reserved rd) ≡ true
kept_free rd a b c d = rw (a, b, c, d) refl

-- of one register, of two, of three
free_one : (rd : ℕ) → not ((rd == 3) || (rd == 4) || (rd == 30) || (rd == 31)) ≡ true → not (is_reserved rd) ≡ true
free_one rd none =
    let all = named_none (rd == 3) (rd == 4) (rd == 30) (rd == 31) none in
    kept_free rd all.0 all.1 all.2 all.3

free_two : (rd r : ℕ) → not ((rd == 3 || r == 3) || (rd == 4 || r == 4) || (rd == 30 || r == 30) || (rd == 31 || r == 31)) ≡ true → not (is_reserved rd) ≡ true
free_two rd r none =
    let all = named_none (rd == 3 || r == 3) (rd == 4 || r == 4) (rd == 30 || r == 30) (rd == 31 || r == 31) none in
    kept_free rd (or_parts (rd == 3) (r == 3) all.0).0 (or_parts (rd == 4) (r == 4) all.1).0 (or_parts (rd == 30) (r == 30) all.2).0 (or_parts (rd == 31) (r == 31) all.3).0

free_three : (rd r s : ℕ) → not ((rd == 3 || r == 3 || s == 3) || (rd == 4 || r == 4 || s == 4) || (rd == 30 || r == 30 || s == 30) || (rd == 31 || r == 31 || s == 31)) ≡ true →
    not (is_reserved rd) ≡ true
free_three rd r s none =
    let all = named_none (rd == 3 || r == 3 || s == 3) (rd == 4 || r == 4 || s == 4) (rd == 30 || r == 30 || s == 30) (rd == 31 || r == 31 || s == 31) none in
    kept_free rd (or_parts (rd == 3) (r == 3) (or_parts (rd == 3 || r == 3) (s == 3) all.0).0).0 (or_parts (rd == 4) (r == 4) (or_parts (rd == 4 || r == 4) (s == 4) all.1).0).0
    (or_parts (rd == 30) (r == 30) (or_parts (rd == 30 || r == 30) (s == 30) all.2).0).0 (or_parts (rd == 31) (r == 31) (or_parts (rd == 31 || r == 31) (s == 31) all.3).0).0

same_gate : (op : UpperOp) (rd : ℕ) → of.is_gate op rd ≡ (is_lui op && (rd == 0))
same_gate Lui rd = refl
same_gate Auipc rd = refl

-- a plain instruction of a program is one of a unit
plain_is : (i : Instr) → (of.is_plain i && not (of.names_reserved i)) ≡ true → is_plain i ≡ true
plain_is (I.Upper op rd imm) right =
    let parts = and_parts (not (of.is_gate op rd)) (not (of.names_reserved (I.Upper op rd imm))) right in
    and_from (not (is_reserved rd)) (not (is_lui op && (rd == 0))) (free_one rd parts.1) (ap not (sym (same_gate op rd)) ∙ parts.0)
plain_is (I.Load op rd rs1 imm) right = free_two rd rs1 right
plain_is (I.Immediate op rd rs1 imm) right = free_two rd rs1 right
plain_is (I.Shift op rd rs1 amount) right = free_two rd rs1 right
plain_is (I.ShiftWord op rd rs1 amount) right = free_two rd rs1 right
plain_is (I.Register op rd rs1 rs2) right = free_three rd rs1 rs2 right
plain_is (I.Fence word) right = refl
plain_is other right = absurd (cc)

-- an address in the region of code
pub record IsInCode (a : ℕ) : Type 0 where
  pub from : CODE_START ≤ a
  pub to : a < CODE_START + CODE_SIZE
  pub round : a % 4 ≡ 0

pub reach : (from to : ℕ) → IsInCode from → IsInCode to → Reaches from to
reach from to a b =
    let low = a.from in
    let high = a.to in
    let round = a.round in
    let low_to = b.from in
    let high_to = b.to in
    let round_to = b.round in
    near_reached from to (omega arith) (omega arith) (omega arith) (omega arith) (omega arith)

in_code : (a n : ℕ) → START ≤ a → a + n < CODE_START + CODE_SIZE → a % 4 ≡ 0 → n % 4 ≡ 0 → IsInCode (a + n)
in_code a n low high round times = record { from = omega arith; to = high; round = omega arith }

bad_target_in : IsInCode BAD_TARGET
bad_target_in = record { from = omega arith; to = omega arith; round = refl }

bad_return_in : IsInCode BAD_RETURN
bad_return_in = record { from = omega arith; to = omega arith; round = refl }

deep_in : IsInCode DEEP
deep_in = record { from = omega arith; to = omega arith; round = refl }

-- where a direct transfer leads: past the handlers
pub record IsThere (target : ℕ) : Type 0 where
  pub from : START ≤ target
  pub to : target + 4 ≤ CODE_START + CODE_SIZE
  pub round : target % 4 ≡ 0

target_in_code : (target : ℕ) → IsThere target → IsInCode target
target_in_code target there =
    let from = there.from in
    let to = there.to in
    record { from = omega arith; to = omega arith; round = there.round }

no_handler : (target : ℕ) → IsThere target → target ≢ BAD_TARGET
no_handler target there e = let from = there.from in absurd (omega arith)

pub near_target : (a target : ℕ) → START ≤ a → a < CODE_START + CODE_SIZE → a % 4 ≡ 0 → IsThere target → a ≤ target + 4096 → target ≤ a + 4092 → IsNear a target
near_target a target low high round there back ahead =
    let from = there.from in
    let to = there.to in
    let even = there.round in
    branch_reached a target (omega arith) (omega arith) (omega arith) (omega arith) (omega arith)

-- the unit of stores may stand anywhere, where its mask and its members are in range
pub record FitsMask (group : Group) : Type 0 where
  pub small : group.offset < 2 ^ 12
  pub members : AreMembers group.members
  pub mask : MaskFits group.mask group.offset

each_number : (numbers : List ℕ) → list_all (λ (n : ℕ). nat_lt n (2 ^ 11)) numbers ≡ true → AllByRecursion IsNumber numbers
each_number [] all = tt
each_number (n ∷ numbers) all =
    let parts = and_parts (nat_lt n (2 ^ 11)) (list_all (λ (x : ℕ). nat_lt x (2 ^ 11)) numbers) all in
    (ltb-true n (2 ^ 11) parts.0, each_number numbers parts.1)

-- the numbers of a list that a graph may have are those of a unit
numbers_are : (numbers : List ℕ) → may_be_calls (Some numbers) ≡ true → AreNumbers numbers
numbers_are numbers right =
    let both = and_parts (are_calls numbers) (is_rising nat_lt numbers) right in
    let parts = and_parts (nat_lt 0 (length numbers) && nat_le (length numbers) MOST_NUMBERS) (list_all (λ (n : ℕ). nat_lt n (2 ^ 11)) numbers) both.0 in
    let counted = and_parts (nat_lt 0 (length numbers)) (nat_le (length numbers) MOST_NUMBERS) parts.0 in
    record {
      some = ltb-true 0 (length numbers) counted.0;
      most = leb-true (length numbers) MOST_NUMBERS counted.1;
      each = each_number numbers parts.1;
    }

call_fits : (calls : Option (List ℕ)) (a : ℕ) → may_be_calls calls ≡ true → START ≤ a → a + 4 * word_count (call_unit calls) ≤ CODE_START + CODE_SIZE →
    a % 4 ≡ 0 → Fits (call_unit calls) a
call_fits None a right low high round = tt
call_fits (Some numbers) a right low high round =
    (numbers_are numbers right, reach (a + 8 * length numbers) BAD_TARGET (in_code a (8 * length numbers) low (omega arith) round (omega arith)) bad_target_in)

-- the check of a computed transfer may stand where its words lie in the code
check_fits : (a rs1 imm label : ℕ) → rs1 < 32 → imm < 2 ^ 12 → label < 2 ^ 20 → START ≤ a → a + 48 ≤ CODE_START + CODE_SIZE → a % 4 ≡ 0 →
    CheckFits a rs1 imm label
check_fits a rs1 imm label register field small low high round = (
  register,
  field,
  small,
  reach (a + 24) BAD_TARGET (in_code a 24 low (omega arith) round refl) bad_target_in,
  reach (a + 44) BAD_TARGET (in_code a 44 low (omega arith) round refl) bad_target_in,
)

of_fits : (calls : Option (List ℕ)) (kind : ItemKind) (i : Instr) (whole : Bool) (target : ℕ) (which : TargetWord) (label : ℕ) (group : Group) (a : ℕ) →
    is_right kind i ≡ true → IsInstr i → label < 2 ^ 20 →
    START ≤ a → a + 4 * word_count (unit_of calls kind i whole target which label group) ≤ CODE_START + CODE_SIZE → a % 4 ≡ 0 → (is_direct kind ≡ true → IsThere target) →
    (is_branch kind ≡ true → whole ≡ false → (a ≤ target + 4096) × (target ≤ a + 4092)) → (is_store kind ≡ true → FitsMask group) →
    may_be_calls calls ≡ true →
    Fits (unit_of calls kind i whole target which label group) a
of_fits calls is.Gate (I.Upper op rd imm) whole target which label group a right range small low high round there near masked listed = range.1
of_fits calls is.Plain i whole target which label group a right range small low high round there near masked listed = (range, plain_is i right)
of_fits calls is.Store (I.Store op rs1 rs2 imm) whole target which label group a right range small low high round there near masked listed =
    let mask = masked refl in (range.0, mask.small, mask.members, mask.mask)
of_fits calls is.System I.Ecall whole target which label group a right range small low high round there near masked listed =
    call_fits calls a listed low high round
of_fits calls is.System I.Ebreak whole target which label group a right range small low high round there near masked listed = tt
of_fits calls is.Branch (I.Branch op rs1 rs2 imm) true target which label group a right range small low high round there near masked listed =
    (range.0, range.1, reach (a + 4) target (in_code a 4 low (omega arith) round refl) (target_in_code target (there refl)))
of_fits calls is.Branch (I.Branch op rs1 rs2 imm) false target which label group a right range small low high round there near masked listed =
    (range.0, range.1, let bounds = near refl refl in near_target a target low (omega arith) round (there refl) bounds.0 bounds.1)
of_fits calls is.Jump i whole target which label group a right range small low high round there near masked listed =
    let here : IsInCode a = record { from = omega arith; to = omega arith; round = round } in
    (no_handler target (there refl), reach a target here (target_in_code target (there refl)))
of_fits calls is.Call i whole target which label group a right range small low high round there near masked listed =
    (reach (a + 8) DEEP (in_code a 8 low (omega arith) round refl) deep_in, reach (a + 28) target (in_code a 28 low (omega arith) round refl) (target_in_code target (there refl)))
of_fits calls is.Return i whole target which label group a right range small low high round there near masked listed =
    reach (a + 12) BAD_RETURN (in_code a 12 low (omega arith) round refl) bad_return_in
of_fits calls is.Ijump (I.Jalr rd rs1 imm) whole target which label group a right range small low high round there near masked listed =
    check_fits a rs1 imm label range.1 range.2 small low (omega arith) round
of_fits calls is.Icall (I.Jalr rd rs1 imm) whole target which label group a right range small low high round there near masked listed = (
  check_fits a rs1 imm label range.1 range.2 small low (omega arith) round,
  reach (a + 56) DEEP (in_code a 56 low (omega arith) round refl) deep_in,
)
of_fits calls is.End i whole target which label group a right range small low high round there near masked listed =
    let here : IsInCode a = record { from = omega arith; to = omega arith; round = round } in
    reach a BAD_TARGET here bad_target_in
of_fits calls kind i whole target which label group a right range small low high round there near masked listed = absurd (cc)

lean_fits : (calls : Option (List ℕ)) (inside : Bool) (kind : ItemKind) (i : Instr) (whole : Bool) (target label : ℕ) (group : Group) (a : ℕ) →
    is_right kind i ≡ true → IsInstr i → label < 2 ^ 20 →
    START ≤ a → a + 4 * word_count (lean_unit_of calls inside kind i whole target label group) ≤ CODE_START + CODE_SIZE → a % 4 ≡ 0 → (is_direct kind ≡ true → IsThere target) →
    (is_branch kind ≡ true → whole ≡ false → (a ≤ target + 4096) × (target ≤ a + 4092)) → (is_store kind ≡ true → FitsMask group) →
    may_be_calls calls ≡ true →
    Fits (lean_unit_of calls inside kind i whole target label group) a
lean_fits calls inside is.Call i whole target label group a right range small low high round there near masked listed =
    let here : IsInCode a = record { from = omega arith; to = omega arith; round = round } in
    reach a target here (target_in_code target (there refl))
lean_fits calls true is.Return i whole target label group a right range small low high round there near masked listed = tt
lean_fits calls false is.Return i whole target label group a right range small low high round there near masked listed =
    reach (a + 12) BAD_RETURN (in_code a 12 low (omega arith) round refl) bad_return_in
lean_fits calls inside is.Ijump (I.Jalr rd rs1 imm) whole target label group a right range small low high round there near masked listed =
    check_fits a rs1 imm label range.1 range.2 small low (omega arith) round
lean_fits calls inside is.Icall (I.Jalr rd rs1 imm) whole target label group a right range small low high round there near masked listed =
    check_fits a rs1 imm label range.1 range.2 small low (omega arith) round
lean_fits calls inside kind i whole target label group a right range small low high round there near masked listed =
    of_fits calls kind i whole target (jump_word CalleeSaves) label group a right range small low high round there near masked listed

-- the unit of each version fits
pub unit_fits : (version : GraphVersion) (calls : Option (List ℕ)) (inside : Bool) (kind : ItemKind) (i : Instr) (whole : Bool) (target label : ℕ) (group : Group) (a : ℕ) →
    is_right kind i ≡ true → IsInstr i → label < 2 ^ 20 →
    START ≤ a → a + 4 * word_count (unit_by version calls inside kind i whole target label group) ≤ CODE_START + CODE_SIZE → a % 4 ≡ 0 → (is_direct kind ≡ true → IsThere target) →
    (is_branch kind ≡ true → whole ≡ false → (a ≤ target + 4096) × (target ≤ a + 4092)) → (is_store kind ≡ true → FitsMask group) →
    may_be_calls calls ≡ true →
    Fits (unit_by version calls inside kind i whole target label group) a
unit_fits OneLabel calls inside kind i whole target label group a right range small low high round there near masked listed =
    of_fits calls kind i whole target (jump_word OneLabel) label group a right range small low high round there near masked listed
unit_fits TwoLabels calls inside kind i whole target label group a right range small low high round there near masked listed =
    of_fits calls kind i whole target (jump_word TwoLabels) label group a right range small low high round there near masked listed
unit_fits CalleeSaves calls inside kind i whole target label group a right range small low high round there near masked listed =
    lean_fits calls inside kind i whole target label group a right range small low high round there near masked listed

-- what saves a site reaches the handler that halts where the shadow stack is full
pub enter_fits : (a : ℕ) → START ≤ a → a + 4 * word_count V.Enter ≤ CODE_START + CODE_SIZE → a % 4 ≡ 0 → Fits V.Enter a
enter_fits a low high round = reach (a + 8) DEEP (in_code a 8 low (omega arith) round refl) deep_in

-- and a jump its target
pub jump_fits : (a target : ℕ) → START ≤ a → a + 4 ≤ CODE_START + CODE_SIZE → a % 4 ≡ 0 → IsThere target → Fits (V.Jump target) a
jump_fits a target low high round there =
    let here : IsInCode a = record { from = omega arith; to = omega arith; round = round } in
    (no_handler target there, reach a target here (target_in_code target there))
