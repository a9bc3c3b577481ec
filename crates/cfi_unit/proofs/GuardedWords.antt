-- The words of a system call behind tests of its number: they are read back as the numbers tested.
use Rattle.std.proofs.Common.{◌≡◌, ℕ, zero, suc, ◌+◌, ◌-◌, ◌*◌, ◌<◌, ◌≤◌, ◌^◌, refl, ap, sym, ◌∙◌, lit<, List, [], ◌∷◌, ◌++◌, length, map, take, inl, inr, arith, ◌%◌, ◌==◌, true, false}
use Rattle.std.specs.Prelude.{Some, None, nat_lt, slice_get}
use Rattle.std.specs.List.{AllByRecursion}
use Rattle.std.proofs.lemmas.Bool.{cases_Bool, lt-ltb, or_parts}
use Rattle.std.proofs.lemmas.List.{append_assoc, length-append, length-map, map-append}
use Rattle.rv_word.specs.Bits.{wrap}
use Rattle.rv_word.specs.Numbers.{IsNumber, is_listed}
use Rattle.rv_instr.specs.InRange.{IsInstr}
use Rattle.rv_instr.specs.declared.instr.Instr.{Instr}
use Rattle.rv_instr.specs.declared.instr.Instr.TheVariants.{Branch, Ecall, Immediate}
use Rattle.rv_instr.specs.declared.instr.ImmediateOp.TheVariants.{Addi}
use Rattle.rv_instr.specs.declared.instr.BranchOp.TheVariants.{Beq}
use Rattle.rv_code.specs.Decode.{decoded}
use Rattle.rv_code.specs.Encode.{code_of}
use Rattle.rv_code.proofs.ReadBack.{decoded-code_of}
use Rattle.rv_code.specs.Step.{offset}
use Rattle.cfi_unit.specs.Guarded.{guards}
use Rattle.cfi_unit.specs.declared.unit.Unit.TheVariants as V
use Rattle.cfi_unit.specs.UnitWords.{BAD_TARGET, instr_at, instrs_of, jump, words_of}
use Rattle.cfi_unit.proofs.Context.{slice_get-back, slice_get-front}
use Rattle.cfi_unit.specs.Recognise.{number_in, numbers_in, put_first, read_each}
use Rattle.cfi_unit.proofs.Jumps.{is_jump_instr}

-- two instructions for each number
pub guards_counted : (ns : List ℕ) → length (guards ns) ≡ 2 * length ns
guards_counted [] = refl
guards_counted (n ∷ ns) = let counted = guards_counted ns in omega arith

pub tests_counted : (ns : List ℕ) → length (map code_of (guards ns)) ≡ 2 * length ns
tests_counted ns = length-map (guards ns) code_of ∙ guards_counted ns

-- the fields of the tests are in range
pub is_load : (n : ℕ) → IsNumber n → IsInstr (Immediate Addi 31 0 n)
is_load n small = (lit< tt, lit< tt, (let low : n < 2 ^ 11 = small in omega arith))

number_read : (n : ℕ) → IsNumber n → number_in (decoded (code_of (Immediate Addi 31 0 n))) ≡ Some n
number_read n small = ap number_in (decoded-code_of (Immediate Addi 31 0 n) (is_load n small)) ∙ rw (lt-ltb n 2048 small) refl

-- the tests are read back as these numbers, where no other test follows
numbers_back : (most : ℕ) (ns ws rest : List ℕ) (k : ℕ) → AllByRecursion IsNumber ns → length ns ≤ most → number_in (instr_at rest 0) ≡ None →
    ((i : ℕ) → instr_at ws (k + i) ≡ instr_at (map code_of (guards ns) ++ rest) i) → read_each number_in 2 ws k most ≡ ns
unfolding read_each
numbers_back zero [] ws rest k all few ends there = refl
numbers_back zero (n ∷ ns) ws rest k all few ends there = absurd (omega arith)
numbers_back (suc most) [] ws rest k all few ends there =
    let e : k ≡ k + 0 = omega arith in
    ap (λ o. put_first (number_in o) (read_each number_in 2 ws (k + 2) most)) (ap (instr_at ws) e ∙ there 0)
    ∙ ap (λ o. put_first o (read_each number_in 2 ws (k + 2) most)) ends
numbers_back (suc most) (n ∷ ns) ws rest k all few ends there =
    let e : k ≡ k + 0 = omega arith in
    ap (λ o. put_first (number_in o) (read_each number_in 2 ws (k + 2) most)) (ap (instr_at ws) e ∙ there 0)
    ∙ ap (λ o. put_first o (read_each number_in 2 ws (k + 2) most)) (number_read n all.0)
    ∙ ap (λ l. n ∷ l)
    (numbers_back most ns ws rest (k + 2) all.1 (omega arith) ends
    (λ i. let f : k + 2 + i ≡ k + suc (suc i) = omega arith in ap (instr_at ws) f ∙ there (suc (suc i))))

-- number k of some, and the tests of it
pub load_at : (ns : List ℕ) (k : ℕ) → AllByRecursion IsNumber ns → k < length ns →
    (n : ℕ) × (IsNumber n × ((slice_get ns k ≡ Some n) × (slice_get (guards ns) (k + k) ≡ Some (Immediate Addi 31 0 n))))
load_at [] k all below = absurd (let none : length {A = ℕ} [] ≡ 0 = refl in omega arith)
load_at (n ∷ ns) zero all below = (n, (all.0, (refl, refl)))
load_at (n ∷ ns) (suc k) all below =
    let (m, (small, (here, at))) = load_at ns k all.1 (omega arith) in
    let e : suc k + suc k ≡ suc (suc (k + k)) = omega arith in
    (m, (small, (here, ap (slice_get (guards (n ∷ ns))) e ∙ at)))

pub test_at : (ns : List ℕ) (k : ℕ) → k < length ns →
    slice_get (guards ns) (suc (k + k)) ≡ Some (Branch Beq 31 17 (4 * (length ns - k)))
test_at [] k below = absurd (let none : length {A = ℕ} [] ≡ 0 = refl in omega arith)
test_at (n ∷ ns) zero below = ap (λ j. Some (Branch Beq 31 17 (4 * j))) (let e : suc (length ns) ≡ suc (length ns) - 0 = omega arith in e)
test_at (n ∷ ns) (suc k) below =
    let e : suc (suc k + suc k) ≡ suc (suc (suc (k + k))) = omega arith in
    let f : length ns - k ≡ suc (length ns) - suc k = omega arith in
    ap (slice_get (guards (n ∷ ns))) e ∙ test_at ns k (omega arith) ∙ ap (λ j. Some (Branch Beq 31 17 (4 * j))) f

-- the instructions of a unit by their places
module _ (ns : List ℕ) (at : ℕ) where
  abbrev last : List Instr
  last = jump (at + 8 * length ns) BAD_TARGET ∷ Ecall ∷ []

  pub unit_load : (k : ℕ) → AllByRecursion IsNumber ns → k < length ns →
      (n : ℕ) × (IsNumber n × ((slice_get ns k ≡ Some n) × (slice_get (instrs_of (V.Guarded ns) at) (2 * k) ≡ Some (Immediate Addi 31 0 n))))
  unit_load k all below =
      let (n, (small, (here, there))) = load_at ns k all below in
      let e : 2 * k ≡ k + k = omega arith in
      (n, (small, (here, ap (slice_get (guards ns ++ last)) e ∙ slice_get-front (guards ns) last (k + k) _ there)))

  pub unit_test : (k : ℕ) → k < length ns →
      slice_get (instrs_of (V.Guarded ns) at) (2 * k + 1) ≡ Some (Branch Beq 31 17 (4 * (length ns - k)))
  unit_test k below =
      let e : 2 * k + 1 ≡ suc (k + k) = omega arith in
      ap (slice_get (guards ns ++ last)) e ∙ slice_get-front (guards ns) last (suc (k + k)) _ (test_at ns k below)

  pub unit_jump : slice_get (instrs_of (V.Guarded ns) at) (2 * length ns) ≡ Some (jump (at + 8 * length ns) BAD_TARGET)
  unit_jump =
      let counted = guards_counted ns in
      let e : 2 * length ns ≡ length (guards ns) + 0 = omega arith in
      ap (slice_get (guards ns ++ last)) e ∙ slice_get-back (guards ns) last 0

  pub unit_call : slice_get (instrs_of (V.Guarded ns) at) (2 * length ns + 1) ≡ Some Ecall
  unit_call =
      let counted = guards_counted ns in
      let e : 2 * length ns + 1 ≡ length (guards ns) + 1 = omega arith in
      ap (slice_get (guards ns ++ last)) e ∙ slice_get-back (guards ns) last 1

-- what the tests find out: a number is the one asked for, or it is not and the others before it were not
pub listed_at : (x : ℕ) (ns : List ℕ) (k n : ℕ) → slice_get ns k ≡ Some n → (n == x) ≡ true → is_listed x ns ≡ true
listed_at x [] k n is same = absurd (cc)
listed_at x (m ∷ ns) zero n is same = let e : m ≡ n = cc in rw (ap (λ j. j == x) e ∙ same) refl
listed_at x (m ∷ ns) (suc k) n is same =
    elim (cases_Bool (m == x)) [ inl here ↦ rw here refl | inr other ↦ rw other (listed_at x ns k n is same) ]

pub unlisted_next : (x : ℕ) (ns : List ℕ) (k n : ℕ) → slice_get ns k ≡ Some n → (n == x) ≡ false → is_listed x (take k ns) ≡ false →
    is_listed x (take (suc k) ns) ≡ false
unlisted_next x [] k n is other none = absurd (cc)
unlisted_next x (m ∷ ns) zero n is other none = let e : m ≡ n = cc in rw (ap (λ j. j == x) e ∙ other) refl
unlisted_next x (m ∷ ns) (suc k) n is other none =
    let parts = or_parts (m == x) (is_listed x (take k ns)) none in
    rw parts.0 (unlisted_next x ns k n is other parts.1)

-- the branch of a test leads to the call
pub test_leads : (pc at left : ℕ) → pc ≡ at → left ≤ 8 → at + 64 < 2 ^ 64 → wrap (pc + offset 13 (4 * left * 2)) ≡ at + 8 * left
test_leads pc at left e few low =
    let same : 4 * left * 2 % 2 ^ 13 ≡ 8 * left = omega arith in
    let t : nat_lt (4 * left * 2 % 2 ^ 13) (2 ^ 12) ≡ true = lt-ltb _ _ (omega arith) in
    rw (t, same) (omega arith)

-- the words of a unit: its tests', then the jump's and the call's
pub guarded_words : (ns : List ℕ) (at : ℕ) →
    words_of (V.Guarded ns) at ≡ map code_of (guards ns) ++ (code_of (jump (at + 8 * length ns) BAD_TARGET) ∷ code_of Ecall ∷ [])
unfolding words_of
guarded_words ns at = map-append code_of (guards ns) (jump (at + 8 * length ns) BAD_TARGET ∷ Ecall ∷ [])

pub guarded_counted : (ns : List ℕ) (at : ℕ) → length (words_of (V.Guarded ns) at) ≡ 2 + 2 * length ns
guarded_counted ns at =
    let tests : List ℕ = map code_of (guards ns) in
    let last : List ℕ = code_of (jump (at + 8 * length ns) BAD_TARGET) ∷ code_of Ecall ∷ [] in
    let counted : length tests ≡ 2 * length ns = tests_counted ns in
    let both : length (tests ++ last) ≡ length tests + length last = length-append tests last in
    let whole : length (words_of (V.Guarded ns) at) ≡ length (tests ++ last) = ap length (guarded_words ns at) in
    omega arith

-- they are read back as the unit's numbers, whatever follows them
pub guarded_read : (ns : List ℕ) (at : ℕ) (rest : List ℕ) → AllByRecursion IsNumber ns → length ns ≤ 8 →
    numbers_in (words_of (V.Guarded ns) at ++ rest) ≡ ns
guarded_read ns at rest all few =
    let j : Instr = jump (at + 8 * length ns) BAD_TARGET in
    let last : List ℕ = code_of j ∷ code_of Ecall ∷ [] in
    let parts : words_of (V.Guarded ns) at ++ rest ≡ map code_of (guards ns) ++ (last ++ rest) =
    ap (λ l. l ++ rest) (guarded_words ns at) ∙ append_assoc (map code_of (guards ns)) last rest in
    numbers_back 8 ns (words_of (V.Guarded ns) at ++ rest) (last ++ rest) 0 all few
    (ap number_in (decoded-code_of j (is_jump_instr 0 (at + 8 * length ns) BAD_TARGET (lit< tt))))
    (λ i. let e : 0 + i ≡ i = omega arith in ap (instr_at (words_of (V.Guarded ns) at ++ rest)) e ∙ ap (λ l. instr_at l i) parts)

-- they are put behind others in two parts
pub guarded_room : (old shown ns new : List ℕ) → length old ≡ 0 → length ns ≤ 8 → shown ≡ ns → new ≡ old ++ map code_of (guards shown) →
    length new + 2 ≤ 20
guarded_room old shown ns new none most same put =
    let counted : length new ≡ length old + length (map code_of (guards shown)) = ap length put ∙ length-append old (map code_of (guards shown)) in
    let tests : length (map code_of (guards shown)) ≡ 2 * length shown = tests_counted shown in
    let as_many : length shown ≡ length ns = ap length same in
    omega arith

pub guarded_put : (old shown ns new all : List ℕ) (at count : ℕ) (j : Instr) → shown ≡ ns → new ≡ old ++ map code_of (guards shown) →
    count ≡ length ns → j ≡ jump (at + 8 * count) BAD_TARGET → all ≡ new ++ (code_of j ∷ code_of Ecall ∷ []) →
    all ≡ old ++ words_of (V.Guarded ns) at
guarded_put old shown ns new all at count j same put counted is whole =
    let tests : List ℕ = map code_of (guards ns) in
    let last : List ℕ = code_of (jump (at + 8 * length ns) BAD_TARGET) ∷ code_of Ecall ∷ [] in
    let first : new ≡ old ++ tests = put ∙ ap (λ l. old ++ map code_of (guards l)) same in
    let jumps : j ≡ jump (at + 8 * length ns) BAD_TARGET = is ∙ ap (λ n. jump (at + 8 * n) BAD_TARGET) counted in
    whole ∙ ap (λ l. l ++ (code_of j ∷ code_of Ecall ∷ [])) first ∙ ap (λ i. (old ++ tests) ++ (code_of i ∷ code_of Ecall ∷ [])) jumps
    ∙ append_assoc old tests last ∙ ap (λ l. old ++ l) (sym (guarded_words ns at))
