-- What the tests read at each line of a section of code.
use Rattle.std.proofs.Common.{◌≡◌, ℕ, zero, suc, ◌+◌, ◌*◌, ◌/◌, ◌%◌, ◌<◌, true, false, not, List, length, map, Some, None, is_some, nat_lt, refl, sym, ap, subst, ◌∙◌, arith, lit<, lt-ltb}
use Rattle.std.proofs.lemmas.Bool.{and_parts, not-true}
use Rattle.gen_hardened.proofs.Prelude.{IsInstr, Instr, Upper, Lui, Auipc, decoded, number_at, Definition, Code, kind_of, SectionParts, acting_among, acting_at, auipc_register, instr, is_auipc, is_inside, is_pair, is_start, word_count, single_kind, some_reserved, auipc, jalr, called, Line, code_bytes, marked, plain, relocs_from}
use Rattle.gen_hardened.proofs.Encoded.{line, word_decoded}
use Rattle.gen_hardened.proofs.Bridge.{acting_marks, acting_there, use_by, uses_by}
use Rattle.gen_hardened.proofs.Spots.{IsEntry, IsPlain, Spot, first_there, high_there, is_tail, low_there, plain_there, second_there}

-- a section holds these lines, whose symbols are looked up, and whose calls go to `n` functions
pub record IsCode (definition : ℕ → Definition) (n : ℕ) (ls : List Line) (s : SectionParts) : Type 0 where
  pub sort : s.sort ≡ Code
  pub size : s.size ≡ 4 * length ls
  pub content : s.content ≡ code_bytes ls
  pub uses : s.uses ≡ map (use_by definition) (relocs_from 0 ls)
  pub spots : (k : ℕ) → k < length ls → Spot n ls k

no_register : (i : Instr) → is_auipc (Some i) ≡ false → auipc_register (Some i) ≡ None
no_register (Upper Lui rd imm) no_auipc = refl
no_register (Upper Auipc rd imm) no_auipc = absurd (cc)
no_register i no_auipc = refl

-- the parts of a test
pub record PlainParts (i : Instr) : Type 0 where
  pub unreserved : some_reserved i ≡ false
  pub kind : is_some (single_kind true i) ≡ true
  pub no_auipc : is_auipc (Some i) ≡ false
  pub no_tail : is_tail i ≡ false

pub plain_parts : (i : Instr) → IsPlain i → PlainParts i
plain_parts i is =
    let (unreserved, rest) = and_parts (not (some_reserved i)) _ is.free in
    let (kind, others) = and_parts (is_some (single_kind true i)) _ rest in
    let (no_auipc, no_tail) = and_parts (not (is_auipc (Some i))) (not (is_tail i)) others in
    record { unreserved = not-true _ unreserved; kind = kind; no_auipc = not-true _ no_auipc; no_tail = not-true _ no_tail }

module _ {definition : ℕ → Definition} {n : ℕ} {ls : List Line} {s : SectionParts} (code : IsCode definition n ls s) where
  in_range : (k : ℕ) → Spot n ls k → IsInstr (line ls k).instr
  in_range k (plain_there i is good goes) = subst (λ (l : Line). IsInstr l.instr) (sym is) good.range
  in_range k (high_there rd offset is good written) = subst (λ (l : Line). IsInstr l.instr) (sym is) good.range
  in_range k (low_there i offset is good form) = subst (λ (l : Line). IsInstr l.instr) (sym is) good.range
  in_range k (first_there j near is below next) = subst (λ (l : Line). IsInstr l.instr) (sym is) (lit< tt, lit< tt)
  in_range k (second_there p j place first is) = subst (λ (l : Line). IsInstr l.instr) (sym is) (lit< tt, lit< tt, lit< tt)

  pub count_is : word_count s ≡ length ls
  count_is = ap (λ size. size / 4) code.size ∙ omega arith

  instr_at : (k : ℕ) → k < length ls → instr s k ≡ Some (line ls k).instr
  unfolding instr
  instr_at k below =
      let inside : nat_lt k (word_count s) ≡ true = lt-ltb k (word_count s) (omega (arith, count_is)) in
      rw inside
      (ap (λ bytes. decoded (number_at bytes (4 * k) 4)) code.content ∙ word_decoded ls k below (in_range k (code.spots k below)))

  acting_is : (k : ℕ) → k < length ls → acting_at s (4 * k) ≡ uses_by definition (4 * k) (acting_marks (line ls k).marks)
  unfolding acting_at
  acting_is k below = ap (λ uses. acting_among uses (4 * k)) code.uses ∙ acting_there definition 0 (4 * k) k ls below (omega arith)

  -- what stands at a line
  pub instr_is : (k : ℕ) (l : Line) → k < length ls → line ls k ≡ l → instr s k ≡ Some l.instr
  instr_is k l below is = instr_at k below ∙ ap (λ (x : Line). Some x.instr) is

  pub uses_are : (k : ℕ) (l : Line) → k < length ls → line ls k ≡ l
      → acting_at s (4 * k) ≡ uses_by definition (4 * k) (acting_marks l.marks)
  uses_are k l below is = acting_is k below ∙ ap (λ (x : Line). uses_by definition (4 * k) (acting_marks x.marks)) is

  pub no_pair : (k : ℕ) (l : Line) → k < length ls → line ls k ≡ l → is_auipc (Some l.instr) ≡ false → is_pair s k ≡ false
  unfolding is_pair
  no_pair k l below is no_auipc = rw (instr_is k l below is, no_register l.instr no_auipc) refl

  pub pair : (k j : ℕ) → k + 1 < length ls → line ls k ≡ marked (auipc 1) (called j) → line ls (k + 1) ≡ plain (jalr 1 0 1)
      → is_pair s k ≡ true
  unfolding is_pair kind_of
  pair k j below is next =
      rw (instr_is k _ (omega arith) is, instr_is (k + 1) _ below next, uses_are k _ (omega arith) is) refl

  pub inside : (k p j : ℕ) → k < length ls → k ≡ p + 1 → line ls p ≡ marked (auipc 1) (called j) → line ls k ≡ plain (jalr 1 0 1)
      → is_inside s k ≡ true
  inside k p j below place first is =
      let next : k ≡ suc p = omega arith in
      ap (is_inside s) next ∙ pair p j (omega arith) first (ap (line ls) (sym place) ∙ is)

  -- a line that is no second word of a call stands in no pair
  not_inside : (k : ℕ) → k < length ls → is_tail (line ls k).instr ≡ false → is_inside s k ≡ false
  not_inside zero below no_tail = refl
  not_inside (suc p) below no_tail = by (code.spots p (omega arith))
    where
      by : Spot n ls p → is_pair s p ≡ false
      by (plain_there i is good goes) = no_pair p _ (omega arith) is (plain_parts i good).no_auipc
      by (high_there rd offset is good written) = no_pair p _ (omega arith) is refl
      by (low_there i offset is good form) = no_pair p _ (omega arith) is (plain_parts i good).no_auipc
      by (second_there q j place first is) = no_pair p _ (omega arith) is refl
      by (first_there j near is inside next) =
          let same : suc p ≡ p + 1 = omega arith in
          let tail : is_tail (line ls (suc p)).instr ≡ true =
          ap (λ k. is_tail (line ls k).instr) same ∙ ap (λ (l : Line). is_tail l.instr) next in
          absurd (cc)

  pub starts : (k : ℕ) → IsEntry ls k → is_start s (4 * k) ≡ true
  unfolding is_start
  starts k entry =
      let whole : 4 * k % 4 ≡ 0 = omega arith in
      let index : 4 * k / 4 ≡ k = omega arith in
      let inside : nat_lt k (word_count s) ≡ true = lt-ltb k (word_count s) (omega (arith, count_is, entry.below)) in
      rw (whole, index, inside, not_inside k entry.below entry.whole, code.sort) refl
