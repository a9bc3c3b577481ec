-- The words of stores behind a mask: they are read back as these stores.
use Rattle.std.proofs.Common.{◌≡◌, ℕ, zero, suc, ◌+◌, ◌<◌, ◌≤◌, ◌⊎◌, refl, ap, ◌∙◌, lit<, List, [], ◌∷◌, ◌++◌, length, map, inl, inr, arith}
use Rattle.std.specs.Prelude.{Some, None, slice_get}
use Rattle.std.specs.List.{AllByRecursion}
use Rattle.std.proofs.lemmas.Bool.{lt-ltb}
use Rattle.std.proofs.lemmas.List.{length-map}
use Rattle.rv_code.specs.Decode.{decoded}
use Rattle.rv_code.specs.Encode.{code_of}
use Rattle.rv_code.proofs.ReadBack.{decoded-code_of}
use Rattle.cfi_unit.specs.declared.members.Member.{Member}
use Rattle.cfi_unit.specs.Members.{IsMember, member_instr, member_of}
use Rattle.cfi_unit.specs.Recognise.{put_first, read_each}
use Rattle.cfi_unit.specs.UnitWords.{instr_at}

-- as many instructions as members
pub members_counted : (ms : List Member) → length (map code_of (map member_instr ms)) ≡ length ms
members_counted ms = length-map (map member_instr ms) code_of ∙ length-map ms member_instr

-- a member's instruction is this member
member_back : (m : Member) → IsMember m → member_of (Some (member_instr m)) ≡ Some m
member_back m is = rw (lt-ltb m.distance 2048 is.1) refl

member_read : (m : Member) → IsMember m → member_of (decoded (code_of (member_instr m))) ≡ Some m
member_read m is = ap member_of (decoded-code_of (member_instr m) (lit< tt, is.0, (let low = is.1 in omega arith))) ∙ member_back m is

-- the words of members are read back as these, where no more are asked for or no other follows
pub members_back : (most : ℕ) (ms : List Member) (ws rest : List ℕ) (k : ℕ) → AllByRecursion IsMember ms → length ms ≤ most →
    (most ≤ length ms) ⊎ (member_of (instr_at rest 0) ≡ None) →
    ((i : ℕ) → instr_at ws (k + i) ≡ instr_at (map code_of (map member_instr ms) ++ rest) i) → read_each member_of 1 ws k most ≡ ms
unfolding read_each
members_back zero [] ws rest k all few ends there = refl
members_back zero (m ∷ ms) ws rest k all few ends there = absurd (omega arith)
members_back (suc most) [] ws rest k all few (inl asked) there = absurd (let none : length {A = Member} [] ≡ 0 = refl in omega arith)
members_back (suc most) [] ws rest k all few (inr none) there =
    let e : k ≡ k + 0 = omega arith in
    ap (λ o. put_first (member_of o) (read_each member_of 1 ws (k + 1) most)) (ap (instr_at ws) e ∙ there 0)
    ∙ ap (λ o. put_first o (read_each member_of 1 ws (k + 1) most)) none
members_back (suc most) (m ∷ ms) ws rest k all few ends there =
    let e : k ≡ k + 0 = omega arith in
    ap (λ o. put_first (member_of o) (read_each member_of 1 ws (k + 1) most)) (ap (instr_at ws) e ∙ there 0)
    ∙ ap (λ o. put_first o (read_each member_of 1 ws (k + 1) most)) (member_read m all.0)
    ∙ ap (λ l. m ∷ l)
    (members_back most ms ws rest (k + 1) all.1 (omega arith) (fewer ends)
    (λ i. let f : k + 1 + i ≡ k + suc i = omega arith in ap (instr_at ws) f ∙ there (suc i)))
  where
    fewer : (suc most ≤ suc (length ms)) ⊎ (member_of (instr_at rest 0) ≡ None) → (most ≤ length ms) ⊎ (member_of (instr_at rest 0) ≡ None)
    fewer (inl asked) = inl (omega arith)
    fewer (inr none) = inr none

-- member k of some
pub member_at : (ms : List Member) (k : ℕ) → AllByRecursion IsMember ms → k < length ms →
    (m : Member) × (IsMember m × (slice_get (map member_instr ms) k ≡ Some (member_instr m)))
member_at [] k all below = absurd (let none : length {A = Member} [] ≡ 0 = refl in omega arith)
member_at (m ∷ ms) zero all below = (m, (all.0, refl))
member_at (m ∷ ms) (suc k) all below = member_at ms k all.1 (omega arith)
