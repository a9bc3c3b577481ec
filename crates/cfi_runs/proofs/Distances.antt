-- The least of several offsets masks them all: each of the others lies its distance past it. One that is not negative lies past none.
use Rattle.std.proofs.Common.{◌≡◌, ℕ, zero, suc, ◌+◌, ◌-◌, ◌%◌, ◌^◌, ◌<◌, ◌≤◌, inl, inr, true, false, nat_lt, min, lit<, sym, ap, subst, ◌∙◌, arith}
use Rattle.std.proofs.lemmas.Bool.{cases_lt, lt-ltb}
use Rattle.std.proofs.lemmas.Bool.Decides.{nat_tests}
use Rattle.cfi_runs.proofs.Prelude.{wrap, offset, field, level, lowest, IsPast}
use Rattle.cfi_runs.specs.GroupLaws as law

pub level_of_field : (low : ℕ) → low < 2 ^ 12 → level (field low) ≡ low
level_of_field low small = omega arith

-- an offset is a level less 2 ^ 11
offset_is : (y imm : ℕ) → imm < 2 ^ 12 → wrap (y + offset 12 imm) ≡ wrap (y + level imm + (2 ^ 64 - 2 ^ 11))
offset_is y imm small =
    let same : imm % 2 ^ 12 ≡ imm = omega arith in
    elim (cases_lt imm (2 ^ 11)) [
      | inl low ↦ (let t : nat_lt imm (2 ^ 11) ≡ true = lt-ltb _ _ low in rw (same, t) (omega arith))
      | inr high ↦ (let t : nat_lt imm (2 ^ 11) ≡ false = grind (arith, nat_tests) in rw (same, t) (omega arith))
    ]

-- a field at a higher level lies past one at a lower level
is_past : (low imm : ℕ) → low < 2 ^ 12 → imm < 2 ^ 12 → low ≤ level imm → level imm ≤ low + 2047 → IsPast (field low) imm (level imm - low)
is_past low imm small other below near = record {
  low = omega arith;
  sums = λ y. (
      let one = offset_is y imm other in
      let two = offset_is y (field low) (omega arith) in
      let back : wrap (y + level (field low) + (2 ^ 64 - 2 ^ 11)) ≡ wrap (y + low + (2 ^ 64 - 2 ^ 11)) = ap (λ (l : ℕ). wrap (y + l + (2 ^ 64 - 2 ^ 11))) (level_of_field low small) in
      one ∙ sums_meet y low (level imm) below ∙ ap (λ (a : ℕ). wrap (a + (level imm - low))) (sym (two ∙ back))
      );
} where
  sums_meet : (y low high : ℕ) → low ≤ high → wrap (y + high + (2 ^ 64 - 2 ^ 11)) ≡ wrap (wrap (y + low + (2 ^ 64 - 2 ^ 11)) + (high - low))
  sums_meet y low high below = omega arith

module _ (f : ℕ → ℕ) (first : ℕ) where
  pub lowest_least : (n i : ℕ) → i ≤ n → lowest f first n ≤ f (first + i)
  lowest_least zero i inside = let e : first ≡ first + i = omega arith in subst (λ (j : ℕ). f first ≤ f j) e (omega arith)
  lowest_least (suc n) i inside =
      elim (cases_lt i (suc n)) [
        | inl before ↦ (let least = lowest_least n i (omega arith) in omega arith)
        | inr last ↦ (
            let e : suc n ≡ i = omega arith in
            subst (λ (j : ℕ). min (lowest f first n) (f (first + suc n)) ≤ f (first + j)) e (omega arith)
            )
      ]

  -- one of the values is the least
  record Reached (n : ℕ) : Type 0 where
    index : ℕ
    inside : index ≤ n
    is : lowest f first n ≡ f (first + index)

  lowest_reached : (n : ℕ) → Reached n
  lowest_reached zero = let e : first ≡ first + 0 = omega arith in record { index = 0; inside = omega arith; is = ap f e }
  lowest_reached (suc n) =
      elim (cases_lt (f (first + suc n)) (lowest f first n)) [
        | inl lower ↦ record { index = suc n; inside = omega arith; is = omega arith }
        | inr no_lower ↦ (
            let before = lowest_reached n in
            let few = before.inside in
            let e : min (lowest f first n) (f (first + suc n)) ≡ lowest f first n = omega arith in
            record { index = before.index; inside = omega arith; is = e ∙ before.is }
            )
      ]

-- the field of no offset is that at 2 ^ 11, below which lie the negative ones
pub offsets_are_past : law.OffsetsArePast
offsets_are_past imm low =
    let own : level imm - 2 ^ 11 ≡ imm = omega arith in
    subst (IsPast 0 imm) own (is_past (2 ^ 11) imm (lit< tt) (omega arith) (omega arith) (omega arith))

pub groups_are_masked : law.GroupsAreMasked
groups_are_masked imm first n small near =
    let levels : ℕ → ℕ = λ (j : ℕ). level (imm j) in
    let low = lowest levels first n in
    let reached = lowest_reached levels first n in
    let is : low ≡ level (imm (first + reached.index)) = reached.is in
    let below : low < 2 ^ 12 = omega arith in
    record {
      small = below;
      past = λ i inside. (
          let least = lowest_least levels first n i inside in
          let far = near i reached.index inside reached.inside in
          is_past low (imm (first + i)) below (small i inside) least (omega arith)
          );
      index = reached.index;
      inside = reached.inside;
      none = omega arith;
    }
