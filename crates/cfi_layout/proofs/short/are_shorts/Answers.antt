use Rattle.std.proofs.Common.{◌≡◌, ℕ, ◌+◌, ◌<◌, List, get_or, Some, slice_get, refl, sym, ap, subst, ◌∙◌, arith, inl, inr}
use Rattle.std.proofs.lemmas.Bool.{cases_lt}
use Rattle.std.proofs.lemmas.Option.{slice_get-get_or, slice_get_within, get_or_from_slice_get}
use Rattle.cfi_layout.specs.declared.short.Short.{Short}
use Rattle.cfi_layout.specs.LongSet.{IsShort}
use Rattle.cfi_layout.proofs.Flags.{no_branch}
use Rattle.cfi_layout.proofs.short.are_shorts.Goals as goal

pub returns-then-not-is_short : goal.returns-then-not-is_short
returns-then-not-is_short c =
    let there = slice_get-get_or c.args.branches.now c.loop-branch.branch-index no_branch c.loop-branch-test.true in
    (λ e. absurd (cc), λ shorts. sym c.if-not-is_short.true ∙ c.is_short.ensures.1 (shorts.each c.loop-branch.branch-index _ there))

-- one more of the branches may be one
shorts_more : (branches : List Short) (sizes : List ℕ) (k : ℕ) → IsShort sizes (get_or branches k no_branch) →
    ((i : ℕ) (b : Short) → i < k → slice_get branches i ≡ Some b → IsShort sizes b) → (i : ℕ) (b : Short) → i < k + 1 → slice_get branches i ≡ Some b → IsShort sizes b
shorts_more branches sizes k here so_far i b lt is = elim (cases_lt i k) [
  | inl less ↦ so_far i b less is
  | inr most ↦
      let same : i ≡ k = omega arith in
      let there = ap (λ (n : ℕ). slice_get branches n) (sym same) ∙ is in
      subst (λ (x : Short). IsShort sizes x) (get_or_from_slice_get branches k b no_branch there) here
]

pub loop-branch-preserved : goal.loop-branch-preserved
loop-branch-preserved c =
    shorts_more c.args.branches.now c.args.sizes.now c.loop-branch.branch-index (c.is_short.ensures.0 c.if-not-is_short.false) c.loop-branch.invariant

pub returns : goal.returns
returns c =
    let past = c.loop-branch-test.false in (
      λ e. record { each = λ i b is. let within = slice_get_within c.args.branches.now i b is in c.loop-branch.invariant i b (omega (arith, past, within)) is },
      λ shorts. refl,
    )
