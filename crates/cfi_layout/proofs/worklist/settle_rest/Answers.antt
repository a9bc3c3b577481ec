use Rattle.std.proofs.Common.{◌≡◌, ℕ, ◌+◌, ◌*◌, ◌<◌, ◌≤◌, suc, Bool, List, [], ◌∷◌, ◌++◌, length, ap, sym, subst, refl, ◌∙◌, arith, Ok, Some, inl, inr}
use Rattle.std.proofs.lemmas.Bool.{cases_Bool}
use Rattle.std.proofs.lemmas.List.{length_push}
use Rattle.std.proofs.lemmas.List.Elements.{All-pop}
use Rattle.std.proofs.lemmas.Result.{IfOk-from_err}
use Rattle.std.proofs.Math.Nat.{suc-mul}
use Rattle.cfi_layout.specs.Lengthening.{short_count}
use Rattle.cfi_layout.proofs.Lengthening.{stay, then_stay}
use Rattle.cfi_layout.proofs.worklist.settle_rest.Goals as goal

pub loop-index-init : goal.loop-index-init
loop-index-init c = record {
  long = refl;
  still = refl;
  indexes = c.requires.indexes;
  way = stay c.args.branches.now c.args.long.now.items c.args.distances.now.items;
  no_more = omega arith;
}

pub settle-requires-clause-index : goal.settle-requires-clause-index
settle-requires-clause-index c =
    (All-pop (λ (i : ℕ). i < length c.args.branches.now) c.loop-index.work.items c.pop.new.self.items (Some c.in-Some.index) c.in-Some.ensures.items c.loop-index.invariant.indexes).1

pub settle-requires-clause-parts : goal.settle-requires-clause-parts
settle-requires-clause-parts c = λ i b is. subst (λ (n : ℕ). b.at < n) (sym c.loop-index.invariant.long) (c.requires.parts i b is)

pub settle-requires-clause-counted : goal.settle-requires-clause-counted
settle-requires-clause-counted c = c.loop-index.invariant.still ∙ c.requires.counted

pub settle-requires-clause-indexes : goal.settle-requires-clause-indexes
settle-requires-clause-indexes c =
    (All-pop (λ (i : ℕ). i < length c.args.branches.now) c.loop-index.work.items c.pop.new.self.items (Some c.in-Some.index) c.in-Some.ensures.items c.loop-index.invariant.indexes).0

pub returns-in_err-settle-clause-long : goal.returns-in_err-settle-clause-long
returns-in_err-settle-clause-long c = c.in_err-settle.ensures.long ∙ c.loop-index.invariant.long

pub returns-in_err-settle-clause-way : goal.returns-in_err-settle-clause-way
returns-in_err-settle-clause-way c = IfOk-from_err c.from_residual.result _ c.from_residual.ensures.0

pub returns-in_err-settle-clause-no_more : goal.returns-in_err-settle-clause-no_more
returns-in_err-settle-clause-no_more c = IfOk-from_err c.from_residual.result _ c.from_residual.ensures.0

-- the measure falls with what was taken from the list, where a branch is made long
falls_more : (before now branches index : ℕ) (work rest after : List ℕ) → now + 1 ≡ before → work ≡ rest ++ index ∷ [] → length after ≤ length rest + branches →
    now * (branches + 1) + length after < before * (branches + 1) + length work
falls_more before now branches index work rest after one popped few =
    let next : before ≡ suc now = omega (arith, one) in
    let product : before * (branches + 1) ≡ now * (branches + 1) + (branches + 1) = ap (λ (n : ℕ). n * (branches + 1)) next ∙ suc-mul now (branches + 1) in
    omega (arith, product, few, ap length popped ∙ length_push rest index)

-- and where none is
falls_same : (long now : List Bool) (distances counted : List ℕ) (branches index : ℕ) (work rest after : List ℕ) → work ≡ rest ++ index ∷ [] →
    (now ≡ long) × (counted ≡ distances) × (after ≡ rest) → short_count now * (branches + 1) + length after < short_count long * (branches + 1) + length work
falls_same long now distances counted branches index work rest after popped same =
    rw (same.0, same.2) (omega (arith, ap length popped ∙ length_push rest index))

pub loop-index-smaller : goal.loop-index-smaller
loop-index-smaller c =
    let told = c.in_ok-settle.ensures in
    let before = short_count c.loop-index.long.items in
    let now = short_count c.settle.new.long.items in
    elim (cases_Bool c.in_ok-settle.field-0) [
      | inl more ↦
          falls_more before now (length c.args.branches.now) c.in-Some.index c.loop-index.work.items c.pop.new.self.items c.settle.new.work.items (told.fewer (ap Ok more)) c.in-Some.ensures.items (told.few (ap Ok more))
      | inr none ↦
          falls_same c.loop-index.long.items c.settle.new.long.items c.loop-index.distances.items c.settle.new.distances.items (length c.args.branches.now) c.in-Some.index c.loop-index.work.items c.pop.new.self.items c.settle.new.work.items c.in-Some.ensures.items (told.unchanged (ap Ok none))
    ]

pub loop-index-preserved : goal.loop-index-preserved
loop-index-preserved c =
    let told = c.in_ok-settle.ensures in
    let known = c.loop-index.invariant in
    record {
      long = told.long ∙ known.long;
      still = told.still ∙ known.still;
      indexes = told.indexes;
      way = then_stay _ _ _ _ _ _ _ known.way told.way;
      no_more = elim (cases_Bool c.in_ok-settle.field-0) [
        | inl more ↦ omega (arith, told.fewer (ap Ok more), known.no_more)
        | inr same ↦ omega (arith, ap short_count ((told.unchanged (ap Ok same)).0), known.no_more)
      ];
    }

pub returns-clause-long : goal.returns-clause-long
returns-clause-long c = c.loop-index.invariant.long

pub returns-clause-way : goal.returns-clause-way
returns-clause-way c = c.loop-index.invariant.way

pub returns-clause-no_more : goal.returns-clause-no_more
returns-clause-no_more c = c.loop-index.invariant.no_more
