use Rattle.std.proofs.Common.{ℕ, ◌<◌, ◌≤◌, length, inl, inr, sym, arith}
use Rattle.std.proofs.lemmas.Bool.{cases_lt}
use Rattle.cfi_flow.proofs.Pointing.{no_part, part_is}
use Rattle.cfi_flow.proofs.points.bounds.Goals as goal

pub returns-then-span-clause-part : goal.returns-then-span-clause-part
returns-then-span-clause-part c = λ p n is.
    let from : ℕ = c.count_below.result in
    let to : ℕ = c.count_below-then-span.result in
    let most : from ≤ length c.args.places.now = c.count_below.ensures.bound in
    let span : c.args.span.from < c.args.span.to = c.if-span.true in
    let order : from ≤ to = elim (cases_lt to from) [
      | inl less ↦
          let early = c.count_below.ensures.before to less in
          let late = c.count_below-then-span.ensures.from to (omega arith) (omega arith) in
          absurd (omega arith)
      | inr more ↦ more
    ] in
    part_is c.args.places.now c.requires c.args.span c.count_below.result c.count_below-then-span.result order c.count_below-then-span.ensures.bound
    c.count_below.ensures.before c.count_below.ensures.from c.count_below-then-span.ensures.before c.count_below-then-span.ensures.from p n is

pub returns-else-span-clause-part : goal.returns-else-span-clause-part
returns-else-span-clause-part c = λ p n is. sym (no_part p c.args.span n c.if-span.false)
