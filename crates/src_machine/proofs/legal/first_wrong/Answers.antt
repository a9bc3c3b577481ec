use Rattle.std.proofs.Common.{◌≡◌, ◌+◌, ◌-◌, ℕ, ap, arith, length, sym, ◌∙◌}
use Rattle.least.proofs.Firsts.{first_begins, first_found, first_passed}
use Rattle.src_machine.specs.MapLine.{is_wrong, stores_before}
use Rattle.src_machine.proofs.Members.{none_at_first, place_there}
use Rattle.src_machine.proofs.legal.first_wrong.Goals as goal

pub loop-j-init : goal.loop-j-init
loop-j-init c = (first_begins (is_wrong c.args.form c.args.grouping.now c.args.lines.now), none_at_first c.args.grouping.now c.args.lines.now)

pub returns-then-is_wrong-clause-value : goal.returns-then-is_wrong-clause-value
returns-then-is_wrong-clause-value c =
    sym (first_found (is_wrong c.args.form c.args.grouping.now c.args.lines.now) c.loop-j.j (length c.args.lines.now + 1) (omega (arith, c.loop-j-test.true))
    c.loop-j.invariant.0 (sym c.is_wrong.ensures ∙ c.if-is_wrong.true))

pub stores_before-before-requires-clause-place : goal.stores_before-before-requires-clause-place
stores_before-before-requires-clause-place c =
    place_there c.args.form c.args.grouping.now c.args.lines.now c.loop-j.j c.loop-j.invariant.0 (omega (arith, c.loop-j-test.true))

pub loop-j-preserved : goal.loop-j-preserved
loop-j-preserved c =
    let index : c.loop-j.j ≡ c.loop-j.j + 1 - 1 = omega arith in (
      first_passed (is_wrong c.args.form c.args.grouping.now c.args.lines.now) c.loop-j.j c.loop-j.invariant.0 (sym c.is_wrong.ensures ∙ c.if-is_wrong.false),
      c.stores_before-before.ensures ∙ ap (λ (j : ℕ). stores_before c.args.grouping.now c.args.lines.now j) index,
    )
