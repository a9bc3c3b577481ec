use Rattle.std.proofs.Common.{ℕ, ◌+◌, length, ap, sym, arith, ◌∙◌}
use Rattle.cfi_closed.specs.Closed.{Side, class_among, class_of}
use Rattle.cfi_closed.proofs.Sides.{among_end, among_found, among_passed}
use Rattle.cfi_closed.proofs.closed.Closed.class_of.Goals as goal

pub returns-in-Some : goal.returns-in-Some
returns-in-Some c =
    among_found c.sides-side-items.result.now c.loop-side.side-index c.args.place c.loop-side.before c.in-Some.class c.side-item.result
    (class_among c.args.self.now.sides c.args.place) c.loop-side-test.true c.loop-side.invariant.0
    (sym (c.in-Some.ensures.value ∙ ap (λ (s : Side). class_of s c.args.place) c.side-item.is))

pub loop-side-preserved : goal.loop-side-preserved
loop-side-preserved c = (
  among_passed c.sides-side-items.result.now c.loop-side.side-index c.args.place c.loop-side.before _ c.side-item.result
      (class_among c.args.self.now.sides c.args.place) c.loop-side-test.true c.loop-side.invariant.0
      (sym (c.in-None.ensures.value ∙ ap (λ (s : Side). class_of s c.args.place) c.side-item.is))
      (ap (λ (n : ℕ). c.loop-side.before + n) (c.classes-classes.ensures.value ∙ ap (λ (s : Side). length s.classes) c.side-item.is)),
  omega (arith, c.loop-side.invariant.1, c.classes-classes.ensures.few),
)

pub returns : goal.returns
returns c =
    among_end c.sides-side-items.result.now c.loop-side.side-index c.args.place c.loop-side.before (class_among c.args.self.now.sides c.args.place)
    c.loop-side-test.false c.loop-side.invariant.0
