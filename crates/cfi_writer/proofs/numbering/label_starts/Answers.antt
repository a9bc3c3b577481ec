use Rattle.std.proofs.Common.{◌≡◌, ◌+◌, ◌<◌, ℕ, List, Some, length, length-append, arith, ap, subst, sym, ◌∙◌}
use Rattle.std.specs.Prelude.{slice_get}
use Rattle.cfi_writer.proofs.Prelude.{Side, empty_classes}
use Rattle.cfi_writer.proofs.Starts.{before_first, before_next, counted_at, next_start, side_there}
use Rattle.cfi_writer.proofs.numbering.label_starts.Goals.{After-empty_classes}
use Rattle.cfi_writer.proofs.numbering.label_starts.Goals as goal

pub loop-side-init : goal.loop-side-init
loop-side-init c = record {
  many = ap length c.new-starts.ensures.items;
  next_is = sym (before_first c.args.closed.now.sides);
  each = λ i below. absurd (omega arith);
}

there : (c : After-empty_classes) → slice_get c.args.closed.now.sides c.loop-side.side-index ≡ Some c.side-item.result
there c =
    side_there c.sides-side-items.result.now c.args.closed.now.sides c.loop-side.side-index c.side-item.result c.sides-side-items.ensures.value
    (subst (λ (xs : List Side). c.loop-side.side-index < length xs) c.sides-side-items.ensures.value c.loop-side-test.true) c.side-item.is

pub overflow_add-next-in-loop-side : goal.overflow_add-next-in-loop-side
overflow_add-next-in-loop-side c =
    let side = c.side-item.result in
    omega (
      arith,
      c.requires,
      c.loop-side.invariant.next_is,
      counted_at c.args.closed.now.sides c.loop-side.side-index side (there c),
      c.classes.ensures.value,
      c.empty_classes.ensures,
      length-append side.classes (empty_classes side.sites),
    )

pub overflow_add-next : goal.overflow_add-next
overflow_add-next c =
    let side = c.side-item.result in
    omega (
      arith,
      c.requires,
      counted_at c.args.closed.now.sides c.loop-side.side-index side (there c),
      c.classes.ensures.value,
      c.empty_classes.ensures,
      length-append side.classes (empty_classes side.sites),
    )

pub loop-side-preserved : goal.loop-side-preserved
loop-side-preserved c =
    let side = c.side-item.result in
    let j : ℕ = c.loop-side.side-index in
    record {
      many = ap length c.in_ok-push.ensures.items ∙ length-append c.loop-side.starts.items _ ∙ ap (λ (n : ℕ). n + 1) c.loop-side.invariant.many;
      next_is = omega (
        arith,
        c.loop-side.invariant.next_is,
        before_next c.args.closed.now.sides j side (there c),
        c.classes.ensures.value,
        c.empty_classes.ensures,
        length-append side.classes (empty_classes side.sites),
      );
      each = next_start c.args.closed.now.sides c.loop-side.starts.items c.push.new.self.items j c.loop-side.next c.in_ok-push.ensures.items c.loop-side.invariant.many
          c.loop-side.invariant.next_is c.loop-side.invariant.each;
    }
