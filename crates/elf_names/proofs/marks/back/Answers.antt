use Rattle.std.proofs.Common.{◌+◌, ◌≤◌, drop, length, subst, sym, arith}
use Rattle.elf_names.specs.Marks.{IsMark}
use Rattle.elf_names.proofs.Marked.{ending_less}
use Rattle.elf_names.proofs.marks.back.Goals as goal

pub step-requires-clause-after : goal.step-requires-clause-after
step-requires-clause-after c =
    let inside : c.loop-n.n + 1 ≤ length c.args.table.now = omega (arith, c.requires.inside) in
    subst (λ bs. IsMark c.loop-n.texts (drop 1 bs) c.loop-n.mark) (sym c.ending.ensures.value)
    (subst (λ bs. IsMark c.loop-n.texts bs c.loop-n.mark) (sym (ending_less c.args.table.now c.loop-n.n inside)) c.loop-n.invariant.1)

pub loop-n-preserved : goal.loop-n-preserved
loop-n-preserved c = (
  λ k text has. c.in_ok-mark.ensures.grown k text (c.loop-n.invariant.0 k text has),
  subst (λ bs. IsMark c.step.new.texts bs c.in_ok-mark.mark) c.ending.ensures.value c.in_ok-mark.ensures.mark,
)
