use Rattle.std.proofs.Common.{◌≡◌, ◌+◌, ◌*◌, ◌++◌, [], ◌∷◌, length, ap, refl, subst, sym, ◌∙◌, arith}
use Rattle.std.proofs.lemmas.List.{length_push}
use Rattle.elf_names.specs.Marks.{AreMarks, IsMark, ending}
use Rattle.elf_names.proofs.Marked.{marks_grown, marks_pushed, nothing_marked}
use Rattle.elf_names.proofs.marks.marks_of.Goals as goal

pub loop-k-init : goal.loop-k-init
loop-k-init c =
    let mark = nothing_marked c.args.texts.now c.args.table.now c.empty.result c.empty.ensures in
    let items : c.push.new.self.items ≡ (record { front = 0; tail = c.empty.result }) ∷ [] =
    c.in_ok-push.ensures.items ∙ ap (λ ms. ms ++ (record { front = 0; tail = c.empty.result }) ∷ []) c.new-marks.ensures.items in (
      λ n text has. has,
      subst (λ ms. AreMarks c.args.texts.now c.args.table.now ms) (sym items)
          (marks_pushed c.args.texts.now c.args.table.now [] (record { front = 0; tail = c.empty.result }) 0 (λ k below. absurd (omega arith)) refl mark),
      ap length items,
      mark,
    )

pub loop-k-preserved : goal.loop-k-preserved
loop-k-preserved c =
    let next : 64 * c.loop-k.k + 64 ≡ 64 * (c.loop-k.k + 1) = omega arith in
    let mark = subst (λ n. IsMark c.back.new.texts (ending n c.args.table.now) c.in_ok-mark.mark) next c.in_ok-mark.ensures.mark in (
      λ n text has. c.in_ok-mark.ensures.grown n text (c.loop-k.invariant.0 n text has),
      subst (λ ms. AreMarks c.back.new.texts c.args.table.now ms) (sym c.in_ok-push-2.ensures.items)
          (marks_pushed c.back.new.texts c.args.table.now c.loop-k.marks.items c.in_ok-mark.mark (c.loop-k.k + 1)
          (marks_grown c.loop-k.texts c.back.new.texts c.args.table.now c.loop-k.marks.items c.in_ok-mark.ensures.grown c.loop-k.invariant.1) c.loop-k.invariant.2 mark),
      ap length c.in_ok-push-2.ensures.items ∙ length_push c.loop-k.marks.items c.in_ok-mark.mark ∙ ap (λ n. n + 1) c.loop-k.invariant.2,
      mark,
    )
