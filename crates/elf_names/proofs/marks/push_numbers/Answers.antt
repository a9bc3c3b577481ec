use Rattle.std.proofs.Common.{◌++◌, [], get_or, refl, subst, sym, append-nil}
use Rattle.elf_names.specs.Numbers.{AreNumbers}
use Rattle.elf_names.proofs.Apart.{numbers_grown, numbers_next}
use Rattle.elf_names.proofs.Marked.{marks_grown}
use Rattle.elf_names.proofs.marks.push_numbers.Goals as goal

pub loop-at-init : goal.loop-at-init
loop-at-init c = (
  c.in_ok-marks.ensures.marks,
  c.in_ok-marks.ensures.count,
  λ names are.
      numbers_grown c.args.texts.now c.marks_of.new.texts c.args.numbers.now.items (names ++ []) c.in_ok-marks.ensures.grown
      (subst (λ ns. AreNumbers c.args.texts.now c.args.numbers.now.items ns) (sym (append-nil names)) are),
)

pub loop-at-preserved : goal.loop-at-preserved
loop-at-preserved c = (
  marks_grown c.loop-at.texts c.number_at.new.texts c.args.table.now c.in_ok-marks.marks.items c.in_ok-number.ensures.grown c.loop-at.invariant.0,
  c.loop-at.invariant.1,
  λ names are.
      numbers_next c.loop-at.texts c.number_at.new.texts c.args.table.now c.args.starts.now c.loop-at.numbers.items c.push.new.self.items names c.loop-at.at-index
      (get_or c.args.starts.now c.loop-at.at-index 0) c.in_ok-number.number c.loop-at-test.true refl c.in_ok-number.ensures.grown c.in_ok-number.ensures.put
      c.in_ok-push.ensures.items (c.loop-at.invariant.2 names are),
)
