use Rattle.std.proofs.Common.{◌≡◌, ◌+◌, arith, subst, sym, ◌∙◌}
use Rattle.obj_program.specs.Program.{count}
use Rattle.cfi_writer.proofs.UnitList.{AreFirst, all_units, next_units, no_first, same_units}
use Rattle.cfi_writer.proofs.chosen.Chosen.lean_units.Goals.{then-not-is_later+in_ok-push_lean_unit, else-not-is_later}
use Rattle.cfi_writer.proofs.chosen.Chosen.lean_units.Goals as goal

pub loop-k-init : goal.loop-k-init
loop-k-init c = no_first c.args.self.now c.new-units.result.items c.new-units.ensures.items

pub loop-k-preserved : goal.loop-k-preserved
loop-k-preserved c =
    let m = c.args.self.now in
    elim c.if-not-is_later.branch [
      | then-not-is_later+in_ok-push_lean_unit w ↦
          subst (λ v. AreFirst m (c.loop-k.k + 1) v.items) (sym w.units-is)
          (next_units m c.loop-k.k c.loop-k.units.items w.push_lean_unit.new.units.items (sym c.is_later.ensures ∙ w.if-not-is_later.true) c.loop-k.invariant
          w.in_ok-push_lean_unit.ensures)
      | else-not-is_later w ↦
          subst (λ v. AreFirst m (c.loop-k.k + 1) v.items) (sym w.units-is)
          (same_units m c.loop-k.k c.loop-k.units.items (sym c.is_later.ensures ∙ w.if-not-is_later.false) c.loop-k.invariant)
    ]

pub returns : goal.returns
returns c =
    let end = c.count-k-end.ensures.value in
    let test = c.loop-k-test.false in
    let most = c.loop-k.auto.k-end in
    let all : c.loop-k.k ≡ count c.args.self.now.layout.program = omega arith in
    all_units c.args.self.now c.loop-k.k c.loop-k.units.items all c.loop-k.invariant
