use Rattle.std.proofs.Common.{◌∙◌, true, sym}
use Rattle.obj_join.specs.SaidInput.{is_named, named}
use Rattle.obj_join.proofs.Chosen.{chosen_next, chosen_none, chosen_passed}
use Rattle.obj_join.proofs.own.own_names.Goals.{then-is_named+in_ok-push, else-is_named}
use Rattle.obj_join.proofs.own.own_names.Goals as goal

pub loop-number-init : goal.loop-number-init
loop-number-init c = λ resolve same.
    c.new-names.ensures.items ∙ sym (chosen_none (is_named (λ n. true) c.args.symbols.now) (named resolve c.args.symbols.now))

pub loop-number-preserved : goal.loop-number-preserved
loop-number-preserved c = λ resolve same. elim c.if-is_named.branch [
  | then-is_named+in_ok-push w ↦
      rw w.names-is
      (w.in_ok-push.ensures.items
      ∙ chosen_next (is_named (λ n. true) c.args.symbols.now) (named resolve c.args.symbols.now) c.loop-number.number _ _
      (c.loop-number.invariant resolve same) (sym c.is_named.ensures ∙ w.if-is_named.true) (w.named.ensures resolve same))
  | else-is_named w ↦
      rw w.names-is
      (chosen_passed (is_named (λ n. true) c.args.symbols.now) (named resolve c.args.symbols.now) c.loop-number.number _
      (c.loop-number.invariant resolve same) (sym c.is_named.ensures ∙ w.if-is_named.false))
]
