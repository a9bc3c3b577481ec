use Rattle.std.proofs.Common.{◌∙◌, sym, ap, List, length}
use Rattle.obj_input.specs.Listed.{listed}
use Rattle.obj_join.specs.Said.{SymbolSaid}
use Rattle.obj_join.specs.Stands.{definition}
use Rattle.obj_join.specs.Found.{is_found}
use Rattle.obj_join.specs.SaidInput.{is_named, named}
use Rattle.obj_join.proofs.Chosen.{chosen_next, chosen_none, chosen_passed}
use Rattle.obj_join.proofs.name.names.Goals.{then-is_named+in_ok-push, else-is_named}
use Rattle.obj_join.proofs.name.names.Goals as goal

pub loop-number-init : goal.loop-number-init
loop-number-init c = λ resolve same.
    c.new-names.ensures.items ∙ sym (chosen_none (is_named (is_found c.args.definers.now) c.args.definers.now) (named resolve c.args.definers.now))

pub loop-number-preserved : goal.loop-number-preserved
loop-number-preserved c = λ resolve same. elim c.if-is_named.branch [
  | then-is_named+in_ok-push w ↦
      rw w.names-is
      (w.in_ok-push.ensures.items
      ∙ chosen_next (is_named (is_found c.args.definers.now) c.args.definers.now) (named resolve c.args.definers.now) c.loop-number.number _ _
      (c.loop-number.invariant resolve same) (sym c.is_named.ensures ∙ w.if-is_named.true) (w.named.ensures resolve (same ∙ ap (λ (ss : List SymbolSaid). listed (definition resolve ss) (length ss)) (sym c.symbols-symbols.ensures))
      ∙ ap (λ (ss : List SymbolSaid). named resolve ss c.loop-number.number) c.symbols-symbols.ensures))
  | else-is_named w ↦
      rw w.names-is
      (chosen_passed (is_named (is_found c.args.definers.now) c.args.definers.now) (named resolve c.args.definers.now) c.loop-number.number _
      (c.loop-number.invariant resolve same) (sym c.is_named.ensures ∙ w.if-is_named.false))
]
