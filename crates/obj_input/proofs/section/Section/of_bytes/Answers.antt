use Rattle.std.proofs.Common.{◌∙◌, ap, subst, List}
use Rattle.std.specs.List.{list_any}
use Rattle.obj_input.specs.declared.parts.Relocation.{Relocation}
use Rattle.obj_input.specs.Input.{acting_among, acting_at}
use Rattle.obj_input.specs.InOrder.{IsFoundIn, is_high_use, is_pair_use}
use Rattle.obj_input.proofs.Once.{found_by}
use Rattle.obj_input.proofs.section.Section.of_bytes.Goals as goal

pub invariant_of-result : goal.invariant_of-result
unfolding acting_at
invariant_of-result c =
    let kept = found_by c.are_in_order-in_order.result c.args.uses.items c.in_ok-acting.acting.items
    (λ holds. subst (λ (us : List Relocation). IsFoundIn us us) c.deref.ensures.value (c.are_in_order-in_order.ensures holds))
    (λ out. subst (λ (us : List Relocation). IsFoundIn us c.in_ok-acting.acting.items) c.deref-2.ensures.value (c.in_ok-acting.ensures out)) in (
      c.requires.lent,
      record {
        whole = c.requires.whole;
        in_order = kept.in_order;
        found = kept.found;
        pair_at = λ at. c.in_ok-pairs.ensures at ∙ ap (λ (uses : List Relocation). list_any is_pair_use (acting_among uses at)) c.deref-3.ensures.value;
        high_at = λ at. c.in_ok-highs.ensures at ∙ ap (λ (uses : List Relocation). list_any is_high_use (acting_among uses at)) c.deref-4.ensures.value;
      },
    )
