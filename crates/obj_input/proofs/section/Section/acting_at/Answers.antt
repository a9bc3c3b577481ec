use Rattle.std.proofs.Common.{sym, ap, subst, ◌∙◌}
use Rattle.std.specs.List.Sorted.{IsNonDecreasingBy}
use Rattle.obj_input.specs.declared.parts.Relocation.{Relocation}
use Rattle.obj_input.specs.Input.{SectionParts, acting_at}
use Rattle.obj_input.specs.InOrder.{standing_at}
use Rattle.obj_input.proofs.section.Section.acting_at.Goals as goal

pub standing_at-requires : goal.standing_at-requires
standing_at-requires c =
    subst (IsNonDecreasingBy (λ (u : Relocation). u.offset))
    (sym (rw (c.deref.ensures.value, c.deref-2.ensures.value) at c.by_offset.ensures)) c.self.invariant.1.in_order

pub returns : goal.returns
returns c =
    c.standing_at.ensures
    ∙ ap (standing_at c.args.offset) (rw (c.deref.ensures.value, c.deref-2.ensures.value) at c.by_offset.ensures)
    ∙ c.self.invariant.1.found c.args.offset ∙ ap (λ (s : SectionParts). acting_at s c.args.offset) c.self.view_is
