use Rattle.std.proofs.Common.{ℕ, false, ◌||◌, List, Option, get_or, ap, arith, subst, ◌∙◌}
use Rattle.std.proofs.lemmas.List.{take_all}
use Rattle.obj_input.specs.declared.parts.Func.{Func}
use Rattle.cfi_flow.specs.Marks.{AreBegun}
use Rattle.cfi_flow.specs.Policy.{is_number}
use Rattle.cfi_flow.proofs.Reaching.{begun_more, begun_none, place_within}
use Rattle.cfi_flow.proofs.begin.begun.Goals as goal

pub loop-j-init : goal.loop-j-init
loop-j-init c = begun_none c.args.items.now c.in_ok-marks.marks.items (c.in_ok-marks.ensures.size ∙ c.count.ensures.value) c.in_ok-marks.ensures.each

pub mark-requires : goal.mark-requires
mark-requires c = place_within c.args.items.now.items c.func-func.result.section c.func-func.result.offset _ _ c.place_of-place.ensures c.loop-j.invariant.size

pub loop-j-preserved : goal.loop-j-preserved
loop-j-preserved c =
    begun_more c.args.items.now c.loop-j.j c.func-func.result c.loop-j.marks.items c.mark.new.marks.items c.count.ensures.sound.in_order c.func-func.ensures
    c.loop-j.invariant c.mark.ensures.size
    (λ k. c.mark.ensures.each k ∙ ap (λ (o : Option ℕ). get_or c.loop-j.marks.items k false || is_number k o) c.place_of-place.ensures)

pub returns : goal.returns
returns c = subst (λ (fs : List Func). AreBegun c.args.items.now fs c.loop-j.marks.items) (take_all c.loop-j.j c.args.items.now.funcs (omega arith)) c.loop-j.invariant
