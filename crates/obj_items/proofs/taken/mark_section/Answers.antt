use Rattle.std.proofs.Common.{◌||◌, ◌∙◌, List, ap, false, get_or}
use Rattle.std.specs.List.{list_any}
use Rattle.std.proofs.lemmas.List.{get_or_default, take_all}
use Rattle.obj_items.proofs.Prelude.{Relocation, SectionParts, no_item, takes}
use Rattle.obj_items.proofs.Marks.{any_next}
use Rattle.obj_items.proofs.taken.mark_section.Goals as goal

pub loop-u-preserved : goal.loop-u-preserved
loop-u-preserved c = (
  c.mark.ensures.count,
  λ i below.
      any_next (get_or c.args.marks.now.items i false) (get_or c.loop-u.marks.items i false) (get_or c.mark.new.marks.items i false)
      (get_or c.args.places.now i no_item).section (get_or c.args.places.now i no_item).offset c.uses-uses.result.now c.loop-u.u-index _ _ c.loop-u-test.true
      (c.loop-u.invariant.1 i below) (get_or_default c.uses-uses.result.now c.loop-u.u-index _ _ c.loop-u-test.true) c.pointed.ensures (c.mark.ensures.marks i below),
)

pub returns : goal.returns
returns c = record {
  count = c.loop-u.invariant.0;
  marks =
      λ i below.
      c.loop-u.invariant.1 i below
      ∙ ap (λ (us : List Relocation). get_or c.args.marks.now.items i false || list_any (takes (get_or c.args.places.now i no_item).section (get_or c.args.places.now i no_item).offset) us)
      (take_all c.loop-u.u-index c.uses-uses.result.now c.loop-u-test.false ∙ c.uses-uses.ensures ∙ ap (λ (s : SectionParts). s.uses) c.section.ensures);
}
