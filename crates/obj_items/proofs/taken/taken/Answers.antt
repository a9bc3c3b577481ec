use Rattle.std.proofs.Common.{◌∙◌, ap, arith, Bool, false, List, get_or, length}
use Rattle.std.proofs.lemmas.List.{get_or-replicate, length-replicate}
use Rattle.std.specs.Prelude.{is_some}
use Rattle.obj_items.proofs.Prelude.{first_below, no_item, is_taken, some_takes}
use Rattle.obj_items.proofs.Marks.{sections_begin, sections_next}
use Rattle.obj_items.proofs.taken.taken.Goals as goal

pub loop-j-init : goal.loop-j-init
loop-j-init c = (
  ap length c.in_ok-marks.ensures ∙ length-replicate (length c.args.places.now) false,
  λ i below.
      ap (λ (marks : List Bool). get_or marks i false) c.in_ok-marks.ensures ∙ get_or-replicate (length c.args.places.now) i false false below
      ∙ sections_begin (some_takes c.args.input.now (get_or c.args.places.now i no_item).section (get_or c.args.places.now i no_item).offset),
)

pub loop-j-preserved : goal.loop-j-preserved
loop-j-preserved c = (
  c.mark_section.ensures.count,
  λ i below.
      sections_next (some_takes c.args.input.now (get_or c.args.places.now i no_item).section (get_or c.args.places.now i no_item).offset) c.loop-j.j _ _
      (c.loop-j.invariant.1 i below) (c.mark_section.ensures.marks i below),
)

pub returns-clause-marks : goal.returns-clause-marks
unfolding is_taken
returns-clause-marks c =
    λ i below.
    c.loop-j.invariant.1 i below
    ∙ ap (λ n. is_some (first_below (some_takes c.args.input.now (get_or c.args.places.now i no_item).section (get_or c.args.places.now i no_item).offset) n))
    (let end = c.section_count-j-end.ensures in omega arith)
