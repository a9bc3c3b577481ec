use Rattle.std.proofs.Common.{sym, ap, ◌∙◌}
use Rattle.obj_program.specs.declared.item.Item.{Item}
use Rattle.cfi_flow.specs.Sites.{site_kind}
use Rattle.cfi_flow.proofs.Stepping.{drawn_none, drawn_site}
use Rattle.cfi_flow.proofs.graph.with_place.Goals as goal

pub returns-in_ok-drawing-in-Some : goal.returns-in_ok-drawing-in-Some
returns-in_ok-drawing-in-Some c =
    let is = sym (ap (λ (i : Item). site_kind i.kind) c.item.ensures) ∙ sym c.in-Some.ensures in
    drawn_site c.args.items.now c.args.lines.now c.args.k c.in-Some.kind c.args.drawing c.in_ok-drawing-in-Some.drawing c.requires.drawn is
    c.in_ok-drawing-in-Some.ensures.sites c.in_ok-drawing-in-Some.ensures.of

pub returns-in-None : goal.returns-in-None
returns-in-None c =
    let is = sym (ap (λ (i : Item). site_kind i.kind) c.item.ensures) ∙ sym c.in-None.ensures in
    drawn_none c.args.items.now c.args.lines.now c.args.k c.args.drawing c.requires.drawn is
