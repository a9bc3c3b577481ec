use Rattle.std.proofs.Common.{◌∙◌, refl}
use Rattle.std.proofs.lemmas.List.{get_or_default}
use Rattle.obj_items.proofs.Prelude.{no_item, outline}
use Rattle.obj_items.proofs.Linking.{linked_stands, one_linked}
use Rattle.obj_items.proofs.Lone.{lone_linked}
use Rattle.obj_items.proofs.links.link_at.Goals as goal

pub item_with-linked-requires-clause-instruction : goal.item_with-linked-requires-clause-instruction
item_with-linked-requires-clause-instruction c =
    linked_stands c.args.input.now c.args.places.now.items c.args.j c.item-item.result c.requires.linked c.requires.below
    (c.item-item.ensures ∙ c.index.ensures ∙ get_or_default c.args.places.now.items c.args.j _ _ c.requires.below)

pub of-requires : goal.of-requires
of-requires c =
    rw (rw c.deref.ensures.value at c.item_with-linked.ensures)
    (lone_linked c.args.input.now c.args.places.now.items c.args.j c.item-item.result c.requires.sound c.requires.linked c.requires.below
    (c.item-item.ensures ∙ c.index.ensures ∙ get_or_default c.args.places.now.items c.args.j _ no_item c.requires.below))

pub returns : goal.returns
returns c =
    one_linked c.args.input.now (outline c.args.input.now) c.args.places.now.items _ c.args.j c.item-item.result _ c.requires.linked c.requires.below
    (c.item-item.ensures ∙ c.index.ensures ∙ get_or_default c.args.places.now.items c.args.j _ no_item c.requires.below)
    (c.of.ensures ∙ rw c.deref.ensures.value at c.item_with-linked.ensures) refl
