use Rattle.std.proofs.Common.{◌∙◌, List, ap, length}
use Rattle.obj_items.proofs.Prelude.{joined, InputParts, SectionParts, listed_relocs, outline}
use Rattle.obj_items.proofs.Without.{same_relocs}
use Rattle.obj_items.specs.Bare as without
use Rattle.obj_items.proofs.relocs.relocs.Goals as goal

pub returns : goal.returns
returns c = λ whole bare sections found.
    c.in_ok-relocs.ensures
    ∙ ap (λ (i : InputParts). joined (listed_relocs i c.args.places.now c.args.sections.items) (length c.args.sections.items)) bare
    ∙ ap (λ (ss : List SectionParts). joined (listed_relocs (without.bare whole) c.args.places.now ss) (length ss)) sections
    ∙ same_relocs whole c.args.places.now (outline whole) found
