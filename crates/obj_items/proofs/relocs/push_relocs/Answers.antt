use Rattle.std.proofs.Common.{◌++◌, ◌∙◌, List, ap}
use Rattle.std.specs.List.{flat_map}
use Rattle.std.proofs.lemmas.List.{get_or_default, take_all}
use Rattle.obj_items.proofs.Prelude.{Relocation, reloc_of}
use Rattle.obj_items.proofs.Data.{flat_map_more}
use Rattle.obj_items.proofs.relocs.push_relocs.Goals as goal

pub loop-u-preserved : goal.loop-u-preserved
loop-u-preserved c =
    flat_map_more (reloc_of c.args.input.now c.args.places.now c.args.k) c.args.uses.now c.loop-u.u-index _ c.args.relocs.now.items c.loop-u.relocs.items _
    c.loop-u-test.true (get_or_default c.args.uses.now c.loop-u.u-index _ _ c.loop-u-test.true) c.loop-u.invariant c.in_ok-push_reloc.ensures

pub returns : goal.returns
returns c =
    c.loop-u.invariant
    ∙ ap (λ (us : List Relocation). c.args.relocs.now.items ++ flat_map (reloc_of c.args.input.now c.args.places.now c.args.k) us)
    (take_all c.loop-u.u-index c.args.uses.now c.loop-u-test.false)
