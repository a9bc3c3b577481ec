use Rattle.obj_program.proofs.Ranges.{astray_begins, astray_step}
use Rattle.std.proofs.Common.{Some, ap, ◌∙◌, sym}
use Rattle.std.proofs.lemmas.Option.{slice_get-get_or}
use Rattle.obj_program.proofs.range.first_reloc.Goals as goal

pub loop-reloc-init : goal.loop-reloc-init
loop-reloc-init c = sym (astray_begins c.args.gates.now c.args.relocs.now)

pub reloc_astray-requires : goal.reloc_astray-requires
reloc_astray-requires c =
    c.requires c.loop-reloc.reloc-index c.reloc-item.result
    (slice_get-get_or c.args.relocs.now c.loop-reloc.reloc-index c.reloc-item.result c.loop-reloc-test.true ∙ ap Some (sym c.reloc-item.is))

pub loop-reloc-preserved : goal.loop-reloc-preserved
loop-reloc-preserved c =
    c.nearer-least.ensures
    ∙ astray_step c.args.gates.now c.args.relocs.now c.loop-reloc.reloc-index c.reloc-item.result c.loop-reloc.least c.reloc_astray.result
    (slice_get-get_or c.args.relocs.now c.loop-reloc.reloc-index c.reloc-item.result c.loop-reloc-test.true ∙ ap Some (sym c.reloc-item.is))
    c.loop-reloc.invariant c.reloc_astray.ensures
