use Rattle.obj_link.proofs.Prelude.{section_behind, section_of, by, section_said_in, said_by}
use Rattle.obj_link.proofs.Sectioned.{made_grown, made_grown_none}
use Rattle.obj_link.proofs.sections.push_sections.Goals as goal

pub loop-k-init : goal.loop-k-init
loop-k-init c =
    made_grown_none (section_of (by c.args.resolution.now.numbers) (said_by c.args.resolution.now.objects)) (section_behind c.args.symbols) (section_said_in c.args.object.now)
    c.args.sections.now.items

pub loop-k-preserved : goal.loop-k-preserved
loop-k-preserved c =
    made_grown (section_of (by c.args.resolution.now.numbers) (said_by c.args.resolution.now.objects)) (section_behind c.args.symbols) (section_said_in c.args.object.now)
    c.loop-k.k c.args.sections.now.items _ _ _ c.loop-k.invariant c.in_ok-section.ensures c.in_ok-push.ensures.items
