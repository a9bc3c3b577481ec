use Rattle.gen_hardened.specs.Laws.{entered}
use Rattle.tool_objects.proofs.demo.of_prepared.Goals as goal

pub of_hardened-requires-clause-made : goal.of_hardened-requires-clause-made
of_hardened-requires-clause-made c = c.in_ok-hardened.ensures.made (entered c.args.object.now) c.requires.prepared
