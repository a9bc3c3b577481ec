use Rattle.tool_objects.proofs.demo.of_program.Goals as goal

pub prepared-requires : goal.prepared-requires
prepared-requires c = (c.args.object.now, c.requires.drawn, c.requires.read)

pub of_prepared-requires : goal.of_prepared-requires
of_prepared-requires c = c.in_ok-prepared.ensures c.args.object.now c.requires.drawn c.requires.read
