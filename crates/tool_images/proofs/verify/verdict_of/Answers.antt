use Rattle.tool_images.proofs.verify.verdict_of.Goals as goal

pub returns-in-Err : goal.returns-in-Err
returns-in-Err c = c.unread.ensures c.args.image.now c.args.graph.items c.in-Err.ensures.refused
