use Rattle.cfi_flow.proofs.Sides.{whole_right}
use Rattle.cfi_flow.proofs.closing.close_side.Goals as goal

pub returns-in-Both-clause-right : goal.returns-in-Both-clause-right
returns-in-Both-clause-right c =
    whole_right c.args.raw.now c.args.sort c.side_of.result c.in-Both.is c.side_of.ensures.sort c.side_of.ensures.classes c.side_of.ensures.sites
