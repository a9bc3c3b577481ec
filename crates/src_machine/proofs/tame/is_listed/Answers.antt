use Rattle.std.proofs.Common.{◌∙◌}
use Rattle.src_machine.proofs.Listing.{listed_any}
use Rattle.src_machine.proofs.tame.is_listed.Goals as goal

pub returns : goal.returns
returns c = c.has.ensures ∙ listed_any c.args.number c.args.calls.now
