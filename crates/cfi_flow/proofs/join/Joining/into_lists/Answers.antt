use Rattle.cfi_flow.proofs.Merging.{all_joined}
use Rattle.cfi_flow.proofs.join.Joining.into_lists.Goals as goal

pub returns : goal.returns
returns c = λ sets taken begun is.
    rw (c.in_ok-push.ensures.items, c.of.ensures) (all_joined sets taken begun c.args.self.lists.items c.args.self.group.items c.args.self.last is)
