use Rattle.cfi_flow.proofs.Merging.{list_more}
use Rattle.cfi_flow.proofs.join.Joining.with_list.Goals as goal

pub returns : goal.returns
returns c = λ sets taken begun k is at.
    rw c.in_ok-push.ensures.items (list_more sets taken begun k c.args.self.lists.items c.args.self.group.items c.args.self.last is c.args.list at)
