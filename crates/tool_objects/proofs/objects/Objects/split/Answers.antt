use Rattle.std.proofs.Common.{Some, map}
use Rattle.tool_objects.proofs.Giving.{split_parts}
use Rattle.tool_objects.proofs.objects.Objects.split.Goals as goal

pub returns-in-Joined-clause-gave : goal.returns-in-Joined-clause-gave
returns-in-Joined-clause-gave c = λ content names count.
    rw c.in-Joined.is (split_parts (λ b. b.items) content names (map Some (map (λ n. n.now) c.in-Joined.field-0.items)) c.args.bytes.now c.args.others count)
