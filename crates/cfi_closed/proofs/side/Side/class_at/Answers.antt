use Rattle.std.proofs.Common.{[], ◌∙◌, sym, ap, arith, ◌≤◌, length}
use Rattle.cfi_closed.specs.Closed.{Side, class_at}
use Rattle.cfi_class.specs.Classes.{has}
use Rattle.cfi_class.proofs.Finding.{has_not, position_none}
use Rattle.cfi_closed.proofs.side.Side.class_at.Goals as goal

pub returns-else-place-len : goal.returns-else-place-len
returns-else-place-len c =
    let past : length c.self.inside.class_at.items ≤ c.args.place = omega (arith, c.len.ensures, c.if-place-len.false, c.self.inside.class_at.ok) in
    sym (position_none (has c.args.place) c.self.inside.classes.items []
    (λ i inside. has_not (length c.self.inside.class_at.items) c.args.place _ (c.self.invariant.members_there i [] inside) past))
    ∙ ap (λ (s : Side). class_at s c.args.place) c.self.view_is
