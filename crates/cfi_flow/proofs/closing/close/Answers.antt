use Rattle.std.proofs.Common.{Bool, List, length, sym, subst, ◌∙◌}
use Rattle.std.specs.List.{All}
use Rattle.cfi_closed.specs.Closed.{IsSideInside}
use Rattle.cfi_flow.proofs.closing.close.Goals as goal

pub of-requires : goal.of-requires
of-requires c = record {
  sorts = c.in_ok-sides.ensures.sorts;
  inside = subst (λ (marks : List Bool). All (IsSideInside (length marks)) c.in_ok-sides.sides.items) (sym (c.in_ok-taken.ensures.items ∙ c.marks.ensures)) c.in_ok-sides.ensures.inside;
}
