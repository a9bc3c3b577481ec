use Rattle.std.proofs.Common.{List, subst}
use Rattle.std.specs.List.{AllByRecursion}
use Rattle.std.proofs.lemmas.List.Elements.{recursion_from_All}
use Rattle.cfi_unit.specs.declared.members.Member.{Member}
use Rattle.cfi_unit.specs.Members.{IsMember}
use Rattle.cfi_unit.proofs.members.Members.in_range.Goals as goal

pub returns-clause-each : goal.returns-clause-each
returns-clause-each c =
    subst (λ (l : List Member). AllByRecursion IsMember l) c.as_slice.ensures.items (recursion_from_All IsMember _ c.members_fit.ensures)
