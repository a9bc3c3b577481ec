use Rattle.std.proofs.Common.{ℕ, List, subst}
use Rattle.std.specs.List.{AllByRecursion}
use Rattle.rv_word.specs.Numbers.{IsNumber}
use Rattle.rv_word.proofs.Arrays.{take_all}
use Rattle.rv_word.proofs.numbers.Numbers.as_slice.Goals as goal

pub returns-clause-small : goal.returns-clause-small
returns-clause-small c =
    subst (λ (l : List ℕ). AllByRecursion IsNumber l) c.self.view_is (take_all IsNumber c.self.inside.count c.self.inside.items c.self.invariant.3)
