use Rattle.std.proofs.Common.{ℕ, ◌<◌, List, sym, subst, ◌∙◌}
use Rattle.std.specs.List.{All, Contains}
use Rattle.obj_program.specs.Program.{count}
use Rattle.cfi_flow.specs.Policy.{place_named}
use Rattle.cfi_flow.proofs.Judged.{named_there}
use Rattle.cfi_flow.proofs.Listing.{below_all}
use Rattle.cfi_flow.proofs.Rising.{named_is}
use Rattle.cfi_flow.proofs.policy.allowed.Goals as goal

pub returns-clause-value : goal.returns-clause-value
returns-clause-value c =
    let program = c.args.items.now in
    c.of.ensures
    ∙ named_is (place_named program) c.args.line.now.targets (count program) _ c.drop_doubles.ensures.rising
    (λ t h. subst (λ (xs : List ℕ). Contains xs t) c.in_ok-targets.ensures ((c.drop_doubles.ensures.members t).0 h))
    (λ t h. (c.drop_doubles.ensures.members t).1 (subst (λ (xs : List ℕ). Contains xs t) (sym c.in_ok-targets.ensures) h))
    (named_there program)

pub returns-clause-there : goal.returns-clause-there
returns-clause-there c =
    let n = count c.args.items.now in
    subst (All (λ (t : ℕ). t < n)) (sym (returns-clause-value c)) (below_all (λ (t : ℕ). t < n) _ n (λ k less holds. less))
