use Rattle.std.proofs.Common.{◌≡◌, ℕ, ◌<◌, true, false, Bool, List, [], length, Ok, ap, sym, subst, refl, ◌∙◌, arith}
use Rattle.std.specs.List.{All}
use Rattle.std.proofs.lemmas.List.{length-map}
use Rattle.std.proofs.lemmas.Result.{IfOk-from_err}
use Rattle.cfi_layout.specs.Lengthening.{gap, is_far, AreCounted, Going}
use Rattle.cfi_layout.proofs.Exits.{no_value, no_change, a_change}
use Rattle.cfi_layout.proofs.Lengthening.{gap_read, gaps_counted, then_stay}
use Rattle.cfi_layout.proofs.worklist.lengthen.Goals as goal

pub returns-then-not-branch-clause-settled : goal.returns-then-not-branch-clause-settled
returns-then-not-branch-clause-settled c = λ e i b is far.
    let read = gap_read c.args.branches.now c.args.starts.now c.in_ok-distances.distances.items i b c.in_ok-distances.ensures is in
    c.in_ok-settle_each.ensures.settled (ap Ok c.if-not-branch.true) i b is (ap (λ (n : ℕ). is_far b n) read ∙ far)

pub returns-clause-going : goal.returns-clause-going
returns-clause-going c = λ from sizes shorts going are.
    let counted = subst (λ (starts : List ℕ). AreCounted c.args.branches.now starts c.in_ok-distances.distances.items) are
    (gaps_counted c.args.branches.now c.args.starts.now c.in_ok-distances.distances.items c.in_ok-distances.ensures) in
    (then_stay _ _ _ _ _ _ _ c.in_ok-settle_each.ensures.way c.in_ok-settle_rest.ensures.way).going from sizes shorts going counted

pub gaps-requires-clause-parts : goal.gaps-requires-clause-parts
gaps-requires-clause-parts c = λ i b is.
    let parts = c.requires.parts i b is in
    (omega (arith, parts.0, c.requires.starts), omega (arith, parts.1, c.requires.starts))

pub gaps-requires-clause-low : goal.gaps-requires-clause-low
gaps-requires-clause-low c = c.requires.low

pub returns-in_err-distances-clause-len : goal.returns-in_err-distances-clause-len
returns-in_err-distances-clause-len c = refl

pub returns-in_err-distances-clause-going : goal.returns-in_err-distances-clause-going
returns-in_err-distances-clause-going c = IfOk-from_err c.from_residual.result _ c.from_residual.ensures.0

pub returns-in_err-distances-clause-unchanged : goal.returns-in_err-distances-clause-unchanged
returns-in_err-distances-clause-unchanged c = λ e. refl

pub returns-in_err-distances-clause-settled : goal.returns-in_err-distances-clause-settled
returns-in_err-distances-clause-settled c = no_value c.from_residual.result false c.from_residual.ensures.0

pub returns-in_err-distances-clause-fewer : goal.returns-in_err-distances-clause-fewer
returns-in_err-distances-clause-fewer c = no_value c.from_residual.result true c.from_residual.ensures.0

pub settle_each-requires-clause-parts : goal.settle_each-requires-clause-parts
settle_each-requires-clause-parts c = λ i b is. (c.requires.parts i b is).0

pub settle_each-requires-clause-counted : goal.settle_each-requires-clause-counted
settle_each-requires-clause-counted c = ap length c.in_ok-distances.ensures ∙ length-map c.args.branches.now (gap c.args.starts.now)

none_there : (n : ℕ) (work : List ℕ) → work ≡ [] → All (λ (i : ℕ). i < n) work
none_there n work none = rw none (λ k d lt. absurd (omega arith))

pub settle_each-requires-clause-indexes : goal.settle_each-requires-clause-indexes
settle_each-requires-clause-indexes c = none_there (length c.args.branches.now) c.new-work.result.items c.new-work.ensures.items

pub returns-in_err-settle_each-clause-len : goal.returns-in_err-settle_each-clause-len
returns-in_err-settle_each-clause-len c = c.in_err-settle_each.ensures.long

pub returns-in_err-settle_each-clause-going : goal.returns-in_err-settle_each-clause-going
returns-in_err-settle_each-clause-going c = IfOk-from_err c.from_residual-in_err-settle_each.result _ c.from_residual-in_err-settle_each.ensures.0

pub returns-in_err-settle_each-clause-unchanged : goal.returns-in_err-settle_each-clause-unchanged
returns-in_err-settle_each-clause-unchanged c = no_value c.from_residual-in_err-settle_each.result false c.from_residual-in_err-settle_each.ensures.0

pub returns-in_err-settle_each-clause-settled : goal.returns-in_err-settle_each-clause-settled
returns-in_err-settle_each-clause-settled c = no_value c.from_residual-in_err-settle_each.result false c.from_residual-in_err-settle_each.ensures.0

pub returns-in_err-settle_each-clause-fewer : goal.returns-in_err-settle_each-clause-fewer
returns-in_err-settle_each-clause-fewer c = no_value c.from_residual-in_err-settle_each.result true c.from_residual-in_err-settle_each.ensures.0

pub returns-then-not-branch-clause-len : goal.returns-then-not-branch-clause-len
returns-then-not-branch-clause-len c = c.in_ok-settle_each.ensures.long

pub returns-then-not-branch-clause-going : goal.returns-then-not-branch-clause-going
returns-then-not-branch-clause-going c = λ from sizes shorts going are.
    subst (λ (long : List Bool). Going from c.args.branches.now sizes long) (sym (c.in_ok-settle_each.ensures.unchanged (ap Ok c.if-not-branch.true))) going

pub returns-then-not-branch-clause-unchanged : goal.returns-then-not-branch-clause-unchanged
returns-then-not-branch-clause-unchanged c = λ e. c.in_ok-settle_each.ensures.unchanged (ap Ok c.if-not-branch.true)

pub returns-then-not-branch-clause-fewer : goal.returns-then-not-branch-clause-fewer
returns-then-not-branch-clause-fewer c = no_change

pub settle_rest-requires-clause-parts : goal.settle_rest-requires-clause-parts
settle_rest-requires-clause-parts c = λ i b is. subst (λ (n : ℕ). b.at < n) (sym c.in_ok-settle_each.ensures.long) ((c.requires.parts i b is).0)

pub settle_rest-requires-clause-counted : goal.settle_rest-requires-clause-counted
settle_rest-requires-clause-counted c =
    c.in_ok-settle_each.ensures.still ∙ ap length c.in_ok-distances.ensures ∙ length-map c.args.branches.now (gap c.args.starts.now)

pub settle_rest-requires-clause-indexes : goal.settle_rest-requires-clause-indexes
settle_rest-requires-clause-indexes c = c.in_ok-settle_each.ensures.indexes

pub returns-in_err-settle_rest-clause-len : goal.returns-in_err-settle_rest-clause-len
returns-in_err-settle_rest-clause-len c = c.in_err-settle_rest.ensures.long ∙ c.in_ok-settle_each.ensures.long

pub returns-in_err-settle_rest-clause-going : goal.returns-in_err-settle_rest-clause-going
returns-in_err-settle_rest-clause-going c = IfOk-from_err c.from_residual-in_err-settle_rest.result _ c.from_residual-in_err-settle_rest.ensures.0

pub returns-in_err-settle_rest-clause-unchanged : goal.returns-in_err-settle_rest-clause-unchanged
returns-in_err-settle_rest-clause-unchanged c = no_value c.from_residual-in_err-settle_rest.result false c.from_residual-in_err-settle_rest.ensures.0

pub returns-in_err-settle_rest-clause-settled : goal.returns-in_err-settle_rest-clause-settled
returns-in_err-settle_rest-clause-settled c = no_value c.from_residual-in_err-settle_rest.result false c.from_residual-in_err-settle_rest.ensures.0

pub returns-in_err-settle_rest-clause-fewer : goal.returns-in_err-settle_rest-clause-fewer
returns-in_err-settle_rest-clause-fewer c = no_value c.from_residual-in_err-settle_rest.result true c.from_residual-in_err-settle_rest.ensures.0

pub returns-clause-len : goal.returns-clause-len
returns-clause-len c = c.in_ok-settle_rest.ensures.long ∙ c.in_ok-settle_each.ensures.long

pub returns-clause-unchanged : goal.returns-clause-unchanged
returns-clause-unchanged c = a_change

pub returns-clause-settled : goal.returns-clause-settled
returns-clause-settled c = a_change

pub returns-clause-fewer : goal.returns-clause-fewer
returns-clause-fewer c = λ e. omega (arith, c.in_ok-settle_each.ensures.fewer (ap Ok c.if-not-branch.false), c.in_ok-settle_rest.ensures.no_more)
