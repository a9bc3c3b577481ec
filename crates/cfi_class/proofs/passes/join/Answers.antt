use Rattle.std.proofs.Common.{ℕ, ◌<◌, ◌≤◌, length, ap, sym, subst, ◌∙◌, arith}
use Rattle.std.specs.List.{All}
use Rattle.std.proofs.lemmas.Bool.{eqb-true, eqb-false}
use Rattle.std.proofs.lemmas.List.Elements.{Contains-get_or}
use Rattle.cfi_class.specs.Passes.{IsMarked}
use Rattle.cfi_class.proofs.Numbers.{join_by_table, AreRenumbered}
use Rattle.cfi_class.proofs.Agreeing.{agree_all, at_index}
use Rattle.cfi_class.proofs.passes.join.Goals as goal

pub returns-in_ok-marked : goal.returns-in_ok-marked
returns-in_ok-marked c =
    let some : 0 < length c.args.set.now = omega (arith, eqb-false _ _ (sym c.is_empty.ensures ∙ c.if-is_empty.false)) in
    let first = Contains-get_or c.args.set.now 0 0 some in
    let p = at_index c.args.targets.now _ (c.requires.among _ first) in
    let of_one : IsMarked c.args.set.now c.args.targets.now c.args.numbers.now c.number_of-first.result = (p.0, p.1, rw (← p.2) first, sym (c.number_of-first.ensures.value p.0 p.1 (sym p.2))) in
    let value : AreRenumbered c.args.numbers.now c.renumber.new.numbers c.in_ok-marked.marked.items c.number_of-first.result = rw (← c.as_slice.ensures.value) c.renumber.ensures.value in
    join_by_table _ _ _ _ c.in_ok-marked.marked.items _ c.requires.each c.renumber.ensures.len c.number_of-first.ensures.range c.requires.in_range c.in_ok-marked.ensures.marked of_one value

pub returns-then-is_empty : goal.returns-then-is_empty
returns-then-is_empty c =
    let past : length c.args.set.now ≤ 0 = omega (arith, eqb-true _ _ (sym c.is_empty.ensures ∙ c.if-is_empty.true)) in
    agree_all c.args.targets.now c.args.numbers.now c.args.set.now 0 0 past c.requires.each c.requires.in_range (λ k j none. absurd (omega arith))

pub number_of-first-requires-clause-among : goal.number_of-first-requires-clause-among
number_of-first-requires-clause-among c =
    let some : 0 < length c.args.set.now = omega (arith, eqb-false _ _ (sym c.is_empty.ensures ∙ c.if-is_empty.false)) in
    c.requires.among _ (Contains-get_or c.args.set.now 0 0 some)

pub number_of-first-requires-clause-rising : goal.number_of-first-requires-clause-rising
number_of-first-requires-clause-rising c = c.requires.rising

pub number_of-first-requires-clause-each : goal.number_of-first-requires-clause-each
number_of-first-requires-clause-each c = c.requires.each

pub number_of-first-requires-clause-in_range : goal.number_of-first-requires-clause-in_range
number_of-first-requires-clause-in_range c = c.requires.in_range

pub agree-requires-clause-rising : goal.agree-requires-clause-rising
agree-requires-clause-rising c = c.requires.rising

pub agree-requires-clause-each : goal.agree-requires-clause-each
agree-requires-clause-each c = c.requires.each

pub agree-requires-clause-among : goal.agree-requires-clause-among
agree-requires-clause-among c = c.requires.among

pub agree-requires-clause-in_range : goal.agree-requires-clause-in_range
agree-requires-clause-in_range c = c.requires.in_range

pub renumber-requires : goal.renumber-requires
renumber-requires c =
    let count = ap length c.as_slice.ensures.value ∙ c.in_ok-marked.ensures.len in
    subst (λ (n : ℕ). All (λ (x : ℕ). x < n) c.args.numbers.now) (sym count) c.requires.in_range

pub returns-else-not-agree : goal.returns-else-not-agree
returns-else-not-agree c = c.if-not-agree.ensures
