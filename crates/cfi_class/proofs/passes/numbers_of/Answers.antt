use Rattle.std.proofs.Common.{◌≡◌, ℕ, ◌<◌, List, [], length, ap, sym, subst, ◌∙◌, arith}
use Rattle.std.specs.List.{All, Contains}
use Rattle.std.proofs.lemmas.List.{get_or_default}
use Rattle.std.proofs.lemmas.Result.{IfOk-from_err}
use Rattle.cfi_class.proofs.Numbers.{own_numbers, joined_more, numbers_again, written_back}
use Rattle.cfi_class.specs.Passes.{AreJoined, AreNumbers}
use Rattle.cfi_class.proofs.passes.numbers_of.Goals as goal
use Rattle.cfi_class.proofs.passes.numbers_of.Goals.{then-not-is_repeated+in_ok-join, else-not-is_repeated}

pub loop-k-init : goal.loop-k-init
loop-k-init c = own_numbers _ _ _ c.in_ok-numbers.ensures.len c.in_ok-numbers.ensures.value

pub loop-k-preserved : goal.loop-k-preserved
loop-k-preserved c = elim c.if-not-is_repeated.branch [
  | then-not-is_repeated+in_ok-join w ↦
      let set = get_or_default c.args.sets.now c.loop-k.k [] w.index-sets-k.result c.loop-k-test.true ∙ sym w.index-sets-k.is ∙ sym w.as_slice.ensures in
      let step : AreJoined w.as_slice.result.now c.args.targets.now c.loop-k.numbers.items w.join.new.numbers = rw (← w.as_mut_slice.ensures.value) w.in_ok-join.ensures in
      let len : c.loop-k.numbers.len ≡ length w.join.new.numbers = omega (arith, w.as_mut_slice.ensures.len, w.in_ok-join.ensures.same_length) in
      rw (w.numbers-is, written_back w.join.new.numbers c.loop-k.numbers.items c.loop-k.numbers.len len) (joined_more _ _ _ _ _ _ set c.loop-k.invariant step)
  | else-not-is_repeated w ↦
      rw w.numbers-is (numbers_again _ _ _ _ (c.is_repeated.ensures.0 w.if-not-is_repeated.false) c.loop-k.invariant)
]

pub returns : goal.returns
returns c =
    let all : c.loop-k.k ≡ length c.args.sets.now = omega (arith, c.loop-k-test.false, c.loop-k.auto.k-end) in
    subst (λ (k : ℕ). AreNumbers c.args.sets.now c.args.targets.now k c.loop-k.numbers.items) all c.loop-k.invariant

pub returns-in_err-numbers : goal.returns-in_err-numbers
returns-in_err-numbers c = IfOk-from_err c.from_residual.result _ c.from_residual.ensures.0

pub returns-in_err-join : goal.returns-in_err-join
returns-in_err-join c = IfOk-from_err c.from_residual-in_err-join.result _ c.from_residual-in_err-join.ensures.0

pub is_repeated-requires : goal.is_repeated-requires
is_repeated-requires c = c.loop-k-test.true

pub join-requires-clause-rising : goal.join-requires-clause-rising
join-requires-clause-rising c = c.requires.rising

pub join-requires-clause-each : goal.join-requires-clause-each
join-requires-clause-each c = ap length c.as_mut_slice.ensures.value ∙ c.loop-k.invariant.same_length

pub join-requires-clause-among : goal.join-requires-clause-among
join-requires-clause-among c = λ a has.
    let set = get_or_default c.args.sets.now c.loop-k.k [] c.index-sets-k.result c.loop-k-test.true ∙ sym c.index-sets-k.is ∙ sym c.as_slice.ensures in
    c.requires.among a (c.loop-k.k, subst (λ (xs : List ℕ). Contains xs a) (sym set) has)

pub join-requires-clause-in_range : goal.join-requires-clause-in_range
join-requires-clause-in_range c =
    subst (λ (xs : List ℕ). All (λ (number : ℕ). number < length c.args.targets.now) xs) (sym c.as_mut_slice.ensures.value) c.loop-k.invariant.in_range
