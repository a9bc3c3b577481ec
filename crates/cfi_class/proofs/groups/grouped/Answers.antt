use Rattle.std.proofs.Common.{rules, [], ◌∷◌, ◌<◌, arith, length, get_or, ◌≡◌, ◌∙◌, Some, None, refl}
use Rattle.std.proofs.lemmas.List.{get_or_default}
use Rattle.std.proofs.lemmas.Result.{IfOk-from_err}
use Rattle.cfi_class.proofs.Grouping.{group, place, read_place, no_groups, group_more, group_new, all_groups}
use Rattle.cfi_class.proofs.groups.grouped.Goals as goal
use Rattle.cfi_class.proofs.groups.grouped.Goals.{in-Some+in_ok-push-in-Some, in-None+in_ok-push-in-None+in_ok-push-in-None-2}

pub index_mut-requires : goal.index_mut-requires
index_mut-requires c =
    let range : get_or c.args.numbers.now c.loop-i.i 0 < length c.loop-i.places.items = omega (arith, c.requires.in_range c.loop-i.i 0 (omega (arith, c.loop-i-test.true, c.requires.each)), c.loop-i.invariant.all_numbers) in
    let there = c.loop-i.invariant.there _ _ (read_place c.loop-i.places.items _ c.index.result.now _ range c.index.ensures c.in-Some.is) in
    omega (arith, there, c.loop-i.groups.ok)

pub loop-i-preserved : goal.loop-i-preserved
loop-i-preserved c =
    let small : get_or c.args.numbers.now c.loop-i.i 0 < length c.args.targets.now = c.requires.in_range c.loop-i.i 0 (omega (arith, c.loop-i-test.true, c.requires.each)) in
    let range : get_or c.args.numbers.now c.loop-i.i 0 < length c.loop-i.places.items = omega (arith, small, c.loop-i.invariant.all_numbers) in
    elim c.match-index.branch [
      | in-Some+in_ok-push-in-Some w ↦
          let here : place c.loop-i.places.items (get_or c.args.numbers.now c.loop-i.i 0) ≡ Some w.in-Some.place = read_place c.loop-i.places.items _ c.index.result.now _ range c.index.ensures w.in-Some.is in
          let within : w.in-Some.place < length c.loop-i.groups.items = c.loop-i.invariant.there _ _ here in
          let now : w.index_mut.result.now ≡ group c.loop-i.groups.items w.in-Some.place = w.index_mut.ensures.value ∙ get_or_default c.loop-i.groups.items w.in-Some.place _ [] within in
          rw (w.groups-is, w.places-is, w.in_ok-push-in-Some.ensures.grown, now) (group_more _ _ _ _ _ _ c.requires.rising c.loop-i-test.true c.loop-i.invariant here)
      | in-None+in_ok-push-in-None+in_ok-push-in-None-2 w ↦
          let here : place c.loop-i.places.items (get_or c.args.numbers.now c.loop-i.i 0) ≡ None = read_place c.loop-i.places.items _ c.index.result.now _ range c.index.ensures w.in-None.is in
          let new = group_new _ _ _ _ _ c.requires.rising c.loop-i-test.true small c.loop-i.invariant here in
          let count : w.len.result ≡ length c.loop-i.groups.items = omega (arith, w.len.ensures, c.loop-i.groups.ok) in
          let one : w.push-in-None.new.self ≡ get_or c.args.targets.now c.loop-i.i 0 ∷ [] = rw (w.in_ok-push-in-None.ensures.grown, w.of-group.ensures, w.new.ensures.items) refl in
          rw (w.groups-is, w.places-is, w.in_ok-push-in-None-2.ensures.items, count, one) new
    ]

pub returns : goal.returns
returns c =
    let all : c.loop-i.i ≡ length c.args.targets.now = omega (arith, c.loop-i-test.false, c.loop-i.auto.i-end) in
    all_groups _ _ c.loop-i.i _ _ c.requires.rising all c.loop-i.invariant

pub returns-in_err-places : goal.returns-in_err-places
returns-in_err-places c = IfOk-from_err c.from_residual.result _ c.from_residual.ensures.0

pub returns-in_err-push-in-Some : goal.returns-in_err-push-in-Some
returns-in_err-push-in-Some c = IfOk-from_err c.from_residual-in_err-push-in-Some.result _ c.from_residual-in_err-push-in-Some.ensures.0

pub returns-in_err-push-in-None : goal.returns-in_err-push-in-None
returns-in_err-push-in-None c = IfOk-from_err c.from_residual-in_err-push-in-None.result _ c.from_residual-in_err-push-in-None.ensures.0

pub returns-in_err-push-in-None-2 : goal.returns-in_err-push-in-None-2
returns-in_err-push-in-None-2 c = IfOk-from_err c.from_residual-in_err-push-in-None-2.result _ c.from_residual-in_err-push-in-None-2.ensures.0

pub loop-i-init : goal.loop-i-init
loop-i-init c =
    rw c.new-groups.ensures.items (no_groups c.args.targets.now c.args.numbers.now c.in_ok-places.places.items (c.in_ok-places.ensures.items_if_clones_equal (λ y same. search rules)))

pub index-requires : goal.index-requires
index-requires c =
    let lt : c.loop-i.i < length c.args.numbers.now = omega (arith, c.loop-i-test.true, c.requires.each) in
    omega (arith, c.requires.in_range c.loop-i.i 0 lt, c.loop-i.invariant.all_numbers, c.loop-i.places.ok.0)

pub index_mut-requires-in-None : goal.index_mut-requires-in-None
index_mut-requires-in-None c =
    let lt : c.loop-i.i < length c.args.numbers.now = omega (arith, c.loop-i-test.true, c.requires.each) in
    omega (arith, c.requires.in_range c.loop-i.i 0 lt, c.loop-i.invariant.all_numbers, c.loop-i.places.ok.0)
