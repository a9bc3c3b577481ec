use Rattle.std.proofs.Common.{◌≡◌, get_or, List, ℕ, take, ap, refl, sym, ◌∙◌, arith}
use Rattle.std.proofs.lemmas.List.{take_all}
use Rattle.std.proofs.lemmas.List.Sums.{sum_by-take-le, sum_by_more_le}
use Rattle.obj_link.proofs.Prelude.{symbol_count, slots, by, said_by}
use Rattle.obj_join.proofs.Sectioned.{in_order}
use Rattle.obj_link.proofs.Together.{counted_symbols, next_sum}
use Rattle.obj_link.proofs.Slotted.{next_slots, no_slots}
use Rattle.obj_link.proofs.slots.slots_of.Goals as goal

pub loop-object-init : goal.loop-object-init
loop-object-init c = (c.no_slots-slots.ensures ∙ no_slots (by c.args.numbers.now), refl)

pub push_slots-requires : goal.push_slots-requires
push_slots-requires c =
    let most = sum_by-take-le (λ (o : List ℕ). symbol_count o) c.args.objects.now c.loop-object.object-index in
    omega (arith, most, c.loop-object.invariant.1, c.requires, counted_symbols c.args.objects.now)

pub overflow_add-symbols : goal.overflow_add-symbols
overflow_add-symbols c =
    let within = sum_by_more_le (λ (o : List ℕ). symbol_count o) c.args.objects.now c.loop-object.object-index c.object-item.result c.loop-object-test.true in
    let here : symbol_count (get_or c.args.objects.now c.loop-object.object-index c.object-item.result) ≡ symbol_count c.object-item.result =
    ap (λ (o : List ℕ). symbol_count o) (sym c.object-item.is) in
    omega (arith, within, here, c.loop-object.invariant.1, c.symbols-symbols.ensures, c.requires, counted_symbols c.args.objects.now)

pub loop-object-preserved : goal.loop-object-preserved
loop-object-preserved c = (
  next_slots (by c.args.numbers.now) c.args.objects.now c.loop-object.object-index c.loop-object.symbols c.object-item.result c.loop-object.slots.keys _
      c.loop-object-test.true c.object-item.is c.loop-object.invariant.0 c.loop-object.invariant.1 c.in_ok-push_slots.ensures,
  rw (c.loop-object.invariant.1, c.symbols-symbols.ensures)
      (sym (next_sum (λ (o : List ℕ). symbol_count o) c.args.objects.now c.loop-object.object-index c.object-item.result c.loop-object-test.true c.object-item.is)),
)

pub returns : goal.returns
returns c =
    let all : take c.loop-object.object-index c.args.objects.now ≡ c.args.objects.now = take_all c.loop-object.object-index c.args.objects.now c.loop-object-test.false in
    c.loop-object.invariant.0
    ∙ sym (in_order (by c.args.numbers.now) (said_by (take c.loop-object.object-index c.args.objects.now)).sections)
    ∙ ap (λ (os : List (List ℕ)). slots (by c.args.numbers.now) (said_by os).sections) all
