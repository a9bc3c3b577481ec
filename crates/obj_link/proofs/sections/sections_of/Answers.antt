use Rattle.std.proofs.Common.{◌≡◌, ◌+◌, ◌<◌, ◌≤◌, get_or, List, ℕ, length, map, take, ap, refl, subst, sym, ◌∙◌, arith}
use Rattle.std.specs.List.{sum_by}
use Rattle.std.proofs.lemmas.List.{take_all}
use Rattle.std.proofs.lemmas.List.Sums.{sum_by_more_le}
use Rattle.obj_link.proofs.Prelude.{symbol_count, section_of, by, said_by}
use Rattle.obj_link.proofs.Together.{counted_symbols, next_sum}
use Rattle.obj_link.proofs.Sectioned.{next_sections, no_sections}
use Rattle.obj_link.proofs.sections.sections_of.Goals as goal

within : (objects items : List (List ℕ)) (i symbols : ℕ) (o : List ℕ) → items ≡ objects → i < length items → o ≡ get_or items i o
    → symbols ≡ sum_by (λ p. symbol_count p) (take i objects) → symbols + symbol_count o ≤ length (said_by objects).symbols
within objects items i symbols o same below is count =
    let here = subst (λ (os : List (List ℕ)). i < length os) same below in
    let most = sum_by_more_le (λ (p : List ℕ). symbol_count p) objects i o here in
    let one : symbol_count (get_or objects i o) ≡ symbol_count o = ap (λ (p : List ℕ). symbol_count p) (sym (is ∙ ap (λ (os : List (List ℕ)). get_or os i o) same)) in
    omega (arith, most, one, count, counted_symbols objects)

pub loop-object-init : goal.loop-object-init
loop-object-init c = (c.new-sections.ensures.items ∙ no_sections (section_of (by c.args.resolution.now.numbers) (said_by c.args.resolution.now.objects)), refl)

pub push_sections-requires : goal.push_sections-requires
push_sections-requires c =
    within c.args.resolution.now.objects _ c.loop-object.object-index c.loop-object.symbols c.object-item.result c.objects-object-items.ensures c.loop-object-test.true
    c.object-item.is c.loop-object.invariant.1

pub overflow_add-symbols : goal.overflow_add-symbols
overflow_add-symbols c =
    let most = within c.args.resolution.now.objects _ c.loop-object.object-index c.loop-object.symbols c.object-item.result c.objects-object-items.ensures
    c.loop-object-test.true c.object-item.is c.loop-object.invariant.1 in
    omega (arith, most, c.symbols-symbols.ensures, c.count-count.ensures, c.count-count.type_inv)

pub loop-object-preserved : goal.loop-object-preserved
loop-object-preserved c =
    let below = subst (λ (os : List (List ℕ)). c.loop-object.object-index < length os) c.objects-object-items.ensures c.loop-object-test.true in
    let is = c.object-item.is ∙ ap (λ (os : List (List ℕ)). get_or os c.loop-object.object-index c.object-item.result) c.objects-object-items.ensures in (
      next_sections (section_of (by c.args.resolution.now.numbers) (said_by c.args.resolution.now.objects)) c.args.resolution.now.objects c.loop-object.object-index
          c.loop-object.symbols c.object-item.result _ _ below is c.loop-object.invariant.0 c.loop-object.invariant.1 c.in_ok-push_sections.ensures,
      rw (c.loop-object.invariant.1, c.symbols-symbols.ensures)
          (sym (next_sum (λ (o : List ℕ). symbol_count o) c.args.resolution.now.objects c.loop-object.object-index c.object-item.result below is)),
    )

pub returns : goal.returns
returns c =
    let past = subst (λ (os : List (List ℕ)). length os ≤ c.loop-object.object-index) c.objects-object-items.ensures c.loop-object-test.false in
    c.loop-object.invariant.0
    ∙ ap (λ (os : List (List ℕ)). map (section_of (by c.args.resolution.now.numbers) (said_by c.args.resolution.now.objects)) (said_by os).sections)
    (take_all c.loop-object.object-index c.args.resolution.now.objects past)
