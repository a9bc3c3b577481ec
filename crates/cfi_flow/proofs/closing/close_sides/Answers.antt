use Rattle.std.proofs.Common.{ℕ, [], ◌∷◌, ◌++◌, List, length, map, take, ap, subst, sym, ◌∙◌}
use Rattle.std.specs.List.{All}
use Rattle.std.proofs.lemmas.List.{map-append, take_more}
use Rattle.std.proofs.lemmas.List.Elements.{All-push}
use Rattle.cfi_graph.specs.declared.line.Sort.{Sort}
use Rattle.cfi_closed.specs.Closed.{IsSideInside, Side}
use Rattle.cfi_flow.specs.Closing.{IsSide}
use Rattle.cfi_flow.proofs.closing.close_sides.Goals as goal

pub loop-sort-preserved : goal.loop-sort-preserved
loop-sort-preserved c =
    let all = c.loop-sort.sides.items in
    let new = c.in_ok-close_side.field-0 in
    let sort : Side → Sort = λ (s : Side). s.sort in
    let sorts = c.sorts_of-sort-items.result.now in
    let k : ℕ = c.loop-sort.sort-index in (
      ap (map sort) c.in_ok-push.ensures.items ∙ map-append sort all (new ∷ []) ∙ ap (λ (xs : List Sort). xs ++ new.sort ∷ []) c.loop-sort.invariant.0
          ∙ ap (λ (s : Sort). take k sorts ++ s ∷ []) c.in_ok-close_side.ensures.sort ∙ sym (take_more sorts k _ c.loop-sort-test.true),
      subst (All (IsSide c.args.raw.now)) (sym c.in_ok-push.ensures.items) (All-push (IsSide c.args.raw.now) all new c.loop-sort.invariant.1 c.in_ok-close_side.ensures.right),
      subst (All (IsSideInside (length c.args.raw.now.taken))) (sym c.in_ok-push.ensures.items)
          (All-push (IsSideInside (length c.args.raw.now.taken)) all new c.loop-sort.invariant.2 c.in_ok-close_side.ensures.inside),
    )
