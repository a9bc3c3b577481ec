use Rattle.std.proofs.Common.{ℕ, List, ◌≡◌, ◌<◌, ◌^◌, get_or, length, take, ap, subst, sym, ◌∙◌, arith}
use Rattle.std.specs.List.Sorted.{IsStrictlyIncreasing}
use Rattle.std.proofs.lemmas.List.{length-take-le}
use Rattle.cfi_map.proofs.Placements.{gates_low, gates_many, placed, short_within, starts_many, starts_rise}
use Rattle.cfi_map.proofs.spacing.spaced.Goals as goal

pub slice_bounds-from_slice-end : goal.slice_bounds-from_slice-end
slice_bounds-from_slice-end c =
    let many = starts_many c.args.form c.args.leads c.args.firsts.now c.args.placement.now c.requires.shortened in
    let same = ap length c.starts.ensures in
    sym (length-take-le c.count-count.result c.starts.result.now (omega (arith, many, same, c.count-count.ensures.value)))

-- the gates are the starts but the last
gates_at : {gates starts first : List ℕ} {n many : ℕ} → gates ≡ take n starts → n ≡ many → starts ≡ first → gates ≡ take many first
gates_at is same at = cc

pub whole_parts-requires : goal.whole_parts-requires
whole_parts-requires c = λ k short.
    let lt = short_within c.args.form c.args.leads c.args.firsts.now c.args.placement.now c.requires.shortened k short in
    lt

pub of-requires-clause-counted : goal.of-requires-clause-counted
of-requires-clause-counted c =
    ap length (gates_at c.in_ok-gates.ensures.items c.count-count.ensures.value c.starts.ensures)
    ∙ gates_many c.args.form c.args.leads c.args.firsts.now c.args.placement.now c.requires.shortened

pub of-requires-clause-near : goal.of-requires-clause-near
of-requires-clause-near c = λ k.
    let low = gates_low c.args.form c.args.leads c.args.firsts.now c.args.placement.now c.requires.shortened k in
    subst (λ (xs : List ℕ). get_or xs k 0 < 2 ^ 32) (sym (gates_at c.in_ok-gates.ensures.items c.count-count.ensures.value c.starts.ensures)) low

pub of-requires-clause-rising : goal.of-requires-clause-rising
of-requires-clause-rising c =
    subst IsStrictlyIncreasing (sym (gates_at c.in_ok-gates.ensures.items c.count-count.ensures.value c.starts.ensures))
    (starts_rise c.args.form c.args.leads c.args.firsts.now c.args.placement.now c.requires.shortened c.count-count.ensures.sound c.in_ok-whole.whole.items c.in_ok-whole.ensures)

pub returns : goal.returns
returns c =
    placed c.args.form c.args.leads c.args.firsts.now c.args.placement.now c.requires.shortened c.count-count.ensures.sound c.in_ok-whole.whole.items c.in_ok-whole.ensures
    c.requires.firsts c.in_ok-mapped.mapped c.in_ok-gates.gates.items c.in_ok-mapped.ensures
    (gates_at c.in_ok-gates.ensures.items c.count-count.ensures.value c.starts.ensures)
