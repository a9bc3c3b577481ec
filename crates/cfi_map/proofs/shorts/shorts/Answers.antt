use Rattle.std.proofs.Common.{ap, arith, subst, sym, ◌∙◌, List, ◌≡◌}
use Rattle.cfi_map.proofs.Prelude.{count, Short, AreShorts, shorts_below, grouped_parts}
use Rattle.cfi_map.proofs.ShortList.{shorts_begin, shorts_more}
use Rattle.cfi_map.proofs.Shortened.{branches_fit, few_places}
use Rattle.cfi_map.proofs.shorts.shorts.Goals as goal

pub loop-k-init : goal.loop-k-init
loop-k-init c = shorts_begin c.args.leads.now _ c.new-shorts.ensures.items

pub short_at-requires-clause-few : goal.short_at-requires-clause-few
short_at-requires-clause-few c = few_places c.args.leads.now c.requires

pub loop-k-preserved : goal.loop-k-preserved
loop-k-preserved c =
    shorts_more c.args.leads.now c.loop-k.k c.loop-k.shorts.items _ _ c.loop-k.invariant c.short_at.ensures c.in_ok-push_some.ensures

pub returns-clause-fit : goal.returns-clause-fit
returns-clause-fit c = λ firsts.
    let all : c.loop-k.k ≡ count c.args.leads.now.program = omega arith in
    subst (λ (shorts : List Short). AreShorts shorts (grouped_parts c.args.leads.now firsts))
    (sym (c.loop-k.invariant ∙ ap (shorts_below c.args.leads.now) all))
    (branches_fit c.args.leads.now firsts c.count-k-end.ensures.sound)
