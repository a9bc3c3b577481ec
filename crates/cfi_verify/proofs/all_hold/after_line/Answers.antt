use Rattle.std.proofs.Common.{◌≤◌, ◌<◌, ◌∙◌, ◌+◌, ◌-◌, ◌*◌, ◌/◌, ℕ, arith, subst, sym}
use Rattle.cfi_verify.proofs.Prelude.{Profile, IsGraph, HasPassed, HoldsAt, NoneStands, profile_in}
use Rattle.cfi_starts.proofs.Laid.{laid_with}
use Rattle.cfi_verify.proofs.OnePass.{line_there, none_between, standing, word_passed}
use Rattle.cfi_verify.proofs.all_hold.after_line.Goals as goal

pub unlisted_hold-requires-clause-small : goal.unlisted_hold-requires-clause-small
unlisted_hold-requires-clause-small c =
    let stands = standing c.args.starts.now.graph c.args.k c.in-Address.address _ (subst IsGraph c.graph.ensures.value c.graph.ensures.graph_is) (line_there c.args.k c.graph.ensures.value c.line-line.ensures) (sym c.key.ensures ∙ c.in-Address.is) in
    let high = stands.high in
    omega arith

pub unlisted_hold-requires-clause-unlisted : goal.unlisted_hold-requires-clause-unlisted
unlisted_hold-requires-clause-unlisted c =
    let graph : IsGraph c.args.starts.now.graph = subst IsGraph c.graph.ensures.value c.graph.ensures.graph_is in
    subst (λ (start : ℕ). NoneStands (profile_in c.args.starts.now) c.args.starts.now.graph.lines c.args.next ((c.in-Address.address - start) / 4)) (sym c.units_from-start.ensures.at)
    (none_between _ (laid_with c.args.starts.now.listing.versions) c.args.starts.now.listing c.args.starts.now.graph graph.order c.args.k c.args.next c.in-Address.address _ (line_there c.args.k c.graph.ensures.value c.line-line.ensures) (sym c.key.ensures ∙ c.in-Address.is) c.requires.passed)

pub listed_holds-requires-clause-small : goal.listed_holds-requires-clause-small
listed_holds-requires-clause-small c =
    (standing c.args.starts.now.graph c.args.k c.in-Address.address _ (subst IsGraph c.graph.ensures.value c.graph.ensures.graph_is) (line_there c.args.k c.graph.ensures.value c.line-line.ensures) (sym c.key.ensures ∙ c.in-Address.is)).high

pub listed_holds-requires-clause-here : goal.listed_holds-requires-clause-here
listed_holds-requires-clause-here c =
    (standing c.args.starts.now.graph c.args.k c.in-Address.address _ (subst IsGraph c.graph.ensures.value c.graph.ensures.graph_is) (line_there c.args.k c.graph.ensures.value c.line-line.ensures) (sym c.key.ensures ∙ c.in-Address.is)).here

pub returns-then-listed_holds : goal.returns-then-listed_holds
returns-then-listed_holds c =
    let p : Profile = profile_in c.args.starts.now in
    let graph : IsGraph c.args.starts.now.graph = subst IsGraph c.graph.ensures.value c.graph.ensures.graph_is in
    let at = line_there c.args.k c.graph.ensures.value c.line-line.ensures in
    let key = sym c.key.ensures ∙ c.in-Address.is in
    let stands = standing c.args.starts.now.graph c.args.k c.in-Address.address _ graph at key in
    let start = c.units_from-start.ensures.at in
    let low : p.units_from ≤ c.in-Address.address = omega (arith, start, c.if-address-start.false) in
    let between = subst (λ (n : ℕ). (k : ℕ) → c.args.next ≤ k → k < (c.in-Address.address - n) / 4 → HoldsAt p c.args.starts.now.listing c.args.starts.now.graph (p.units_from + 4 * k)) start
    (c.unlisted_hold.ensures c.if-unlisted_hold.true) in
    subst (λ (n : ℕ). HasPassed p c.args.starts.now.listing c.args.starts.now.graph (c.args.k + 1) ((c.in-Address.address - n) / 4 + 1)) (sym start)
    (word_passed p (laid_with c.args.starts.now.listing.versions) c.args.starts.now.listing c.args.starts.now.graph graph.order c.args.k c.args.next c.in-Address.address _ at key low stands.even
    between (c.listed_holds.ensures c.if-listed_holds.true) c.requires.passed)
