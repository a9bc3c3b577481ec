use Rattle.std.proofs.Common.{◌≡◌, ℕ, ◌<◌, ◌≤◌, ◌++◌, List, Option, IfSome, inl, inr, length, sym, subst, arith}
use Rattle.std.specs.List.{Contains}
use Rattle.std.proofs.lemmas.List.Elements.{Contains-append_left, Contains-append_right}
use Rattle.cfi_flow.specs.declared.span.Span.{Span}
use Rattle.cfi_flow.specs.Kept.{mark_at, open_targets}
use Rattle.cfi_flow.proofs.Merging.{grown_more, inside, inside_open, open_past}
use Rattle.cfi_flow.proofs.Spanning.{in_parts, in_yes}
use Rattle.cfi_flow.proofs.join.Joining.with_more.Goals as goal

pub returns : goal.returns
returns c = λ sets taken begun k are common is at.
    let s = c.args.span in
    let r = c.past.result in
    let lists = c.args.self.lists.items in
    let group = c.args.self.group.items in
    let more = c.within.result.now in
    let new : more ≡ inside taken begun r = c.within.ensures (mark_at taken) (length taken) are.all in
    let latest = subst (λ (o : Option Span). IfSome o (λ l. (t : ℕ) → Contains (open_targets taken begun l) t → Contains group t)) c.requires.last is.latest in
    let to : (u : ℕ) → Contains more u → Contains (open_targets taken begun s) u = λ u h.
    inside_open taken begun r s (λ t e. let p = in_parts r t e in let low : r.from ≤ t = p.0 in let high : t < r.to = p.1 in
    let least = c.past.ensures.lower in let end = c.past.ensures.to in in_yes s t (omega arith) (omega arith)) u
    (subst (λ (xs : List ℕ). Contains xs u) new h) in
    let back : (u : ℕ) → Contains (open_targets taken begun s) u → Contains (group ++ more) u = λ u h.
    elim (open_past taken begun c.args.last s r c.requires.order c.past.ensures.least c.past.ensures.to u h) [
      | inl old ↦ Contains-append_left group more u (latest u old)
      | inr fresh ↦ Contains-append_right group more u (subst (λ (xs : List ℕ). Contains xs u) (sym new) fresh)
    ] in
    rw c.in_ok-extend_from_slice.ensures.items
    (grown_more sets taken begun k lists group c.args.self.last is s more common.0 at (latest common.0 common.1) common.2 to back)
