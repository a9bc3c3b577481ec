use Rattle.std.proofs.Common.{◌≡◌, ℕ, ◌++◌, List, length, inl, inr, sym, subst, ◌∙◌}
use Rattle.std.specs.List.{Contains}
use Rattle.std.proofs.lemmas.List.Elements.{Contains-append_cases, Contains-append_left, Contains-append_right}
use Rattle.cfi_flow.specs.Kept.{mark_at, open_targets}
use Rattle.cfi_flow.proofs.Merging.{inside, inside_open, new_more, open_cases, start_open, starts}
use Rattle.cfi_flow.proofs.join.Joining.with_new.Goals as goal

pub returns : goal.returns
returns c = λ sets taken begun k are is at.
    let s = c.args.span in
    let first = c.in_ok-group.group.items in
    let more = c.within.result.now in
    let start : first ≡ starts taken begun = c.in_ok-group.ensures.items ∙ c.starts.ensures ∙ are.starts in
    let new : more ≡ inside taken begun s = c.within.ensures (mark_at taken) (length taken) are.all in
    let to : (u : ℕ) → Contains (first ++ more) u → Contains (open_targets taken begun s) u = λ u h. elim (Contains-append_cases first more u h) [
      | inl old ↦ start_open taken begun s u (subst (λ (xs : List ℕ). Contains xs u) start old)
      | inr fresh ↦ inside_open taken begun s s (λ t e. e) u (subst (λ (xs : List ℕ). Contains xs u) new fresh)
    ] in
    let back : (u : ℕ) → Contains (open_targets taken begun s) u → Contains (first ++ more) u = λ u h. elim (open_cases taken begun s u h) [
      | inl old ↦ Contains-append_left first more u (subst (λ (xs : List ℕ). Contains xs u) (sym start) old)
      | inr fresh ↦ Contains-append_right first more u (subst (λ (xs : List ℕ). Contains xs u) (sym new) fresh)
    ] in
    rw (c.in_ok-push.ensures.items, c.of.ensures, c.in_ok-extend_from_slice.ensures.items)
    (new_more sets taken begun k c.args.self.lists.items c.args.self.group.items c.args.self.last is s (first ++ more) at to back)
