use Rattle.std.proofs.Common.{◌≡◌, ℕ, ◌+◌, ◌<◌, Bool, IfOk, List, ap, get_or, length, subst, sym, ◌∙◌, []}
use Rattle.std.proofs.lemmas.List.{get_or_default}
use Rattle.cfi_flow.specs.declared.draw.Aim.{Aim}
use Rattle.cfi_flow.specs.declared.join.Joining.{Joining}
use Rattle.cfi_flow.specs.Joins.{IsJoining}
use Rattle.cfi_flow.specs.Kept.{IsAimed, targets_of}
use Rattle.cfi_flow.specs.Pointed.{ArePoints}
use Rattle.cfi_flow.proofs.join.Joining.with_site.Goals as goal

pub returns-in_ok-joining-in-Listed : goal.returns-in_ok-joining-in-Listed
returns-in_ok-joining-in-Listed c = λ sets taken begun k are is at.
    let below : c.in-Listed.j < length c.args.lists.now = subst (IsAimed (length c.args.lists.now)) c.in-Listed.is c.requires.aimed in
    c.in_ok-joining-in-Listed.ensures sets taken begun k is
    (at ∙ ap (λ (a : Aim). targets_of c.args.lists.now taken begun a) c.in-Listed.is
    ∙ sym (c.in_ok-list-in-Listed.ensures ∙ c.as_slice.ensures ∙ c.index-lists-j.is
    ∙ get_or_default c.args.lists.now c.in-Listed.j c.index-lists-j.result [] below))

pub returns-in-Open : goal.returns-in-Open
returns-in-Open c =
    subst (λ (a : Aim). IfOk c.with_open.result (λ (j : Joining). (sets : List (List ℕ)) (taken begun : List Bool) (k : ℕ)
    → ArePoints taken begun c.args.points.now → IsJoining sets taken begun k c.args.self
    → get_or sets k [] ≡ targets_of c.args.lists.now taken begun a → IsJoining sets taken begun (k + 1) j))
    (sym c.in-Open.is) c.with_open.ensures
