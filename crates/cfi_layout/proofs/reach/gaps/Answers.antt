use Rattle.std.proofs.Common.{◌≡◌, ℕ, ◌+◌, ◌<◌, List, [], ◌∷◌, ◌++◌, length, map, take, get_or, ap, sym, ◌∙◌}
use Rattle.std.proofs.lemmas.List.{map-append, take_more, take_all}
use Rattle.std.proofs.lemmas.Option.{slice_get-get_or}
use Rattle.std.proofs.lemmas.Result.{IfOk-from_err}
use Rattle.cfi_layout.specs.declared.short.Short.{Short}
use Rattle.cfi_layout.specs.Lengthening.{gap}
use Rattle.cfi_layout.proofs.Flags.{no_branch}
use Rattle.cfi_layout.proofs.reach.gaps.Goals as goal

pub loop-branch-init : goal.loop-branch-init
loop-branch-init c = c.new-gaps.ensures.items

pub gap-requires-clause-at : goal.gap-requires-clause-at
gap-requires-clause-at c =
    (c.requires.parts c.loop-branch.branch-index _ (slice_get-get_or c.args.branches.now c.loop-branch.branch-index no_branch c.loop-branch-test.true)).0

pub gap-requires-clause-target : goal.gap-requires-clause-target
gap-requires-clause-target c =
    (c.requires.parts c.loop-branch.branch-index _ (slice_get-get_or c.args.branches.now c.loop-branch.branch-index no_branch c.loop-branch-test.true)).1

pub gap-requires-clause-low : goal.gap-requires-clause-low
gap-requires-clause-low c = c.requires.low _

pub returns-in_err-push : goal.returns-in_err-push
returns-in_err-push c = IfOk-from_err c.from_residual.result _ c.from_residual.ensures.0

-- the gap of one branch more
gaps_more : (branches : List Short) (starts : List ℕ) (k : ℕ) (gaps after : List ℕ) (value : ℕ) → k < length branches → gaps ≡ map (gap starts) (take k branches) →
    value ≡ gap starts (get_or branches k no_branch) → after ≡ gaps ++ value ∷ [] → after ≡ map (gap starts) (take (k + 1) branches)
gaps_more branches starts k gaps after value lt so_far is more =
    more ∙ ap (λ (n : ℕ). gaps ++ n ∷ []) is ∙ ap (λ (xs : List ℕ). xs ++ gap starts (get_or branches k no_branch) ∷ []) so_far
    ∙ sym (ap (λ (xs : List Short). map (gap starts) xs) (take_more branches k no_branch lt) ∙ map-append (gap starts) (take k branches) (get_or branches k no_branch ∷ []))

pub loop-branch-preserved : goal.loop-branch-preserved
loop-branch-preserved c =
    gaps_more c.args.branches.now c.args.starts.now c.loop-branch.branch-index c.loop-branch.gaps.items c.push.new.self.items c.gap.result c.loop-branch-test.true c.loop-branch.invariant c.gap.ensures c.in_ok-push.ensures.items

pub returns : goal.returns
returns c =
    c.loop-branch.invariant ∙ ap (λ (xs : List Short). map (gap c.args.starts.now) xs) (take_all c.loop-branch.branch-index c.args.branches.now c.loop-branch-test.false)
