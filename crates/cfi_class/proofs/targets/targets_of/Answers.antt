use Rattle.std.proofs.Common.{◌↔◌, ℕ, ◌+◌, [], sym, ◌∙◌}
use Rattle.std.specs.List.{Contains}
use Rattle.std.proofs.lemmas.List.{get_or_default}
use Rattle.cfi_class.proofs.Sets.{IsInFirst, more_members, members_again, in_all}
use Rattle.cfi_class.proofs.targets.targets_of.Goals as goal
use Rattle.cfi_class.proofs.targets.targets_of.Goals.{then-not-is_repeated+in_ok-extend_from_slice, else-not-is_repeated, then-len-known, else-len-known}

pub loop-k-preserved : goal.loop-k-preserved
loop-k-preserved c =
    let added : (a : ℕ) → Contains c.if-not-is_repeated.targets.items a ↔ IsInFirst c.args.sets.now (c.loop-k.k + 1) a = elim c.if-not-is_repeated.branch [
      | then-not-is_repeated+in_ok-extend_from_slice w ↦
          let set = get_or_default c.args.sets.now c.loop-k.k [] w.index-sets-k.result c.loop-k-test.true ∙ sym w.index-sets-k.is ∙ sym w.as_slice.ensures in
          rw (w.targets-is, w.in_ok-extend_from_slice.ensures.items) (more_members c.args.sets.now c.loop-k.k c.loop-k.targets.items w.as_slice.result.now set c.loop-k.invariant)
      | else-not-is_repeated w ↦
          rw w.targets-is (members_again c.args.sets.now c.loop-k.k c.loop-k.targets.items (c.is_repeated.ensures.0 w.if-not-is_repeated.false) c.loop-k.invariant)
    ] in
    elim c.if-len-known.branch [
      | then-len-known w ↦ rw w.targets-is (λ a. (λ h. (added a).0 ((w.drop_doubles.ensures.members a).0 h), λ h. (w.drop_doubles.ensures.members a).1 ((added a).1 h)))
      | else-len-known w ↦ rw w.targets-is added
    ]

pub returns-clause-members : goal.returns-clause-members
returns-clause-members c = λ a.
    let all = in_all c.args.sets.now c.loop-k.k a c.loop-k-test.false in
    let so_far = c.loop-k.invariant a in
    let same = c.drop_doubles-2.ensures.members a in
    (λ h. all.0 (so_far.0 (same.0 h)), λ h. same.1 (so_far.1 (all.1 h)))
