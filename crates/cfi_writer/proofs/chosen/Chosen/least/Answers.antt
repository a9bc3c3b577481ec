use Rattle.std.proofs.Common.{◌<◌, ℕ, subst, arith}
use Rattle.cfi_writer.proofs.GroupLoops.{inside_behind}
use Rattle.cfi_writer.proofs.chosen.Chosen.least.Goals as goal

pub overflow_add-k-in-loop-i : goal.overflow_add-k-in-loop-i
overflow_add-k-in-loop-i c =
    let m = c.args.self.now in
    let r = c.requires in
    let there = inside_behind m c.count-count.ensures.accepted c.args.k r.place r.store r.first c.loop-i.i (subst (λ (n : ℕ). c.loop-i.i < n) r.following c.loop-i-test.true) in
    let below = there.0 in
    let count = c.count-count.ensures.value in
    let limit = c.count-count.type_inv in
    omega arith

pub level-requires-clause-place : goal.level-requires-clause-place
level-requires-clause-place c =
    let r = c.requires in
    (inside_behind c.args.self.now c.count-count.ensures.accepted c.args.k r.place r.store r.first c.loop-i.i (subst (λ (n : ℕ). c.loop-i.i < n) r.following c.loop-i-test.true)).0
