use Rattle.std.proofs.Common.{◌≡◌, ℕ, subst, arith}
use Rattle.cfi_writer.proofs.Prelude.{members_from, member_at}
use Rattle.cfi_writer.proofs.GroupLoops.{all_members, few_members, inside_group, length_members, next_member}
use Rattle.cfi_writer.proofs.chosen.Chosen.members.Goals as goal

pub member-requires-clause-place : goal.member-requires-clause-place
member-requires-clause-place c =
    let r = c.requires in
    let less = c.loop-i-test.true in
    let is = r.following in
    (inside_group c.args.self.now c.count-count.ensures.accepted c.args.k r.place r.store r.first c.loop-i.i (omega arith)).0

pub push-requires : goal.push-requires
push-requires c =
    let r = c.requires in
    let less = c.loop-i-test.true in
    let is = r.following in
    let few = few_members c.args.self.now c.count-count.ensures.accepted c.args.k r.place r.store r.first c.loop-i.i (omega arith) in
    let many = length_members c.args.self.now c.args.low c.args.k c.loop-i.i c.loop-i.members c.loop-i.invariant in
    omega arith

pub loop-i-preserved : goal.loop-i-preserved
loop-i-preserved c =
    next_member c.args.self.now c.args.low c.args.k c.loop-i.i c.loop-i.members c.push.new.self c.member.result c.loop-i.invariant c.member.ensures c.push.ensures

pub returns : goal.returns
returns c =
    let r = c.requires in
    let last = c.loop-i-test.false in
    let most = c.loop-i.auto.i-end in
    let is = r.following in
    all_members c.args.self.now c.count-count.ensures.accepted c.args.k r.place r.store r.first c.loop-i.i c.loop-i.members
    (subst (λ (n : ℕ). c.loop-i.members ≡ members_from (member_at c.args.self.now n) c.args.k c.loop-i.i) r.low c.loop-i.invariant) (omega arith) (omega arith)

pub overflow_add-i-end : goal.overflow_add-i-end
overflow_add-i-end c =
    let r = c.requires in
    let few = few_members c.args.self.now c.count-count.ensures.accepted c.args.k r.place r.store r.first c.args.following (omega (arith, r.following)) in
    omega (arith, few)

pub overflow_add-k : goal.overflow_add-k
overflow_add-k c =
    let r = c.requires in
    let less = c.loop-i-test.true in
    let is = r.following in
    let inside = (inside_group c.args.self.now c.count-count.ensures.accepted c.args.k r.place r.store r.first c.loop-i.i (omega arith)).0 in
    let few = c.count-count.ensures.accepted.sound.few in
    omega (arith, inside, few)
