use Rattle.std.proofs.Common.{◌≡◌, ◌+◌, ◌*◌, ℕ, true, refl, subst, sym, arith, length, []}
use Rattle.rv_image.specs.MemoryMap.{profile_with}
use Rattle.rv_image.proofs.Profiles.{is_pair_profile, laid_out}
use Rattle.cfi_unit.specs.Opens.{InCode}
use Rattle.cfi_reader.specs.Reading.{LeadsOn, is_stuck}
use Rattle.cfi_reader.specs.declared.reader.Step.TheVariants.{More}
use Rattle.cfi_scan.proofs.Ended.{as_ended, splits_before, splits_on, splits_stuck}
use Rattle.cfi_scan.proofs.splitter.Splitter.take.Goals as goal

pub returns-then-is_new-clause-splits : goal.returns-then-is_new-clause-splits
returns-then-is_new-clause-splits c words len s =
    c.begin.ensures.splits words len (splits_before c.args.self.now.calls (profile_with c.args.self.now.front).units_from c.args.word c.args.self.now.entries.items
    c.args.self.now.done c.args.self.now.last c.args.self.now.reader words s)

pub returns-then-pass-clause-splits : goal.returns-then-pass-clause-splits
returns-then-pass-clause-splits c words len s =
    let k = c.args.self.now in
    let from : ℕ = (profile_with k.front).units_from in
    let laid = laid_out (profile_with k.front) (is_pair_profile k.front.graph k.front.image) in
    let low = laid.low in
    let round = laid.round in
    let at : c.start.result + 4 * c.args.index ≡ from + 4 * length words = omega (arith, c.start.ensures, len) in
    let place : InCode (from + 4 * length words) 1 = record { low = omega arith; high = omega (arith, len, c.requires.room, c.requires.small); round = omega arith } in
    splits_on k.calls from c.args.word k.entries.items k.done k.last k.reader c.pass.new.self words
    (subst (λ (here : ℕ). LeadsOn k.calls k.reader c.args.word here (More c.pass.new.self)) at
    (c.if-pass.ensures.on refl k.calls c.len-few.ensures.most (subst (λ (here : ℕ). InCode here 1) (sym at) place)))
    (splits_before k.calls from c.args.word k.entries.items k.done k.last k.reader words s)

pub returns-then-not-is_stuck-clause-splits : goal.returns-then-not-is_stuck-clause-splits
returns-then-not-is_stuck-clause-splits c words len s =
    c.go_on.ensures.splits words len (as_ended c.args.self.now.calls (profile_with c.args.self.now.front).units_from [] words refl refl refl (c.if-pass.ensures.same refl) s)

pub returns-else-not-is_stuck-clause-splits : goal.returns-else-not-is_stuck-clause-splits
returns-else-not-is_stuck-clause-splits c words len s =
    let k = c.args.self.now in
    let from : ℕ = (profile_with k.front).units_from in
    let stuck : is_stuck c.pass.new.self ≡ true = sym c.if-not-is_stuck.ensures in
    splits_stuck k.calls from c.args.word k.entries.items k.done k.last c.pass.new.self words stuck (omega (arith, c.ranges.word.fits))
    (as_ended k.calls from [] words refl refl refl (c.if-pass.ensures.same refl) s)
