use Rattle.std.proofs.Common.{ℕ, ◌+◌, ◌<◌, ◌^◌, length, slice_index, List, Bool, Ok, ap, subst, sym, ◌≡◌, ◌∙◌, true, Some, slice_get, arith}
use Rattle.std.proofs.lemmas.Result.{IfOk-from_err}
use Rattle.rv_image.specs.Form.{profile_for}
use Rattle.cfi_layout.specs.declared.short.Short.{Short}
use Rattle.cfi_layout.specs.Starts.{flag}
use Rattle.cfi_layout.specs.LongSet.{IsLongSet, AreShorts}
use Rattle.cfi_layout.specs.Lengthening.{is_far, gap, starts_with, Going}
use Rattle.cfi_layout.proofs.Lengthening.{begin, finish, starts_same}
use Rattle.cfi_layout.proofs.shortening.shorten.Goals as goal

pub all_short-requires : goal.all_short-requires
all_short-requires c = λ i b is. (c.requires.shorts.each i b is).at_is

pub lengthen-requires-clause-parts : goal.lengthen-requires-clause-parts
lengthen-requires-clause-parts c = λ i b is.
    let short = c.requires.shorts.each i b is in
    let at = short.at_is in
    let target = short.target_is in
    (omega (arith, c.lengthening.invariant.count), omega (arith, c.lengthening.invariant.count))

-- after a pass that made no branch long
finished : (from : ℕ) (branches : List Short) (sizes : List ℕ) (long now : List Bool) (starts lent : List ℕ) → AreShorts branches sizes → Going from branches sizes long →
    lent ≡ starts → starts ≡ starts_with from long sizes → now ≡ long →
    ((i : ℕ) (b : Short) → slice_get branches i ≡ Some b → is_far b (gap lent b) ≡ true → flag long b.at ≡ true) → IsLongSet from branches sizes (flag now)
finished from branches sizes long now starts lent shorts going is are same settled =
    subst (λ (flags : List Bool). IsLongSet from branches sizes (flag flags)) (sym same)
    (finish from branches sizes long shorts going (λ i b at far. settled i b at (subst (λ (s : List ℕ). is_far b (gap s b) ≡ true) (sym (is ∙ are)) far)))

pub returns-then-not-branch-clause-long : goal.returns-then-not-branch-clause-long
returns-then-not-branch-clause-long c =
    let told = c.in_ok-lengthen.ensures in
    let now = c.lengthening.long.items in
    let starts = c.in_ok-starts.ensures.starts in
    finished (profile_for c.args.form).units_from c.args.branches.now c.args.sizes.now now c.lengthen.new.long.items c.in_ok-starts.starts.items c.as_slice-in-lengthening.result.now c.requires.shorts c.lengthening.invariant c.as_slice-in-lengthening.ensures.value (c.in_ok-starts.ensures.starts ∙ ap (λ (flags : List Bool). starts_with (profile_for c.args.form).units_from flags c.args.sizes.now) c.as_slice.ensures.value) (told.unchanged (ap Ok c.if-not-branch.true)) (told.settled (ap Ok c.if-not-branch.true))

pub returns-in_err-long-clause-starts : goal.returns-in_err-long-clause-starts
returns-in_err-long-clause-starts c = IfOk-from_err c.from_residual.result _ c.from_residual.ensures.0

pub returns-in_err-long-clause-only : goal.returns-in_err-long-clause-only
returns-in_err-long-clause-only c = IfOk-from_err c.from_residual.result _ c.from_residual.ensures.0

pub returns-in_err-long-clause-long : goal.returns-in_err-long-clause-long
returns-in_err-long-clause-long c = IfOk-from_err c.from_residual.result _ c.from_residual.ensures.0

pub returns-in_err-starts-clause-starts : goal.returns-in_err-starts-clause-starts
returns-in_err-starts-clause-starts c = IfOk-from_err c.from_residual-in_err-starts.result _ c.from_residual-in_err-starts.ensures.0

pub returns-in_err-starts-clause-only : goal.returns-in_err-starts-clause-only
returns-in_err-starts-clause-only c = IfOk-from_err c.from_residual-in_err-starts.result _ c.from_residual-in_err-starts.ensures.0

pub returns-in_err-starts-clause-long : goal.returns-in_err-starts-clause-long
returns-in_err-starts-clause-long c = IfOk-from_err c.from_residual-in_err-starts.result _ c.from_residual-in_err-starts.ensures.0

pub returns-in_err-lengthen-clause-starts : goal.returns-in_err-lengthen-clause-starts
returns-in_err-lengthen-clause-starts c = IfOk-from_err c.from_residual-in_err-lengthen.result _ c.from_residual-in_err-lengthen.ensures.0

pub returns-in_err-lengthen-clause-only : goal.returns-in_err-lengthen-clause-only
returns-in_err-lengthen-clause-only c = IfOk-from_err c.from_residual-in_err-lengthen.result _ c.from_residual-in_err-lengthen.ensures.0

pub returns-in_err-lengthen-clause-long : goal.returns-in_err-lengthen-clause-long
returns-in_err-lengthen-clause-long c = IfOk-from_err c.from_residual-in_err-lengthen.result _ c.from_residual-in_err-lengthen.ensures.0

pub lengthening-init : goal.lengthening-init
lengthening-init c = begin (profile_for c.args.form).units_from c.args.branches.now c.args.sizes.now c.in_ok-long.long.items c.in_ok-long.ensures.len c.in_ok-long.ensures.flags

pub starts_with-requires-clause-count : goal.starts_with-requires-clause-count
starts_with-requires-clause-count c = ap length c.as_slice.ensures.value ∙ c.lengthening.invariant.count

pub starts_with-requires-clause-room : goal.starts_with-requires-clause-room
starts_with-requires-clause-room c = c.requires.room

pub lengthen-requires-clause-starts : goal.lengthen-requires-clause-starts
lengthen-requires-clause-starts c =
    ap length c.as_slice-in-lengthening.ensures.value ∙ c.in_ok-starts.ensures.len ∙ ap (λ (n : ℕ). n + 1) (sym c.lengthening.invariant.count)

pub lengthen-requires-clause-low : goal.lengthen-requires-clause-low
lengthen-requires-clause-low c = λ k.
    subst (λ (starts : List ℕ). slice_index starts k < 2 ^ 32) (sym c.as_slice-in-lengthening.ensures.value) (c.in_ok-starts.ensures.low k)

-- what holds of the flags before a pass that made no branch long holds of them after it
going_on : (c : goal.Then-not-branch) → Going (profile_for c.args.form).units_from c.args.branches.now c.args.sizes.now c.lengthen.new.long.items
going_on c =
    subst (λ (flags : List Bool). Going (profile_for c.args.form).units_from c.args.branches.now c.args.sizes.now flags) (sym (c.in_ok-lengthen.ensures.unchanged (ap Ok c.if-not-branch.true))) c.lengthening.invariant

pub returns-then-not-branch-clause-starts : goal.returns-then-not-branch-clause-starts
returns-then-not-branch-clause-starts c =
    let flags = c.as_slice.ensures.value ∙ sym (c.in_ok-lengthen.ensures.unchanged (ap Ok c.if-not-branch.true)) in
    c.in_ok-starts.ensures.starts ∙ ap (λ (long : List Bool). starts_with (profile_for c.args.form).units_from long c.args.sizes.now) flags
    ∙ sym (starts_same (profile_for c.args.form).units_from c.args.branches.now c.args.sizes.now c.lengthen.new.long.items (going_on c).only)

pub returns-then-not-branch-clause-only : goal.returns-then-not-branch-clause-only
returns-then-not-branch-clause-only c = (going_on c).only

pub lengthening-smaller : goal.lengthening-smaller
lengthening-smaller c = c.in_ok-lengthen.ensures.fewer (ap Ok c.if-not-branch.false)

pub lengthening-preserved : goal.lengthening-preserved
lengthening-preserved c =
    let are = c.as_slice-in-lengthening.ensures.value ∙ c.in_ok-starts.ensures.starts ∙ ap (λ (flags : List Bool). starts_with (profile_for c.args.form).units_from flags c.args.sizes.now) c.as_slice.ensures.value in
    c.in_ok-lengthen.ensures.going (profile_for c.args.form).units_from c.args.sizes.now c.requires.shorts c.lengthening.invariant are
