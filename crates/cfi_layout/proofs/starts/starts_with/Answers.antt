use Rattle.std.proofs.Common.{ℕ, List, ◌+◌, length, get_or, ap, ◌∙◌, arith}
use Rattle.std.proofs.lemmas.Result.{IfOk-weaker}
use Rattle.rv_image.specs.Form.{profile_for}
use Rattle.cfi_layout.specs.Starts.{flag, starts_from}
use Rattle.cfi_layout.specs.LongSet.{sizes_where}
use Rattle.cfi_layout.proofs.Offsets.{length_starts, length_where, start_most, sum_where}
use Rattle.cfi_layout.proofs.starts.starts_with.Goals as goal

pub starts_of-requires : goal.starts_of-requires
starts_of-requires c =
    rw (c.as_slice.ensures.value, c.in_ok-left.ensures) (omega (arith, c.requires.room, sum_where (flag c.args.long.now) 0 c.args.sizes.now))

pub returns-clause-len : goal.returns-clause-len
returns-clause-len c =
    let sizes = sizes_where (flag c.args.long.now) 0 c.args.sizes.now in
    let left = c.as_slice.ensures.value ∙ c.in_ok-left.ensures in
    IfOk-weaker c.starts_of.result _ _ (λ v is.
    ap length is ∙ ap (λ (xs : List ℕ). length (starts_from (profile_for c.args.form).units_from xs)) left ∙ length_starts (profile_for c.args.form).units_from sizes ∙ ap (λ (n : ℕ). n + 1) (length_where (flag c.args.long.now) 0 c.args.sizes.now)) c.starts_of.ensures

pub returns-clause-low : goal.returns-clause-low
returns-clause-low c =
    let sizes = sizes_where (flag c.args.long.now) 0 c.args.sizes.now in
    let left = c.as_slice.ensures.value ∙ c.in_ok-left.ensures in
    IfOk-weaker c.starts_of.result _ _ (λ v is k.
    let at = ap (λ (xs : List ℕ). get_or xs k 0) (is ∙ ap (λ (xs : List ℕ). starts_from (profile_for c.args.form).units_from xs) left) in
    omega (arith, at, c.requires.room, start_most (profile_for c.args.form).units_from sizes k, sum_where (flag c.args.long.now) 0 c.args.sizes.now)) c.starts_of.ensures
