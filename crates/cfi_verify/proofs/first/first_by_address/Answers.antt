use Rattle.std.proofs.Common.{◌≡◌, ◌∙◌, ◌+◌, ◌*◌, ◌≤◌, max, ap, refl, sym, length, arith}
use Rattle.cfi_verify.proofs.Prelude.{Profile, prologue_count, profile_in}
use Rattle.least.proofs.Firsts.{found_parts, first_none}
use Rattle.cfi_starts.proofs.Laid.{laid_with}
use Rattle.cfi_verify.proofs.Spots.{none_before, none_anywhere}
use Rattle.cfi_verify.proofs.Told.{fails_told}
use Rattle.cfi_verify.proofs.first.first_by_address.Goals as goal

pub returns-in_err-index : goal.returns-in_err-index
returns-in_err-index c =
    rw c.from_residual.ensures (λ words told.
    let p : Profile = profile_in c.args.starts.now in
    let laid = laid_with c.args.starts.now.listing.versions in
    let count = c.count.ensures.value ∙ told.count in
    let given : c.args.starts.now.graph.code ≡ 4 * length words = c.count.ensures.same_length ∙ ap (λ n. 4 * n) count in
    let most = c.max-count.ensures in
    let front = c.front.ensures.count in
    let same = c.from-front.ensures in
    let all : max (length words) (prologue_count p + 1) ≤ c.max-count.result = omega arith in
    let none = sym c.first_index.ensures.first ∙ c.in_err-index.was in
    none_anywhere p laid c.args.rule words c.args.starts.now.graph c.max-count.result all c.requires c.count.ensures.graph_is given
    (λ k below. fails_told p laid _ c.args.starts.now.listing words told c.args.rule c.args.starts.now.graph refl _ ∙ first_none _ _ k none below))

pub returns : goal.returns
returns c = λ words told.
    let p : Profile = profile_in c.args.starts.now in
    let laid = laid_with c.args.starts.now.listing.versions in
    let count = c.count.ensures.value ∙ told.count in
    let given : c.args.starts.now.graph.code ≡ 4 * length words = c.count.ensures.same_length ∙ ap (λ n. 4 * n) count in
    let found = found_parts _ _ c.in_ok-index.index (sym c.first_index.ensures.first ∙ c.in_ok-index.was) in (
      fails_told p laid _ c.args.starts.now.listing words told c.args.rule c.args.starts.now.graph refl _ ∙ found.1,
      none_before p laid c.args.rule words c.args.starts.now.graph c.in_ok-index.index c.requires c.count.ensures.graph_is given
          (λ k below. fails_told p laid _ c.args.starts.now.listing words told c.args.rule c.args.starts.now.graph refl _ ∙ first_none _ _ k found.2 below),
    )
