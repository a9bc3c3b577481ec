use Rattle.std.proofs.Common.{◌≡◌, Some, refl}
use Rattle.cfi_walk.proofs.Prelude.{pair_profile, code_words, place_at}
use Rattle.rv_image.proofs.Profiles.{is_pair_profile, laid_out}
use Rattle.cfi_walk.proofs.Reach.{code_low}
use Rattle.cfi_walk.proofs.following.follow.Goals as goal

pub step-requires : goal.step-requires
step-requires c =
    let stands : place_at (pair_profile c.args.checked.now.image c.args.checked.now.graph) (code_words c.args.checked.now.image.code) c.args.walk.now.at ≡ Some c.in-Some.place =
    cc (c.place_at.ensures, c.in-Some.is, c.address.ensures) in
    code_low _ (laid_out _ (is_pair_profile c.args.checked.now.graph.version c.args.checked.now.image.version)) c.args.checked.now.image c.args.walk.now.at _ (rw c.image.ensures.value at c.code.ensures.size) stands

pub returns-in-Some-step-clause-yes : goal.returns-in-Some-step-clause-yes
returns-in-Some-step-clause-yes c =
    let stands : place_at (pair_profile c.args.checked.now.image c.args.checked.now.graph) (code_words c.args.checked.now.image.code) c.args.walk.now.at ≡ Some c.in-Some.place =
    cc (c.place_at.ensures, c.in-Some.is, c.address.ensures) in
    λ _. rw c.go.ensures (c.in-Some.place, stands, refl, c.in-Some-step.ensures.1)
