use Rattle.std.proofs.Common.{subst}
use Rattle.rv_image.specs.Image.{Contents}
use Rattle.rv_image.proofs.Profiles.{is_pair_profile}
use Rattle.cfi_rules.specs.Laws.{AreBytes}
use Rattle.cfi_rules.specs.Rules.{pair_profile}
use Rattle.cfi_step.proofs.InCode.{lies_in}
use Rattle.cfi_step.proofs.starts.lies_in_code.Goals as goal

pub returns : goal.returns
returns c =
    let image = c.args.checked.now.image in
    let graph = c.args.checked.now.graph in
    lies_in (pair_profile image graph) (is_pair_profile graph.version image.version) image graph (subst (λ (i : Contents). AreBytes i) c.image.ensures.value c.are_bytes.ensures) c.image.ensures.well_formed
