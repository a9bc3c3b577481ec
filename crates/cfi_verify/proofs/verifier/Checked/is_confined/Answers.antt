use Rattle.std.proofs.Common.{ap, subst}
use Rattle.rv_image.proofs.Profiles.{is_pair_profile}
use Rattle.cfi_verify.proofs.Prelude.{IsGraph, AreBytes, Pair}
use Rattle.cfi_verify.proofs.verifier.Checked.is_confined.Goals as goal

pub returns : goal.returns
returns c =
    let pair = c.args.self.now in
    c.well_formed_is_confined.ensures _ pair.image pair.graph (is_pair_profile pair.graph.version pair.image.version)
    (subst AreBytes (ap (λ (p : Pair). p.image) c.self.view_is) c.are_bytes.ensures)
    (subst IsGraph c.graph.ensures.value c.code-length.ensures.allowed)
    c.graph.ensures.well_formed
