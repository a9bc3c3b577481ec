use Rattle.std.proofs.Common.{◌≡◌, length, ap, ◌∙◌, arith, List}
use Rattle.obj_input.specs.declared.parts.Definition.{Definition}
use Rattle.obj_join.proofs.Listing.{length-listed, listed_in}
use Rattle.obj_link.proofs.resolution.definition_at.Goals as goal

pub returns : goal.returns
returns c = λ given count same.
    let long : length c.args.definitions.now ≡ count = ap (λ (ds : List Definition). length ds) same ∙ length-listed given count in
    listed_in given count c.args.number _ c.args.definitions.now same (omega (arith, long, c.requires))
