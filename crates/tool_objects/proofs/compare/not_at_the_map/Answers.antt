use Rattle.std.proofs.Common.{subst}
use Rattle.tool_objects.proofs.Prelude.{Fault, Ends, SourceFault}
use Rattle.tool_objects.proofs.Sources.{wrong_place}
use Rattle.tool_objects.proofs.compare.not_at_the_map.Goals as goal

pub returns-in-RelocRange : goal.returns-in-RelocRange
returns-in-RelocRange c = λ asked p text m roomy read ends.
    let (legal, out) = subst (λ (f : SourceFault). Ends p.program p.closed p.entry m (Fault f)) c.in-RelocRange.is ends in
    (p, m, roomy, record { read = read; legal = legal }, out)

pub returns-in-BadMap : goal.returns-in-BadMap
returns-in-BadMap c = λ asked p text m roomy read ends.
    wrong_place asked p text roomy c.args.image.now c.after_the_image.result m c.in-BadMap.line c.wrong_is_not_legal.ensures read
    (subst (λ (f : SourceFault). Ends p.program p.closed p.entry m (Fault f)) c.in-BadMap.is ends)
    c.after_the_image.ensures
