use Rattle.std.proofs.Common.{Err, inl, subst}
use Rattle.tool_objects.proofs.Prelude.{End, alone, Reads, Refusal}
use Rattle.tool_objects.proofs.Demonstrated.{unrefused}
use Rattle.tool_objects.proofs.demonstration.program.Goals as goal

pub unreachable-requires : goal.unreachable-requires
unreachable-requires c =
    let object = c.args.object.now in
    unrefused c.demo_is_never_refused.ensures object c.requires c.in-Err-Fault.field-0-0
    (inl (subst (λ (e : End Refusal). Reads (alone object) (Err e)) c.in-Err-Fault.field-0-is c.in-Err-Fault.ensures))
