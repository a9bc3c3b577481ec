use Rattle.std.proofs.Common.{Err, subst}
use Rattle.tool_objects.proofs.Prelude.{End, PreparesProgram, Refusal, entered}
use Rattle.cfi_harden.proofs.Preparing.{prepared_given, refused_given}
use Rattle.tool_objects.proofs.Demonstrated.{unrefused}
use Rattle.tool_objects.proofs.demonstration.prepared.Goals as goal

pub unreachable-requires : goal.unreachable-requires
unreachable-requires c =
    let (object, drawn, read) = c.requires in
    let request = entered object in
    let refusal = c.in-Err-Fault.field-0-0 in
    let (refuses, early) =
    subst (λ (e : End Refusal). PreparesProgram (record { form = request.form; program = c.args.items.now; entry = request.entry; policy = request.policy }) (Err e))
    c.in-Err-Fault.field-0-is c.in-Err-Fault.ensures in
    unrefused c.demo_is_never_refused.ensures object drawn refusal (refused_given request c.args.items.now read refusal refuses)

pub returns-in-Ok : goal.returns-in-Ok
returns-in-Ok c = λ object drawn read. record {
  drawn = drawn;
  prepared = prepared_given (entered object) c.args.items.now read c.in-Ok.prepared c.in-Ok.ensures;
}
