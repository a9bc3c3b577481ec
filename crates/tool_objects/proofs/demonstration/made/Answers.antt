use Rattle.std.proofs.Common.{Err, subst}
use Rattle.tool_objects.proofs.Prelude.{End, Fault, HardensProgram, program_request, Refusal, entered}
use Rattle.cfi_harden.proofs.Preparing.{hardens_given}
use Rattle.tool_objects.proofs.Demonstrated.{unrefused}
use Rattle.tool_objects.proofs.demonstration.made.Goals as goal

pub rewrite_prepared-requires : goal.rewrite_prepared-requires
rewrite_prepared-requires c = let (object, ready) = c.requires in (program_request (entered object), ready.prepared.1)

pub unreachable-requires : goal.unreachable-requires
unreachable-requires c =
    let (object, ready) = c.requires in
    let request = entered object in
    let refusal = c.in-Err-Fault.field-0-0 in
    unrefused c.demo_is_never_refused.ensures object ready.drawn refusal
    (hardens_given request (Err (Fault refusal)) ready.prepared.0
    (subst (λ (e : End Refusal). HardensProgram (program_request request) (Err e)) c.in-Err-Fault.field-0-is
    (c.in-Err-Fault.ensures.hardens (program_request request) ready.prepared.1)))

pub returns-in-Ok-clause-made : goal.returns-in-Ok-clause-made
returns-in-Ok-clause-made c = λ request prepared. record {
  is_hardened = (prepared.0, c.in-Ok.ensures.hardens (program_request request) prepared.1);
  meaning_kept = (c.args.prepared.now, prepared.1, c.in-Ok.ensures.meaning_kept);
}

pub returns-in-Ok-clause-same : goal.returns-in-Ok-clause-same
returns-in-Ok-clause-same c = c.in-Ok.ensures.never_differs
