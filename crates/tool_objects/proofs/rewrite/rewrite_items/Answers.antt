use Rattle.std.proofs.Common.{Ok, Err}
use Rattle.std.specs.Prelude.{option_copied}
use Rattle.tool_objects.proofs.Prelude.{Fault, request_of, rewrite_asked}
use Rattle.cfi_rewrite.proofs.OfHardened.{hardens_read, keeps_read}
use Rattle.tool_objects.proofs.rewrite.rewrite_items.Goals as goal

pub returns-in_ok-spelled_out-in-Ok : goal.returns-in_ok-spelled_out-in-Ok
returns-in_ok-spelled_out-in-Ok c = λ given gives.
    let request = request_of (rewrite_asked c.args.request.now) given (option_copied c.args.policy) in
    let items = c.args.items.now in
    let hardened = c.in-Ok.hardened in (
      hardened,
      record {
        is_hardened = hardens_read request items (Ok hardened) gives c.in-Ok.ensures.hardens;
        meaning_kept = keeps_read request items (Ok hardened) gives c.in-Ok.ensures.meaning_kept;
      },
      c.in_ok-spelled_out-in-Ok.ensures,
    )

pub returns-in-Err-Fault : goal.returns-in-Err-Fault
returns-in-Err-Fault c = λ given gives.
    let request = request_of (rewrite_asked c.args.request.now) given (option_copied c.args.policy) in
    rw c.in-Err-Fault.field-0-is
    (hardens_read request c.args.items.now (Err (Fault c.in-Err-Fault.refusal)) gives (rw c.in-Err-Fault.field-0-is at c.in-Err-Fault.ensures.hardens))
