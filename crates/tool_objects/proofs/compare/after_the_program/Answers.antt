use Rattle.std.proofs.Common.{ap, subst, sym}
use Rattle.std.specs.Prelude.{option_copied}
use Rattle.tool_objects.proofs.Prelude.{Plain, Request, IsRoomy, asked_at, form_told, IsRoomyEnd}
use Rattle.tool_objects.proofs.Sources.{asked_form, wrong_text}
use Rattle.tool_objects.proofs.compare.after_the_program.Goals as goal

pub returns-in-Ok : goal.returns-in-Ok
returns-in-Ok c = λ given text input gives wrong.
    let entry = c.args.request.now.entry.now in
    let policy = option_copied c.args.policy in
    let same = asked_form Plain given entry policy text (sym (ap form_told wrong)) in
    wrong_text (asked_at text given entry policy) c.in-Ok._prepared text (subst (λ (r : Request). IsRoomy r c.in-Ok._prepared) same (c.in-Ok.ensures given gives)) c.args.image.now
    c.after_the_image-refusal.result c.args.line c.args.reason wrong c.after_the_image-refusal.ensures

pub returns-in-Err : goal.returns-in-Err
returns-in-Err c = λ given text input gives wrong.
    let entry = c.args.request.now.entry.now in
    let policy = option_copied c.args.policy in
    let same = asked_form Plain given entry policy text (sym (ap form_told wrong)) in
    c.not_run.ensures (asked_at text given entry policy) c.args.image.now text input c.args.request.now.limit
    (subst (λ (r : Request). IsRoomyEnd r c.in-Err.end) same (c.in-Err.ensures given gives))
