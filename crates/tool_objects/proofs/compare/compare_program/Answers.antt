use Rattle.std.proofs.Common.{◌∙◌, ap, subst, sym}
use Rattle.std.specs.Prelude.{option_copied}
use Rattle.tool_objects.proofs.Prelude.{graph_version, Request, IsRoomy, asked_at, form_told, IsRoomyEnd}
use Rattle.tool_objects.proofs.Sources.{asked_form, closed_for}
use Rattle.tool_objects.proofs.compare.compare_program.Goals as goal

pub compare_at-requires-clause-version : goal.compare_at-requires-clause-version
compare_at-requires-clause-version c =
    let (given, gives) = c.requires.read in
    let request : Request = record { form = c.form.result; given = given; entry = c.args.request.now.entry.now; policy = option_copied c.args.policy } in
    closed_for request c.in-Ok.prepared (c.in-Ok.ensures given gives).prepared ∙ ap graph_version c.form.ensures

pub compare_at-requires-clause-room : goal.compare_at-requires-clause-room
compare_at-requires-clause-room c = let (given, gives) = c.requires.read in (c.in-Ok.ensures given gives).room

pub compare_at-requires-clause-entry : goal.compare_at-requires-clause-entry
compare_at-requires-clause-entry c = let (given, gives) = c.requires.read in (c.in-Ok.ensures given gives).prepared.1.entry

pub returns-in-Ok : goal.returns-in-Ok
returns-in-Ok c = λ given text gives read.
    let entry = c.args.request.now.entry.now in
    let policy = option_copied c.args.policy in
    let same = asked_form c.form.result given entry policy text (c.form.ensures ∙ sym (ap form_told read)) in
    c.compare_at.ensures (asked_at text given entry policy) text (subst (λ (r : Request). IsRoomy r c.in-Ok.prepared) same (c.in-Ok.ensures given gives)) read

pub returns-in-Err : goal.returns-in-Err
returns-in-Err c = λ given text gives read.
    let entry = c.args.request.now.entry.now in
    let policy = option_copied c.args.policy in
    let same = asked_form c.form.result given entry policy text (c.form.ensures ∙ sym (ap form_told read)) in
    c.not_run.ensures (asked_at text given entry policy) c.args.image.now text c.args.input.now c.args.request.now.limit
    (subst (λ (r : Request). IsRoomyEnd r c.in-Err.end) same (c.in-Err.ensures given gives))
