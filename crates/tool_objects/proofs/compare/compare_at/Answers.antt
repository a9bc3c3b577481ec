use Rattle.std.proofs.Common.{subst}
use Rattle.std.proofs.lemmas.Result.{IfOk-weaker}
use Rattle.tool_objects.proofs.Prelude.{End, Ends, SourceFault, IsCompareOf, IsImageCompared}
use Rattle.tool_objects.proofs.Sources.{compared_with, source_is}
use Rattle.tool_objects.proofs.compare.compare_at.Goals as goal

pub returns-in-Ok : goal.returns-in-Ok
returns-in-Ok c = λ asked text roomy read.
    let p = c.args.prepared.now in
    let input = c.args.input.now in
    let image = c.args.image.now in
    let limit = c.args.request.now.limit in
    let run = c.in-Ok.source in
    let source = source_is p text input c.args.map.now run read c.in-Ok.ensures in
    IfOk-weaker c.compare_image.result (IsImageCompared run image input limit) (IsCompareOf asked image text input limit)
    (λ result is. compared_with asked p text roomy image input limit run result source is)
    c.compare_image.ensures

pub returns-in-Err-Fault : goal.returns-in-Err-Fault
returns-in-Err-Fault c = λ asked text roomy read.
    let p = c.args.prepared.now in
    let m = c.args.map.now in
    c.not_at_the_map.ensures asked p text m roomy read
    (rw c.in-Err-Fault.field-0-is
    (subst (λ (e : End SourceFault). Ends p.program p.closed p.entry m e) c.in-Err-Fault.field-0-is c.in-Err-Fault.ensures))
