use Rattle.std.proofs.Common.{◌≡◌, []}
use Rattle.std.proofs.lemmas.Result.{IfOk-weaker}
use Rattle.tool_objects.proofs.Prelude.{image_profile, compared, told_answer, Compared, STEP_LIMIT, IsAnswerAt}
use Rattle.tool_objects.proofs.Demonstrated.{answer_at}
use Rattle.tool_objects.proofs.demonstration.compare_at.Goals as goal

pub returns : goal.returns
returns c =
    let p = c.args.prepared.now in
    let run = c.in_ok-source.source in
    IfOk-weaker c.compare.result
    (λ (answer : Compared). answer ≡ told_answer run.layout.program (compared (image_profile c.args.image.now) run.layout c.args.image.now [] STEP_LIMIT))
    (IsAnswerAt p c.args.map.now c.args.image.now)
    (λ answer told. answer_at p c.args.map.now c.args.image.now run answer c.in_ok-source.ensures told)
    (c.compare.ensures.from_start c.in_ok-source.ensures.state)
