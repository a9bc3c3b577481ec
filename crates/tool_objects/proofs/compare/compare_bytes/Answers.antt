use Rattle.std.specs.Prelude.{option_copied}
use Rattle.tool_objects.proofs.Prelude.{asked_at, given_by}
use Rattle.tool_objects.proofs.Sources.{not_given}
use Rattle.tool_objects.proofs.compare.compare_bytes.Goals as goal

pub compare_spelled-requires-clause-read : goal.compare_spelled-requires-clause-read
compare_spelled-requires-clause-read c = (given_by c.args.given, c.in-Ok.ensures)

pub returns-in-Ok : goal.returns-in-Ok
returns-in-Ok c = c.compare_spelled.ensures (given_by c.args.given) c.in-Ok.ensures

pub returns-in-Err : goal.returns-in-Err
returns-in-Err c =
    let asked = asked_at c.args.map.now (given_by c.args.given) c.args.request.now.entry.now (option_copied c.args.policy) in
    c.not_run.ensures asked c.args.image.now c.args.map.now c.args.input.now c.args.request.now.limit (not_given asked c.in-Err.end c.in-Err.ensures)
