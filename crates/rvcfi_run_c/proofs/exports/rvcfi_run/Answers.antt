use Rattle.rvcfi_run_c.specs.Told.{script_in}
use Rattle.rvcfi_run_c.proofs.Ran.{ran, said}
use Rattle.rvcfi_run_c.proofs.exports.rvcfi_run.Goals as goal

pub returns-clause-ran : goal.returns-clause-ran
returns-clause-ran c =
    ran c.args.image.now c.args.graph.now (script_in c.args.script.now) c.args.input.now c.args.limit c.args.output.now c.put_output.new.output
    c.run_of.result c.launch-launched.result
    (said _ _ _ _ _ _ c.launch-launched.result c.text_of.ensures c.launch-launched.ensures.launched c.launch-launched.ensures.refused)
    c.run_of.ensures c.put_output.ensures
