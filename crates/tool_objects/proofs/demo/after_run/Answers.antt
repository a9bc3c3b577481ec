use Rattle.tool_objects.proofs.demo.after_run.Goals as goal

pub returns : goal.returns
returns c = λ number object run. c.after_exit.ensures number object run c.in-Exit.is
