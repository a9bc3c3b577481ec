use Rattle.std.specs.Prelude.{option_copied}
use Rattle.tool_objects.proofs.Sources.{prepared_or_not}
use Rattle.tool_objects.proofs.source.prepared.Goals as goal

pub returns : goal.returns
returns c = λ given gives.
    prepared_or_not (record { form = c.args.form; given = given; entry = c.args.entry.now; policy = option_copied c.args.policy }) c.args.items.now c.prepare_program.result gives
    c.prepare_program.ensures
