use Rattle.cfi_gen.proofs.Right.{demo_holds}
use Rattle.cfi_gen.proofs.object.object_of.Goals as goal

pub returns-clause-holds : goal.returns-clause-holds
returns-clause-holds c = demo_holds c.args.number _ c.in_ok-file.ensures
