use Rattle.std.proofs.Common.{arith}
use Rattle.rv_image.proofs.Profiles.{is_profile, laid_out}
use Rattle.test_rewrite.proofs.runs.runs_so.Goals as goal

pub run-requires : goal.run-requires
run-requires c = record { some = omega arith; most = (laid_out _ (is_profile c.args.checked.now.image.version)).some }
