use Rattle.gen_hardened.proofs.NothingRefused.{never_refused}
use Rattle.gen_hardened.proofs.laws.demo_is_never_refused.Goals as goal

pub returns : goal.returns
returns c = never_refused
