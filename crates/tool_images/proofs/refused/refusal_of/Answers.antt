use Rattle.std.proofs.Common.{subst}
use Rattle.cfi_launch.specs.Launch.{IsLaunchFault}
use Rattle.cfi_launch.specs.declared.launching.LaunchFault.{LaunchFault}
use Rattle.tool_images.proofs.refused.refusal_of.Goals as goal

pub returns-in-Pair : goal.returns-in-Pair
returns-in-Pair c image graph script has =
    c.pair_refusal.ensures image graph script (subst (λ (f : LaunchFault). IsLaunchFault image graph script f) c.in-Pair.is has)
