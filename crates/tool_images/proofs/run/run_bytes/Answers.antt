use Rattle.std.proofs.Common.{Bor, List, ℕ, option_map, subst}
use Rattle.cfi_launch.specs.Launch.{IsLaunchEnd}
use Rattle.rv_word.specs.declared.end.End.{End}
use Rattle.cfi_launch.specs.declared.launching.LaunchFault.{LaunchFault}
use Rattle.tool_images.proofs.run.run_bytes.Goals as goal

pub returns-in-Err-Fault : goal.returns-in-Err-Fault
returns-in-Err-Fault c =
    let script = option_map {T = Bor (List ℕ)} {U = List ℕ} (λ t. t.now) c.args.script in
    c.refusal_of.ensures c.args.image.now c.args.graph.now script
    (subst (λ (e : End LaunchFault). IsLaunchEnd c.args.image.now c.args.graph.now script e) c.in-Err-Fault.field-0-is c.in-Err-Fault.ensures.refused)
