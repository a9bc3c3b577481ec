use Rattle.std.proofs.Common.{ap, arith, ◌≤◌, length}
use Rattle.cfi_verify.proofs.Prelude.{signs_at, GraphParts, leaves_in, lacks_gate, profile_in}
use Rattle.cfi_verify.proofs.LeastOf.{least_line, least_all, take_found}
use Rattle.cfi_verify.proofs.gates.first_without_gate.Goals as goal

pub loop-k-preserved : goal.loop-k-preserved
loop-k-preserved c =
    rw c.lesser-least.ensures
    (least_line (λ a. lacks_gate c.args.starts.now.graph.version (signs_at (profile_in c.args.starts.now) c.args.starts.now.listing (leaves_in c.args.starts.now.graph.lines)) a) c.graph-graph.result.now.lines c.loop-k.k c.line.result.now c.loop-k.least c.target_without_gate.result
    (take_found _ _ _ c.line.ensures) c.loop-k.invariant c.target_without_gate.ensures)

pub returns : goal.returns
returns c =
    let end = c.lines-k-end.ensures in
    let done = c.loop-k-test.false in
    let all : length c.graph-graph.result.now.lines ≤ c.loop-k.k = omega arith in
    least_all (λ a. lacks_gate c.args.starts.now.graph.version (signs_at (profile_in c.args.starts.now) c.args.starts.now.listing (leaves_in c.args.starts.now.graph.lines)) a) _ _ c.loop-k.k c.loop-k.least all
    (ap (λ (g : GraphParts). g.lines) c.graph-graph.ensures.value) c.loop-k.invariant
