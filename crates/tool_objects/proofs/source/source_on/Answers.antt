use Rattle.std.proofs.Common.{◌≡◌, MatchResult, Some, subst}
use Rattle.tool_objects.proofs.Prelude.{instruction_at, PreparedParts, Ends, IsSourceOn}
use Rattle.tool_objects.proofs.Sources.{begins}
use Rattle.tool_objects.proofs.source.source_on.Goals as goal

pub returns : goal.returns
returns c =
    let parts = c.prepared.inside in
    let inside : PreparedParts = record { form = parts.form; program = parts.items.now; closed = parts.closed; entry = parts.entry } in
    let spot = c.spot_of-spot.result in
    let map = c.args.map.now in
    let input = c.args.input.now in
    subst (λ (p : PreparedParts). instruction_at p.program (spot.0, spot.1) ≡ Some p.entry →
    MatchResult c.new.result (IsSourceOn p map input) (Ends p.program p.closed p.entry map)) c.prepared.view_is
    (λ at. begins inside input map spot.0 spot.1 c.new.result at (λ place here. c.new.ensures place here))
    c.spot_of-spot.ensures
