use Rattle.cfi_flow.specs.Closing.{sets_of}
use Rattle.cfi_flow.specs.Joins.{IsJoining}
use Rattle.cfi_flow.specs.Kept.{sites_of}
use Rattle.cfi_flow.proofs.join.joined.Given as goal

abbrev pub invariant-loop-site : goal.invariant-loop-site
invariant-loop-site l = IsJoining (sets_of (sites_of l.drawing)) l.drawing.taken.items l.drawing.begun.items l.site-index l.joining
