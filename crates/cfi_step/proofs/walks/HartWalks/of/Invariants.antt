use Rattle.std.proofs.Common.{◌≡◌, map, take}
use Rattle.cfi_step.specs.Trail.{told_of}
use Rattle.cfi_step.proofs.walks.HartWalks.of.Given as goal

abbrev pub invariant-loop-trail : goal.invariant-loop-trail
invariant-loop-trail l = l.items.items ≡ map told_of (take l.trail-index l.trails)
