use Rattle.std.proofs.Common.{drop}
use Rattle.cfi_walk.proofs.Prelude.{pair_profile, code_words}
use Rattle.cfi_walk.proofs.Led.{Onward}
use Rattle.cfi_walk.proofs.following.follow_all.Given as goal

abbrev pub invariant-loop-pc : goal.invariant-loop-pc
invariant-loop-pc l =
    Onward (pair_profile l.checked.image l.checked.graph) (code_words l.checked.image.code) l.checked.graph.lines l.initial.walk l.addresses l.walk (drop l.pc-index l.addresses)
