use Rattle.std.proofs.Common.{◌≡◌, take}
use Rattle.cfi_flow.proofs.draw.lists_of.Given as goal

abbrev pub invariant-loop-list : goal.invariant-loop-list
invariant-loop-list l = l.all.items ≡ take l.list-index l.lists
