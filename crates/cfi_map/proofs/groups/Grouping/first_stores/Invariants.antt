use Rattle.cfi_map.proofs.Greedy.{AreFirstStoresTo}
use Rattle.cfi_map.proofs.groups.Grouping.first_stores.Given as goal

abbrev pub invariant-loop-k : goal.invariant-loop-k
invariant-loop-k l = AreFirstStoresTo l.self l.k l.firsts.items l.before
