use Rattle.std.proofs.Common.{◌≡◌, ℕ}
use Rattle.obj_join.specs.Ranked.{first_ranked, looked_up}
use Rattle.obj_join.proofs.index.index_of.Given as goal

abbrev pub invariant-loop-number : goal.invariant-loop-number
invariant-loop-number l = (name : ℕ) → looked_up name l.index ≡ first_ranked l.rank l.symbols l.names name l.number
