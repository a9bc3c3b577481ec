use Rattle.std.proofs.Common.{◌≡◌, ◌++◌, drop}
use Rattle.cfi_map.specs.Sizes.{grouped_parts, grouped_sizes}
use Rattle.cfi_map.proofs.sizes.grouped_sizes.Given as goal

abbrev pub invariant-loop-k : goal.invariant-loop-k
invariant-loop-k l =
    l.sizes.items ++ grouped_sizes l.leads l.firsts l.k (drop l.k l.leads.program.items) ≡ grouped_parts l.leads l.firsts
