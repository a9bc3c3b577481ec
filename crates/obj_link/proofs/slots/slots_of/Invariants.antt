use Rattle.std.proofs.Common.{◌≡◌, [], take}
use Rattle.std.specs.Prelude.{flat_map, fold}
use Rattle.std.specs.List.{sum_by}
use Rattle.obj_link.proofs.Prelude.{symbol_count, table_symbols_of, with_symbol, by, said_by}
use Rattle.obj_link.proofs.slots.slots_of.Given as goal

abbrev pub invariant-loop-object : goal.invariant-loop-object
invariant-loop-object l =
    (l.slots.keys ≡ fold with_symbol [] (flat_map (table_symbols_of (by l.numbers)) (said_by (take l.object-index l.objects)).sections))
    × (l.symbols ≡ sum_by (λ o. symbol_count o) (take l.object-index l.objects))
