use Rattle.std.proofs.Common.{◌≡◌, map}
use Rattle.std.specs.Prelude.{flat_map, fold}
use Rattle.obj_link.proofs.Prelude.{listed, section_behind, table_symbols_of, with_symbol, by, section_said_in}
use Rattle.obj_link.proofs.slots.push_slots.Given as goal

abbrev pub invariant-loop-k : goal.invariant-loop-k
invariant-loop-k l =
    l.slots.keys
    ≡ fold with_symbol l.fn.slots.keys (flat_map (table_symbols_of (by l.numbers)) (map (section_behind l.symbols) (listed (section_said_in l.object) l.k)))
