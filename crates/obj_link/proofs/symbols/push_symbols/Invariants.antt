use Rattle.std.proofs.Common.{◌≡◌, ◌++◌, map}
use Rattle.obj_link.proofs.Prelude.{listed, symbol_behind, symbol_said_in}
use Rattle.obj_link.proofs.symbols.push_symbols.Given as goal

abbrev pub invariant-loop-number : goal.invariant-loop-number
invariant-loop-number l = l.symbols.items ≡ l.fn.symbols.items ++ map (symbol_behind l.sections) (listed (symbol_said_in l.object) l.number)
