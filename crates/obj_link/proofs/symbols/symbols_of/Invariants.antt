use Rattle.std.proofs.Common.{◌≡◌, take}
use Rattle.std.specs.List.{sum_by}
use Rattle.obj_link.proofs.Prelude.{e_shnum, said_by}
use Rattle.obj_link.proofs.symbols.symbols_of.Given as goal

abbrev pub invariant-loop-object : goal.invariant-loop-object
invariant-loop-object l =
    (l.symbols.items ≡ (said_by (take l.object-index l.objects)).symbols) × (l.sections ≡ sum_by e_shnum (take l.object-index l.objects))
