use Rattle.std.proofs.Common.{◌≡◌, ◌++◌, take}
use Rattle.std.specs.List.{flat_map}
use Rattle.obj_items.specs.InitialData.{reloc_of}
use Rattle.obj_items.proofs.relocs.push_relocs.Given as goal

abbrev pub invariant-loop-u : goal.invariant-loop-u
invariant-loop-u l = l.relocs.items ≡ l.initial.relocs.items ++ flat_map (reloc_of l.input l.places l.k) (take l.u-index l.uses)
