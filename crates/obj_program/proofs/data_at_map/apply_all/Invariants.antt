use Rattle.std.proofs.Common.{◌≡◌, take, true}
use Rattle.std.specs.List.{fold, list_all}
use Rattle.obj_program.specs.DataAtMap.{is_in_range, with_reloc}
use Rattle.obj_program.proofs.data_at_map.apply_all.Given as goal

abbrev pub invariant-loop-reloc : goal.invariant-loop-reloc
invariant-loop-reloc l = record {
  value : l.bytes ≡ fold (with_reloc l.gates) l.initial.bytes (take l.reloc-index l.relocs);
  taken : list_all (is_in_range l.gates) (take l.reloc-index l.relocs) ≡ true;
}
