use Rattle.std.proofs.Common.{◌∙◌}
use Rattle.std.specs.Int.{w128}
use Rattle.std.proofs.lemmas.Int.{to_z-of_z}
use Rattle.obj_program.specs.AtMap.{value_at}
use Rattle.obj_program.proofs.Applied.{applied}
use Rattle.obj_program.proofs.data_at_map.apply.Goals as goal

pub returns-clause-value : goal.returns-clause-value
returns-clause-value c =
    let value = to_z-of_z w128 c.value_at-value.result (record { sfits = c.value_at-value.type_inv }) ∙ c.value_at-value.ensures.value in
    applied c.patch_data.result c.args.reloc.patch _ (value_at c.args.gates.now c.args.reloc.value) c.args.reloc.offset c.args.bytes.now c.patch_data.new.bytes value c.patch_data.ensures.value
