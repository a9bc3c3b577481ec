use Rattle.std.proofs.Common.{◌∙◌, ap}
use Rattle.std.specs.Int.{w128}
use Rattle.std.proofs.lemmas.Int.{to_z-of_z}
use Rattle.rv_reloc.specs.Value.{low_bits}
use Rattle.rv_reloc.specs.Data.{becomes}
use Rattle.rv_reloc.proofs.Width.{patched_from}
use Rattle.rv_reloc.proofs.data.patch_data.Goals as goal

pub returns-clause-value : goal.returns-clause-value
returns-clause-value c =
    let passed = to_z-of_z w128 c.args.value c.ranges.value in
    let number = c.number.ensures ∙ ap (λ z. low_bits 64 (becomes c.args.kind z c.read_uint-old.result)) passed in
    patched_from c.args.kind c.args.value c.args.bytes.now _ _ _ _
    c.size-size.ensures c.read_uint-old.ensures number c.put.ensures
