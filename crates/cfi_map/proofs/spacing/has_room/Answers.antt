use Rattle.std.proofs.Common.{arith}
use Rattle.cfi_map.proofs.GroupedSizes.{none_size}
use Rattle.cfi_map.proofs.spacing.has_room.Goals as goal

pub returns-then-bytes-from : goal.returns-then-bytes-from
returns-then-bytes-from c =
    let bytes = none_size c.args.form c.args.leads.now c.as_slice.result.now c.in_ok-sizes.sizes.items c.code_size-bytes.result
    c.code_size-bytes.ensures c.as_slice.ensures.value c.in_ok-sizes.ensures in
    (bytes, omega (arith, c.if-bytes-from.true, c.from.ensures))

pub returns : goal.returns
returns c =
    let bytes = none_size c.args.form c.args.leads.now c.as_slice.result.now c.in_ok-sizes.sizes.items c.code_size-bytes.result
    c.code_size-bytes.ensures c.as_slice.ensures.value c.in_ok-sizes.ensures in
    omega (arith, bytes, c.if-bytes-from.false, c.from.ensures)
