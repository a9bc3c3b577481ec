use Rattle.cfi_map.proofs.GroupedSizes.{grouped_room}
use Rattle.cfi_map.proofs.spacing.shortened.Goals as goal

pub shorten-requires-clause-room : goal.shorten-requires-clause-room
shorten-requires-clause-room c =
    grouped_room c.args.form c.args.leads.now c.args.firsts.now c.as_slice.result.now c.in_ok-sizes.sizes.items
    c.requires c.as_slice.ensures.value c.in_ok-sizes.ensures
