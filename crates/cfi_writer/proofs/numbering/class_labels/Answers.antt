use Rattle.std.proofs.Common.{length, ap, ◌∙◌, arith}
use Rattle.cfi_writer.proofs.Few.{labels_few}
use Rattle.cfi_writer.proofs.numbering.class_labels.Goals as goal

pub label_count-requires : goal.label_count-requires
label_count-requires c =
    let few = labels_few c.args.items.now c.args.closed.now c.requires.room.0 c.requires.graph c.requires.room.1 in
    omega (arith, few)

pub labels-requires : goal.labels-requires
labels-requires c =
    let few = labels_few c.args.items.now c.args.closed.now c.requires.room.0 c.requires.graph c.requires.room.1 in
    let used = ap length (c.as_slice.ensures.value ∙ c.in_ok-used.ensures) in
    omega (arith, few, used, c.in_ok-count.ensures)
