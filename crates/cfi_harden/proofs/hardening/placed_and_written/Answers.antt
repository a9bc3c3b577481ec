use Rattle.std.proofs.Common.{sym, subst}
use Rattle.cfi_harden.proofs.Prelude.{PreparedParts, IsWritable}
use Rattle.cfi_harden.proofs.Ready.{room_behind, writable}
use Rattle.cfi_harden.proofs.hardening.placed_and_written.Goals as goal

pub written-requires : goal.written-requires
written-requires c =
    subst (λ (p : PreparedParts). IsWritable p.form c.in_ok-spacing.spacing c.as_slice.result.now) (sym c.prepared.view_is)
    (subst (IsWritable c.args.prepared.now.form c.in_ok-spacing.spacing) (sym c.as_slice.ensures.value)
    (writable c.args.prepared.now c.in_ok-spacing.spacing c.in_ok-labels.labels.items c.requires c.in_ok-spacing.ensures c.in_ok-labels.ensures))

-- the parts have room behind the prologue
pub labels_of-requires-clause-room : goal.labels_of-requires-clause-room
labels_of-requires-clause-room c =
    room_behind c.args.prepared.now c.in_ok-spacing.spacing c.in_ok-spacing.ensures
