use Rattle.std.specs.Prelude.{option_copied}
use Rattle.cfi_harden.proofs.hardening.harden_program.Goals as goal

pub harden_prepared-requires : goal.harden_prepared-requires
harden_prepared-requires c =
    (record { form = c.args.form; program = c.args.items.now; entry = c.args.entry.now; policy = option_copied c.args.policy }, c.in_ok-prepared.ensures)

pub returns : goal.returns
returns c =
    c.harden_prepared.ensures.hardens (record { form = c.args.form; program = c.args.items.now; entry = c.args.entry.now; policy = option_copied c.args.policy })
    c.in_ok-prepared.ensures
