use Rattle.std.specs.Prelude.{option_copied}
use Rattle.cfi_rewrite.proofs.OfHardened.{keeps_meaning, never_differs}
use Rattle.cfi_rewrite.proofs.rewriting.rewrite_joined.Goals as goal

pub returns-clause-hardens : goal.returns-clause-hardens
returns-clause-hardens c = c.harden_program.ensures

pub returns-clause-meaning_kept : goal.returns-clause-meaning_kept
returns-clause-meaning_kept c =
    keeps_meaning (record { form = c.args.form; program = c.args.items.now; entry = c.args.entry.now; policy = option_copied c.args.policy }) c.harden_program.result
    c.hardened_keeps_meaning.ensures c.harden_program.ensures

pub returns-clause-never_differs : goal.returns-clause-never_differs
returns-clause-never_differs c =
    never_differs (record { form = c.args.form; program = c.args.items.now; entry = c.args.entry.now; policy = option_copied c.args.policy }) c.harden_program.result
    c.hardened_never_differs.ensures c.harden_program.ensures
