use Rattle.std.specs.Prelude.{option_copied}
use Rattle.cfi_harden.specs.Given.{alone}
use Rattle.cfi_rewrite.proofs.OfHardened.{differs_read, hardens_read, keeps_read}
use Rattle.cfi_rewrite.proofs.rewriting.rewrite_as.Goals as goal

pub returns-clause-hardens : goal.returns-clause-hardens
returns-clause-hardens c =
    hardens_read (record { form = c.args.form; given = alone c.args.object.now; entry = c.args.entry.now; policy = option_copied c.args.policy }) c.in_ok-items.items
    c.rewrite_joined.result c.in_ok-items.ensures c.rewrite_joined.ensures.hardens

pub returns-clause-meaning_kept : goal.returns-clause-meaning_kept
returns-clause-meaning_kept c =
    keeps_read (record { form = c.args.form; given = alone c.args.object.now; entry = c.args.entry.now; policy = option_copied c.args.policy }) c.in_ok-items.items
    c.rewrite_joined.result c.in_ok-items.ensures c.rewrite_joined.ensures.meaning_kept

pub returns-clause-never_differs : goal.returns-clause-never_differs
returns-clause-never_differs c =
    differs_read (record { form = c.args.form; given = alone c.args.object.now; entry = c.args.entry.now; policy = option_copied c.args.policy }) c.in_ok-items.items
    c.rewrite_joined.result c.in_ok-items.ensures c.rewrite_joined.ensures.never_differs
