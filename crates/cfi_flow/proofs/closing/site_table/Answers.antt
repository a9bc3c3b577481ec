use Rattle.std.proofs.Common.{ℕ, ◌==◌}
use Rattle.cfi_closed.specs.declared.side.Site.{Site}
use Rattle.cfi_class.proofs.Finding.{more_noted}
use Rattle.cfi_flow.proofs.closing.site_table.Goals as goal

pub loop-i-preserved : goal.loop-i-preserved
loop-i-preserved c =
    more_noted (λ (k : ℕ) (s : Site). s.place == k) c.args.sites.now c.args.places c.loop-i.i _ c.loop-i.table.items c.note.new.table.items c.loop-i-test.true
    c.loop-i.invariant c.in_ok-note.ensures.size c.in_ok-note.ensures.each
