use Rattle.std.proofs.Common.{◌≡◌, map, take}
use Rattle.cfi_flow.specs.declared.draw.KeptSite.{KeptSite}
use Rattle.cfi_flow.specs.Found.{by_table}
use Rattle.cfi_flow.specs.Kept.{raw_site}
use Rattle.cfi_flow.proofs.found.sites_by.Given as goal

abbrev pub invariant-loop-site : goal.invariant-loop-site
invariant-loop-site l =
    l.sites.items ≡ map (λ (s : KeptSite). by_table l.table (raw_site l.drawing.lists.items l.drawing.taken.items l.drawing.begun.items s)) (take l.site-index l.drawing.sites.items)
