use Rattle.std.proofs.Common.{◌∙◌, ap}
use Rattle.cfi_flow.proofs.Keeping.{kept_for, kept_sites, sites_for}
use Rattle.cfi_flow.specs.declared.draw.Drawing.{Drawing}
use Rattle.cfi_flow.proofs.draw.Drawing.for_sort.Goals.{In_ok-begun}
use Rattle.cfi_flow.proofs.draw.Drawing.for_sort.Goals as goal

abbrev drawn : In_ok-begun → Drawing
drawn c = record { sites = c.in_ok-sites.sites; lists = c.in_ok-lists.lists; taken = c.in_ok-taken.taken; begun = c.in_ok-begun.begun }

pub returns-clause-sites : goal.returns-clause-sites
returns-clause-sites c =
    sites_for c.args.self.now (drawn c) c.args.sort (c.in_ok-sites.ensures ∙ ap (kept_for c.args.sort) c.as_slice.ensures.value) (c.in_ok-lists.ensures ∙ c.as_slice-2.ensures.value)
    (c.in_ok-taken.ensures.items ∙ c.as_slice-3.ensures.value) (c.in_ok-begun.ensures.items ∙ c.as_slice-4.ensures.value)

pub returns-clause-kept : goal.returns-clause-kept
returns-clause-kept c =
    kept_sites c.args.self.now (drawn c) c.args.sort (c.in_ok-sites.ensures ∙ ap (kept_for c.args.sort) c.as_slice.ensures.value) (c.in_ok-lists.ensures ∙ c.as_slice-2.ensures.value)
    (c.in_ok-taken.ensures.items ∙ c.as_slice-3.ensures.value) (c.in_ok-begun.ensures.items ∙ c.as_slice-4.ensures.value) c.requires
