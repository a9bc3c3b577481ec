use Rattle.rv_mem.proofs.InPages.{are_pages-none, byte_of-none}
use Rattle.rv_mem.proofs.pages.Pages.new.Goals as goal

pub invariant_of-result : goal.invariant_of-result
invariant_of-result c =
    let table = c.in_ok-no_entries.ensures in
    rw c.new.ensures.items (are_pages-none _ table.len table.items)

pub returns : goal.returns
returns c = byte_of-none _ c.in_ok-no_entries.ensures.items
