use Rattle.std.proofs.Common.{◌≡◌, ◌/◌, ◌<◌, sym, ◌∙◌, ap, subst, IsTrue, arith, get_or, length}
use Rattle.std.proofs.lemmas.List.{get_or_read}
use Rattle.rv_mem.specs.Pages.{PAGE_SIZE, Paged, entry, is_made}
use Rattle.rv_mem.proofs.InPages.{made_entry, made_in_table}
use Rattle.rv_mem.proofs.pages.Pages.put.Goals as goal

pub index-entry-requires : goal.index-entry-requires
index-entry-requires c =
    let made = subst (λ (m : Paged). IsTrue (is_made m (c.args.at / PAGE_SIZE))) (sym c.self.view_is) c.requires.made in
    omega (arith, made_in_table _ (c.args.at / PAGE_SIZE) c.self.invariant made)

pub overflow_sub-entry : goal.overflow_sub-entry
overflow_sub-entry c =
    let table = c.self.inside.table.items in
    let made = subst (λ (m : Paged). IsTrue (is_made m (c.args.at / PAGE_SIZE))) (sym c.self.view_is) c.requires.made in
    let inside : c.args.at / PAGE_SIZE < length table = made_in_table _ (c.args.at / PAGE_SIZE) c.self.invariant made in
    let some : 0 < get_or table (c.args.at / PAGE_SIZE) 0 = made_entry _ (c.args.at / PAGE_SIZE) made in
    omega (arith, get_or_read table (c.args.at / PAGE_SIZE) _ inside c.index-entry.ensures 0)

pub put_into-requires-clause-place : goal.put_into-requires-clause-place
put_into-requires-clause-place c =
    let table = c.self.inside.table.items in
    let made = subst (λ (m : Paged). IsTrue (is_made m (c.args.at / PAGE_SIZE))) (sym c.self.view_is) c.requires.made in
    let inside : c.args.at / PAGE_SIZE < length table = made_in_table _ (c.args.at / PAGE_SIZE) c.self.invariant made in
    let some : 0 < get_or table (c.args.at / PAGE_SIZE) 0 = made_entry _ (c.args.at / PAGE_SIZE) made in
    let read = get_or_read table (c.args.at / PAGE_SIZE) _ inside c.index-entry.ensures 0 in
    let same : entry c.args.self.now (c.args.at / PAGE_SIZE) ≡ get_or table (c.args.at / PAGE_SIZE) 0 = sym (ap (λ (m : Paged). entry m (c.args.at / PAGE_SIZE)) c.self.view_is) in
    same ∙ omega (arith, read)
