use Rattle.std.proofs.Common.{◌≡◌, ◌/◌, ◌<◌, suc, sym, ◌∙◌, ap, subst, IsTrue, arith, get_or, length, []}
use Rattle.std.proofs.lemmas.List.{get_or_read}
use Rattle.rv_word.specs.Memory.{placed}
use Rattle.rv_mem.specs.Pages.{PAGE_SIZE, Paged, byte_of, entry, is_made}
use Rattle.rv_mem.proofs.InPages.{byte_of-put}
use Rattle.rv_mem.proofs.pages.Pages.put_into.Goals as goal

pub returns-clause-bytes : goal.returns-clause-bytes
returns-clause-bytes c =
    let table = c.self.inside.table.items in
    let pages = c.self.inside.pages.items in
    let place = c.args.place in
    let there : get_or table (c.args.at / PAGE_SIZE) 0 ≡ suc place = ap (λ (m : Paged). entry m (c.args.at / PAGE_SIZE)) c.self.view_is ∙ c.requires.place ∙ omega arith in
    let low : place < length pages = omega (arith, c.self.invariant.places (c.args.at / PAGE_SIZE)) in
    let page : c.index_mut.result.now ≡ get_or pages place [] = get_or_read pages place _ low c.index_mut.ensures.value [] in
    byte_of-put table pages c.args.at place c.put.new.self c.args.bytes.now c.self.invariant there c.requires.one (rw page at c.put.ensures.bytes)
    ∙ ap (λ (m : Paged). placed (byte_of m) c.args.at c.args.bytes.now) c.self.view_is

pub returns-clause-kept : goal.returns-clause-kept
unfolding is_made
returns-clause-kept c = λ p before. subst (λ (m : Paged). IsTrue (is_made m p)) (sym c.self.view_is) before
