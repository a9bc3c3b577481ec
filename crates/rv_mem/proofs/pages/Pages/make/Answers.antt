use Rattle.std.proofs.Common.{◌≡◌, ◌+◌, ◌<◌, ◌∙◌, ap, arith, get_or, length}
use Rattle.rv_mem.specs.Pages.{Paged, byte_of, entry}
use Rattle.rv_mem.proofs.InPages.{are_pages-made, byte_of-same, counted-room, page_of-made}
use Rattle.rv_mem.proofs.pages.Pages.make.Goals as goal

pub overflow_cast-place : goal.overflow_cast-place
overflow_cast-place c =
    let table = c.self.inside.table.items in
    let inside : c.args.number < length table = omega (arith, c.self.invariant.table) in
    let none : get_or table c.args.number 0 ≡ 0 = ap (λ (m : Paged). entry m c.args.number) c.self.view_is ∙ c.requires.never in
    omega (arith, counted-room table c.args.number inside none, c.self.invariant.filled, c.self.invariant.table)

pub invariant_of-self-2 : goal.invariant_of-self-2
invariant_of-self-2 c =
    let table = c.self.inside.table.items in
    let pages = c.self.inside.pages.items in
    let inside : c.args.number < length table = omega (arith, c.self.invariant.table) in
    let none : get_or table c.args.number 0 ≡ 0 = ap (λ (m : Paged). entry m c.args.number) c.self.view_is ∙ c.requires.never in
    let last : c.len-place.result + 1 ≡ length pages + 1 = omega (arith, c.len-place.ensures) in
    rw c.in_ok-push.ensures.items (are_pages-made table pages c.args.number (c.len-place.result + 1) c.in_ok-new.field-0 c.self.invariant inside none last c.in_ok-new.ensures.len)

pub returns-clause-bytes : goal.returns-clause-bytes
returns-clause-bytes c =
    let table = c.self.inside.table.items in
    let pages = c.self.inside.pages.items in
    let inside : c.args.number < length table = omega (arith, c.self.invariant.table) in
    let none : get_or table c.args.number 0 ≡ 0 = ap (λ (m : Paged). entry m c.args.number) c.self.view_is ∙ c.requires.never in
    let last : c.len-place.result + 1 ≡ length pages + 1 = omega (arith, c.len-place.ensures) in
    rw c.in_ok-push.ensures.items (byte_of-same _ _ (page_of-made table pages c.args.number (c.len-place.result + 1) c.in_ok-new.field-0 inside none last c.self.invariant.places c.in_ok-new.ensures.zeros))
    ∙ ap byte_of c.self.view_is
