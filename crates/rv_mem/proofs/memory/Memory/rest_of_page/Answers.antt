use Rattle.std.proofs.Common.{◌+◌, sym, ◌∙◌, ap, arith}
use Rattle.rv_mem.specs.Cells.{Cells, memory_of}
use Rattle.rv_mem.proofs.InMemory.{code_within, near_in_page, rest_in_code, rest_in_none, rest_in_pages}
use Rattle.rv_mem.proofs.memory.Memory.rest_of_page.Goals as goal

pub returns-then-is_paged : goal.returns-then-is_paged
returns-then-is_paged c =
    let cells : Cells = record { version = c.self.inside.version; code = c.self.inside.code.items; pages = c.self.inside.pages } in
    let paged = sym c.is_paged.ensures ∙ c.if-is_paged.true in
    let bytes = rw (c.page.ensures.page, c.place-place.ensures) at c.rest.ensures in
    let long = rw (c.page.ensures.page, c.place-place.ensures) at c.page.ensures.len in
    record {
      within = λ k low. rw bytes (rest_in_pages cells c.args.addr k paged (near_in_page cells c.args.addr k paged long (rw bytes at low)) ∙ ap (λ (m : Cells). memory_of m (c.args.addr + k)) c.self.view_is);
      past = λ k near. rw bytes (rest_in_pages cells c.args.addr k paged near ∙ ap (λ (m : Cells). memory_of m (c.args.addr + k)) c.self.view_is);
    }

pub returns-then-is_within : goal.returns-then-is_within
returns-then-is_within c =
    let cells : Cells = record { version = c.self.inside.version; code = c.self.inside.code.items; pages = c.self.inside.pages } in
    let code = sym c.is_within.ensures ∙ c.if-is_within.true in
    let bytes = rw c.deref.ensures.value at c.rest-then-is_within.ensures in
    record {
      within = λ k low. rw bytes (code_within cells c.args.addr k c.self.invariant.code code (rw bytes at low) ∙ ap (λ (m : Cells). memory_of m (c.args.addr + k)) c.self.view_is);
      past = λ k near. rw bytes (rest_in_code cells c.args.addr k code near ∙ ap (λ (m : Cells). memory_of m (c.args.addr + k)) c.self.view_is);
    }

pub returns-else-is_within : goal.returns-else-is_within
returns-else-is_within c =
    let cells : Cells = record { version = c.self.inside.version; code = c.self.inside.code.items; pages = c.self.inside.pages } in
    record {
      within = λ k low. absurd (omega (arith, low));
      past = λ k near. rest_in_none cells c.args.addr k (sym c.is_within.ensures ∙ c.if-is_within.false) (sym c.is_paged.ensures ∙ c.if-is_paged.false) near
          ∙ ap (λ (m : Cells). memory_of m (c.args.addr + k)) c.self.view_is;
    }
