use Rattle.std.proofs.Common.{sym, ◌∙◌, ap, subst, IsTrue}
use Rattle.rv_word.specs.Memory.{Memory}
use Rattle.rv_image.specs.MemoryMap.{can_store, profile_of}
use Rattle.rv_mem.specs.Cells.{Cells, AreBytes, HasRoom, has_room, memory_of, place_of}
use Rattle.rv_mem.specs.Pages.{AreMade}
use Rattle.rv_mem.proofs.InMemory.{made_for_room, paged_same, room_for_made, room_kept}
use Rattle.rv_mem.proofs.InPages.{on_err_then, on_ok_then}
use Rattle.rv_mem.proofs.memory.Memory.reserve_pages.Goals as goal

pub invariant_of-self : goal.invariant_of-self
invariant_of-self c =
    let cells : Cells = record { version = c.self.inside.version; code = c.self.inside.code.items; pages = c.self.inside.pages } in
    record {
      code = c.self.invariant.code;
      bytes = subst (λ (m : Memory). AreBytes m) (sym (paged_same cells c.make_all.new.self c.make_all.ensures.bytes)) c.self.invariant.bytes;
    }

pub returns-clause-memory : goal.returns-clause-memory
returns-clause-memory c =
    let cells : Cells = record { version = c.self.inside.version; code = c.self.inside.code.items; pages = c.self.inside.pages } in
    paged_same cells c.make_all.new.self c.make_all.ensures.bytes ∙ ap memory_of c.self.view_is

pub returns-clause-room : goal.returns-clause-room
returns-clause-room c =
    let cells : Cells = record { version = c.self.inside.version; code = c.self.inside.code.items; pages = c.make_all.new.self } in
    let store = subst (λ (m : Cells). IsTrue (can_store (profile_of m.version) c.args.addr c.args.len)) (sym c.self.view_is) c.requires in
    let made = rw c.place.ensures at c.make_all.ensures.made in
    on_ok_then c.make_all.result (room_for_made cells c.args.addr c.args.len store) made

pub returns-clause-wants : goal.returns-clause-wants
returns-clause-wants c =
    let cells : Cells = record { version = c.self.inside.version; code = c.self.inside.code.items; pages = c.self.inside.pages } in
    let wants = rw c.place.ensures at c.make_all.ensures.wants in
    on_err_then c.make_all.result (λ (never : AreMade c.self.inside.pages (place_of c.args.addr) c.args.len → ⊥) (room : HasRoom c.args.self.now c.args.addr c.args.len).
    never (made_for_room cells c.args.addr c.args.len (subst (λ (m : Cells). HasRoom m c.args.addr c.args.len) (sym c.self.view_is) room))) wants

pub returns-clause-kept : goal.returns-clause-kept
returns-clause-kept c =
    let cells : Cells = record { version = c.self.inside.version; code = c.self.inside.code.items; pages = c.self.inside.pages } in
    λ k before.
    room_kept cells c.make_all.new.self c.make_all.ensures.kept k (subst (λ (m : Cells). IsTrue (has_room m k)) (sym c.self.view_is) before)
