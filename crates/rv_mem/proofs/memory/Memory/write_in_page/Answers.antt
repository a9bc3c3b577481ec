use Rattle.std.proofs.Common.{◌≡◌, ◌/◌, sym, ◌∙◌, ap, subst, arith, length, IsTrue, inl, inr}
use Rattle.rv_word.specs.Memory.{Memory, placed}
use Rattle.rv_image.specs.MemoryMap.{can_store, profile_of}
use Rattle.rv_mem.specs.Cells.{Cells, AreBytes, HasRoom, has_room, memory_of, place_of}
use Rattle.rv_mem.specs.Pages.{PAGE_SIZE, byte_of, is_made}
use Rattle.rv_mem.proofs.InMemory.{bytes_placed, made_for_room, memory_of-put_in, paged_same, room_kept}
use Rattle.rv_mem.proofs.InPages.{on_either, on_err_then, on_ok_then}
use Rattle.rv_mem.proofs.memory.Memory.write_in_page.Goals as goal

pub invariant_of-self : goal.invariant_of-self
invariant_of-self c =
    let cells : Cells = record { version = c.self.inside.version; code = c.self.inside.code.items; pages = c.self.inside.pages } in
    let store = subst (λ (m : Cells). IsTrue (can_store (profile_of m.version) c.args.addr (length c.args.bytes.now))) (sym c.self.view_is) c.requires.store in
    let written = rw c.place.ensures at c.write.ensures.written in
    record {
      code = c.self.invariant.code;
      bytes = elim (on_either c.write.result written c.write.ensures.refused) [
        | inl put ↦ subst (λ (m : Memory). AreBytes m) (sym (memory_of-put_in cells c.write.new.self c.args.addr c.args.bytes.now store put))
            (bytes_placed (memory_of cells) c.args.addr c.args.bytes.now c.self.invariant.bytes (λ k. omega (arith, c.type_inv.bytes k)))
        | inr same ↦ subst (λ (m : Memory). AreBytes m) (sym (paged_same cells c.write.new.self same)) c.self.invariant.bytes
      ];
    }

pub returns-clause-written : goal.returns-clause-written
returns-clause-written c =
    let cells : Cells = record { version = c.self.inside.version; code = c.self.inside.code.items; pages = c.self.inside.pages } in
    let store = subst (λ (m : Cells). IsTrue (can_store (profile_of m.version) c.args.addr (length c.args.bytes.now))) (sym c.self.view_is) c.requires.store in
    let written = rw c.place.ensures at c.write.ensures.written in
    on_ok_then c.write.result (λ (put : byte_of c.write.new.self ≡ placed (byte_of c.self.inside.pages) (place_of c.args.addr) c.args.bytes.now).
    memory_of-put_in cells c.write.new.self c.args.addr c.args.bytes.now store put ∙ ap (λ (m : Cells). placed (memory_of m) c.args.addr c.args.bytes.now) c.self.view_is) written

pub returns-clause-wants : goal.returns-clause-wants
returns-clause-wants c =
    let cells : Cells = record { version = c.self.inside.version; code = c.self.inside.code.items; pages = c.self.inside.pages } in
    let wants = rw c.place.ensures at c.write.ensures.wants in
    on_err_then c.write.result (λ (never : IsTrue (is_made c.self.inside.pages (place_of c.args.addr / PAGE_SIZE)) → ⊥) (room : HasRoom c.args.self.now c.args.addr (length c.args.bytes.now)).
    never (made_for_room cells c.args.addr (length c.args.bytes.now) (subst (λ (m : Cells). HasRoom m c.args.addr (length c.args.bytes.now)) (sym c.self.view_is) room) (place_of c.args.addr) (omega arith) (omega (arith, c.requires.some)))) wants

pub returns-clause-refused : goal.returns-clause-refused
returns-clause-refused c =
    let cells : Cells = record { version = c.self.inside.version; code = c.self.inside.code.items; pages = c.self.inside.pages } in
    on_err_then c.write.result (λ (same : byte_of c.write.new.self ≡ byte_of c.self.inside.pages).
    paged_same cells c.write.new.self same ∙ ap memory_of c.self.view_is) c.write.ensures.refused

pub returns-clause-kept : goal.returns-clause-kept
returns-clause-kept c =
    let cells : Cells = record { version = c.self.inside.version; code = c.self.inside.code.items; pages = c.self.inside.pages } in
    λ k before.
    room_kept cells c.write.new.self c.write.ensures.kept k (subst (λ (m : Cells). IsTrue (has_room m k)) (sym c.self.view_is) before)
