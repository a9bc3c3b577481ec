use Rattle.std.proofs.Common.{sym, ◌∙◌, ap, subst, arith, length, IsTrue}
use Rattle.rv_word.specs.Memory.{Memory, placed}
use Rattle.rv_mem.specs.Cells.{Cells, AreBytes, HasRoom, has_room, memory_of}
use Rattle.rv_mem.proofs.InMemory.{bytes_placed, made_for_room, memory_of-put, room_kept}
use Rattle.rv_mem.proofs.memory.Memory.set_all.Goals as goal

pub put_all-requires-clause-made : goal.put_all-requires-clause-made
put_all-requires-clause-made c =
    let cells : Cells = record { version = c.self.inside.version; code = c.self.inside.code.items; pages = c.self.inside.pages } in
    let room = subst (λ (m : Cells). HasRoom m c.args.addr (length c.args.bytes.now)) (sym c.self.view_is) c.requires.room in
    rw c.place.ensures (made_for_room cells c.args.addr (length c.args.bytes.now) room)

pub invariant_of-self : goal.invariant_of-self
invariant_of-self c =
    let cells : Cells = record { version = c.self.inside.version; code = c.self.inside.code.items; pages = c.self.inside.pages } in
    let room = subst (λ (m : Cells). HasRoom m c.args.addr (length c.args.bytes.now)) (sym c.self.view_is) c.requires.room in
    let new = memory_of-put cells c.put_all.new.self c.args.addr c.args.bytes.now room (rw c.place.ensures at c.put_all.ensures.bytes) in
    record {
      code = c.self.invariant.code;
      bytes = subst (λ (m : Memory). AreBytes m) (sym new) (bytes_placed (memory_of cells) c.args.addr c.args.bytes.now c.self.invariant.bytes (λ k. omega (arith, c.type_inv.bytes k)));
    }

pub returns-clause-memory : goal.returns-clause-memory
returns-clause-memory c =
    let cells : Cells = record { version = c.self.inside.version; code = c.self.inside.code.items; pages = c.self.inside.pages } in
    let room = subst (λ (m : Cells). HasRoom m c.args.addr (length c.args.bytes.now)) (sym c.self.view_is) c.requires.room in
    memory_of-put cells c.put_all.new.self c.args.addr c.args.bytes.now room (rw c.place.ensures at c.put_all.ensures.bytes)
    ∙ ap (λ (m : Cells). placed (memory_of m) c.args.addr c.args.bytes.now) c.self.view_is

pub returns-clause-kept : goal.returns-clause-kept
returns-clause-kept c =
    let cells : Cells = record { version = c.self.inside.version; code = c.self.inside.code.items; pages = c.self.inside.pages } in
    λ k before.
    room_kept cells c.put_all.new.self c.put_all.ensures.kept k (subst (λ (m : Cells). IsTrue (has_room m k)) (sym c.self.view_is) before)
