use Rattle.std.proofs.Common.{◌≡◌, ◌≤◌, ◌∙◌, ap, arith, take, w64, refl}
use Rattle.std.specs.Int.{to_le_bytes}
use Rattle.rv_word.specs.Memory.{placed}
use Rattle.rv_mem.proofs.Placed.{write-placed}
use Rattle.rv_mem.specs.Cells.{memory_of}
use Rattle.rv_mem.proofs.memory.Memory.write.Goals as goal

pub returns-in_ok-write_in_page-clause-written : goal.returns-in_ok-write_in_page-clause-written
returns-in_ok-write_in_page-clause-written c =
    let old = memory_of c.args.self.now in
    let small : c.args.n ≤ 8 = omega (arith, c.requires) in
    let bytes : take c.from.result c.to_le_bytes-bytes.result ≡ take c.args.n (to_le_bytes w64 c.args.value) = rw (c.from.ensures, c.to_le_bytes-bytes.ensures) refl in
    c.in_ok-write_in_page.ensures.written
    ∙ ap (λ bs. placed old c.args.addr bs) bytes
    ∙ write-placed c.args.n old c.args.addr c.args.value small

pub returns-in_ok-reserve_pages-clause-written : goal.returns-in_ok-reserve_pages-clause-written
returns-in_ok-reserve_pages-clause-written c =
    let old = memory_of c.args.self.now in
    let small : c.args.n ≤ 8 = omega (arith, c.requires) in
    let bytes : take c.from.result c.to_le_bytes-bytes.result ≡ take c.args.n (to_le_bytes w64 c.args.value) = rw (c.from.ensures, c.to_le_bytes-bytes.ensures) refl in
    c.set_all.ensures.memory
    ∙ ap (λ m. placed m c.args.addr (take c.from.result c.to_le_bytes-bytes.result)) c.in_ok-reserve_pages.ensures.memory
    ∙ ap (λ bs. placed old c.args.addr bs) bytes
    ∙ write-placed c.args.n old c.args.addr c.args.value small
