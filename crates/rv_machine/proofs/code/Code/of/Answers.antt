use Rattle.std.proofs.Common.{◌∙◌, ◌+◌, ◌*◌, ◌++◌, ◌∷◌, [], ap, arith, refl, sym, length, length-append, map}
use Rattle.std.proofs.lemmas.List.{map-append}
use Rattle.rv_image.specs.MemoryMap.{CODE_START}
use Rattle.rv_word.specs.Memory.{read}
use Rattle.rv_mem.specs.Cells.{memory_of}
use Rattle.rv_code.specs.Decode.{decoded}
use Rattle.rv_machine.specs.Code.{known_as}
use Rattle.rv_machine.specs.Ready.{instr_of}
use Rattle.rv_machine.proofs.Decoding.{decoded_at, one_more}
use Rattle.rv_machine.proofs.code.Code.of.Goals as goal

pub loop-k-preserved : goal.loop-k-preserved
loop-k-preserved c =
    let grown = c.push_reserved-in-loop-k.ensures.items in
    let old = c.loop-k.invariant in
    let last = c.decode-instr.result in
    let longer = ap length grown ∙ length-append c.loop-k.instrs.items (last ∷ []) ∙ ap (λ n. n + 1) old.len in
    record {
      len = longer;
      room = omega (arith, c.push_reserved-in-loop-k.ensures.capacity, old.room);
      known_room = omega (arith, c.push_reserved.ensures.capacity, old.known_room);
      known =
          ap (map instr_of) c.push_reserved.ensures.items ∙ map-append instr_of c.loop-k.known.items (c.ready_as.result ∷ []) ∙ ap (λ ks. ks ++ instr_of c.ready_as.result ∷ []) old.known
          ∙ ap (λ k. map known_as c.loop-k.instrs.items ++ k ∷ []) c.ready_as.ensures ∙ sym (map-append known_as c.loop-k.instrs.items (last ∷ [])) ∙ sym (ap (map known_as) grown);
      each = one_more (λ j. decoded (read 4 (memory_of c.args.memory.now) (CODE_START + 4 * j))) c.loop-k.instrs.items c.push_reserved-in-loop-k.new.self.items c.loop-k.k last grown old.len (decoded_at last (memory_of c.args.memory.now) (CODE_START + 4 * c.loop-k.k) c.decode-instr.ensures.value c.word.ensures refl refl) old.each;
    }
