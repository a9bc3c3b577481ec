use Rattle.std.proofs.Common.{◌≡◌, ℕ, ◌+◌, ◌*◌, ◌<◌, ◌≤◌, length, vec_capacity, Some}
use Rattle.std.specs.Prelude.{map, slice_get}
use Rattle.rv_image.specs.MemoryMap.{CODE_START}
use Rattle.rv_word.specs.Memory.{read}
use Rattle.rv_mem.specs.Cells.{memory_of}
use Rattle.rv_code.specs.Decode.{decoded}
use Rattle.rv_machine.specs.Code.{known_as}
use Rattle.rv_machine.specs.Ready.{instr_of}
use Rattle.rv_machine.proofs.code.Code.of.Given as goal

abbrev pub invariant-loop-k : goal.invariant-loop-k
invariant-loop-k l = record {
  len : length l.instrs.items ≡ l.k;
  room : l.words ≤ vec_capacity l.instrs;
  known_room : l.words ≤ vec_capacity l.known;
  known : map instr_of l.known.items ≡ map known_as l.instrs.items;
  each : (j : ℕ) → j < l.k → slice_get l.instrs.items j ≡ Some (decoded (read 4 (memory_of l.memory) (CODE_START + 4 * j)));
}
