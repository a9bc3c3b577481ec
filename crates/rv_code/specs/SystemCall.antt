-- System calls: the number is in x17, the arguments in x10 to x15, the answer goes to x10.
--   64 write: fd 1 or 2, appends a2 bytes from a1 to the output, answers a2
--   63 read: fd 0, writes the lesser of a2 and what is left of the input at a1, answers the count
--   93, 94 exit: ends the run with a0 mod 256
--   any other: answers -38
-- A wrong fd answers -9; after that, bytes that do not lie below 2 ^ 28 answer -14.
use Rattle.std.specs.Prelude.{ℕ, zero, suc, ◌+◌, ◌-◌, ◌^◌, ◌%◌, ◌==◌, nat_le, ◌||◌, List, [], ◌∷◌, ◌++◌, length, take, drop, min, if◌then◌else◌}
use Rattle.rv_word.specs.Memory.{Memory, placed}
use Rattle.rv_instr.specs.Registers.{set_reg}
use Rattle.rv_code.specs.State.{Hart, Shared, After}
use Rattle.rv_code.specs.declared.event.Event.{Event}
use Rattle.rv_code.specs.declared.turn.Turn.TheVariants.{Ran, Exit}

-- the `n` bytes of memory from `a` on
unfoldable pub bytes_of : Memory → ℕ → ℕ → List ℕ
bytes_of m a zero = []
bytes_of m a (suc n) = m a ∷ bytes_of m (a + 1) n

-- the negative answers, as 64-bit numbers
abbrev pub bad_descriptor : ℕ
bad_descriptor = 2 ^ 64 - 9

abbrev pub bad_address : ℕ
bad_address = 2 ^ 64 - 14

abbrev pub no_such_call : ℕ
no_such_call = 2 ^ 64 - 38

-- the event of a call: its registers as before it, the bytes that it wrote, its answer
abbrev pub event_of : Hart → List ℕ → ℕ → Event
event_of h bytes answer = record {
  number = h.regs 17;
  a0 = h.regs 10;
  a1 = h.regs 11;
  a2 = h.regs 12;
  a3 = h.regs 13;
  a4 = h.regs 14;
  a5 = h.regs 15;
  bytes = bytes;
  answer = answer;
}

-- a call that goes on after it: its event is recorded, x10 is its answer, the next instruction is next
abbrev pub answers : Hart → Shared → List ℕ → ℕ → After
answers h s bytes answer = record {
  hart = record { pc = h.pc + 4; regs = set_reg h.regs 10 answer };
  shared = record s { events = s.events ++ event_of h bytes answer ∷ [] };
  turn = Ran;
}

-- a call that ends the run: its event is recorded, nothing else changes
abbrev pub ends : Hart → Shared → After
ends h s = record {
  hart = h;
  shared = record s { events = s.events ++ event_of h [] 0 ∷ [] };
  turn = Exit (h.regs 10 % 2 ^ 8);
}

abbrev pub writes_output : Hart → Shared → After
writes_output h s =
    let bytes = bytes_of s.memory (h.regs 11) (h.regs 12) in
    answers h (record s { output = s.output ++ bytes }) bytes (h.regs 12)

abbrev pub reads_input : Hart → Shared → After
reads_input h s =
    let count = min (h.regs 12) (length s.left) in
    answers h (record s { memory = placed s.memory (h.regs 11) (take count s.left); left = drop count s.left }) [] count

-- the bytes that a call names lie below 2 ^ 28
abbrev pub if_in_window : Hart → After → After → After
if_in_window h inside outside = if nat_le (h.regs 11 + h.regs 12) (2 ^ 28) then inside else outside

abbrev pub write_call : Hart → Shared → After
write_call h s =
    if h.regs 10 == 1 || h.regs 10 == 2
    then if_in_window h (writes_output h s) (answers h s [] bad_address)
    else answers h s [] bad_descriptor

abbrev pub read_call : Hart → Shared → After
read_call h s =
    if h.regs 10 == 0
    then if_in_window h (reads_input h s) (answers h s [] bad_address)
    else answers h s [] bad_descriptor

abbrev pub system_call : Hart → Shared → After
system_call h s =
    if h.regs 17 == 64 then write_call h s else
    if h.regs 17 == 63 then read_call h s else
    if h.regs 17 == 93 || h.regs 17 == 94 then ends h s else
    answers h s [] no_such_call
