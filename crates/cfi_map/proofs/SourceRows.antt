-- Worked programs on the source machine: where they stand after so many steps, what stops them, and which reason is told. Words,
-- gates and counts of steps are worked out by hand.
use Rattle.std.proofs.Common.{◌≡◌, ℕ, ◌+◌, ◌-◌, ◌^◌, true, false, List, [], ◌∷◌, Option, Some, None, length, replicate, pos, refl}
use Rattle.std.specs.Prelude.{option_map}
use Rattle.cfi_map.proofs.Prelude.{OneLabel, TwoLabels, version_1, placed, write, set_reg, decoded, last_exit, Abs64, ItemKind, DataReloc, Item, GateOf, Number, instr_at, data_at, Both, Calls, Jumps, ClosedGraph, ProgramAtMap, words_from, Source, source_start, StepTurn, after_steps, breaks, exits, ran, source_step, untame}
use Rattle.obj_input.specs.declared.item_kind.ItemKind.TheVariants as is
use Rattle.obj_program.specs.declared.item.Patch.TheVariants as put
use Rattle.cfi_map.specs.declared.reason.Reason.TheVariants as why

abbrev at : ℕ → ItemKind → ℕ → Item
at offset kind word = record { section = 1; offset = offset; kind = kind; word = word; patch = put.Own; target = None; taken = false }

abbrev end : ℕ → Item
end offset = at offset is.End 0

abbrev to : ℕ → Item → Item
to target item = record item { target = Some target }

abbrev program : List Item → List ℕ → List DataReloc → List ℕ → ClosedGraph → ProgramAtMap
program items init relocations gates closed = record {
  profile = version_1;
  program = record { items = items; init = init; relocations = relocations; data_end = 0x10000; funcs = []; names = [] };
  closed = closed;
  gates = gates;
  entry = 0;
}

abbrev no_classes : ClosedGraph
no_classes = record { version = OneLabel; sides = record { sort = Both; classes = []; sites = [] } ∷ []; taken = []; calls = None }

-- what is seen after so many steps, and how the next one ends
abbrev seen : {A : Type 0} → (Source → A) → ProgramAtMap → ℕ → Option A
seen see layout n = option_map see (after_steps layout n (source_start layout []))

abbrev turn : ProgramAtMap → ℕ → Option StepTurn
turn layout n = seen (λ st. (source_step layout st).turn) layout n

-- `addi x10, x0, 7; ret`
abbrev seven : ProgramAtMap
seven = program (at 0 is.Plain 0x00700513 ∷ at 4 is.Return 0x00008067 ∷ end 8 ∷ []) [] [] (0x40000040 ∷ 0x40000044 ∷ 0x40000058 ∷ []) no_classes

-- the return leads to the closing, where the one step is an exit; asked again, it is told again, with no event more
seven_exits : (seen (λ st. st.place) seven 2 ≡ Some None) × (turn seven 2 ≡ Some (exits 7)) × (seen (λ st. st.regs 10) seven 2 ≡ Some 7)
    × (seen (λ st. length (source_step seven st).state.shared.events) seven 2 ≡ Some 1)
    × (seen (λ st. (source_step seven (source_step seven st).state).turn) seven 2 ≡ Some (exits 7))
    × (seen (λ st. length (source_step seven (source_step seven st).state).state.shared.events) seven 2 ≡ Some 1)
unfolding source_step after_steps decoded instr_at words_from last_exit data_at
seven_exits = (refl, refl, refl, refl, refl, refl)

-- the event of the closing has the number 93, whatever x17 holds, which stays as it is
seven_event : (seen (λ st. (source_step seven st).state.shared.events) seven 2
    ≡ Some (record { number = 93; a0 = 7; a1 = 0; a2 = 0; a3 = 0; a4 = 0; a5 = 0; bytes = []; answer = 0 } ∷ []))
    × (seen (λ st. (source_step seven st).state.regs 17) seven 2 ≡ Some 0)
unfolding source_step after_steps decoded instr_at words_from last_exit data_at
seven_event = (refl, refl)

-- `sd x2, -1(x2)` ends past 2 ^ 28, and leaves the state as it was
abbrev over_the_end : ProgramAtMap
over_the_end = program (at 0 is.Store 0xfe213fa3 ∷ at 4 is.Return 0x00008067 ∷ end 8 ∷ []) [] [] (0x40000040 ∷ 0x40000050 ∷ 0x40000064 ∷ []) no_classes

off_window : (turn over_the_end 0 ≡ Some (untame why.Window 0)) × (seen (λ st. (source_step over_the_end st).state.place) over_the_end 0 ≡ Some (Some 0))
unfolding source_step after_steps decoded instr_at words_from last_exit data_at
off_window = (refl, refl)

-- `sd x2, -8(x2)` ends just there
abbrev to_the_end : ProgramAtMap
to_the_end = program (at 0 is.Store 0xfe213c23 ∷ at 4 is.Return 0x00008067 ∷ end 8 ∷ []) [] [] (0x40000040 ∷ 0x40000050 ∷ 0x40000064 ∷ []) no_classes

in_window : (turn to_the_end 0 ≡ Some ran) × (seen (λ st. st.shared.memory 0x0ffffffb) to_the_end 1 ≡ Some 0x10) × (turn to_the_end 2 ≡ Some (exits 0))
unfolding source_step after_steps decoded instr_at words_from last_exit data_at placed write
in_window = (refl, refl, refl)

-- `lui x5, 40000h; sd x0, 0(x5)` goes to code
abbrev into_code : ProgramAtMap
into_code = program (at 0 is.Plain 0x400002b7 ∷ at 4 is.Store 0x0002b023 ∷ at 8 is.Return 0x00008067 ∷ end 12 ∷ []) [] []
    (0x40000040 ∷ 0x40000044 ∷ 0x40000054 ∷ 0x40000068 ∷ []) no_classes

off_data : (turn into_code 0 ≡ Some ran) × (turn into_code 1 ≡ Some (untame why.Window 1))
unfolding source_step after_steps decoded instr_at words_from last_exit data_at
off_data = (refl, refl)

-- `jalr x1, 0(x5)` whose site has no targets
abbrev nowhere : ProgramAtMap
nowhere = program (at 0 is.Icall 0x000280e7 ∷ at 4 is.Return 0x00008067 ∷ end 8 ∷ []) [] [] (0x40000040 ∷ 0x40000090 ∷ 0x400000a4 ∷ [])
    (record { version = OneLabel; sides = record { sort = Both; classes = []; sites = record { place = 0; class = None } ∷ [] } ∷ []; taken = false ∷ false ∷ false ∷ []; calls = None })

off_graph : turn nowhere 0 ≡ Some (untame why.Graph 0)
unfolding source_step after_steps decoded instr_at words_from last_exit data_at
off_graph = refl

-- the same with the most calls pending: the graph is asked first
abbrev with_pending : ℕ → Source → Source
with_pending n st = record st { pending = replicate n 1 }

off_graph_first : seen (λ st. (source_step nowhere (with_pending 8190 st)).turn) nowhere 0 ≡ Some (untame why.Graph 0)
unfolding source_step after_steps decoded instr_at words_from last_exit data_at
off_graph_first = refl

-- a section that runs into its end
abbrev into_the_end : ProgramAtMap
into_the_end = program (at 0 is.Plain 0x00000013 ∷ end 4 ∷ []) [] [] (0x40000040 ∷ 0x40000044 ∷ []) no_classes

at_the_end : (turn into_the_end 0 ≡ Some ran) × (turn into_the_end 1 ≡ Some (untame why.End 1))
unfolding source_step after_steps decoded instr_at words_from last_exit data_at
at_the_end = (refl, refl)

-- a return with bit 0 of x1 set, and one that has lost its call's site
abbrev with_link : ℕ → Source → Source
with_link value st = record st { regs = set_reg st.regs 1 value }

wrong_return : (seen (λ st. (source_step seven (with_link (version_1.closing + 1) st)).turn) seven 1 ≡ Some (untame why.Return 1))
    × (seen (λ st. (source_step seven (with_link 0x40000044 st)).turn) seven 1 ≡ Some (untame why.Return 1))
    × (seen (λ st. (source_step seven (with_pending 1 st)).turn) seven 1 ≡ Some (untame why.Return 1))
unfolding source_step after_steps decoded instr_at words_from last_exit data_at
wrong_return = (refl, refl, refl)

-- `jal x1` to the return; the place after the call is a target, so the link is its gate, and its AUIPC reads the word behind that
abbrev linked : ProgramAtMap
linked = program (to 2 (at 0 is.Call 0x008000ef) ∷ at 4 is.Plain 0x00000297 ∷ at 8 is.Return 0x00008067 ∷ end 12 ∷ []) [] []
    (0x40000040 ∷ 0x40000060 ∷ 0x40000068 ∷ 0x4000007c ∷ []) (record { version = OneLabel; sides = record { sort = Both; classes = (1 ∷ []) ∷ []; sites = [] } ∷ []; taken = false ∷ true ∷ false ∷ false ∷ []; calls = None })

links_to_gates : (seen (λ st. st.regs 1) linked 1 ≡ Some 0x40000060) × (seen (λ st. st.pending) linked 1 ≡ Some (1 ∷ [])) × (seen (λ st. st.place) linked 1 ≡ Some (Some 2))
    × (seen (λ st. st.place) linked 2 ≡ Some (Some 1)) × (seen (λ st. st.pending) linked 2 ≡ Some []) × (seen (λ st. st.regs 5) linked 3 ≡ Some 0x40000064)
unfolding source_step after_steps decoded instr_at words_from last_exit data_at
links_to_gates = (refl, refl, refl, refl, refl, refl)

-- that call with 8189 and with 8190 calls pending
deep : (seen (λ st. (source_step linked (with_pending 8189 st)).turn) linked 0 ≡ Some ran)
    × (seen (λ st. (source_step linked (with_pending 8190 st)).turn) linked 0 ≡ Some (untame why.Deep 0))
unfolding source_step after_steps decoded instr_at words_from last_exit data_at
deep = (refl, refl)

-- `ebreak`, and system calls 94 and 1 by the program itself: x17 is 94, x10 is 263; of another number the answer is -38
abbrev stopping : ℕ → ℕ → ProgramAtMap
stopping number word = program (at 0 is.Plain 0x10700513 ∷ at 4 is.Plain number ∷ at 8 is.System word ∷ at 12 is.Return 0x00008067 ∷ end 16 ∷ []) [] []
    (0x40000040 ∷ 0x40000044 ∷ 0x40000048 ∷ 0x4000004c ∷ 0x40000060 ∷ []) no_classes

stops : (turn (stopping 0x00000013 0x00100073) 2 ≡ Some (breaks 2)) × (turn (stopping 0x05e00893 0x00000073) 2 ≡ Some (exits 7))
    × (turn (stopping 0x05d00893 0x00000073) 2 ≡ Some (exits 7)) × (turn (stopping 0x00100893 0x00000073) 2 ≡ Some ran)
    × (seen (λ st. st.regs 10) (stopping 0x00100893 0x00000073) 3 ≡ Some (2 ^ 64 - 38))
unfolding source_step after_steps decoded instr_at words_from last_exit data_at
stops = (refl, refl, refl, refl, refl)

-- under a list of system calls those in it go on, and others are told, an exit among them; an `ebreak` asks no list
abbrev under : List ℕ → ProgramAtMap → ProgramAtMap
under calls layout = record layout { closed = record no_classes { calls = Some calls } }

listed_calls : (turn (under (94 ∷ []) (stopping 0x05e00893 0x00000073)) 2 ≡ Some (exits 7))
    × (turn (under (93 ∷ 95 ∷ []) (stopping 0x05e00893 0x00000073)) 2 ≡ Some (untame why.Call 2))
    × (turn (under (0 ∷ 1 ∷ []) (stopping 0x00100893 0x00000073)) 2 ≡ Some ran) × (turn (under (94 ∷ []) (stopping 0x00100893 0x00000073)) 2 ≡ Some (untame why.Call 2))
    × (turn (under (1 ∷ []) (stopping 0x00000013 0x00100073)) 2 ≡ Some (breaks 2))
    × (seen (λ st. length (source_step (under (94 ∷ []) (stopping 0x00100893 0x00000073)) st).state.shared.events) (under (94 ∷ []) (stopping 0x00100893 0x00000073)) 2 ≡ Some 0)
unfolding source_step after_steps decoded instr_at words_from last_exit data_at
listed_calls = (refl, refl, refl, refl, refl, refl)

-- the closing's call is asked of no list
closing_unlisted : turn (under (64 ∷ []) seven) 2 ≡ Some (exits 7)
unfolding source_step after_steps decoded instr_at words_from last_exit data_at
closing_unlisted = refl

-- a branch that is taken, and one that is not
abbrev branching : ℕ → ProgramAtMap
branching word = program (to 2 (at 0 is.Branch word) ∷ at 4 is.Plain 0x00100513 ∷ at 8 is.Return 0x00008067 ∷ end 12 ∷ []) [] []
    (0x40000040 ∷ 0x40000044 ∷ 0x40000048 ∷ 0x4000005c ∷ []) no_classes

branches_by_places : (seen (λ st. st.place) (branching 0x00050463) 1 ≡ Some (Some 2)) × (seen (λ st. st.place) (branching 0x00051463) 1 ≡ Some (Some 1))
    × (turn (branching 0x00050463) 2 ≡ Some (exits 0)) × (turn (branching 0x00051463) 3 ≡ Some (exits 1))
unfolding source_step after_steps decoded instr_at words_from last_exit data_at
branches_by_places = (refl, refl, refl, refl)

-- a call through a pointer to `f` of a class with `f` and `g`
abbrev relocated : ℕ → ℕ → DataReloc
relocated offset target = record { section = 2; at = offset; offset = offset; patch = Abs64; value = GateOf target }

abbrev pointer : ProgramAtMap
pointer = program
    (at 0 is.Plain 0xff010113 ∷ at 4 is.Store 0x00113423 ∷ record (at 8 is.Plain 0x000002b7) { patch = put.High (Number (pos 0x10000)) }
    ∷ record (at 12 is.Plain 0x0002b283) { patch = put.Low (Number (pos 0x10000)) } ∷ at 16 is.Icall 0x000280e7 ∷ at 20 is.Plain 0x00813083
    ∷ at 24 is.Plain 0x01010113 ∷ at 28 is.Return 0x00008067 ∷ at 32 is.Plain 0x00100513 ∷ at 36 is.Return 0x00008067 ∷ at 40 is.Plain 0x00200513
    ∷ at 44 is.Return 0x00008067 ∷ end 48 ∷ [])
    (replicate 16 0) (relocated 0 8 ∷ relocated 8 10 ∷ [])
    (0x40000040 ∷ 0x40000044 ∷ 0x40000054 ∷ 0x40000058 ∷ 0x4000005c ∷ 0x400000ac ∷ 0x400000b0 ∷ 0x400000b4 ∷ 0x400000c8 ∷ 0x400000d0 ∷ 0x400000e4 ∷ 0x400000ec ∷ 0x40000100 ∷ [])
    (record { version = OneLabel; sides = record { sort = Both; classes = (8 ∷ 10 ∷ []) ∷ []; sites = record { place = 4; class = Some 0 } ∷ [] } ∷ []; taken = []; calls = None })

pointer_runs : (seen (λ st. st.regs 5) pointer 4 ≡ Some 0x400000c8) × (seen (λ st. st.place) pointer 5 ≡ Some (Some 8)) × (seen (λ st. st.pending) pointer 5 ≡ Some (5 ∷ []))
    × (seen (λ st. st.regs 1) pointer 5 ≡ Some 0x400000ac) × (seen (λ st. st.place) pointer 7 ≡ Some (Some 5)) × (turn pointer 10 ≡ Some (exits 1))
unfolding source_step after_steps decoded instr_at words_from last_exit data_at placed write
pointer_runs = (refl, refl, refl, refl, refl, refl)

-- bit 0 of a computed address is cleared, bit 1 is not; the word behind a gate is no gate, and a place of no class is no target
abbrev with_pointer : ℕ → Source → Source
with_pointer value st = record st { regs = set_reg st.regs 5 value }

abbrev called : ℕ → Option StepTurn
called value = seen (λ st. (source_step pointer (with_pointer value st)).turn) pointer 4

computed_targets : (called 0x400000c9 ≡ Some ran) × (called 0x400000e4 ≡ Some ran) × (called 0x400000ca ≡ Some (untame why.Graph 4))
    × (called 0x400000cc ≡ Some (untame why.Graph 4)) × (called 0x40000040 ≡ Some (untame why.Graph 4))
unfolding source_step after_steps decoded instr_at words_from last_exit data_at placed write
computed_targets = (refl, refl, refl, refl, refl)

-- `jalr x0, 0(x5)` to a class of jumps and `jalr x1, 0(x5)` to one of calls: each reaches its own class alone
abbrev two_sides : ClosedGraph
two_sides = record {
  version = TwoLabels;
  sides =
      record { sort = Calls; classes = (3 ∷ []) ∷ []; sites = record { place = 1; class = Some 0 } ∷ [] }
      ∷ record { sort = Jumps; classes = (2 ∷ []) ∷ []; sites = record { place = 0; class = Some 0 } ∷ [] }
      ∷ [];
  taken = [];
  calls = None;
}

abbrev jump_and_call : ProgramAtMap
jump_and_call = program (at 0 is.Ijump 0x00028067 ∷ at 4 is.Icall 0x000280e7 ∷ at 8 is.Plain 0x00000297 ∷ at 12 is.Return 0x00008067 ∷ end 16 ∷ []) [] []
    (0x40000040 ∷ 0x40000074 ∷ 0x400000c4 ∷ 0x400000d0 ∷ 0x400000ec ∷ []) two_sides

abbrev from_place : ℕ → ℕ → Option StepTurn
from_place k value = seen (λ st. (source_step jump_and_call (record st { place = Some k; regs = set_reg st.regs 5 value })).turn) jump_and_call 0

by_sort : (from_place 0 0x400000c4 ≡ Some ran) × (from_place 0 0x400000d0 ≡ Some (untame why.Graph 0))
    × (from_place 1 0x400000d0 ≡ Some ran) × (from_place 1 0x400000c4 ≡ Some (untame why.Graph 1))
unfolding source_step after_steps decoded instr_at words_from last_exit data_at
by_sort = (refl, refl, refl, refl)

-- the word of a target is two words behind its gate
two_words_on : seen (λ st. (source_step jump_and_call (record st { place = Some 2 })).state.regs 5) jump_and_call 0 ≡ Some 0x400000cc
unfolding source_step after_steps decoded instr_at words_from last_exit data_at
two_words_on = refl
