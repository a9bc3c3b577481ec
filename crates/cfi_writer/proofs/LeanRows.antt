-- Worked programs as they are written where callees save the sites of calls, computed: a return alone, which is a leaf, also as an image for
-- several harts, a function that saves a register, one that calls a leaf, one that goes on into an entry, a call through a pointer, and a
-- jump and a call to one function. Their words, gates, lengths and lines are worked out by hand as those of the other versions.
use Rattle.std.proofs.Common.{◌≡◌, ℕ, List, [], ◌∷◌, ◌++◌, Some, None, length, take, drop, refl}
use Rattle.cfi_writer.proofs.Prelude.{CalleeSaves, Profile, lean_version_1, lean_version_2, decoded, code_of, Item, instr_at, Program, Calls, Jumps, Call, Class, Edge, Side, head, is_spoilt_by, next_piece, ProgramAtMap, class_lines, entered_in, graph_lines, leaf_lines_from, place_lines, empty_classes, label_at, labels_of, site_label, site_number, tagged, AreGates, words_from, words_of, code_from, written_code, Choice, followers, units_of}
use Rattle.obj_input.specs.declared.item_kind.ItemKind.TheVariants as is
use Rattle.cfi_graph.specs.declared.line.GraphLine.TheVariants.{Leaf, Site}
use Rattle.cfi_graph.specs.declared.line.SiteKind.TheVariants as site
use Rattle.cfi_writer.proofs.WrittenRows.{jumping, place, pointer}

abbrev pub program : List Item → Program
program items = record { items = items; init = []; relocations = []; data_end = 0x10000; funcs = []; names = [] }

-- entered at its first place, with these sides
abbrev pub lean_layout : Profile → Program → List Side → List ℕ → ProgramAtMap
lean_layout profile program sides gates = record {
  profile = profile;
  program = program;
  closed = record { version = CalleeSaves; sides = sides; taken = []; calls = None };
  gates = gates;
  entry = 0;
}

abbrev pub no_sides : List Side
no_sides = record { sort = Calls; classes = []; sites = [] } ∷ record { sort = Jumps; classes = []; sites = [] } ∷ []

-- the prologue with this word as its call of the entry, for one hart and for several
abbrev lone_head : ℕ → List ℕ
lone_head call =
    0x00100073 ∷ 0x00100073 ∷ 0x00100073 ∷ 0x10000137 ∷ 0x10000237 ∷ 0xfff20213 ∷ 0x600001b7 ∷ 0x00818193 ∷ call ∷ 0x05d00893 ∷ 0x00000073 ∷ []

abbrev own_head : ℕ → List ℕ
own_head call =
    0x00100073 ∷ 0x00100073 ∷ 0x00100073 ∷ 0x10000137 ∷ 0x10000237 ∷ 0xfff20213 ∷ 0x01451f93 ∷ 0x41f10133 ∷ 0x600001b7 ∷ 0x01051f93 ∷ 0x01f181b3
    ∷ 0x00818193 ∷ call ∷ 0x05d00893 ∷ 0x00000073 ∷ []

-- what saves a site before the unit of an entry that stands first, behind a jump over it
abbrev first_lead : List ℕ
first_lead = 0x0180006f ∷ 0x03019f13 ∷ 0x000f1463 ∷ 0xfd1ff06f ∷ 0x0011b023 ∷ 0x00818193 ∷ []

-- `ret`, the whole code: its return is a leaf's
abbrev returning : Program
returning = program (place 0 is.Return 0x00008067 None ∷ place 4 is.End 0 None ∷ [])

abbrev lone_leaf : Choice
lone_leaf = record { layout = lean_layout lean_version_1 returning no_sides (0x4000002c ∷ 0x40000030 ∷ []); whole = []; labels = [] }

abbrev leaf_of_harts : Choice
leaf_of_harts = record { layout = lean_layout lean_version_2 returning no_sides (0x4000003c ∷ 0x40000040 ∷ []); whole = []; labels = [] }

leaf_rows : (written_code lone_leaf ≡ lone_head 0x00c000ef ++ 0x00008067 ∷ 0xfd1ff06f ∷ [])
    × (graph_lines lone_leaf.layout [] ≡ Leaf 0x4000002c 0x40000030 ∷ Call 0x4000000c 0x4000002c ∷ [])
    × (written_code leaf_of_harts ≡ own_head 0x00c000ef ++ 0x00008067 ∷ 0xfc1ff06f ∷ [])
    × (graph_lines leaf_of_harts.layout [] ≡ Leaf 0x4000003c 0x40000040 ∷ Call 0x4000000c 0x4000003c ∷ [])
unfolding head is_spoilt_by next_piece leaf_lines_from units_of followers code_from words_of code_of instr_at decoded words_from labels_of label_at site_label site_number tagged class_lines place_lines empty_classes
leaf_rows = (refl, refl, refl, refl)

-- `addi x2, x2, -16`, `sd x1, 8(x2)`, `ld x1, 8(x2)`, `addi x2, x2, 16`, `ret`: it writes x1, so it is no leaf; its store has a short mask
abbrev saving : Choice
saving = record {
  layout = lean_layout lean_version_1
      (program (place 0 is.Plain 0xff010113 None ∷ place 4 is.Store 0x00113423 None ∷ place 8 is.Plain 0x00813083 None ∷ place 12 is.Plain 0x01010113 None
      ∷ place 16 is.Return 0x00008067 None ∷ place 20 is.End 0 None ∷ []))
      no_sides (0x4000002c ∷ 0x40000048 ∷ 0x40000050 ∷ 0x40000054 ∷ 0x40000058 ∷ 0x4000006c ∷ []);
  whole = [];
  labels = [];
}

saving_rows : (written_code saving
    ≡ lone_head 0x010000ef ++ (first_lead ++ 0xff010113 ∷ 0x00417fb3 ∷ 0x001fb423 ∷ 0x00813083 ∷ 0x01010113 ∷ 0xff81bf83 ∷ 0xff818193 ∷ 0x001f8463
    ∷ 0xfa1ff06f ∷ 0x000f8067 ∷ 0xf95ff06f ∷ []))
    × (graph_lines saving.layout [] ≡ Call 0x4000000c 0x40000030 ∷ Edge 0x4000002c 0x40000044 ∷ [])
unfolding head is_spoilt_by next_piece leaf_lines_from units_of followers code_from words_of code_of instr_at decoded words_from labels_of label_at site_label site_number tagged class_lines place_lines empty_classes
saving_rows = (refl, refl)

-- `jal x1, 8`, `ret`, `addi x5, x0, 0`, `ret`: the second function is a leaf
abbrev pub calling_leaf : Choice
calling_leaf = record {
  layout = lean_layout lean_version_1
      (program (place 0 is.Call 0x008000ef (Some 2) ∷ place 4 is.Return 0x00008067 None ∷ place 8 is.Plain 0x00000293 None ∷ place 12 is.Return 0x00008067 None
      ∷ place 16 is.End 0 None ∷ []))
      no_sides (0x4000002c ∷ 0x40000048 ∷ 0x4000005c ∷ 0x40000060 ∷ 0x40000064 ∷ []);
  whole = [];
  labels = [];
}

calling_leaf_rows : (written_code calling_leaf
    ≡ lone_head 0x010000ef ++ (first_lead ++ 0x018000ef ∷ 0xff81bf83 ∷ 0xff818193 ∷ 0x001f8463 ∷ 0xfb1ff06f ∷ 0x000f8067 ∷ 0x00000293 ∷ 0x00008067
    ∷ 0xf9dff06f ∷ []))
    × (graph_lines calling_leaf.layout []
    ≡ Leaf 0x4000005c 0x40000064 ∷ Call 0x4000000c 0x40000030 ∷ Edge 0x4000002c 0x40000044 ∷ Call 0x40000044 0x4000005c ∷ [])
unfolding head is_spoilt_by next_piece leaf_lines_from units_of followers code_from words_of code_of instr_at decoded words_from labels_of label_at site_label site_number tagged class_lines place_lines empty_classes
calling_leaf_rows = (refl, refl)

-- `addi x2, x2, -16`, `sd x1, 8(x2)`, `jal x1, 16`, `ld x1, 8(x2)`, `addi x2, x2, 16`, `addi x10, x10, 2`, `addi x10, x10, 1`, `ret`: the last
-- but one is an entry that the one before it goes on into, over what saves the site
abbrev going_on : Choice
going_on = record {
  layout = lean_layout lean_version_1
      (program (place 0 is.Plain 0xff010113 None ∷ place 4 is.Store 0x00113423 None ∷ place 8 is.Call 0x010000ef (Some 6) ∷ place 12 is.Plain 0x00813083 None
      ∷ place 16 is.Plain 0x01010113 None ∷ place 20 is.Plain 0x00250513 None ∷ place 24 is.Plain 0x00150513 None ∷ place 28 is.Return 0x00008067 None
      ∷ place 32 is.End 0 None ∷ []))
      no_sides
      (0x4000002c ∷ 0x40000048 ∷ 0x40000050 ∷ 0x40000054 ∷ 0x40000058 ∷ 0x4000005c ∷ 0x40000060 ∷ 0x4000007c ∷ 0x40000090 ∷ []);
  whole = [];
  labels = [];
}

going_on_rows : (length (written_code going_on) ≡ 37)
    × (take 11 (drop 20 (written_code going_on))
    ≡ 0x014000ef ∷ 0x00813083 ∷ 0x01010113 ∷ 0x00250513 ∷ 0x0180006f ∷ 0x03019f13 ∷ 0x000f1463 ∷ 0xf9dff06f ∷ 0x0011b023 ∷ 0x00818193 ∷ 0x00150513 ∷ [])
    × (graph_lines going_on.layout []
    ≡ Call 0x4000000c 0x40000030 ∷ Edge 0x4000002c 0x40000044 ∷ Call 0x40000050 0x40000064 ∷ Edge 0x40000060 0x40000078 ∷ [])
unfolding head is_spoilt_by next_piece leaf_lines_from units_of followers code_from words_of code_of instr_at decoded words_from labels_of label_at site_label site_number tagged class_lines place_lines empty_classes
going_on_rows = (refl, refl, refl)

-- the function that calls one of two others through a pointer
abbrev lean_pointer : Choice
lean_pointer = record {
  layout = lean_layout lean_version_1 pointer.layout.program
      (record { sort = Calls; classes = (8 ∷ 10 ∷ []) ∷ []; sites = record { place = 4; class = Some 0 } ∷ [] } ∷ record { sort = Jumps; classes = []; sites = [] } ∷ [])
      (0x4000002c ∷ 0x40000048 ∷ 0x40000050 ∷ 0x40000054 ∷ 0x40000058 ∷ 0x40000094 ∷ 0x40000098 ∷ 0x4000009c ∷ 0x400000b0 ∷ 0x400000d4 ∷ 0x400000e8 ∷ 0x4000010c ∷ 0x40000120 ∷ []);
  whole = [];
  labels = 1 ∷ [];
}

-- the call's unit, what stands before a target's unit, and the lines
pointer_rows : (length (written_code lean_pointer) ≡ 73)
    × (take 15 (drop 22 (written_code lean_pointer))
    ≡ 0x00028f93 ∷ 0xffcfff93 ∷ 0x40000f37 ∷ 0x41ef8f33 ∷ 0x014f5f13 ∷ 0x000f0463 ∷ 0xf91ff06f ∷ 0x008faf03 ∷ 0x00001237 ∷ 0x03720213 ∷ 0x004f0463
    ∷ 0xf7dff06f ∷ 0x10000237 ∷ 0xfff20213 ∷ 0x008f80e7 ∷ [])
    × (take 9 (drop 44 (written_code lean_pointer))
    ≡ 0x00000013 ∷ 0x01c0006f ∷ 0x00001037 ∷ 0x03019f13 ∷ 0x000f1463 ∷ 0xf45ff06f ∷ 0x0011b023 ∷ 0x00818193 ∷ 0x00100513 ∷ [])
    × (graph_lines lean_pointer.layout lean_pointer.labels
    ≡ Class Calls 1 (0x400000b0 ∷ 0x400000e8 ∷ []) ∷ Call 0x4000000c 0x40000030 ∷ Edge 0x4000002c 0x40000044 ∷ Site 0x40000058 site.Call 1
    ∷ Edge 0x400000b4 0x400000d0 ∷ Edge 0x400000ec 0x40000108 ∷ [])
unfolding head is_spoilt_by next_piece leaf_lines_from units_of followers code_from words_of code_of instr_at decoded words_from labels_of label_at site_label site_number tagged class_lines place_lines empty_classes
pointer_rows = (refl, refl, refl, refl)

-- the function that jumps through a pointer to either of two others, of which a fourth one calls the second
abbrev lean_both_ways : Choice
lean_both_ways = record {
  layout = lean_layout lean_version_1 jumping.program jumping.closed.sides
      (0x4000002c ∷ 0x40000048 ∷ 0x4000004c ∷ 0x40000088 ∷ 0x40000090 ∷ 0x400000a4 ∷ 0x400000c8 ∷ 0x400000dc ∷ 0x40000118 ∷ 0x4000012c ∷ []);
  whole = [];
  labels = 1 ∷ 2 ∷ [];
}

-- the words before the two functions, the end of the jump's unit, and the lines
both_ways_rows : (length (written_code lean_both_ways) ≡ 76)
    × (take 2 (drop 34 (written_code lean_both_ways)) ≡ 0x00002037 ∷ 0x00100513 ∷ [])
    × (take 9 (drop 41 (written_code lean_both_ways))
    ≡ 0x00002037 ∷ 0x01c0006f ∷ 0x00001037 ∷ 0x03019f13 ∷ 0x000f1463 ∷ 0xf51ff06f ∷ 0x0011b023 ∷ 0x00818193 ∷ 0x00200513 ∷ [])
    × (take 4 (drop 30 (written_code lean_both_ways)) ≡ 0xf89ff06f ∷ 0x10000237 ∷ 0xfff20213 ∷ 0x000f8067 ∷ [])
    × (graph_lines lean_both_ways.layout lean_both_ways.labels
    ≡ Class Calls 1 (0x400000a4 ∷ []) ∷ Class Jumps 2 (0x40000088 ∷ 0x400000a4 ∷ []) ∷ Call 0x4000000c 0x40000030 ∷ Edge 0x4000002c 0x40000044
    ∷ Site 0x4000004c site.Jump 2 ∷ Edge 0x400000a8 0x400000c4 ∷ Site 0x400000dc site.Call 1 ∷ [])
unfolding jumping head is_spoilt_by next_piece leaf_lines_from units_of followers code_from words_of code_of instr_at decoded words_from labels_of label_at site_label site_number tagged class_lines place_lines empty_classes
both_ways_rows = (refl, refl, refl, refl, refl)

-- their gates are placements
lean_gates : AreGates (entered_in lone_leaf.layout) [] 0 lean_version_1.units_from lone_leaf.layout.program.items lone_leaf.layout.gates
    × AreGates (entered_in leaf_of_harts.layout) [] 0 lean_version_2.units_from leaf_of_harts.layout.program.items leaf_of_harts.layout.gates
    × AreGates (entered_in saving.layout) [] 0 lean_version_1.units_from saving.layout.program.items saving.layout.gates
    × AreGates (entered_in going_on.layout) [] 0 lean_version_1.units_from going_on.layout.program.items going_on.layout.gates
unfolding AreGates head is_spoilt_by decoded
lean_gates = (
  (refl, (refl, tt)),
  (refl, (refl, tt)),
  (refl, (refl, (refl, (refl, (refl, (refl, tt)))))),
  (refl, (refl, (refl, (refl, (refl, (refl, (refl, (refl, (refl, tt))))))))),
)

lean_target_gates : AreGates (entered_in lean_pointer.layout) [] 0 lean_version_1.units_from lean_pointer.layout.program.items lean_pointer.layout.gates
    × AreGates (entered_in lean_both_ways.layout) [] 0 lean_version_1.units_from lean_both_ways.layout.program.items lean_both_ways.layout.gates
unfolding AreGates jumping head is_spoilt_by decoded
lean_target_gates = (
  (refl, (refl, (refl, (refl, (refl, (refl, (refl, (refl, (refl, (refl, (refl, (refl, (refl, tt))))))))))))),
  (refl, (refl, (refl, (refl, (refl, (refl, (refl, (refl, (refl, (refl, tt)))))))))),
)
