-- Worked programs as they are written, computed: a return alone, a branch over an instruction, which is written short, one over a jump,
-- which is kept long, a call through a pointer, and a jump and a call to one function; the first two also as images for several harts. Their words, gates, lengths and lines are worked out by hand from the formats of
-- instructions and the sizes of units.
use Rattle.std.proofs.Common.{◌≡◌, ℕ, true, false, List, [], ◌∷◌, ◌++◌, Some, None, length, take, drop, pos, refl}
use Rattle.std.specs.Prelude.{Option, slice_get}
use Rattle.cfi_writer.proofs.Prelude.{OneLabel, TwoLabels, Profile, UNITS_START, version_1, version_2, decoded, code_of, ItemKind, Item, Patch, Number, instr_at, Program, Call, Class, Edge, Both, Calls, Jumps, Side, ProgramAtMap, class_lines, graph_lines, place_lines, entered_in, empty_classes, label_at, labels_of, site_label, site_number, tagged, AreGates, words_from, words_of, code_from, is_kept, written_code, Choice, followers, units_of}
use Rattle.obj_input.specs.declared.item_kind.ItemKind.TheVariants as is
use Rattle.obj_program.specs.declared.item.Patch.TheVariants as put
use Rattle.cfi_graph.specs.declared.line.Sort.TheVariants as sorts
use Rattle.cfi_graph.specs.declared.line.GraphLine.TheVariants.{Site}
use Rattle.cfi_graph.specs.declared.line.SiteKind.TheVariants as site

abbrev pub place : ℕ → ItemKind → ℕ → Option ℕ → Item
place offset kind word target = record { section = 1; offset = offset; kind = kind; word = word; patch = put.Own; target = target; taken = false }

-- `beq x10, x0, +8`, an instruction of a kind, `ret`
abbrev program : ItemKind → ℕ → Option ℕ → Program
program kind word target = record {
  items = place 0 is.Branch 0x00050463 (Some 2) ∷ place 4 kind word target ∷ place 8 is.Return 0x00008067 None ∷ place 12 is.End 0 None ∷ [];
  init = [];
  relocations = [];
  data_end = 0x10000;
  funcs = [];
  names = [];
}

abbrev pub layout : Profile → Program → List ℕ → ProgramAtMap
layout profile program gates = record {
  profile = profile;
  program = program;
  closed = record { version = OneLabel; sides = record { sort = Both; classes = []; sites = [] } ∷ []; taken = false ∷ false ∷ false ∷ false ∷ []; calls = None };
  gates = gates;
  entry = 0;
}

-- over `addi x10, x0, 1`: short
abbrev pub short : Choice
short = record {
  layout = layout version_1 (program is.Plain 0x00100513 None) (0x40000040 ∷ 0x40000044 ∷ 0x40000048 ∷ 0x4000005c ∷ []);
  whole = false ∷ [];
  labels = [];
}

-- the same of several harts
abbrev pub short_of_harts : Choice
short_of_harts = record {
  layout = layout version_2 (program is.Plain 0x00100513 None) (0x40000050 ∷ 0x40000054 ∷ 0x40000058 ∷ 0x4000006c ∷ []);
  whole = false ∷ [];
  labels = [];
}

-- over `j +4`: long
abbrev pub whole : Choice
whole = record {
  layout = layout version_1 (program is.Jump 0x0040006f (Some 2)) (0x40000040 ∷ 0x40000048 ∷ 0x4000004c ∷ 0x40000060 ∷ []);
  whole = true ∷ [];
  labels = [];
}

short_rows : (length (written_code short) ≡ 24) × (slice_get (written_code short) 16 ≡ Some 0x00050463) × (slice_get (written_code short) 17 ≡ Some 0x00100513)
    × (is_kept (entered_in short.layout) 0 2 ≡ false)
    × (graph_lines short.layout [] ≡ Call 0x4000000c 0x40000040 ∷ Edge 0x40000040 0x40000048 ∷ [])
unfolding units_of followers code_from words_of code_of instr_at decoded words_from labels_of label_at site_label site_number tagged class_lines place_lines empty_classes
short_rows = (refl, refl, refl, refl, refl)

short_of_harts_rows : (length (written_code short_of_harts) ≡ 28) × (slice_get (written_code short_of_harts) 20 ≡ Some 0x00050463)
    × (slice_get (written_code short_of_harts) 21 ≡ Some 0x00100513)
    × (graph_lines short_of_harts.layout [] ≡ Call 0x4000000c 0x40000050 ∷ Edge 0x40000050 0x40000058 ∷ [])
unfolding units_of followers code_from words_of code_of instr_at decoded words_from labels_of label_at site_label site_number tagged class_lines place_lines empty_classes
short_of_harts_rows = (refl, refl, refl, refl)

-- the long one is `bne x10, x0, +8` and `j` to the place of `ret`
long_rows : (length (written_code whole) ≡ 25) × (slice_get (written_code whole) 16 ≡ Some 0x00051463) × (slice_get (written_code whole) 17 ≡ Some 0x0080006f)
    × (slice_get (written_code whole) 18 ≡ Some 0x0040006f) × (is_kept (entered_in whole.layout) 0 2 ≡ true)
    × (graph_lines whole.layout [] ≡ Call 0x4000000c 0x40000040 ∷ Edge 0x40000040 0x4000004c ∷ Edge 0x40000048 0x4000004c ∷ [])
unfolding units_of followers code_from words_of code_of instr_at decoded words_from labels_of label_at site_label site_number tagged class_lines place_lines empty_classes
long_rows = (refl, refl, refl, refl, refl, refl)

head : List ℕ
head =
    0x00100073 ∷ 0x00100073 ∷ 0x00100073 ∷ 0x10000137 ∷ 0x600001b7 ∷ 0x00818193 ∷ 0x03019f13 ∷ 0x000f1463 ∷ 0xfe9ff06f ∷ 0x00000f17 ∷ 0x014f0f13
    ∷ 0x01e1b023 ∷ 0x00818193 ∷ 0x00c000ef ∷ 0x05d00893 ∷ 0x00000073 ∷ []

-- `addi x10, x0, 7` and `ret`, the whole code
abbrev seven : Program
seven = record {
  items = place 0 is.Plain 0x00700513 None ∷ place 4 is.Return 0x00008067 None ∷ place 8 is.End 0 None ∷ [];
  init = [];
  relocations = [];
  data_end = 0x10000;
  funcs = [];
  names = [];
}

abbrev pub returning : Choice
returning = record { layout = layout version_1 seven (0x40000040 ∷ 0x40000044 ∷ 0x40000058 ∷ []); whole = []; labels = [] }

returning_row : written_code returning
    ≡ head ++ 0x00700513 ∷ 0xff81bf83 ∷ 0xff818193 ∷ 0x001f8463 ∷ 0xfb5ff06f ∷ 0x000f8067 ∷ 0xfa9ff06f ∷ []
unfolding head units_of followers code_from words_of code_of instr_at decoded words_from labels_of label_at site_label site_number
returning_row = refl

-- the same behind the longer prologue of several harts
head_of_harts : List ℕ
head_of_harts =
    0x00100073 ∷ 0x00100073 ∷ 0x00100073 ∷ 0x10000137 ∷ 0x01451f93 ∷ 0x41f10133 ∷ 0x600001b7 ∷ 0x01051f93 ∷ 0x01f181b3 ∷ 0x00818193 ∷ 0x03019f13
    ∷ 0x000f1463 ∷ 0xfd9ff06f ∷ 0x00000f17 ∷ 0x014f0f13 ∷ 0x01e1b023 ∷ 0x00818193 ∷ 0x00c000ef ∷ 0x05d00893 ∷ 0x00000073 ∷ []

abbrev pub returning_of_harts : Choice
returning_of_harts = record { layout = layout version_2 seven (0x40000050 ∷ 0x40000054 ∷ 0x40000068 ∷ []); whole = []; labels = [] }

returning_of_harts_row : written_code returning_of_harts
    ≡ head_of_harts ++ 0x00700513 ∷ 0xff81bf83 ∷ 0xff818193 ∷ 0x001f8463 ∷ 0xfa5ff06f ∷ 0x000f8067 ∷ 0xf99ff06f ∷ []
unfolding head_of_harts units_of followers code_from words_of code_of instr_at decoded words_from labels_of label_at site_label site_number
returning_of_harts_row = refl

-- a function that calls one of two others through a pointer at 10000h, which a relocated LUI and load read
abbrev with_patch : Item → Patch → Item
with_patch item patch = record item { patch = patch }

abbrev pub pointer : Choice
pointer = record {
  layout = record {
    profile = version_1;
    program = record {
      items =
          place 0 is.Plain 0xff010113 None ∷ place 4 is.Store 0x00113423 None ∷ with_patch (place 8 is.Plain 0x000002b7 None) (put.High (Number (pos 0x10000)))
          ∷ with_patch (place 12 is.Plain 0x0002b283 None) (put.Low (Number (pos 0x10000))) ∷ place 16 is.Icall 0x000280e7 None ∷ place 20 is.Plain 0x00813083 None
          ∷ place 24 is.Plain 0x01010113 None ∷ place 28 is.Return 0x00008067 None ∷ place 32 is.Plain 0x00100513 None ∷ place 36 is.Return 0x00008067 None
          ∷ place 40 is.Plain 0x00200513 None ∷ place 44 is.Return 0x00008067 None ∷ place 48 is.End 0 None ∷ [];
      init = [];
      relocations = [];
      data_end = 0x10010;
      funcs = [];
      names = [];
    };
    closed = record { version = OneLabel; sides = record { sort = Both; classes = (8 ∷ 10 ∷ []) ∷ []; sites = record { place = 4; class = Some 0 } ∷ [] } ∷ []; taken = []; calls = None };
    gates = 0x40000040 ∷ 0x40000044 ∷ 0x40000054 ∷ 0x40000058 ∷ 0x4000005c ∷ 0x400000ac ∷ 0x400000b0 ∷ 0x400000b4 ∷ 0x400000c8 ∷ 0x400000d0 ∷ 0x400000e4 ∷ 0x400000ec ∷ 0x40000100 ∷ [];
    entry = 0;
  };
  whole = [];
  labels = 1 ∷ [];
}

pointer_gates : AreGates (entered_in pointer.layout) [] 0 UNITS_START pointer.layout.program.items pointer.layout.gates
unfolding AreGates
pointer_gates = (refl, (refl, (refl, (refl, (refl, (refl, (refl, (refl, (refl, (refl, (refl, (refl, (refl, tt)))))))))))))

-- a store's unit, the patched words, the label that the call's check compares with, and the gate word of a target
pointer_rows : (length (written_code pointer) ≡ 65)
    × (take 6 (drop 17 (written_code pointer)) ≡ 0x00810f93 ∷ 0x024f9f93 ∷ 0x024fdf93 ∷ 0x001fb023 ∷ 0x000102b7 ∷ 0x0002b283 ∷ [])
    × (slice_get (written_code pointer) 31 ≡ Some 0x00001237) × (slice_get (written_code pointer) 50 ≡ Some 0x00001037)
    × (graph_lines pointer.layout pointer.labels
    ≡ Class sorts.Both 1 (0x400000c8 ∷ 0x400000e4 ∷ []) ∷ Call 0x4000000c 0x40000040 ∷ Site 0x4000005c site.Call 1 ∷ [])
unfolding units_of followers code_from words_of code_of instr_at decoded words_from labels_of label_at site_label site_number tagged class_lines place_lines empty_classes
pointer_rows = (refl, refl, refl, refl, refl)

-- a function jumps through a pointer to either of two others, and a fourth one calls the second of these: calls and jumps have labels of
-- their own, and two words stand before what either reaches
unfoldable pub jumping : ProgramAtMap
jumping = record {
  profile = version_1;
  program = record {
    items =
        with_patch (place 0 is.Plain 0x000002b7 None) (put.High (Number (pos 0x10000))) ∷ with_patch (place 4 is.Plain 0x0002b283 None) (put.Low (Number (pos 0x10000)))
        ∷ place 8 is.Ijump 0x00028067 None ∷ place 12 is.Plain 0x00100513 None ∷ place 16 is.Return 0x00008067 None ∷ place 20 is.Plain 0x00200513 None
        ∷ place 24 is.Return 0x00008067 None ∷ place 28 is.Icall 0x000280e7 None ∷ place 32 is.Return 0x00008067 None ∷ place 36 is.End 0 None ∷ [];
    init = [];
    relocations = [];
    data_end = 0x10010;
    funcs = [];
    names = [];
  };
  closed = record {
    version = TwoLabels;
    sides =
        record { sort = Calls; classes = (5 ∷ []) ∷ []; sites = record { place = 7; class = Some 0 } ∷ [] }
        ∷ record { sort = Jumps; classes = (3 ∷ 5 ∷ []) ∷ []; sites = record { place = 2; class = Some 0 } ∷ [] }
        ∷ [];
    taken = [];
    calls = None;
  };
  gates = 0x40000040 ∷ 0x40000044 ∷ 0x40000048 ∷ 0x4000007c ∷ 0x40000088 ∷ 0x4000009c ∷ 0x400000a8 ∷ 0x400000bc ∷ 0x4000010c ∷ 0x40000120 ∷ [];
  entry = 0;
}

abbrev both_ways : Choice
both_ways = record { layout = jumping; whole = []; labels = 1 ∷ 2 ∷ [] }

both_ways_gates : AreGates (entered_in jumping) [] 0 UNITS_START jumping.program.items jumping.gates
unfolding AreGates jumping
both_ways_gates = (refl, (refl, (refl, (refl, (refl, (refl, (refl, (refl, (refl, (refl, tt))))))))))

-- the words before the two functions, that which the jump's check loads, the two labels that are compared with, and the lines
both_ways_rows : (length (written_code both_ways) ≡ 73) × (take 2 (drop 31 (written_code both_ways)) ≡ 0x00000013 ∷ 0x00002037 ∷ [])
    × (take 2 (drop 39 (written_code both_ways)) ≡ 0x00001037 ∷ 0x00002037 ∷ []) × (slice_get (written_code both_ways) 25 ≡ Some 0x004faf03)
    × (slice_get (written_code both_ways) 26 ≡ Some 0x00002237) × (slice_get (written_code both_ways) 54 ≡ Some 0x000faf03)
    × (slice_get (written_code both_ways) 55 ≡ Some 0x00001237)
    × (graph_lines both_ways.layout both_ways.labels
    ≡ Class sorts.Calls 1 (0x4000009c ∷ []) ∷ Class sorts.Jumps 2 (0x4000007c ∷ 0x4000009c ∷ []) ∷ Call 0x4000000c 0x40000040 ∷ Site 0x40000048 site.Jump 2
    ∷ Site 0x400000bc site.Call 1 ∷ [])
unfolding jumping units_of followers code_from words_of code_of instr_at decoded words_from labels_of label_at site_label site_number tagged class_lines place_lines empty_classes
both_ways_rows = (refl, refl, refl, refl, refl, refl, refl, refl)

-- labels go to the classes of calls, calls without targets, the classes of jumps and jumps without targets, in this order
abbrev with_empty : List Side
with_empty =
    record { sort = Calls; classes = (9 ∷ []) ∷ []; sites = record { place = 1; class = None } ∷ record { place = 4; class = Some 0 } ∷ [] }
    ∷ record { sort = Jumps; classes = (9 ∷ []) ∷ []; sites = record { place = 2; class = Some 0 } ∷ record { place = 3; class = None } ∷ [] }
    ∷ []

order_of_labels : (site_label (1 ∷ 2 ∷ 3 ∷ 4 ∷ []) with_empty 4 ≡ 1) × (site_label (1 ∷ 2 ∷ 3 ∷ 4 ∷ []) with_empty 1 ≡ 2)
    × (site_label (1 ∷ 2 ∷ 3 ∷ 4 ∷ []) with_empty 2 ≡ 3) × (site_label (1 ∷ 2 ∷ 3 ∷ 4 ∷ []) with_empty 3 ≡ 4)
    × (labels_of (1 ∷ 2 ∷ 3 ∷ 4 ∷ []) with_empty 9 ≡ Some 1 ∷ Some 3 ∷ [])
    × (class_lines [] (1 ∷ 2 ∷ 3 ∷ 4 ∷ []) (tagged with_empty) ≡ Class sorts.Calls 1 (0 ∷ []) ∷ Class sorts.Calls 2 [] ∷ Class sorts.Jumps 3 (0 ∷ []) ∷ Class sorts.Jumps 4 [] ∷ [])
unfolding labels_of label_at site_label site_number tagged class_lines empty_classes
order_of_labels = (refl, refl, refl, refl, refl, refl)
