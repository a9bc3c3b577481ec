-- Worked rows: where calls arrive, the lines of leaves, and those of jumps over what saves a site, in small programs whose callees save sites.
-- Of each program the gates and the lines were worked out by hand beside its code, which is for one hart.
use Rattle.std.proofs.Common.{◌≡◌, ℕ, false, List, [], ◌∷◌, Option, Some, None, refl}
use Rattle.cfi_map.proofs.Prelude.{lean_version_1, OneLabel, TwoLabels, CalleeSaves, decoded, ItemKind, Item, Calls, Jumps, GraphLine, head, is_spoilt_by, next_piece, ProgramAtMap, arrival, class_lines, graph_lines, jump_line, leaf_lines_by, leaf_lines_from, place_lines, tagged}
use Rattle.obj_input.specs.declared.item_kind.ItemKind.TheVariants as is
use Rattle.obj_program.specs.declared.item.Patch.TheVariants as put
use Rattle.cfi_graph.specs.declared.line.GraphLine.TheVariants as line

abbrev at : ℕ → ItemKind → ℕ → Option ℕ → Item
at offset kind word target = record { section = 1; offset = offset; kind = kind; word = word; patch = put.Own; target = target; taken = false }

-- a program that is entered at its first place, under a graph with these targets of computed calls
abbrev entered : List (List ℕ) → List ℕ → List Item → ProgramAtMap
entered classes gates items = record {
  profile = lean_version_1;
  program = record { items = items; init = []; relocations = []; data_end = 65536; funcs = []; names = [] };
  closed = record {
    version = CalleeSaves;
    sides = record { sort = Calls; classes = classes; sites = [] } ∷ record { sort = Jumps; classes = []; sites = [] } ∷ [];
    taken = [];
    calls = None;
  };
  gates = gates;
  entry = 0;
}

-- `addi x2,x2,-16; sd x1,8(x2); jal x1,20; addi x10,x0,0; ld x1,8(x2); addi x2,x2,16; ret`, and a leaf that it calls: `auipc x11,0; addi x11,x11,0;
-- addi x10,x0,1; addi x12,x0,3; addi x17,x0,64; ecall; ret`
abbrev printing : ProgramAtMap
printing =
    entered []
    (0x4000002c ∷ 0x40000048 ∷ 0x40000050 ∷ 0x40000054 ∷ 0x40000058 ∷ 0x4000005c ∷ 0x40000060 ∷ 0x40000074 ∷ 0x40000078 ∷ 0x4000007c ∷ 0x40000080
    ∷ 0x40000084 ∷ 0x40000088 ∷ 0x4000008c ∷ 0x40000090 ∷ [])
    (at 0 is.Plain 0xff010113 None ∷ at 4 is.Store 0x00113423 None ∷ at 8 is.Call 0x014000ef (Some 7) ∷ at 12 is.Plain 0x00000513 None
    ∷ at 16 is.Plain 0x00813083 None ∷ at 20 is.Plain 0x01010113 None ∷ at 24 is.Return 0x00008067 None ∷ at 28 is.Plain 0x00000597 None
    ∷ at 32 is.Plain 0x00058593 None ∷ at 36 is.Plain 0x00100513 None ∷ at 40 is.Plain 0x00300613 None ∷ at 44 is.Plain 0x04000893 None
    ∷ at 48 is.System 0x00000073 None ∷ at 52 is.Return 0x00008067 None ∷ at 56 is.End 0 None ∷ [])

printing_lines : graph_lines printing [] ≡ line.Leaf 0x40000074 0x40000090 ∷ line.Call 0x4000000c 0x40000030 ∷ line.Edge 0x4000002c 0x40000044
    ∷ line.Call 0x40000050 0x40000074 ∷ []
unfolding place_lines leaf_lines_from class_lines tagged next_piece head is_spoilt_by decoded
printing_lines = refl

-- `addi x2,x2,-16; sd x1,8(x2); jal x1,16; ld x1,8(x2); addi x2,x2,16; addi x10,x10,2; addi x10,x10,1; ret`: it goes on into what it calls
abbrev going_on : ProgramAtMap
going_on =
    entered []
    (0x4000002c ∷ 0x40000048 ∷ 0x40000050 ∷ 0x40000054 ∷ 0x40000058 ∷ 0x4000005c ∷ 0x40000060 ∷ 0x4000007c ∷ 0x40000090 ∷ [])
    (at 0 is.Plain 0xff010113 None ∷ at 4 is.Store 0x00113423 None ∷ at 8 is.Call 0x010000ef (Some 6) ∷ at 12 is.Plain 0x00813083 None
    ∷ at 16 is.Plain 0x01010113 None ∷ at 20 is.Plain 0x00250513 None ∷ at 24 is.Plain 0x00150513 None ∷ at 28 is.Return 0x00008067 None
    ∷ at 32 is.End 0 None ∷ [])

going_on_lines : graph_lines going_on [] ≡ line.Call 0x4000000c 0x40000030 ∷ line.Edge 0x4000002c 0x40000044 ∷ line.Call 0x40000050 0x40000064
    ∷ line.Edge 0x40000060 0x40000078 ∷ []
unfolding place_lines leaf_lines_from class_lines tagged next_piece head is_spoilt_by decoded
going_on_lines = refl

-- the lines of leaves alone
abbrev leaves : ProgramAtMap → List GraphLine
leaves layout = leaf_lines_by CalleeSaves layout

-- `addi x10,x0,1; beq x10,x0,8; ret; j -8`
abbrev branching : ProgramAtMap
branching =
    entered [] (0x4000002c ∷ 0x40000030 ∷ 0x40000034 ∷ 0x40000038 ∷ 0x4000003c ∷ [])
    (at 0 is.Plain 0x00100513 None ∷ at 4 is.Branch 0x00050463 (Some 3) ∷ at 8 is.Return 0x00008067 None ∷ at 12 is.Jump 0xff9ff06f (Some 1)
    ∷ at 16 is.End 0 None ∷ [])

-- `addi x10,x10,-1; bne x10,x0,-4; ecall; ret`
abbrev looping : ProgramAtMap
looping =
    entered [] (0x4000002c ∷ 0x40000030 ∷ 0x40000034 ∷ 0x40000038 ∷ 0x4000003c ∷ [])
    (at 0 is.Plain 0xfff50513 None ∷ at 4 is.Branch 0xfe051ee3 (Some 0) ∷ at 8 is.System 0x00000073 None ∷ at 12 is.Return 0x00008067 None
    ∷ at 16 is.End 0 None ∷ [])

-- a word before a return
abbrev before_return : ItemKind → ℕ → ProgramAtMap
before_return kind word =
    entered [] (0x4000002c ∷ 0x40000048 ∷ 0x4000005c ∷ []) (at 0 kind word None ∷ at 4 is.Return 0x00008067 None ∷ at 8 is.End 0 None ∷ [])

-- `ret; nop`
abbrev running_out : ProgramAtMap
running_out =
    entered [] (0x4000002c ∷ 0x40000058 ∷ 0x4000005c ∷ []) (at 0 is.Return 0x00008067 None ∷ at 4 is.Plain 0x00000013 None ∷ at 8 is.End 0 None ∷ [])

-- `jal x1,8; ret; nop; ret`
abbrev calling : ProgramAtMap
calling =
    entered [] (0x4000002c ∷ 0x40000048 ∷ 0x4000005c ∷ 0x40000060 ∷ 0x40000064 ∷ [])
    (at 0 is.Call 0x008000ef (Some 2) ∷ at 4 is.Return 0x00008067 None ∷ at 8 is.Plain 0x00000293 None ∷ at 12 is.Return 0x00008067 None
    ∷ at 16 is.End 0 None ∷ [])

leaf_rows : (leaves branching ≡ line.Leaf 0x4000002c 0x4000003c ∷ []) × (leaves looping ≡ line.Leaf 0x4000002c 0x4000003c ∷ [])
    × (leaves (before_return is.Gate 0x00001037) ≡ []) × (leaves (before_return is.Plain 0x00008093) ≡ []) × (leaves running_out ≡ [])
    × (leaves calling ≡ line.Leaf 0x4000005c 0x40000064 ∷ [])
unfolding leaf_lines_from next_piece head is_spoilt_by decoded
leaf_rows = (refl, refl, refl, refl, refl, refl)

-- calls arrive at a leaf's unit, and else at what saves the site
arrival_rows : (arrival branching 0 ≡ 0x4000002c) × (arrival running_out 0 ≡ 0x40000030) × (arrival calling 0 ≡ 0x40000030) × (arrival calling 2 ≡ 0x4000005c)
unfolding head is_spoilt_by decoded
arrival_rows = (refl, refl, refl, refl)

-- `ret; ret`, whose second word is a target of computed calls: its lead has 32 bytes, the jump as the second word
abbrev serving : ProgramAtMap
serving =
    entered ((1 ∷ []) ∷ []) (0x4000002c ∷ 0x40000030 ∷ 0x40000064 ∷ [])
    (at 0 is.Return 0x00008067 None ∷ at 4 is.Return 0x00008067 None ∷ at 8 is.End 0 None ∷ [])

serving_rows : (arrival serving 1 ≡ 0x4000003c) × (jump_line serving 1 ≡ Some (line.Edge 0x40000034 0x40000050)) × (jump_line serving 0 ≡ None)
    × (leaves serving ≡ line.Leaf 0x4000002c 0x40000030 ∷ [])
unfolding leaf_lines_from next_piece head is_spoilt_by decoded
serving_rows = (refl, refl, refl, refl)

-- where callers save sites, calls go to gates, and there are no such lines
caller_rows : (arrival (record calling { closed = record calling.closed { version = TwoLabels } }) 2 ≡ 0x4000005c)
    × (jump_line (record calling { closed = record calling.closed { version = TwoLabels } }) 0 ≡ None) × (leaf_lines_by TwoLabels calling ≡ [])
    × (leaf_lines_by OneLabel calling ≡ [])
caller_rows = (refl, refl, refl, refl)
