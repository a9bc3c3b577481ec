-- Worked rows: sizes, groups and kept branches of small programs whose callees save sites. Of each program the places' gates were worked out
-- by hand beside its code; a part is as long as from its gate to the next one, and the first one's is at the code's 44th byte.
use Rattle.std.proofs.Common.{◌≡◌, ℕ, Bool, true, false, List, [], ◌∷◌, Option, Some, None, pos, refl}
use Rattle.cfi_map.proofs.Prelude.{TwoLabels, CalleeSaves, decoded, ItemKind, Item, Number, Program, Short, Calls, Jumps, ClosedGraph, Entered, entered_at, head, is_spoilt_by, all_from, joins_in, shorts_below, shorts_of, saved_bytes, grouped_parts, grouped_sizes, part_sizes}
use Rattle.obj_input.specs.declared.item_kind.ItemKind.TheVariants as is
use Rattle.obj_program.specs.declared.item.Patch.TheVariants as put

abbrev at : ℕ → ItemKind → ℕ → Option ℕ → Item
at offset kind word target = record { section = 1; offset = offset; kind = kind; word = word; patch = put.Own; target = target; taken = false }

-- a program that is entered at its first place, under a graph without classes
abbrev program : List Item → Program
program items = record { items = items; init = []; relocations = []; data_end = 65536; funcs = []; names = [] }

abbrev lean : ClosedGraph
lean = record {
  version = CalleeSaves;
  sides = record { sort = Calls; classes = []; sites = [] } ∷ record { sort = Jumps; classes = []; sites = [] } ∷ [];
  taken = [];
  calls = None;
}

abbrev of : List Item → Entered
of items = entered_at (program items) lean 0

-- `sd x1,-8(x2); ld x1,-8(x2); ret`: gates 2c, 50, 54, end 68
abbrev long_mask : List Item
long_mask = at 0 is.Store 0xfe113c23 None ∷ at 4 is.Plain 0xff813083 None ∷ at 8 is.Return 0x00008067 None ∷ at 12 is.End 0 None ∷ []

-- `addi x2,x2,-32; sd x1,8(x2); sd x8,16(x2); sd x9,-8(x2); sd x10,0(x2); ld x1,8(x2); ret`: gates 2c, 48, 50, 54, 60, 64, 68, end 7c
abbrev two_groups : List Item
two_groups =
    at 0 is.Plain 0xfe010113 None ∷ at 4 is.Store 0x00113423 None ∷ at 8 is.Store 0x00813823 None ∷ at 12 is.Store 0xfe913c23 None
    ∷ at 16 is.Store 0x00a13023 None ∷ at 20 is.Plain 0x00813083 None ∷ at 24 is.Return 0x00008067 None ∷ at 28 is.End 0 None ∷ []

-- `lui x5,0; sd x6,0(x5); sd x7,8(x5); sd x8,16(x5); ret`, of which the first store is relocated: a leaf with gates 2c, 30, 3c, 44, 48, end 4c
abbrev relocated : List Item
relocated =
    at 0 is.Plain 0x000002b7 None ∷ record (at 4 is.Store 0x0062b023 None) { patch = put.Low (Number (pos 0x10000008)) }
    ∷ at 8 is.Store 0x0072b423 None ∷ at 12 is.Store 0x0082b823 None ∷ at 16 is.Return 0x00008067 None ∷ at 20 is.End 0 None ∷ []

-- `addi x2,x2,-16; sd x1,8(x2); jal x1,16; ld x1,8(x2); addi x2,x2,16; addi x10,x10,2; addi x10,x10,1; ret`: gates 2c, 48, 50, 54, 58, 5c,
-- 60, 7c, end 90
abbrev calling : List Item
calling =
    at 0 is.Plain 0xff010113 None ∷ at 4 is.Store 0x00113423 None ∷ at 8 is.Call 0x010000ef (Some 6) ∷ at 12 is.Plain 0x00813083 None
    ∷ at 16 is.Plain 0x01010113 None ∷ at 20 is.Plain 0x00250513 None ∷ at 24 is.Plain 0x00150513 None ∷ at 28 is.Return 0x00008067 None
    ∷ at 32 is.End 0 None ∷ []

size_rows : (grouped_parts (of long_mask) [] ≡ 36 ∷ 4 ∷ 20 ∷ 4 ∷ [])
    × (grouped_parts (of two_groups) (true ∷ true ∷ false ∷ true ∷ false ∷ []) ≡ 28 ∷ 8 ∷ 4 ∷ 12 ∷ 4 ∷ 4 ∷ 20 ∷ 4 ∷ [])
    × (grouped_parts (of relocated) (true ∷ true ∷ true ∷ false ∷ []) ≡ 4 ∷ 12 ∷ 8 ∷ 4 ∷ 4 ∷ 4 ∷ [])
    × (grouped_parts (of calling) [] ≡ 28 ∷ 8 ∷ 4 ∷ 4 ∷ 4 ∷ 4 ∷ 28 ∷ 20 ∷ 4 ∷ [])
unfolding grouped_sizes head is_spoilt_by decoded
size_rows = (refl, refl, refl, refl)

-- a later member saves the mask that it would have: of one word, of two
saved_rows : (saved_bytes (of two_groups) (true ∷ true ∷ false ∷ true ∷ true ∷ []) 0 two_groups ≡ 4)
    × (saved_bytes (of two_groups) (true ∷ true ∷ true ∷ false ∷ true ∷ []) 0 two_groups ≡ 8)
unfolding saved_bytes head is_spoilt_by decoded
saved_rows = (refl, refl)

-- no store with a negative offset joins a group behind a short mask, and one with another offset joins one behind a long mask; a relocated
-- one has a long mask, and nothing joins it
joined_rows : (joins_in (of two_groups) 2 1 ≡ true) × (joins_in (of two_groups) 3 2 ≡ false) × (joins_in (of two_groups) 4 1 ≡ true)
    × (joins_in (of relocated) 2 1 ≡ false) × (joins_in (of relocated) 3 1 ≡ true)
unfolding decoded all_from
joined_rows = (refl, refl, refl, refl, refl)

-- `beq x10,x0,8; jal x0,4; ret; jal x1,-8; ret`: the jump is an entry and has a lead, so the branch over it is short, and the code has 148
-- bytes; where callers save sites, it is kept long
abbrev over_entry : List Item
over_entry =
    at 0 is.Branch 0x00050463 (Some 2) ∷ at 4 is.Jump 0x0040006f (Some 2) ∷ at 8 is.Return 0x00008067 None ∷ at 12 is.Call 0xff9ff0ef (Some 1)
    ∷ at 16 is.Return 0x00008067 None ∷ at 20 is.End 0 None ∷ []

short : ℕ → Bool → Short
short lead keep = record { at = 0; target = 2; lead = lead; keep = keep }

kept_rows : (shorts_of (of over_entry) ≡ short 24 false ∷ []) × (shorts_of (entered_at (program over_entry) (record lean { version = TwoLabels }) 0) ≡ short 0 true ∷ [])
    × (part_sizes (of over_entry) (false ∷ []) 0 over_entry ≡ 28 ∷ 28 ∷ 20 ∷ 4 ∷ 20 ∷ 4 ∷ [])
unfolding part_sizes shorts_below head is_spoilt_by decoded short
kept_rows = (refl, refl, refl)
