-- Worked pairs whose graphs tell of leaves, computed: which rule fails, and where. Their words are those that an independent
-- implementation gives.
use Rattle.std.proofs.Common.{◌≡◌, ℕ, ◌+◌, ◌*◌, Bool, List, [], ◌∷◌, ◌++◌, length, take, drop, refl, true, false}
use Rattle.std.specs.List.{list_any}
use Rattle.rv_image.specs.declared.version.GraphVersion.TheVariants.{OneLabel, TwoLabels, CalleeSaves}
use Rattle.rv_image.specs.MemoryMap.{Profile, lean_version_1, lean_version_2}
use Rattle.rv_code.specs.Decode.{decoded}
use Rattle.rv_code.specs.Encode.{code_of}
use Rattle.cfi_graph.specs.declared.line.GraphLine.{GraphLine}
use Rattle.cfi_graph.specs.declared.line.GraphLine.TheVariants.{Leaf, Class, Site, Edge, Call}
use Rattle.cfi_graph.specs.declared.line.SiteKind.TheVariants as kinds
use Rattle.cfi_graph.specs.declared.line.Sort.TheVariants as sorts
use Rattle.cfi_unit.specs.declared.mask.Mask.TheVariants.{Shifts, Short}
use Rattle.cfi_unit.specs.declared.target_word.TargetWord.TheVariants.{First}
use Rattle.cfi_unit.specs.declared.unit.Unit.TheVariants as V
use Rattle.cfi_unit.specs.Recognise.{read_each, recognised}
use Rattle.cfi_unit.specs.UnitWords.{words_of}
use Rattle.cfi_rules.specs.Lines.{line_at, class_with, leaves_in, targets_for}
use Rattle.cfi_rules.specs.Rules.{fails, is_of_version}
use Rattle.cfi_rules.specs.Split.{starts, is_start, unit_at, place_at}
use Rattle.cfi_rules.specs.declared.reject.Rule as K
use Rattle.cfi_rules.specs.declared.reject.Rule.TheVariants as R

-- whether a rule fails, of a code and the lines of its graph
abbrev fails_by : Profile → K.Rule → List ℕ → List GraphLine → ℕ → Bool
fails_by p rule words lines a = fails rule p words (record { version = CalleeSaves; code = 4 * length words; lines = lines }) a

abbrev pub fails_of : K.Rule → List ℕ → List GraphLine → ℕ → Bool
fails_of rule words lines a = fails_by lean_version_1 rule words lines a

-- whether one of the rules fails at one of some addresses
abbrev rules : List K.Rule
rules = R.Prologue ∷ R.Unit ∷ R.Leaf ∷ R.Target ∷ R.Unlisted ∷ R.Unused ∷ R.Site ∷ R.Gate ∷ R.Astray ∷ R.End ∷ []

abbrev pub any_fails : Profile → List ℕ → List GraphLine → List ℕ → Bool
any_fails p words lines at = list_any (λ a. list_any (λ rule. fails_by p rule words lines a) rules) at

-- the prologue of a lone hart, with this word as its call
abbrev pub opening : ℕ → List ℕ
opening call = 0x00100073 ∷ 0x00100073 ∷ 0x00100073 ∷ 0x10000137 ∷ 0x10000237 ∷ 0xfff20213 ∷ 0x600001b7 ∷ 0x00818193 ∷ call ∷ 0x05d00893 ∷ 0x00000073 ∷ []

-- the same code with another word at an index
abbrev with_word : List ℕ → ℕ → ℕ → List ℕ
with_word code k word = take k code ++ word ∷ drop (k + 1) code

-- a leaf that the opening calls: one instruction, an exit, and a jump to a handler
abbrev leaf_code : List ℕ
leaf_code = opening 0x00c000ef ++ 0x00700513 ∷ 0x05d00893 ∷ 0x00000073 ∷ 0xfc9ff06f ∷ []

abbrev entering : List GraphLine
entering = Call 0x4000000c 0x4000002c ∷ []

leaf_accepted : any_fails lean_version_1 leaf_code (Leaf 0x4000002c 0x4000003c ∷ entering) (0x4000000c ∷ 0x4000002c ∷ 0x40000030 ∷ 0x40000034 ∷ 0x40000038 ∷ 0x4000003c ∷ []) ≡ false
unfolding decoded code_of read_each recognised words_of starts is_start unit_at place_at line_at class_with targets_for leaves_in
leaf_accepted = refl

called_without_a_leaf : fails_of R.Target leaf_code entering 0x4000000c ≡ true
unfolding decoded code_of read_each recognised words_of starts is_start unit_at place_at line_at class_with targets_for leaves_in
called_without_a_leaf = refl

leaf_before_the_stop : fails_of R.Leaf leaf_code (Leaf 0x4000002c 0x40000038 ∷ entering) 0x40000034 ≡ true
unfolding decoded code_of read_each recognised words_of starts is_start unit_at place_at line_at class_with targets_for leaves_in
leaf_before_the_stop = refl

-- the same in an entry that saves its site, in an image of several harts
abbrev harts_code : List ℕ
harts_code =
    0x00100073 ∷ 0x00100073 ∷ 0x00100073 ∷ 0x10000137 ∷ 0x10000237 ∷ 0xfff20213 ∷ 0x01451f93 ∷ 0x41f10133 ∷ 0x600001b7 ∷ 0x01051f93 ∷ 0x01f181b3 ∷ 0x00818193 ∷ 0x00c000ef ∷ 0x05d00893 ∷ 0x00000073 ∷ 0x03019f13 ∷ 0x000f1463 ∷ 0xfc5ff06f ∷ 0x0011b023 ∷ 0x00818193 ∷ 0x00700513 ∷ 0x05d00893 ∷ 0x00000073 ∷ 0xfa5ff06f ∷ []

harts_accepted : any_fails lean_version_2 harts_code (Call 0x4000000c 0x4000003c ∷ []) (0x4000000c ∷ 0x4000003c ∷ 0x40000050 ∷ 0x40000054 ∷ 0x40000058 ∷ 0x4000005c ∷ 0x40000060 ∷ []) ≡ false
unfolding decoded code_of read_each recognised words_of starts is_start unit_at place_at line_at class_with targets_for leaves_in
harts_accepted = refl

other_version : fails_of R.Prologue harts_code (Call 0x4000000c 0x4000003c ∷ []) 0x40000018 ≡ true
unfolding decoded code_of read_each recognised words_of starts is_start unit_at place_at line_at class_with targets_for leaves_in
other_version = refl

-- an entry that calls a leaf, which writes (h.s)
abbrev pub write_code : List ℕ
write_code =
    opening 0x010000ef ++ 0x0180006f ∷ 0x03019f13 ∷ 0x000f1463 ∷ 0xfd1ff06f ∷ 0x0011b023 ∷ 0x00818193 ∷ 0xff010113 ∷ 0x00417fb3 ∷ 0x001fb423 ∷ 0x024000ef ∷ 0x00000513 ∷ 0x00813083 ∷ 0x01010113 ∷ 0xff81bf83 ∷ 0xff818193 ∷ 0x001f8463 ∷ 0xf99ff06f ∷ 0x000f8067 ∷ 0xc0010597 ∷ 0xf8c58593 ∷ 0x00100513 ∷ 0x00300613 ∷ 0x04000893 ∷ 0x00000073 ∷ 0x00008067 ∷ 0xf71ff06f ∷ []

abbrev pub in_order : List GraphLine
in_order = Call 0x4000000c 0x40000030 ∷ Edge 0x4000002c 0x40000044 ∷ Call 0x40000050 0x40000074 ∷ []

abbrev pub write_lines : List GraphLine
write_lines = Leaf 0x40000074 0x40000090 ∷ in_order

write_accepted : any_fails lean_version_1 write_code write_lines (0x4000000c ∷ 0x4000002c ∷ 0x40000030 ∷ 0x40000044 ∷ 0x40000048 ∷ 0x40000050 ∷ 0x40000054 ∷ 0x40000058 ∷ 0x4000005c ∷ 0x40000060 ∷ 0x40000074 ∷ 0x40000078 ∷ 0x4000007c ∷ 0x40000080 ∷ 0x40000084 ∷ 0x40000088 ∷ 0x4000008c ∷ 0x40000090 ∷ 0x40000094 ∷ []) ≡ false
unfolding decoded code_of read_each recognised words_of starts is_start unit_at place_at line_at class_with targets_for leaves_in
write_accepted = refl

-- in a leaf stands what leaves x1 alone, outside of all no return that is not checked
return_outside : fails_of R.Unit (with_word write_code 21 0x00008067) write_lines 0x40000054 ≡ true
unfolding decoded code_of read_each recognised words_of starts is_start unit_at place_at line_at class_with targets_for leaves_in
return_outside = refl

link_written : fails_of R.Unit (with_word write_code 31 0x00008093) write_lines 0x4000007c ≡ true
unfolding decoded code_of read_each recognised words_of starts is_start unit_at place_at line_at class_with targets_for leaves_in
link_written = refl

gate_in_a_leaf : fails_of R.Unit (with_word write_code 33 0x00001037) write_lines 0x40000084 ≡ true
unfolding decoded code_of read_each recognised words_of starts is_start unit_at place_at line_at class_with targets_for leaves_in
gate_in_a_leaf = refl

call_in_a_leaf : fails_of R.Unit (with_word write_code 33 0xfadff0ef) write_lines 0x40000084 ≡ true
unfolding decoded code_of read_each recognised words_of starts is_start unit_at place_at line_at class_with targets_for leaves_in
call_in_a_leaf = refl

checked_return_in_a_leaf : fails_of R.Unit (with_word write_code 33 0xff81bf83) write_lines 0x40000084 ≡ true
unfolding decoded code_of read_each recognised words_of starts is_start unit_at place_at line_at class_with targets_for leaves_in
checked_return_in_a_leaf = refl

break_in_a_leaf : any_fails lean_version_1 (with_word write_code 33 0x00100073) write_lines (0x4000000c ∷ 0x4000002c ∷ 0x40000030 ∷ 0x40000044 ∷ 0x40000048 ∷ 0x40000050 ∷ 0x40000054 ∷ 0x40000058 ∷ 0x4000005c ∷ 0x40000060 ∷ 0x40000074 ∷ 0x40000078 ∷ 0x4000007c ∷ 0x40000080 ∷ 0x40000084 ∷ 0x40000088 ∷ 0x4000008c ∷ 0x40000090 ∷ 0x40000094 ∷ []) ≡ false
unfolding decoded code_of read_each recognised words_of starts is_start unit_at place_at line_at class_with targets_for leaves_in
break_in_a_leaf = refl

no_leaf : fails_of R.Unit write_code in_order 0x4000008c ≡ true
unfolding decoded code_of read_each recognised words_of starts is_start unit_at place_at line_at class_with targets_for leaves_in
no_leaf = refl

leaf_before_its_return : fails_of R.Unit write_code (Leaf 0x40000074 0x4000008c ∷ in_order) 0x4000008c ≡ true
unfolding decoded code_of read_each recognised words_of starts is_start unit_at place_at line_at class_with targets_for leaves_in
leaf_before_its_return = refl

leaf_from_an_enter : fails_of R.Unit write_code (Leaf 0x40000030 0x40000090 ∷ in_order) 0x40000030 ≡ true
unfolding decoded code_of read_each recognised words_of starts is_start unit_at place_at line_at class_with targets_for leaves_in
leaf_from_an_enter = refl

leaf_with_the_stop : any_fails lean_version_1 write_code (Leaf 0x40000074 0x40000094 ∷ in_order) (0x4000000c ∷ 0x4000002c ∷ 0x40000030 ∷ 0x40000044 ∷ 0x40000048 ∷ 0x40000050 ∷ 0x40000054 ∷ 0x40000058 ∷ 0x4000005c ∷ 0x40000060 ∷ 0x40000074 ∷ 0x40000078 ∷ 0x4000007c ∷ 0x40000080 ∷ 0x40000084 ∷ 0x40000088 ∷ 0x4000008c ∷ 0x40000090 ∷ 0x40000094 ∷ []) ≡ false
unfolding decoded code_of read_each recognised words_of starts is_start unit_at place_at line_at class_with targets_for leaves_in
leaf_with_the_stop = refl

-- a leaf begins and ends where units do, and no unit goes on into one or out of one
leaf_inside_a_return : fails_of R.Leaf write_code (Leaf 0x40000070 0x40000090 ∷ in_order) 0x40000070 ≡ true
unfolding decoded code_of read_each recognised words_of starts is_start unit_at place_at line_at class_with targets_for leaves_in
leaf_inside_a_return = refl

into_a_leaf : fails_of R.Leaf write_code (Leaf 0x40000078 0x40000090 ∷ in_order) 0x40000074 ≡ true
unfolding decoded code_of read_each recognised words_of starts is_start unit_at place_at line_at class_with targets_for leaves_in
into_a_leaf = refl

leaf_at_the_closing : fails_of R.Leaf write_code (Leaf 0x40000024 0x40000028 ∷ write_lines) 0x40000024 ≡ true
unfolding decoded code_of read_each recognised words_of starts is_start unit_at place_at line_at class_with targets_for leaves_in
leaf_at_the_closing = refl

from_leaf_to_leaf : fails_of R.Leaf write_code (Leaf 0x40000074 0x40000080 ∷ Leaf 0x40000080 0x40000090 ∷ in_order) 0x4000007c ≡ true
unfolding decoded code_of read_each recognised words_of starts is_start unit_at place_at line_at class_with targets_for leaves_in
from_leaf_to_leaf = refl

into_an_enter : fails_of R.Leaf (with_word write_code 11 0x00000013) write_lines 0x4000002c ≡ true
unfolding decoded code_of read_each recognised words_of starts is_start unit_at place_at line_at class_with targets_for leaves_in
into_an_enter = refl

out_of_a_leaf : fails_of R.Leaf (with_word write_code 35 0x00000013) write_lines 0x4000008c ≡ true
unfolding decoded code_of read_each recognised words_of starts is_start unit_at place_at line_at class_with targets_for leaves_in
out_of_a_leaf = refl

call_out_of_a_leaf : fails_of R.Leaf (with_word write_code 35 0x00000073) write_lines 0x4000008c ≡ true
unfolding decoded code_of read_each recognised words_of starts is_start unit_at place_at line_at class_with targets_for leaves_in
call_out_of_a_leaf = refl

break_at_its_end : any_fails lean_version_1 (with_word write_code 35 0x00100073) write_lines (0x4000000c ∷ 0x4000002c ∷ 0x40000030 ∷ 0x40000044 ∷ 0x40000048 ∷ 0x40000050 ∷ 0x40000054 ∷ 0x40000058 ∷ 0x4000005c ∷ 0x40000060 ∷ 0x40000074 ∷ 0x40000078 ∷ 0x4000007c ∷ 0x40000080 ∷ 0x40000084 ∷ 0x40000088 ∷ 0x4000008c ∷ 0x40000090 ∷ 0x40000094 ∷ []) ≡ false
unfolding decoded code_of read_each recognised words_of starts is_start unit_at place_at line_at class_with targets_for leaves_in
break_at_its_end = refl

leaf_to_a_store : fails_of R.Leaf (opening 0x00c000ef ++ 0x00008067 ∷ 0x0042ffb3 ∷ 0x005fb823 ∷ 0xfc9ff06f ∷ []) (Leaf 0x4000002c 0x40000034 ∷ entering) 0x4000002c ≡ true
unfolding decoded code_of read_each recognised words_of starts is_start unit_at place_at line_at class_with targets_for leaves_in
leaf_to_a_store = refl

enter_before_a_leaf : fails_of R.Leaf (opening 0x00c000ef ++ 0x03019f13 ∷ 0x000f1463 ∷ 0xfd5ff06f ∷ 0x0011b023 ∷ 0x00818193 ∷ 0x00008067 ∷ 0xfbdff06f ∷ []) (Leaf 0x40000040 0x40000044 ∷ entering) 0x4000002c ≡ true
unfolding decoded code_of read_each recognised words_of starts is_start unit_at place_at line_at class_with targets_for leaves_in
enter_before_a_leaf = refl

call_before_a_gate : fails_of R.Leaf (opening 0x00c000ef ++ 0x00008067 ∷ 0xff9ff0ef ∷ 0x00001037 ∷ 0x03019f13 ∷ 0x000f1463 ∷ 0xfc9ff06f ∷ 0x0011b023 ∷ 0x00818193 ∷ 0xfb5ff06f ∷ []) (Leaf 0x4000002c 0x40000030 ∷ entering) 0x40000030 ≡ true
unfolding decoded code_of read_each recognised words_of starts is_start unit_at place_at line_at class_with targets_for leaves_in
call_before_a_gate = refl

gate_before_a_gate : fails_of R.Leaf (opening 0x00c000ef ++ 0x00008067 ∷ 0x00001037 ∷ 0x00001037 ∷ 0x03019f13 ∷ 0x000f1463 ∷ 0xfc9ff06f ∷ 0x0011b023 ∷ 0x00818193 ∷ 0xfb5ff06f ∷ []) (Leaf 0x4000002c 0x40000030 ∷ entering) 0x40000030 ≡ true
unfolding decoded code_of read_each recognised words_of starts is_start unit_at place_at line_at class_with targets_for leaves_in
gate_before_a_gate = refl

-- calls lead to enters and leaves, jumps to saved starts or within a leaf
abbrev calling : ℕ → List GraphLine
calling target = Leaf 0x40000074 0x40000090 ∷ Call 0x4000000c 0x40000030 ∷ Edge 0x4000002c 0x40000044 ∷ Call 0x40000050 target ∷ []

call_into_a_leaf : fails_of R.Target (with_word write_code 20 0x028000ef) (calling 0x40000078) 0x40000050 ≡ true
unfolding decoded code_of read_each recognised words_of starts is_start unit_at place_at line_at class_with targets_for leaves_in
call_into_a_leaf = refl

call_past_an_enter : fails_of R.Target (with_word write_code 20 0xff5ff0ef) (calling 0x40000044) 0x40000050 ≡ true
unfolding decoded code_of read_each recognised words_of starts is_start unit_at place_at line_at class_with targets_for leaves_in
call_past_an_enter = refl

call_of_a_jump : fails_of R.Target (with_word write_code 20 0xfddff0ef) (calling 0x4000002c) 0x40000050 ≡ true
unfolding decoded code_of read_each recognised words_of starts is_start unit_at place_at line_at class_with targets_for leaves_in
call_of_a_jump = refl

call_of_an_enter : any_fails lean_version_1 (with_word write_code 20 0xfe1ff0ef) (calling 0x40000030) (0x4000000c ∷ 0x4000002c ∷ 0x40000030 ∷ 0x40000044 ∷ 0x40000048 ∷ 0x40000050 ∷ 0x40000054 ∷ 0x40000058 ∷ 0x4000005c ∷ 0x40000060 ∷ 0x40000074 ∷ 0x40000078 ∷ 0x4000007c ∷ 0x40000080 ∷ 0x40000084 ∷ 0x40000088 ∷ 0x4000008c ∷ 0x40000090 ∷ 0x40000094 ∷ []) ≡ false
unfolding decoded code_of read_each recognised words_of starts is_start unit_at place_at line_at class_with targets_for leaves_in
call_of_an_enter = refl

jump_to_an_enter : fails_of R.Target (with_word write_code 11 0x0040006f) (Leaf 0x40000074 0x40000090 ∷ Call 0x4000000c 0x40000030 ∷ Edge 0x4000002c 0x40000030 ∷ Call 0x40000050 0x40000074 ∷ []) 0x4000002c ≡ true
unfolding decoded code_of read_each recognised words_of starts is_start unit_at place_at line_at class_with targets_for leaves_in
jump_to_an_enter = refl

jump_into_a_leaf : fails_of R.Target (with_word write_code 21 0x0200006f) (write_lines ++ Edge 0x40000054 0x40000074 ∷ []) 0x40000054 ≡ true
unfolding decoded code_of read_each recognised words_of starts is_start unit_at place_at line_at class_with targets_for leaves_in
jump_into_a_leaf = refl

jump_out_of_a_leaf : fails_of R.Target (with_word write_code 30 0xfcdff06f) (write_lines ++ Edge 0x40000078 0x40000044 ∷ []) 0x40000078 ≡ true
unfolding decoded code_of read_each recognised words_of starts is_start unit_at place_at line_at class_with targets_for leaves_in
jump_out_of_a_leaf = refl

jump_in_a_leaf : any_fails lean_version_1 (with_word write_code 30 0x0100006f) (write_lines ++ Edge 0x40000078 0x40000088 ∷ []) (0x4000000c ∷ 0x4000002c ∷ 0x40000030 ∷ 0x40000044 ∷ 0x40000048 ∷ 0x40000050 ∷ 0x40000054 ∷ 0x40000058 ∷ 0x4000005c ∷ 0x40000060 ∷ 0x40000074 ∷ 0x40000078 ∷ 0x4000007c ∷ 0x40000080 ∷ 0x40000084 ∷ 0x40000088 ∷ 0x4000008c ∷ 0x40000090 ∷ 0x40000094 ∷ []) ≡ false
unfolding decoded code_of read_each recognised words_of starts is_start unit_at place_at line_at class_with targets_for leaves_in
jump_in_a_leaf = refl

abbrev opened : ℕ → List GraphLine
opened target = Leaf 0x40000074 0x40000090 ∷ Call 0x4000000c target ∷ Edge 0x4000002c 0x40000044 ∷ Call 0x40000050 0x40000074 ∷ []

opening_past_an_enter : fails_of R.Target (with_word write_code 8 0x024000ef) (opened 0x40000044) 0x4000000c ≡ true
unfolding decoded code_of read_each recognised words_of starts is_start unit_at place_at line_at class_with targets_for leaves_in
opening_past_an_enter = refl

opening_to_the_closing : fails_of R.Target (with_word write_code 8 0x004000ef) (opened 0x40000024) 0x4000000c ≡ true
unfolding decoded code_of read_each recognised words_of starts is_start unit_at place_at line_at class_with targets_for leaves_in
opening_to_the_closing = refl

opening_to_a_leaf : any_fails lean_version_1 (with_word write_code 8 0x054000ef) (opened 0x40000074) (0x4000000c ∷ 0x4000002c ∷ 0x40000030 ∷ 0x40000044 ∷ 0x40000048 ∷ 0x40000050 ∷ 0x40000054 ∷ 0x40000058 ∷ 0x4000005c ∷ 0x40000060 ∷ 0x40000074 ∷ 0x40000078 ∷ 0x4000007c ∷ 0x40000080 ∷ 0x40000084 ∷ 0x40000088 ∷ 0x4000008c ∷ 0x40000090 ∷ 0x40000094 ∷ []) ≡ false
unfolding decoded code_of read_each recognised words_of starts is_start unit_at place_at line_at class_with targets_for leaves_in
opening_to_a_leaf = refl

jump_between_leaves : fails_of R.Target (opening 0x00c000ef ++ 0x0040006f ∷ 0x00008067 ∷ 0xfcdff06f ∷ []) (Leaf 0x4000002c 0x40000030 ∷ Leaf 0x40000030 0x40000034 ∷ Call 0x4000000c 0x4000002c ∷ Edge 0x4000002c 0x40000030 ∷ []) 0x4000002c ≡ true
unfolding decoded code_of read_each recognised words_of starts is_start unit_at place_at line_at class_with targets_for leaves_in
jump_between_leaves = refl

jump_to_its_leafs_end : any_fails lean_version_1 (opening 0x00c000ef ++ 0x0040006f ∷ 0x00008067 ∷ 0xfcdff06f ∷ []) (Leaf 0x4000002c 0x40000034 ∷ Call 0x4000000c 0x4000002c ∷ Edge 0x4000002c 0x40000030 ∷ []) (0x4000000c ∷ 0x4000002c ∷ 0x40000030 ∷ 0x40000034 ∷ 0x40000038 ∷ []) ≡ false
unfolding decoded code_of read_each recognised words_of starts is_start unit_at place_at line_at class_with targets_for leaves_in
jump_to_its_leafs_end = refl

-- a computed call of one of two places (p.s)
abbrev pointer_code : List ℕ
pointer_code =
    opening 0x010000ef ++ 0x0180006f ∷ 0x03019f13 ∷ 0x000f1463 ∷ 0xfd1ff06f ∷ 0x0011b023 ∷ 0x00818193 ∷ 0xff010113 ∷ 0x00417fb3 ∷ 0x001fb423 ∷ 0x000102b7 ∷ 0x0002b283 ∷ 0x00028f93 ∷ 0xffcfff93 ∷ 0x40000f37 ∷ 0x41ef8f33 ∷ 0x014f5f13 ∷ 0x000f0463 ∷ 0xf91ff06f ∷ 0x008faf03 ∷ 0x00001237 ∷ 0x03720213 ∷ 0x004f0463 ∷ 0xf7dff06f ∷ 0x10000237 ∷ 0xfff20213 ∷ 0x008f80e7 ∷ 0x00813083 ∷ 0x01010113 ∷ 0xff81bf83 ∷ 0xff818193 ∷ 0x001f8463 ∷ 0xf5dff06f ∷ 0x000f8067 ∷ 0x00000013 ∷ 0x01c0006f ∷ 0x00001037 ∷ 0x03019f13 ∷ 0x000f1463 ∷ 0xf45ff06f ∷ 0x0011b023 ∷ 0x00818193 ∷ 0x00100513 ∷ 0xff81bf83 ∷ 0xff818193 ∷ 0x001f8463 ∷ 0xf25ff06f ∷ 0x000f8067 ∷ 0x00000013 ∷ 0x01c0006f ∷ 0x00001037 ∷ 0x03019f13 ∷ 0x000f1463 ∷ 0xf0dff06f ∷ 0x0011b023 ∷ 0x00818193 ∷ 0x00200513 ∷ 0xff81bf83 ∷ 0xff818193 ∷ 0x001f8463 ∷ 0xeedff06f ∷ 0x000f8067 ∷ 0xee1ff06f ∷ []

abbrev pointer_lines : List ℕ → List GraphLine
pointer_lines targets = Class sorts.Calls 1 targets ∷ Call 0x4000000c 0x40000030 ∷ Edge 0x4000002c 0x40000044 ∷ Site 0x40000058 kinds.Call 1 ∷ Edge 0x400000b4 0x400000d0 ∷ Edge 0x400000ec 0x40000108 ∷ []

abbrev pointed : List ℕ
pointed = 0x400000b0 ∷ 0x400000e8 ∷ []

pointer_accepted : any_fails lean_version_1 pointer_code (pointer_lines pointed) (0x4000000c ∷ 0x4000002c ∷ 0x40000030 ∷ 0x40000044 ∷ 0x40000048 ∷ 0x40000050 ∷ 0x40000054 ∷ 0x40000058 ∷ 0x40000094 ∷ 0x40000098 ∷ 0x4000009c ∷ 0x400000b0 ∷ 0x400000b4 ∷ 0x400000b8 ∷ 0x400000bc ∷ 0x400000d0 ∷ 0x400000d4 ∷ 0x400000e8 ∷ 0x400000ec ∷ 0x400000f0 ∷ 0x400000f4 ∷ 0x40000108 ∷ 0x4000010c ∷ 0x40000120 ∷ 0x40000124 ∷ []) ≡ false
unfolding decoded code_of read_each recognised words_of starts is_start unit_at place_at line_at class_with targets_for leaves_in
pointer_accepted = refl

target_in_an_enter : fails_of R.Gate pointer_code (pointer_lines (0x400000b0 ∷ 0x400000e8 ∷ 0x400000ec ∷ [])) 0x400000ec ≡ true
unfolding decoded code_of read_each recognised words_of starts is_start unit_at place_at line_at class_with targets_for leaves_in
target_in_an_enter = refl

target_at_its_gate : fails_of R.Gate pointer_code (pointer_lines (0x400000b8 ∷ 0x400000e8 ∷ [])) 0x400000b8 ≡ true
unfolding decoded code_of read_each recognised words_of starts is_start unit_at place_at line_at class_with targets_for leaves_in
target_at_its_gate = refl

gate_of_no_target : fails_of R.Astray pointer_code (pointer_lines (0x400000b0 ∷ [])) 0x400000f0 ≡ true
unfolding decoded code_of read_each recognised words_of starts is_start unit_at place_at line_at class_with targets_for leaves_in
gate_of_no_target = refl

no_gate_before_an_enter : fails_of R.Leaf (with_word pointer_code 46 0x00000013) (pointer_lines pointed) 0x400000b8 ≡ true
unfolding decoded code_of read_each recognised words_of starts is_start unit_at place_at line_at class_with targets_for leaves_in
no_gate_before_an_enter = refl

gate_of_another_label : fails_of R.Gate (with_word pointer_code 46 0x00002037) (pointer_lines pointed) 0x400000b0 ≡ true
unfolding decoded code_of read_each recognised words_of starts is_start unit_at place_at line_at class_with targets_for leaves_in
gate_of_another_label = refl

second_gate : fails_of R.Astray (with_word pointer_code 52 0x00001037) (pointer_lines pointed) 0x400000d0 ≡ true
unfolding decoded code_of read_each recognised words_of starts is_start unit_at place_at line_at class_with targets_for leaves_in
second_gate = refl

gate_without_an_enter : fails_of R.Gate (with_word pointer_code 52 0x00001037) (pointer_lines (0x400000b0 ∷ 0x400000c8 ∷ 0x400000e8 ∷ [])) 0x400000c8 ≡ true
unfolding decoded code_of read_each recognised words_of starts is_start unit_at place_at line_at class_with targets_for leaves_in
gate_without_an_enter = refl

gate_at_the_target : fails_of R.Astray (with_word pointer_code 44 0x00001037) (pointer_lines pointed) 0x400000b0 ≡ true
unfolding decoded code_of read_each recognised words_of starts is_start unit_at place_at line_at class_with targets_for leaves_in
gate_at_the_target = refl

free_label : any_fails lean_version_1 (with_word pointer_code 44 0x00002037) (pointer_lines pointed) (0x4000000c ∷ 0x4000002c ∷ 0x40000030 ∷ 0x40000044 ∷ 0x40000048 ∷ 0x40000050 ∷ 0x40000054 ∷ 0x40000058 ∷ 0x40000094 ∷ 0x40000098 ∷ 0x4000009c ∷ 0x400000b0 ∷ 0x400000b4 ∷ 0x400000b8 ∷ 0x400000bc ∷ 0x400000d0 ∷ 0x400000d4 ∷ 0x400000e8 ∷ 0x400000ec ∷ 0x400000f0 ∷ 0x400000f4 ∷ 0x40000108 ∷ 0x4000010c ∷ 0x40000120 ∷ 0x40000124 ∷ []) ≡ false
unfolding decoded code_of read_each recognised words_of starts is_start unit_at place_at line_at class_with targets_for leaves_in
free_label = refl

-- a computed jump to one of two places, of which one is also called through a pointer (q.s)
abbrev pub jump_code : List ℕ
jump_code =
    opening 0x010000ef ++ 0x0180006f ∷ 0x03019f13 ∷ 0x000f1463 ∷ 0xfd1ff06f ∷ 0x0011b023 ∷ 0x00818193 ∷ 0x000102b7 ∷ 0x0002b283 ∷ 0x00028f93 ∷ 0xffcfff93 ∷ 0x40000f37 ∷ 0x41ef8f33 ∷ 0x014f5f13 ∷ 0x000f0463 ∷ 0xf9dff06f ∷ 0x000faf03 ∷ 0x00002237 ∷ 0x03720213 ∷ 0x004f0463 ∷ 0xf89ff06f ∷ 0x10000237 ∷ 0xfff20213 ∷ 0x000f8067 ∷ 0x00002037 ∷ 0x00100513 ∷ 0xff81bf83 ∷ 0xff818193 ∷ 0x001f8463 ∷ 0xf69ff06f ∷ 0x000f8067 ∷ 0x00002037 ∷ 0x01c0006f ∷ 0x00001037 ∷ 0x03019f13 ∷ 0x000f1463 ∷ 0xf51ff06f ∷ 0x0011b023 ∷ 0x00818193 ∷ 0x00200513 ∷ 0xff81bf83 ∷ 0xff818193 ∷ 0x001f8463 ∷ 0xf31ff06f ∷ 0x000f8067 ∷ 0x00028f93 ∷ 0xffcfff93 ∷ 0x40000f37 ∷ 0x41ef8f33 ∷ 0x014f5f13 ∷ 0x000f0463 ∷ 0xf0dff06f ∷ 0x008faf03 ∷ 0x00001237 ∷ 0x03720213 ∷ 0x004f0463 ∷ 0xef9ff06f ∷ 0x10000237 ∷ 0xfff20213 ∷ 0x008f80e7 ∷ 0xff81bf83 ∷ 0xff818193 ∷ 0x001f8463 ∷ 0xee1ff06f ∷ 0x000f8067 ∷ 0xed5ff06f ∷ []

abbrev pub jump_lines : List ℕ → List ℕ → List GraphLine
jump_lines calls jumps = Class sorts.Calls 1 calls ∷ Class sorts.Jumps 2 jumps ∷ Call 0x4000000c 0x40000030 ∷ Edge 0x4000002c 0x40000044 ∷ Site 0x4000004c kinds.Jump 2 ∷ Edge 0x400000a8 0x400000c4 ∷ Site 0x400000dc kinds.Call 1 ∷ []

abbrev pub jumped : List GraphLine
jumped = jump_lines (0x400000a4 ∷ []) (0x40000088 ∷ 0x400000a4 ∷ [])

jump_accepted : any_fails lean_version_1 jump_code jumped (0x4000000c ∷ 0x4000002c ∷ 0x40000030 ∷ 0x40000044 ∷ 0x40000048 ∷ 0x4000004c ∷ 0x40000088 ∷ 0x4000008c ∷ 0x40000090 ∷ 0x400000a4 ∷ 0x400000a8 ∷ 0x400000ac ∷ 0x400000b0 ∷ 0x400000c4 ∷ 0x400000c8 ∷ 0x400000dc ∷ 0x40000118 ∷ 0x4000012c ∷ 0x40000130 ∷ []) ≡ false
unfolding decoded code_of read_each recognised words_of starts is_start unit_at place_at line_at class_with targets_for leaves_in
jump_accepted = refl

jumps_target_without_a_gate : fails_of R.Gate jump_code (jump_lines (0x400000a4 ∷ []) (0x40000088 ∷ 0x400000a4 ∷ 0x400000a8 ∷ [])) 0x400000a8 ≡ true
unfolding decoded code_of read_each recognised words_of starts is_start unit_at place_at line_at class_with targets_for leaves_in
jumps_target_without_a_gate = refl

jumps_gate_is_fresh : fails_of R.Gate (with_word jump_code 43 0x00002037) (jump_lines [] (0x40000088 ∷ 0x400000a4 ∷ 0x400000ac ∷ [])) 0x400000ac ≡ true
unfolding decoded code_of read_each recognised words_of starts is_start unit_at place_at line_at class_with targets_for leaves_in
jumps_gate_is_fresh = refl

calls_gate_of_another_label : fails_of R.Gate (with_word jump_code 43 0x00002037) jumped 0x400000a4 ≡ true
unfolding decoded code_of read_each recognised words_of starts is_start unit_at place_at line_at class_with targets_for leaves_in
calls_gate_of_another_label = refl

jumps_gate_is_none : fails_of R.Gate (with_word jump_code 34 0x00000013) jumped 0x40000088 ≡ true
unfolding decoded code_of read_each recognised words_of starts is_start unit_at place_at line_at class_with targets_for leaves_in
jumps_gate_is_none = refl

jumps_gate_astray : fails_of R.Astray (with_word jump_code 49 0x00002037) jumped 0x400000c4 ≡ true
unfolding decoded code_of read_each recognised words_of starts is_start unit_at place_at line_at class_with targets_for leaves_in
jumps_gate_astray = refl

-- which units stand under which version
shifts_under_3 : is_of_version CalleeSaves (V.Stores Shifts 2 8 []) ≡ false
shifts_under_3 = refl

call_under_3 : is_of_version CalleeSaves (V.Call 0x40000040) ≡ false
call_under_3 = refl

computed_jump_under_3 : is_of_version CalleeSaves (V.Ijump First 5 0 1) ≡ false
computed_jump_under_3 = refl

computed_call_under_3 : is_of_version CalleeSaves (V.Icall 5 0 1) ≡ false
computed_call_under_3 = refl

enter_under_2 : is_of_version TwoLabels (V.Enter) ≡ false
enter_under_2 = refl

short_mask_under_2 : is_of_version TwoLabels (V.Stores Short 2 0 []) ≡ false
short_mask_under_2 = refl

leaf_return_under_1 : is_of_version OneLabel (V.LeafReturn) ≡ false
leaf_return_under_1 = refl

link_call_under_1 : is_of_version OneLabel (V.LinkCall 0x40000040) ≡ false
link_call_under_1 = refl

lean_jump_under_3 : is_of_version CalleeSaves (V.LeanIjump 5 0 1) ≡ true
lean_jump_under_3 = refl

lean_call_under_3 : is_of_version CalleeSaves (V.LeanIcall 5 0 1) ≡ true
lean_call_under_3 = refl
