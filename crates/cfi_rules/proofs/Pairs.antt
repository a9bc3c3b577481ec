-- Worked pairs, computed: which rule fails, and where.
use Rattle.std.proofs.Common.{◌≡◌, ℕ, ◌+◌, ◌*◌, Bool, List, [], ◌∷◌, ◌++◌, length, take, drop, refl, true, false}
use Rattle.rv_image.specs.declared.version.GraphVersion.TheVariants.{OneLabel}
use Rattle.rv_image.specs.MemoryMap.{version_1}
use Rattle.rv_code.specs.Decode.{decoded}
use Rattle.rv_code.specs.Encode.{code_of}
use Rattle.cfi_graph.specs.declared.line.GraphLine.{GraphLine}
use Rattle.cfi_graph.specs.declared.line.Sort.TheVariants as sorts
use Rattle.cfi_graph.specs.declared.line.GraphLine.TheVariants.{Class, Edge, Call}
use Rattle.cfi_unit.specs.Recognise.{read_each, recognised}
use Rattle.cfi_unit.specs.UnitWords.{words_of}
use Rattle.cfi_rules.specs.Lines.{line_at, class_with, leaves_in, targets_for}
use Rattle.cfi_rules.specs.Rules.{fails}
use Rattle.cfi_rules.specs.Split.{starts, is_start, unit_at, place_at}
use Rattle.cfi_rules.specs.declared.reject.Rule as K
use Rattle.cfi_rules.specs.declared.reject.Rule.TheVariants as R

-- whether a rule fails, of a code and the lines of its graph
abbrev fails_of : K.Rule → List ℕ → List GraphLine → ℕ → Bool
fails_of rule words lines a = fails rule version_1 words (record { version = OneLabel; code = 4 * length words; lines = lines }) a

-- the prologue
abbrev opening : List ℕ
opening = 0x00100073 ∷ 0x00100073 ∷ 0x00100073 ∷ 0x10000137 ∷ 0x600001b7 ∷ 0x00818193 ∷ 0x03019f13 ∷ 0x000f1463 ∷ 0xfe9ff06f ∷ 0x00000f17 ∷ 0x014f0f13 ∷ 0x01e1b023 ∷ 0x00818193 ∷ 0x00c000ef ∷ 0x05d00893 ∷ 0x00000073 ∷ []

-- a whole code: behind the prologue one instruction, a call of the exit, and a jump back to the closing
abbrev code : List ℕ
code = opening ++ 0x00700513 ∷ 0x05d00893 ∷ 0x00000073 ∷ 0xfb5ff06f ∷ []

-- the same with another word at an index
abbrev with_word : ℕ → ℕ → List ℕ
with_word k word = take k code ++ word ∷ drop (k + 1) code

-- its graph: the prologue calls what stands behind it
abbrev entering : List GraphLine
entering = Call 0x4000000c 0x40000040 ∷ []

-- a rule holds of it at the call, at the first and the last unit and at its end
abbrev Holds : K.Rule → Type 0
Holds rule =
    (fails_of rule code entering 0x4000000c ≡ false) × (fails_of rule code entering 0x40000040 ≡ false)
    × (fails_of rule code entering 0x4000004c ≡ false) × (fails_of rule code entering 0x40000050 ≡ false)

holds_Prologue : Holds R.Prologue
unfolding decoded code_of read_each recognised words_of starts is_start unit_at place_at line_at class_with targets_for leaves_in
holds_Prologue = (refl, refl, refl, refl)

holds_Unit : Holds R.Unit
unfolding decoded code_of read_each recognised words_of starts is_start unit_at place_at line_at class_with targets_for leaves_in
holds_Unit = (refl, refl, refl, refl)

holds_Leaf : Holds R.Leaf
unfolding decoded code_of read_each recognised words_of starts is_start unit_at place_at line_at class_with targets_for leaves_in
holds_Leaf = (refl, refl, refl, refl)

holds_Target : Holds R.Target
unfolding decoded code_of read_each recognised words_of starts is_start unit_at place_at line_at class_with targets_for leaves_in
holds_Target = (refl, refl, refl, refl)

holds_Unlisted : Holds R.Unlisted
unfolding decoded code_of read_each recognised words_of starts is_start unit_at place_at line_at class_with targets_for leaves_in
holds_Unlisted = (refl, refl, refl, refl)

holds_Unused : Holds R.Unused
unfolding decoded code_of read_each recognised words_of starts is_start unit_at place_at line_at class_with targets_for leaves_in
holds_Unused = (refl, refl, refl, refl)

holds_Site : Holds R.Site
unfolding decoded code_of read_each recognised words_of starts is_start unit_at place_at line_at class_with targets_for leaves_in
holds_Site = (refl, refl, refl, refl)

holds_Gate : Holds R.Gate
unfolding decoded code_of read_each recognised words_of starts is_start unit_at place_at line_at class_with targets_for leaves_in
holds_Gate = (refl, refl, refl, refl)

holds_Astray : Holds R.Astray
unfolding decoded code_of read_each recognised words_of starts is_start unit_at place_at line_at class_with targets_for leaves_in
holds_Astray = (refl, refl, refl, refl)

holds_End : Holds R.End
unfolding decoded code_of read_each recognised words_of starts is_start unit_at place_at line_at class_with targets_for leaves_in
holds_End = (refl, refl, refl, refl)

pair_1 : fails_of R.Prologue (with_word 2 0x00000013) entering 0x40000008 ≡ true
unfolding decoded code_of read_each recognised words_of starts is_start unit_at place_at line_at class_with targets_for leaves_in
pair_1 = refl

pair_2 : fails_of R.Prologue (with_word 14 0x05e00893) entering 0x40000038 ≡ true
unfolding decoded code_of read_each recognised words_of starts is_start unit_at place_at line_at class_with targets_for leaves_in
pair_2 = refl

pair_4 : fails_of R.Unit (with_word 16 0x00100f13) entering 0x40000040 ≡ true
unfolding decoded code_of read_each recognised words_of starts is_start unit_at place_at line_at class_with targets_for leaves_in
pair_4 = refl

pair_5 : fails_of R.Unit (with_word 16 0x0052b023) entering 0x40000040 ≡ true
unfolding decoded code_of read_each recognised words_of starts is_start unit_at place_at line_at class_with targets_for leaves_in
pair_5 = refl

pair_6 : fails_of R.Unit (with_word 16 0x00028067) entering 0x40000040 ≡ true
unfolding decoded code_of read_each recognised words_of starts is_start unit_at place_at line_at class_with targets_for leaves_in
pair_6 = refl

pair_7 : fails_of R.Target (with_word 13 0x004000ef) entering 0x4000000c ≡ true
unfolding decoded code_of read_each recognised words_of starts is_start unit_at place_at line_at class_with targets_for leaves_in
pair_7 = refl

pair_8 : fails_of R.Unlisted (with_word 16 0x0080006f) entering 0x40000040 ≡ true
unfolding decoded code_of read_each recognised words_of starts is_start unit_at place_at line_at class_with targets_for leaves_in
pair_8 = refl

pair_9 : fails_of R.End (with_word 19 0x00000013) entering 0x4000004c ≡ true
unfolding decoded code_of read_each recognised words_of starts is_start unit_at place_at line_at class_with targets_for leaves_in
pair_9 = refl

pair_10 : fails_of R.Unit (opening ++ 0x00700513 ∷ 0xff81bf83 ∷ 0xff818193 ∷ 0x001f8463 ∷ 0xfb5ff06f ∷ 0x00008067 ∷ 0xfa9ff06f ∷ []) entering 0x40000044 ≡ true
unfolding decoded code_of read_each recognised words_of starts is_start unit_at place_at line_at class_with targets_for leaves_in
pair_10 = refl

row_17a : fails_of R.Astray (with_word 16 0x00001037) (Class sorts.Both 1 [] ∷ entering) 0x40000040 ≡ true
unfolding decoded code_of read_each recognised words_of starts is_start unit_at place_at line_at class_with targets_for leaves_in
row_17a = refl

row_17b : fails_of R.Unused (opening ++ 0x00700513 ∷ 0xff81bf83 ∷ 0xff818193 ∷ 0x001f8463 ∷ 0xfb5ff06f ∷ 0x000f8067 ∷ 0xfa9ff06f ∷ []) (Call 0x4000000c 0x40000040 ∷ Edge 0x40000040 0x40000044 ∷ []) 0x40000040 ≡ true
unfolding decoded code_of read_each recognised words_of starts is_start unit_at place_at line_at class_with targets_for leaves_in
row_17b = refl

row_17c : fails_of R.Target (opening ++ 0x0080006f ∷ 0xff81bf83 ∷ 0xff818193 ∷ 0x001f8463 ∷ 0xfb5ff06f ∷ 0x000f8067 ∷ 0xfa9ff06f ∷ []) entering 0x40000040 ≡ true
unfolding decoded code_of read_each recognised words_of starts is_start unit_at place_at line_at class_with targets_for leaves_in
row_17c = refl
