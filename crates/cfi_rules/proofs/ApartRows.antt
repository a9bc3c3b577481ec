-- A worked code under version 2 of graphs, and what each rule finds wrong of small changes of it.
use Rattle.std.proofs.Common.{◌≡◌, ℕ, ◌*◌, inl, Bool, true, false, List, [], ◌∷◌, length, refl, lit<}
use Rattle.std.specs.Prelude.{None}
use Rattle.rv_image.specs.declared.version.GraphVersion.{GraphVersion}
use Rattle.rv_image.specs.declared.version.GraphVersion.TheVariants.{OneLabel, TwoLabels}
use Rattle.rv_image.specs.MemoryMap.{version_1}
use Rattle.rv_instr.specs.declared.instr.Instr.TheVariants.{Upper, Load, Immediate}
use Rattle.rv_instr.specs.declared.instr.ImmediateOp.TheVariants.{Addi}
use Rattle.rv_instr.specs.declared.instr.LoadOp.TheVariants.{Ld}
use Rattle.rv_instr.specs.declared.instr.StoreOp.TheVariants.{Sd}
use Rattle.rv_instr.specs.declared.instr.UpperOp.TheVariants.{Lui}
use Rattle.rv_code.specs.Decode.{decoded}
use Rattle.rv_code.specs.Encode.{code_of}
use Rattle.cfi_graph.specs.declared.line.GraphLine.{GraphLine}
use Rattle.cfi_graph.specs.declared.line.Sort.TheVariants as sorts
use Rattle.cfi_graph.specs.declared.line.GraphLine.TheVariants.{Class, Site, Call}
use Rattle.cfi_graph.specs.declared.line.SiteKind.TheVariants as K
use Rattle.cfi_unit.specs.declared.mask.Mask.TheVariants.{Shifts}
use Rattle.cfi_unit.specs.declared.unit.Unit as U
use Rattle.cfi_unit.specs.declared.unit.Unit.TheVariants as V
use Rattle.cfi_unit.specs.declared.target_word.TargetWord.TheVariants.{First, Second}
use Rattle.cfi_unit.specs.Recognise.{read_each, recognised}
use Rattle.cfi_unit.specs.UnitWords.{words_of}
use Rattle.cfi_rules.specs.Lines.{class_with, leaves_in, line_at, targets_for}
use Rattle.cfi_rules.specs.Placed.{AllAhead, AllFit, code_from, lines_from, placed_code, placed_lines}
use Rattle.cfi_rules.specs.Rules.{fails, is_of_version}
use Rattle.cfi_rules.specs.Sound.{IsSound}
use Rattle.cfi_rules.specs.Split.{is_start, place_at, starts, unit_at, unit_in}
use Rattle.cfi_rules.specs.declared.reject.Rule.{Rule}
use Rattle.cfi_rules.specs.declared.reject.Rule.TheVariants as R
use Rattle.cfi_rules.proofs.PlacedRows.{all_from, one_member, sound_by}

-- a computed call of a place for calls or one for both, then a computed jump to a place for jumps or to
-- the one for both (apart.s); the jump, and the two words of the place for jumps, may be others
abbrev apart_with : U.Unit → U.Unit → U.Unit → List U.Unit
apart_with jump first second =
    V.Plain (Immediate Addi 2 2 0xff0)
    ∷ V.Stores Shifts 2 8 (record { op = Sd; value = 1; distance = 0 } ∷ [])
    ∷ V.Plain (Upper Lui 5 0x10)
    ∷ V.Plain (Load Ld 5 5 0)
    ∷ V.Icall 5 0 1
    ∷ V.Plain (Load Ld 1 2 8)
    ∷ V.Plain (Immediate Addi 2 2 16)
    ∷ V.Plain (Upper Lui 5 0x10)
    ∷ V.Plain (Load Ld 5 5 8)
    ∷ jump
    ∷ V.Gate 1
    ∷ V.Plain (Immediate Addi 0 0 0)
    ∷ V.Plain (Immediate Addi 10 10 1)
    ∷ V.Return
    ∷ first
    ∷ second
    ∷ V.Plain (Immediate Addi 10 10 2)
    ∷ V.Return
    ∷ V.Gate 1
    ∷ V.Gate 2
    ∷ V.Plain (Immediate Addi 10 10 4)
    ∷ V.Return
    ∷ V.Stop
    ∷ []

abbrev bare : U.Unit
bare = V.Plain (Immediate Addi 0 0 0)

abbrev apart_units : List U.Unit
apart_units = apart_with (V.Ijump Second 5 0 2) bare (V.Gate 2)

abbrev apart_classes : List GraphLine
apart_classes = Class sorts.Calls 1 (0x400000f0 ∷ 0x40000130 ∷ []) ∷ Class sorts.Jumps 2 (0x40000110 ∷ 0x40000130 ∷ []) ∷ []

apart_code : code_from 0x40000040 apart_units ≡ 0xff010113 ∷ 0x00810f93 ∷ 0x024f9f93 ∷ 0x024fdf93 ∷ 0x001fb023 ∷ 0x000102b7 ∷ 0x0002b283 ∷ 0x00028f93 ∷ 0xffcfff93 ∷ 0x40000f37 ∷ 0x41ef8f33 ∷ 0x014f5f13 ∷ 0x000f0463 ∷ 0xf8dff06f ∷ 0x000faf03 ∷ 0x00001237 ∷ 0x03720213 ∷ 0x004f0463 ∷ 0xf79ff06f ∷ 0x03019f13 ∷ 0x000f1463 ∷ 0xf75ff06f ∷ 0x00000f17 ∷ 0x014f0f13 ∷ 0x01e1b023 ∷ 0x00818193 ∷ 0x000f80e7 ∷ 0x00813083 ∷ 0x01010113 ∷ 0x000102b7 ∷ 0x0082b283 ∷ 0x00028f93 ∷ 0xffcfff93 ∷ 0x40000f37 ∷ 0x41ef8f33 ∷ 0x014f5f13 ∷ 0x000f0463 ∷ 0xf2dff06f ∷ 0x004faf03 ∷ 0x00002237 ∷ 0x03720213 ∷ 0x004f0463 ∷ 0xf19ff06f ∷ 0x000f8067 ∷ 0x00001037 ∷ 0x00000013 ∷ 0x00150513 ∷ 0xff81bf83 ∷ 0xff818193 ∷ 0x001f8463 ∷ 0xefdff06f ∷ 0x000f8067 ∷ 0x00000013 ∷ 0x00002037 ∷ 0x00250513 ∷ 0xff81bf83 ∷ 0xff818193 ∷ 0x001f8463 ∷ 0xeddff06f ∷ 0x000f8067 ∷ 0x00001037 ∷ 0x00002037 ∷ 0x00450513 ∷ 0xff81bf83 ∷ 0xff818193 ∷ 0x001f8463 ∷ 0xebdff06f ∷ 0x000f8067 ∷ 0xeb1ff06f ∷ []
unfolding code_of code_from words_of
apart_code = refl

apart_lines : placed_lines version_1 0x40000040 apart_units apart_classes ≡ Class sorts.Calls 1 (0x400000f0 ∷ 0x40000130 ∷ []) ∷ Class sorts.Jumps 2 (0x40000110 ∷ 0x40000130 ∷ []) ∷ Call 0x4000000c 0x40000040 ∷ Site 0x4000005c K.Call 1 ∷ Site 0x400000bc K.Jump 2 ∷ []
unfolding lines_from
apart_lines = refl

apart_fit : AllFit 0x40000040 apart_units
unfolding AllFit
apart_fit =
    (((lit< tt, lit< tt, lit< tt), refl), ((lit< tt, lit< tt, one_member _ (lit< tt, lit< tt), tt), (((lit< tt, lit< tt), refl), (((lit< tt, lit< tt, lit< tt), refl), (((lit< tt, lit< tt, lit< tt, refl, refl), refl), (((lit< tt, lit< tt, lit< tt), refl), (((lit< tt, lit< tt, lit< tt), refl), (((lit< tt, lit< tt), refl), (((lit< tt, lit< tt, lit< tt), refl), ((lit< tt, lit< tt, lit< tt, refl, refl), (lit< tt, (((lit< tt, lit< tt, lit< tt), refl), (((lit< tt, lit< tt, lit< tt), refl), (refl, (((lit< tt, lit< tt, lit< tt), refl), (lit< tt, (((lit< tt, lit< tt, lit< tt), refl), (refl, (lit< tt, (lit< tt, (((lit< tt, lit< tt, lit< tt), refl), (refl, (refl, tt)))))))))))))))))))))))

apart_ahead : AllAhead 0x40000040 apart_units
unfolding AllAhead code_from words_of decoded code_of
apart_ahead =
    (refl, (refl, (refl, (refl, (refl, (refl, (refl, (refl, (refl, (refl, (refl, (refl, (refl, (refl, (refl, (refl, (refl, (refl, (refl, (refl, (refl, (refl, (refl, tt)))))))))))))))))))))))

apart_sound : IsSound version_1 TwoLabels 0x40000040 apart_units apart_classes
unfolding all_from class_with targets_for unit_in leaves_in
apart_sound = sound_by version_1 TwoLabels 0x40000040 apart_units apart_classes (record {
  profile_is = inl (inl refl);
  saves_so = refl;
  each_fit = apart_fit;
  each_ahead = apart_ahead;
  each_admitted = refl;
  each_right = refl;
  each_kind = refl;
  each_ended = refl;
  reached = refl;
  called = refl;
  begun = refl;
  all_heads = refl;
  borne = refl;
  stops = refl;
})

-- a jump's check of the first word is none of version 2, one of the second none of version 1
first_under_2 : is_of_version TwoLabels (V.Ijump First 5 0 2) ≡ false
first_under_2 = refl

second_under_1 : is_of_version OneLabel (V.Ijump Second 5 0 2) ≡ false
second_under_1 = refl

-- the label of one sort serves no transfer of the other
jumps_label_of_a_call : targets_for apart_classes K.Call First 2 ≡ None
unfolding class_with targets_for
jumps_label_of_a_call = refl

calls_label_of_a_jump : targets_for apart_classes K.Jump Second 1 ≡ None
unfolding class_with targets_for
calls_label_of_a_jump = refl

-- whether a rule fails, of units and the classes of their graph
abbrev pub fails_of : GraphVersion → Rule → List U.Unit → List GraphLine → ℕ → Bool
fails_of version rule us classes a =
    fails rule version_1 (placed_code version_1 0x40000040 us)
    (record { version = version; code = 4 * length (placed_code version_1 0x40000040 us); lines = placed_lines version_1 0x40000040 us classes }) a

unit_of_version_1 : fails_of TwoLabels R.Unit (apart_with (V.Ijump First 5 0 2) bare (V.Gate 2)) apart_classes 0x400000bc ≡ true
unfolding decoded code_of code_from lines_from read_each recognised words_of starts is_start unit_at
unit_of_version_1 = refl

unit_of_version_2 : fails_of OneLabel R.Unit apart_units apart_classes 0x400000bc ≡ true
unfolding decoded code_of code_from lines_from read_each recognised words_of starts is_start unit_at
unit_of_version_2 = refl

-- the jump asks for the label of calls
label_of_calls : fails_of TwoLabels R.Site (apart_with (V.Ijump Second 5 0 1) bare (V.Gate 2)) apart_classes 0x400000bc ≡ true
unfolding decoded code_of code_from lines_from read_each recognised words_of starts is_start unit_at place_at line_at class_with targets_for
label_of_calls = refl

-- the place for jumps bears its label at its first word
no_gate_behind : fails_of TwoLabels R.Gate (apart_with (V.Ijump Second 5 0 2) (V.Gate 2) bare) apart_classes 0x40000110 ≡ true
unfolding decoded code_of code_from lines_from read_each recognised words_of starts is_start unit_at
no_gate_behind = refl

gate_astray : fails_of TwoLabels R.Astray (apart_with (V.Ijump Second 5 0 2) (V.Gate 2) bare) apart_classes 0x40000110 ≡ true
unfolding decoded code_of code_from lines_from read_each recognised words_of starts is_start unit_at class_with
gate_astray = refl

-- so the last word of the unit before it has the gate behind it, but no unit starts there
inside_a_unit : fails_of TwoLabels R.Gate (apart_with (V.Ijump Second 5 0 2) (V.Gate 2) bare) (Class sorts.Calls 1 (0x400000f0 ∷ 0x40000130 ∷ []) ∷ Class sorts.Jumps 2 (0x4000010c ∷ 0x40000130 ∷ []) ∷ []) 0x4000010c ≡ true
unfolding decoded code_of code_from lines_from read_each recognised words_of starts is_start unit_at
inside_a_unit = refl
