-- Worked codes of placed units whose callees save sites: they are sound, and so meet the rules.
use Rattle.std.proofs.Common.{◌≡◌, inl, inr, true, false, List, [], ◌∷◌, refl, lit<, arith}
use Rattle.rv_image.specs.declared.version.GraphVersion.TheVariants.{CalleeSaves}
use Rattle.rv_image.specs.MemoryMap.{lean_version_1}
use Rattle.rv_instr.specs.declared.instr.Instr.TheVariants.{Upper, Load, Immediate}
use Rattle.rv_instr.specs.declared.instr.ImmediateOp.TheVariants.{Addi}
use Rattle.rv_instr.specs.declared.instr.LoadOp.TheVariants.{Ld}
use Rattle.rv_instr.specs.declared.instr.StoreOp.TheVariants.{Sd}
use Rattle.rv_instr.specs.declared.instr.UpperOp.TheVariants.{Auipc, Lui}
use Rattle.rv_code.specs.Decode.{decoded}
use Rattle.rv_code.specs.Encode.{code_of}
use Rattle.cfi_graph.specs.declared.line.GraphLine.{GraphLine}
use Rattle.cfi_graph.specs.declared.line.GraphLine.TheVariants.{Leaf, Class}
use Rattle.cfi_graph.specs.declared.line.Sort.TheVariants as sorts
use Rattle.cfi_unit.specs.declared.mask.Mask.TheVariants.{Short}
use Rattle.cfi_unit.specs.declared.unit.Unit as U
use Rattle.cfi_unit.specs.declared.unit.Unit.TheVariants as V
use Rattle.cfi_unit.specs.declared.unit.SystemOp.TheVariants as S
use Rattle.cfi_unit.specs.UnitWords.{words_of}
use Rattle.cfi_rules.specs.Lines.{class_with, leaves_in, targets_for}
use Rattle.cfi_rules.specs.Placed.{AllAhead, AllFit, code_from, lines_from, placed_code, placed_lines}
use Rattle.cfi_rules.specs.Sound.{IsSound}
use Rattle.cfi_rules.specs.Split.{unit_in}
use Rattle.cfi_rules.proofs.LeanRows.{jump_code, jumped, write_code, write_lines}
use Rattle.cfi_rules.proofs.PlacedRows.{all_from, one_member, sound_by}

-- an entry that calls a leaf, which writes (h.s)
abbrev write_units : List U.Unit
write_units =
    V.Jump 0x40000044
    ∷ V.Enter
    ∷ V.Plain (Immediate Addi 2 2 0xff0)
    ∷ V.Stores Short 2 0 (record { op = Sd; value = 1; distance = 8 } ∷ [])
    ∷ V.LinkCall 0x40000074
    ∷ V.Plain (Immediate Addi 10 0 0)
    ∷ V.Plain (Load Ld 1 2 8)
    ∷ V.Plain (Immediate Addi 2 2 16)
    ∷ V.Return
    ∷ V.Plain (Upper Auipc 11 0xc0010)
    ∷ V.Plain (Immediate Addi 11 11 0xf8c)
    ∷ V.Plain (Immediate Addi 10 0 1)
    ∷ V.Plain (Immediate Addi 12 0 3)
    ∷ V.Plain (Immediate Addi 17 0 64)
    ∷ V.System S.Ecall
    ∷ V.LeafReturn
    ∷ V.Stop
    ∷ []

abbrev write_leaf : List GraphLine
write_leaf = Leaf 0x40000074 0x40000090 ∷ []

write_words : placed_code lean_version_1 0x40000030 write_units ≡ write_code
unfolding code_of code_from words_of
write_words = refl

write_all_lines : placed_lines lean_version_1 0x40000030 write_units write_leaf ≡ write_lines
unfolding lines_from
write_all_lines = refl

write_fit : AllFit 0x4000002c write_units
unfolding AllFit
write_fit =
    ((λ e. omega (arith, e), refl), (refl, (((lit< tt, lit< tt, lit< tt), refl), ((lit< tt, lit< tt, one_member _ (lit< tt, lit< tt), refl), (refl, (((lit< tt, lit< tt, lit< tt), refl), (((lit< tt, lit< tt, lit< tt), refl), (((lit< tt, lit< tt, lit< tt), refl), (refl, (((lit< tt, lit< tt), refl), (((lit< tt, lit< tt, lit< tt), refl), (((lit< tt, lit< tt, lit< tt), refl), (((lit< tt, lit< tt, lit< tt), refl), (((lit< tt, lit< tt, lit< tt), refl), (tt, (tt, (refl, tt)))))))))))))))))

write_ahead : AllAhead 0x4000002c write_units
unfolding AllAhead code_from words_of decoded code_of
write_ahead = (refl, (refl, (refl, (refl, (refl, (refl, (refl, (refl, (refl, (refl, (refl, (refl, (refl, (refl, (refl, (refl, (refl, tt)))))))))))))))))

write_sound : IsSound lean_version_1 CalleeSaves 0x40000030 write_units write_leaf
unfolding all_from class_with targets_for unit_in leaves_in
write_sound = sound_by lean_version_1 CalleeSaves 0x40000030 write_units write_leaf (record {
  profile_is = inr (inl refl);
  saves_so = refl;
  each_fit = write_fit;
  each_ahead = write_ahead;
  each_admitted = refl;
  each_right = refl;
  each_kind = refl;
  each_ended = refl;
  reached = refl;
  called = refl;
  begun = refl;
  all_heads = refl;
  borne = refl;
  stops = refl;
})

-- a computed jump to one of two places, of which one is also called through a pointer (q.s)
abbrev jump_units : List U.Unit
jump_units =
    V.Jump 0x40000044
    ∷ V.Enter
    ∷ V.Plain (Upper Lui 5 0x10)
    ∷ V.Plain (Load Ld 5 5 0)
    ∷ V.LeanIjump 5 0 2
    ∷ V.Gate 2
    ∷ V.Plain (Immediate Addi 10 0 1)
    ∷ V.Return
    ∷ V.Gate 2
    ∷ V.Jump 0x400000c4
    ∷ V.Gate 1
    ∷ V.Enter
    ∷ V.Plain (Immediate Addi 10 0 2)
    ∷ V.Return
    ∷ V.LeanIcall 5 0 1
    ∷ V.Return
    ∷ V.Stop
    ∷ []

abbrev jump_classes : List GraphLine
jump_classes = Class sorts.Calls 1 (0x400000a4 ∷ []) ∷ Class sorts.Jumps 2 (0x40000088 ∷ 0x400000a4 ∷ []) ∷ []

jump_words : placed_code lean_version_1 0x40000030 jump_units ≡ jump_code
unfolding code_of code_from words_of
jump_words = refl

jump_all_lines : placed_lines lean_version_1 0x40000030 jump_units jump_classes ≡ jumped
unfolding lines_from
jump_all_lines = refl

jump_fit : AllFit 0x4000002c jump_units
unfolding AllFit
jump_fit =
    ((λ e. omega (arith, e), refl), (refl, (((lit< tt, lit< tt), refl), (((lit< tt, lit< tt, lit< tt), refl), ((lit< tt, lit< tt, lit< tt, refl, refl), (lit< tt, (((lit< tt, lit< tt, lit< tt), refl), (refl, (lit< tt, ((λ e. omega (arith, e), refl), (lit< tt, (refl, (((lit< tt, lit< tt, lit< tt), refl), (refl, ((lit< tt, lit< tt, lit< tt, refl, refl), (refl, (refl, tt)))))))))))))))))

jump_ahead : AllAhead 0x4000002c jump_units
unfolding AllAhead code_from words_of decoded code_of
jump_ahead = (refl, (refl, (refl, (refl, (refl, (refl, (refl, (refl, (refl, (refl, (refl, (refl, (refl, (refl, (refl, (refl, (refl, tt)))))))))))))))))

jump_sound : IsSound lean_version_1 CalleeSaves 0x40000030 jump_units jump_classes
unfolding all_from class_with targets_for unit_in leaves_in
jump_sound = sound_by lean_version_1 CalleeSaves 0x40000030 jump_units jump_classes (record {
  profile_is = inr (inl refl);
  saves_so = refl;
  each_fit = jump_fit;
  each_ahead = jump_ahead;
  each_admitted = refl;
  each_right = refl;
  each_kind = refl;
  each_ended = refl;
  reached = refl;
  called = refl;
  begun = refl;
  all_heads = refl;
  borne = refl;
  stops = refl;
})

-- with the line of a leaf that begins inside a unit they are not, nor with the jump over the enter as the entry
begins_inside : IsSound lean_version_1 CalleeSaves 0x40000030 write_units (Leaf 0x40000070 0x40000090 ∷ []) → ⊥
unfolding unit_in leaves_in
begins_inside sound =
    let begins : false ≡ true = (sound.leaves 0 (record { from = 0x40000070; to = 0x40000090 }) refl).0 in
    absurd (cc)

enters_before : IsSound lean_version_1 CalleeSaves 0x4000002c write_units write_leaf → ⊥
unfolding unit_in leaves_in
enters_before sound = let called : false ≡ true = sound.entry_called in absurd (cc)
