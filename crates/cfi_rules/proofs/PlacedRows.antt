-- Worked codes of placed units: their words are what binutils make of the sources in tests/units, their
-- lines those of the programs' graphs; when tests of units and classes show that they are sound; and of one
-- of the codes they do.
use Rattle.std.proofs.Common.{◌≡◌, ℕ, zero, suc, ◌+◌, ◌*◌, ◌==◌, inl, inr, Bool, true, false, List, [], ◌∷◌, refl, sym, ap, subst, ◌∙◌, length, lit<, arith}
use Rattle.std.specs.Prelude.{Option, Some, None, ◌&&◌, ◌||◌, is_some, not, option_and_then, slice_get}
use Rattle.std.specs.List.{last_or, list_all}
use Rattle.std.proofs.lemmas.Bool.{and_parts, cases_eq, eqb-true, or_cases, not-false}
use Rattle.std.proofs.lemmas.Option.{same_Some}
use Rattle.rv_image.specs.declared.version.GraphVersion.{GraphVersion}
use Rattle.rv_image.specs.declared.version.GraphVersion.TheVariants.{OneLabel}
use Rattle.rv_image.specs.MemoryMap.{IsProfile, Profile, version_1}
use Rattle.rv_instr.specs.declared.instr.Instr.TheVariants.{Upper, Load, Immediate}
use Rattle.rv_instr.specs.declared.instr.BranchOp.TheVariants.{Beq, Bne}
use Rattle.rv_instr.specs.declared.instr.ImmediateOp.TheVariants.{Addi}
use Rattle.rv_instr.specs.declared.instr.LoadOp.TheVariants.{Ld}
use Rattle.rv_instr.specs.declared.instr.StoreOp.TheVariants.{Sd}
use Rattle.rv_instr.specs.declared.instr.UpperOp.TheVariants.{Lui}
use Rattle.rv_code.specs.Decode.{decoded}
use Rattle.rv_code.specs.Encode.{code_of}
use Rattle.cfi_graph.specs.declared.line.GraphLine.{GraphLine}
use Rattle.cfi_graph.specs.declared.line.Sort.TheVariants as sorts
use Rattle.cfi_graph.specs.declared.line.GraphLine.TheVariants.{Class, Site, Edge, Call}
use Rattle.cfi_graph.specs.Graph.{ClassLine, GraphParts, calls_in, class_in, has_leaves}
use Rattle.cfi_graph.specs.declared.line.SiteKind.TheVariants as K
use Rattle.cfi_unit.specs.declared.mask.Mask.TheVariants.{Shifts}
use Rattle.cfi_unit.specs.declared.unit.Unit as U
use Rattle.cfi_unit.specs.declared.unit.Unit.TheVariants as V
use Rattle.cfi_unit.specs.declared.unit.SystemOp.TheVariants as S
use Rattle.cfi_unit.specs.declared.place.Place.TheVariants.{Body as body}
use Rattle.cfi_unit.specs.declared.target_word.TargetWord.{TargetWord}
use Rattle.cfi_unit.specs.declared.target_word.TargetWord.TheVariants.{First, Second, Third}
use Rattle.cfi_unit.specs.Members.{AreMembers, IsMember}
use Rattle.cfi_unit.specs.declared.members.Member.{Member}
use Rattle.cfi_unit.specs.Flow.{flow_of}
use Rattle.cfi_unit.specs.UnitWords.{Reaches, after_unit, words_of}
use Rattle.cfi_pending.specs.Kinds.{IsOfItsKind, Leaf, goes_on, is_enter, is_fresh, is_right_behind, is_right_target, leaf_of, stands_by}
use Rattle.cfi_rules.specs.declared.asks.Asks.{Asks}
use Rattle.cfi_rules.specs.Lines.{class_with, holds_of, is_among, is_beside, is_word_of, leaves_in, read_of, targets_for}
use Rattle.cfi_rules.specs.Placed.{AllAhead, AllFit, code_from, is_head, lines_from, placed_code, placed_lines}
use Rattle.cfi_rules.specs.Rules.{Signs, admits, gate_of, is_astray, is_borne, is_label, site_of}
use Rattle.cfi_rules.specs.Sound.{Bears, EndsIn, IsSound, StartsIn, may_be_entered, target_of}
use Rattle.cfi_rules.specs.Split.{unit_in}
use Rattle.cfi_rules.proofs.RuleFacts.{gate_is}
use Rattle.cfi_rules.proofs.UnitIn.{in_here, in_later}

-- a computed call of one of two functions (p.s)
abbrev p_units : List U.Unit
p_units =
    V.Plain (Immediate Addi 2 2 0xff0)
    ∷ V.Stores Shifts 2 8 (record { op = Sd; value = 1; distance = 0 } ∷ [])
    ∷ V.Plain (Upper Lui 5 0x10)
    ∷ V.Plain (Load Ld 5 5 0)
    ∷ V.Icall 5 0 1
    ∷ V.Plain (Load Ld 1 2 8)
    ∷ V.Plain (Immediate Addi 2 2 16)
    ∷ V.Return
    ∷ V.Gate 1
    ∷ V.Plain (Immediate Addi 10 0 1)
    ∷ V.Return
    ∷ V.Gate 1
    ∷ V.Plain (Immediate Addi 10 0 2)
    ∷ V.Return
    ∷ V.Stop
    ∷ []

abbrev p_classes : List GraphLine
p_classes = Class sorts.Both 1 (0x400000c8 ∷ 0x400000e4 ∷ []) ∷ []

p_code : placed_code version_1 0x40000040 p_units ≡ 0x00100073 ∷ 0x00100073 ∷ 0x00100073 ∷ 0x10000137 ∷ 0x600001b7 ∷ 0x00818193 ∷ 0x03019f13 ∷ 0x000f1463 ∷ 0xfe9ff06f ∷ 0x00000f17 ∷ 0x014f0f13 ∷ 0x01e1b023 ∷ 0x00818193 ∷ 0x00c000ef ∷ 0x05d00893 ∷ 0x00000073 ∷ 0xff010113 ∷ 0x00810f93 ∷ 0x024f9f93 ∷ 0x024fdf93 ∷ 0x001fb023 ∷ 0x000102b7 ∷ 0x0002b283 ∷ 0x00028f93 ∷ 0xffcfff93 ∷ 0x40000f37 ∷ 0x41ef8f33 ∷ 0x014f5f13 ∷ 0x000f0463 ∷ 0xf8dff06f ∷ 0x000faf03 ∷ 0x00001237 ∷ 0x03720213 ∷ 0x004f0463 ∷ 0xf79ff06f ∷ 0x03019f13 ∷ 0x000f1463 ∷ 0xf75ff06f ∷ 0x00000f17 ∷ 0x014f0f13 ∷ 0x01e1b023 ∷ 0x00818193 ∷ 0x000f80e7 ∷ 0x00813083 ∷ 0x01010113 ∷ 0xff81bf83 ∷ 0xff818193 ∷ 0x001f8463 ∷ 0xf45ff06f ∷ 0x000f8067 ∷ 0x00001037 ∷ 0x00100513 ∷ 0xff81bf83 ∷ 0xff818193 ∷ 0x001f8463 ∷ 0xf29ff06f ∷ 0x000f8067 ∷ 0x00001037 ∷ 0x00200513 ∷ 0xff81bf83 ∷ 0xff818193 ∷ 0x001f8463 ∷ 0xf0dff06f ∷ 0x000f8067 ∷ 0xf01ff06f ∷ []
unfolding code_of code_from words_of
p_code = refl

p_lines : placed_lines version_1 0x40000040 p_units p_classes ≡ Class sorts.Both 1 (0x400000c8 ∷ 0x400000e4 ∷ []) ∷ Call 0x4000000c 0x40000040 ∷ Site 0x4000005c K.Call 1 ∷ []
unfolding lines_from
p_lines = refl

-- a computed jump to one of two places (jump.s)
abbrev jump_units : List U.Unit
jump_units =
    V.Plain (Upper Lui 5 0x10)
    ∷ V.Plain (Load Ld 5 5 0)
    ∷ V.Ijump First 5 0 1
    ∷ V.Gate 1
    ∷ V.Plain (Immediate Addi 10 0 1)
    ∷ V.Return
    ∷ V.Gate 1
    ∷ V.Plain (Immediate Addi 10 0 2)
    ∷ V.Return
    ∷ V.Stop
    ∷ []

jump_code : code_from 0x40000040 jump_units ≡ 0x000102b7 ∷ 0x0002b283 ∷ 0x00028f93 ∷ 0xffcfff93 ∷ 0x40000f37 ∷ 0x41ef8f33 ∷ 0x014f5f13 ∷ 0x000f0463 ∷ 0xfa1ff06f ∷ 0x000faf03 ∷ 0x00001237 ∷ 0x03720213 ∷ 0x004f0463 ∷ 0xf8dff06f ∷ 0x000f8067 ∷ 0x00001037 ∷ 0x00100513 ∷ 0xff81bf83 ∷ 0xff818193 ∷ 0x001f8463 ∷ 0xf75ff06f ∷ 0x000f8067 ∷ 0x00001037 ∷ 0x00200513 ∷ 0xff81bf83 ∷ 0xff818193 ∷ 0x001f8463 ∷ 0xf59ff06f ∷ 0x000f8067 ∷ 0xf4dff06f ∷ []
unfolding code_of code_from words_of
jump_code = refl

jump_lines : lines_from 0x40000040 jump_units ≡ Site 0x40000048 K.Jump 1 ∷ []
unfolding lines_from
jump_lines = refl

-- a function that calls itself (deep.s)
abbrev deep_units : List U.Unit
deep_units =
    V.Plain (Upper Lui 10 2)
    ∷ V.Plain (Immediate Addi 10 10 0xfff)
    ∷ V.Jump 0x4000004c
    ∷ V.Branch Bne 10 0 0x40000094
    ∷ V.Plain (Immediate Addi 2 2 0xff0)
    ∷ V.Stores Shifts 2 8 (record { op = Sd; value = 1; distance = 0 } ∷ [])
    ∷ V.Plain (Immediate Addi 10 10 0xfff)
    ∷ V.Call 0x4000004c
    ∷ V.Plain (Load Ld 1 2 8)
    ∷ V.Plain (Immediate Addi 2 2 16)
    ∷ V.Return
    ∷ V.Stop
    ∷ []

deep_code : code_from 0x40000040 deep_units ≡ 0x00002537 ∷ 0xfff50513 ∷ 0x0040006f ∷ 0x00051463 ∷ 0x0440006f ∷ 0xff010113 ∷ 0x00810f93 ∷ 0x024f9f93 ∷ 0x024fdf93 ∷ 0x001fb023 ∷ 0xfff50513 ∷ 0x03019f13 ∷ 0x000f1463 ∷ 0xf95ff06f ∷ 0x00000f17 ∷ 0x014f0f13 ∷ 0x01e1b023 ∷ 0x00818193 ∷ 0xfc5ff0ef ∷ 0x00813083 ∷ 0x01010113 ∷ 0xff81bf83 ∷ 0xff818193 ∷ 0x001f8463 ∷ 0xf65ff06f ∷ 0x000f8067 ∷ 0xf59ff06f ∷ []
unfolding code_of code_from words_of
deep_code = refl

deep_lines : placed_lines version_1 0x40000040 deep_units [] ≡ Call 0x4000000c 0x40000040 ∷ Edge 0x40000048 0x4000004c ∷ Edge 0x4000004c 0x40000094 ∷ Call 0x4000006c 0x4000004c ∷ []
unfolding lines_from
deep_lines = refl

-- a loop of short branches (near.s)
abbrev near_units : List U.Unit
near_units =
    V.Plain (Immediate Addi 5 0 8)
    ∷ V.Plain (Immediate Addi 10 0 0)
    ∷ V.Plain (Immediate Addi 10 10 1)
    ∷ V.Near Beq 10 5 0x40000054
    ∷ V.Near Bne 10 0 0x40000048
    ∷ V.Plain (Immediate Addi 17 0 93)
    ∷ V.System S.Ecall
    ∷ V.Stop
    ∷ []

near_code : code_from 0x40000040 near_units ≡ 0x00800293 ∷ 0x00000513 ∷ 0x00150513 ∷ 0x00550463 ∷ 0xfe051ce3 ∷ 0x05d00893 ∷ 0x00000073 ∷ 0xfa5ff06f ∷ []
unfolding code_of code_from words_of
near_code = refl

near_lines : lines_from 0x40000040 near_units ≡ Edge 0x4000004c 0x40000054 ∷ Edge 0x40000050 0x40000048 ∷ []
unfolding lines_from
near_lines = refl

near_ahead : AllAhead 0x40000040 near_units
unfolding AllAhead code_from code_of decoded words_of
near_ahead = (refl, (refl, (refl, (refl, (refl, (refl, (refl, (refl, tt))))))))

-- a branch over the word of a jump is not ahead of it
skip_behind : AllAhead 0x40000040 (V.Near Beq 5 6 0x40000048 ∷ V.Jump 0x40000044 ∷ []) → ⊥
unfolding AllAhead code_from code_of decoded words_of
skip_behind ahead = let first : false ≡ true = ahead.0 in cc

-- a store by itself behind a mask
pub one_member : (m : Member) → IsMember m → AreMembers (m ∷ [])
one_member m is =
    let one : length (m ∷ []) ≡ 1 = refl in
    record { some = omega (arith, one); most = omega (arith, one); each = (is, tt) }

p_fit : AllFit 0x40000040 p_units
unfolding AllFit
p_fit =
    (((lit< tt, lit< tt, lit< tt), refl), ((lit< tt, lit< tt, one_member _ (lit< tt, lit< tt), tt), (((lit< tt, lit< tt), refl), (((lit< tt, lit< tt, lit< tt), refl), (((lit< tt, lit< tt, lit< tt, refl, refl), refl), (((lit< tt, lit< tt, lit< tt), refl), (((lit< tt, lit< tt, lit< tt), refl), (refl, (lit< tt, (((lit< tt, lit< tt, lit< tt), refl), (refl, (lit< tt, (((lit< tt, lit< tt, lit< tt), refl), (refl, (refl, tt)))))))))))))))

p_ahead : AllAhead 0x40000040 p_units
unfolding AllAhead code_from words_of decoded code_of
p_ahead = (refl, (refl, (refl, (refl, (refl, (refl, (refl, (refl, (refl, (refl, (refl, (refl, (refl, (refl, (refl, tt)))))))))))))))

-- a test of each unit where it stands
unfoldable pub all_from : (ℕ → U.Unit → Bool) → ℕ → List U.Unit → Bool
all_from test at [] = true
all_from test at (u ∷ us) = test at u && all_from test (after_unit u at) us

each_in : (test : ℕ → U.Unit → Bool) (us : List U.Unit) (at a : ℕ) (u : U.Unit) → all_from test at us ≡ true → unit_in us at a ≡ Some u → test a u ≡ true
unfolding all_from unit_in
each_in test [] at a u all e = absurd (cc)
each_in test (v ∷ us) at a u all e =
    let parts = and_parts (test at v) (all_from test (after_unit v at) us) all in
    elim (cases_eq a at) [
      | inl here ↦
          let same : v ≡ u = same_Some v u (sym (in_here v us at) ∙ ap (unit_in (v ∷ us) at) (sym here) ∙ e) in
          subst (λ (w : U.Unit). test a w ≡ true) same (ap (λ b. test b v) here ∙ parts.0)
      | inr other ↦ each_in test us (after_unit v at) a u parts.1 (sym (in_later v us at a other) ∙ e)
    ]

-- each gate with a class's label is at such a word of a target, each computed transfer has a class, and
-- each direct one leads to a unit
abbrev pub is_served : List GraphLine → Option Asks → Bool
is_served classes None = true
is_served classes (Some asked) = is_some (targets_for classes asked.kind asked.which asked.label)

abbrev pub leads : (ℕ → Option U.Unit) → Option ℕ → Bool
leads units None = true
leads units (Some t) = is_some (units t)

abbrev heads_of : GraphVersion → List GraphLine → GraphParts
heads_of version heads = record { version = version; code = 0; lines = heads }

abbrev pub is_right : GraphVersion → List GraphLine → (ℕ → Option U.Unit) → ℕ → U.Unit → Bool
is_right version heads units a u = not (is_astray (heads_of version heads) a u) && (is_served heads (site_of (body u)) && leads units (target_of u))

right_parts : (version : GraphVersion) (heads : List GraphLine) (units : ℕ → Option U.Unit) (a : ℕ) (u : U.Unit) → is_right version heads units a u ≡ true →
    (not (is_astray (heads_of version heads) a u) ≡ true) × (is_served heads (site_of (body u)) ≡ true) × (leads units (target_of u) ≡ true)
right_parts version heads units a u right =
    let parts = and_parts (not (is_astray (heads_of version heads) a u)) (is_served heads (site_of (body u)) && leads units (target_of u)) right in
    let others = and_parts (is_served heads (site_of (body u))) (leads units (target_of u)) parts.1 in
    (parts.0, others.0, others.1)

listed : (version : GraphVersion) (heads : List GraphLine) (l a : ℕ) (class : ClassLine) → not (is_astray (heads_of version heads) a (V.Gate l)) ≡ true →
    class_with heads l ≡ Some class → is_word_of (read_of version class.sort) a class.targets ≡ true
listed version heads l a class right e =
    not-false (is_word_of (read_of version class.sort) a class.targets)
    (not_true (is_beside version class a) (sym (ap (λ o. not (holds_of o (λ (c : ClassLine). is_beside version c a))) e) ∙ right))
  where
    not_true : (b : Bool) → not b ≡ true → b ≡ false
    not_true true same = absurd (cc)
    not_true false same = refl

-- each is of its kind
abbrev pub is_of_its_kind : (ℕ → Option U.Unit) → List Leaf → ℕ → U.Unit → Bool
is_of_its_kind units leaves a u =
    stands_by (leaf_of leaves a) u
    && ((not (goes_on u) || is_right_behind units leaves (leaf_of leaves a) a u) && is_right_target units leaves a (flow_of u).sites (flow_of u).exit)

of_its_kind : (units : ℕ → Option U.Unit) (leaves : List Leaf) (a : ℕ) (u : U.Unit) → is_of_its_kind units leaves a u ≡ true → IsOfItsKind units leaves a u
of_its_kind units leaves a u right =
    let parts = and_parts (stands_by (leaf_of leaves a) u) _ right in
    let others = and_parts (not (goes_on u) || is_right_behind units leaves (leaf_of leaves a) a u) _ parts.1 in
    record {
      stands = parts.0;
      behind = λ on. goes (goes_on u) (is_right_behind units leaves (leaf_of leaves a) a u) on others.0;
      target = others.1;
    }
  where
    goes : (on right : Bool) → on ≡ true → not on || right ≡ true → right ≡ true
    goes true right on either = either
    goes false right on either = absurd (cc)

-- each leaf begins at a unit, and ends at one or where the last does
abbrev pub is_ended : Profile → List U.Unit → Leaf → Bool
is_ended p us leaf =
    is_some (unit_in us p.units_from leaf.from)
    && (is_some (unit_in us p.units_from leaf.to) || (leaf.to == p.units_from + 4 * length (code_from p.units_from us)))

ended : (p : Profile) (us : List U.Unit) (leaves : List Leaf) (k : ℕ) (leaf : Leaf) → list_all (is_ended p us) leaves ≡ true → slice_get leaves k ≡ Some leaf →
    StartsIn p us leaf.from × EndsIn p us leaf.to
ended p us [] k leaf all e = absurd (cc)
ended p us (x ∷ leaves) zero leaf all e =
    let first = (and_parts (is_ended p us x) (list_all (is_ended p us) leaves) all).0 in
    subst (λ (l : Leaf). StartsIn p us l.from × EndsIn p us l.to) (same_Some x leaf e)
    (let parts = and_parts (is_some (unit_in us p.units_from x.from)) _ first in (
      parts.0,
      elim (or_cases (is_some (unit_in us p.units_from x.to)) (x.to == p.units_from + 4 * length (code_from p.units_from us)) parts.1) [
        | inl starts ↦ inl starts
        | inr last ↦ inr (eqb-true x.to (p.units_from + 4 * length (code_from p.units_from us)) last)
      ],
    ))
ended p us (x ∷ leaves) (suc k) leaf all e = ended p us leaves k leaf (and_parts (is_ended p us x) (list_all (is_ended p us) leaves) all).1 e

-- each target of a class bears its label
abbrev signs_of : (ℕ → Option U.Unit) → List Leaf → Signs
signs_of units leaves = record {
  starts = λ b. is_some (units b);
  gate = λ b. option_and_then gate_of (units b);
  fresh = is_fresh units leaves;
  enters = λ b. is_enter (units b);
}

abbrev pub all_borne : GraphVersion → (ℕ → Option U.Unit) → List Leaf → Option ClassLine → Bool
all_borne version units leaves None = true
all_borne version units leaves (Some class) = list_all (λ a. is_borne (signs_of units leaves) (read_of version class.sort) a class.label) class.targets

each_among : (test : ℕ → Bool) (ts : List ℕ) (a : ℕ) → list_all test ts ≡ true → is_among a ts ≡ true → test a ≡ true
each_among test [] a all among = absurd (cc)
each_among test (t ∷ ts) a all among =
    let parts = and_parts (test t) (list_all test ts) all in
    elim (or_cases (t == a) (is_among a ts) among) [
      | inl here ↦ subst (λ (b : ℕ). test b ≡ true) (eqb-true t a here) parts.0
      | inr later ↦ each_among test ts a parts.1 later
    ]

each_class : (test : Option ClassLine → Bool) (classes : List GraphLine) (k : ℕ) (class : ClassLine) → list_all (λ line. test (class_in line)) classes ≡ true →
    option_and_then class_in (slice_get classes k) ≡ Some class → test (Some class) ≡ true
each_class test [] k class all e = absurd (cc)
each_class test (line ∷ classes) zero class all e =
    ap test (sym e) ∙ (and_parts (test (class_in line)) (list_all (λ other. test (class_in other)) classes) all).0
each_class test (line ∷ classes) (suc k) class all e =
    each_class test classes k class (and_parts (test (class_in line)) (list_all (λ other. test (class_in other)) classes) all).1 e

bears : (p : Profile) (us : List U.Unit) (leaves : List Leaf) (which : TargetWord) (a label : ℕ) → is_borne (signs_of (unit_in us p.units_from) leaves) which a label ≡ true →
    Bears p us leaves which a label
bears p us leaves First a label borne =
    let parts = and_parts (is_label (option_and_then gate_of (unit_in us p.units_from a)) label) _ borne in
    (gate_is (unit_in us p.units_from a) label parts.0, parts.1)
bears p us leaves Second a label borne =
    let parts = and_parts (is_some (unit_in us p.units_from a)) (is_label (option_and_then gate_of (unit_in us p.units_from (a + 4))) label) borne in
    (parts.0, gate_is (unit_in us p.units_from (a + 4)) label parts.1)
bears p us leaves Third a label borne =
    let parts = and_parts (is_label (option_and_then gate_of (unit_in us p.units_from (a + 8))) label) _ borne in
    (gate_is (unit_in us p.units_from (a + 8)) label parts.0, parts.1)

-- so units of which these tests hold are sound
pub record AreRight (p : Profile) (version : GraphVersion) (entry : ℕ) (us : List U.Unit) (heads : List GraphLine) : Type 0 where
  pub profile_is : IsProfile p
  pub saves_so : p.callee_saves ≡ has_leaves version
  pub each_fit : AllFit p.units_from us
  pub each_ahead : AllAhead p.units_from us
  pub each_admitted : all_from (λ a. admits version (calls_in heads)) p.units_from us ≡ true
  pub each_right : all_from (is_right version heads (unit_in us p.units_from)) p.units_from us ≡ true
  pub each_kind : all_from (is_of_its_kind (unit_in us p.units_from) (leaves_in heads)) p.units_from us ≡ true
  pub each_ended : list_all (is_ended p us) (leaves_in heads) ≡ true
  pub reached : Reaches p.opening_call entry
  pub called : may_be_entered p.callee_saves (unit_in us p.units_from) (leaves_in heads) entry ≡ true
  pub begun : StartsIn p us entry
  pub all_heads : list_all is_head heads ≡ true
  pub borne : list_all (λ line. all_borne version (unit_in us p.units_from) (leaves_in heads) (class_in line)) heads ≡ true
  pub stops : last_or None us ≡ Some V.Stop

pub sound_by : (p : Profile) (version : GraphVersion) (entry : ℕ) (us : List U.Unit) (heads : List GraphLine) → AreRight p version entry us heads → IsSound p version entry us heads
sound_by p version entry us heads are =
    let right_there = λ (a : ℕ) (u : U.Unit) (here : unit_in us p.units_from a ≡ Some u).
    right_parts version heads (unit_in us p.units_from) a u (each_in (is_right version heads (unit_in us p.units_from)) us p.units_from a u are.each_right here) in
    record {
      profile = are.profile_is;
      saves = are.saves_so;
      fit = are.each_fit;
      ahead = are.each_ahead;
      admitted = λ a u here. each_in (λ b. admits version (calls_in heads)) us p.units_from a u are.each_admitted here;
      kinds = λ a u here.
          of_its_kind (unit_in us p.units_from) (leaves_in heads) a u
          (each_in (is_of_its_kind (unit_in us p.units_from) (leaves_in heads)) us p.units_from a u are.each_kind here);
      leaves = λ k leaf get. ended p us (leaves_in heads) k leaf are.each_ended get;
      entry_reached = are.reached;
      entry_called = are.called;
      entry_starts = are.begun;
      targets = λ a t u here to. ap (leads (unit_in us p.units_from)) (sym to) ∙ (right_there a u here).2;
      heads_are = are.all_heads;
      labels = λ a u asked here is. ap (is_served heads) (sym is) ∙ (right_there a u here).1;
      gates = λ k a class is among. bears p us (leaves_in heads) (read_of version class.sort) a class.label
          (each_among (λ b. is_borne (signs_of (unit_in us p.units_from) (leaves_in heads)) (read_of version class.sort) b class.label) class.targets a
          (each_class (all_borne version (unit_in us p.units_from) (leaves_in heads)) heads k class are.borne is) among);
      astray = λ l a class here is. listed version heads l a class (right_there a (V.Gate l) here).0 is;
      ends = are.stops;
    }

p_sound : IsSound version_1 OneLabel 0x40000040 p_units p_classes
unfolding all_from class_with targets_for unit_in leaves_in
p_sound = sound_by version_1 OneLabel 0x40000040 p_units p_classes (record {
  profile_is = inl (inl refl);
  saves_so = refl;
  each_fit = p_fit;
  each_ahead = p_ahead;
  each_admitted = refl;
  each_right = refl;
  each_kind = refl;
  each_ended = refl;
  reached = refl;
  called = refl;
  begun = refl;
  all_heads = refl;
  borne = refl;
  stops = refl;
})
