-- A relocation changes nothing but an immediate.
use Rattle.std.proofs.Common.{◌≡◌, ℕ, ◌<◌, Bool, true, false, not, ◌&&◌, Option, Some, None, refl, subst, inl, inr}
use Rattle.std.proofs.lemmas.Bool.{cases_Bool, and_parts, not-true}
use Rattle.std.specs.Prelude.{ℤ, List, option_and_then}
use Rattle.rv_word.proofs.Cases.{cases_Option}
use Rattle.rv_reloc.specs.Value.{hi20, lo12, low_bits}
use Rattle.rv_reloc.specs.Word.{is_high_in_range}
use Rattle.rv_instr.specs.declared.instr.Instr.{Instr}
use Rattle.rv_instr.specs.declared.instr.Instr.TheVariants.{Upper, Jalr, Load, Store, Immediate}
use Rattle.rv_code.specs.Decode.{decoded}
use Rattle.obj_input.specs.declared.item_kind.ItemKind.{ItemKind}
use Rattle.obj_input.specs.declared.item_kind.ItemKind.TheVariants as is
use Rattle.obj_program.specs.declared.item.Patch.{Patch}
use Rattle.obj_program.specs.declared.item.Patch.TheVariants as put
use Rattle.obj_program.specs.Program.{Program, count, is_end, item_of}
use Rattle.obj_program.specs.Sound.{IsSound, is_of}
use Rattle.obj_program.specs.Suits.{may_be_patched, names_reserved, has_lower, stands_on, suits}
use Rattle.obj_program.specs.AtMap.{distance, distance_to, high_part, instr_at, low_part, patched_instr, value_at, with_lower, with_upper}
use Rattle.obj_program.proofs.Read.{read_there}

upper_reserved : (i : Instr) (field : ℕ) → names_reserved (with_upper i field) ≡ names_reserved i
upper_reserved (Upper op rd imm) field = refl
upper_reserved other field = refl

lower_reserved : (i : Instr) (field : ℕ) → names_reserved (with_lower i field) ≡ names_reserved i
lower_reserved (Jalr rd rs1 imm) field = refl
lower_reserved (Load op rd rs1 imm) field = refl
lower_reserved (Store op rs1 rs2 imm) field = refl
lower_reserved (Immediate op rd rs1 imm) field = refl
lower_reserved other field = refl

upper_suits : (kind : ItemKind) (i : Instr) (field : ℕ) → suits kind (with_upper i field) ≡ suits kind i
upper_suits is.Gate (Upper op rd imm) field = refl
upper_suits other (Upper op rd imm) field = refl
upper_suits kind other field = refl

-- a return alone is told by its immediate, and no relocation changes that
lower_suits : (kind : ItemKind) (i : Instr) (field : ℕ) → may_be_patched kind ≡ true → suits kind (with_lower i field) ≡ suits kind i
lower_suits is.Return i field may = absurd (cc)
lower_suits other (Jalr rd rs1 imm) field may = refl
lower_suits other (Load op rd rs1 imm) field may = refl
lower_suits other (Store op rs1 rs2 imm) field may = refl
lower_suits other (Immediate op rd rs1 imm) field may = refl
lower_suits kind other field may = refl

-- of the kind, and without a reserved register
abbrev pub is_fine : ItemKind → Instr → Bool
is_fine kind i = suits kind i && not (names_reserved i)

upper_fine : (kind : ItemKind) (i : Instr) (field : ℕ) → is_fine kind i ≡ true → is_fine kind (with_upper i field) ≡ true
upper_fine kind i field fine = rw (upper_suits kind i field, upper_reserved i field) fine

lower_fine : (kind : ItemKind) (i : Instr) (field : ℕ) → may_be_patched kind ≡ true → is_fine kind i ≡ true → is_fine kind (with_lower i field) ≡ true
lower_fine kind i field may fine = rw (lower_suits kind i field may, lower_reserved i field) fine

high_fine : (kind : ItemKind) (i j : Instr) (value : ℤ) → is_fine kind i ≡ true → high_part i value ≡ Some j → is_fine kind j ≡ true
high_fine kind i j value fine gives = elim (cases_Bool (is_high_in_range value)) [
  | inl e ↦
      let same : Some (with_upper i (low_bits 20 (hi20 value))) ≡ Some j = rw e at gives in
      let one : with_upper i (low_bits 20 (hi20 value)) ≡ j = cc in
      subst (λ (x : Instr). is_fine kind x ≡ true) one (upper_fine kind i (low_bits 20 (hi20 value)) fine)
  | inr e ↦ let same : None ≡ Some j = rw e at gives in absurd (cc)
]

low_fine : (kind : ItemKind) (i j : Instr) (value : ℤ) → may_be_patched kind ≡ true → is_fine kind i ≡ true → Some (low_part i value) ≡ Some j → is_fine kind j ≡ true
low_fine kind i j value may fine gives =
    let one : low_part i value ≡ j = cc in
    subst (λ (x : Instr). is_fine kind x ≡ true) one (lower_fine kind i (low_bits 12 (lo12 value)) may fine)

patched_fine : (program : Program) (gates words : List ℕ) (k : ℕ) (kind : ItemKind) (i j : Instr) (patch : Patch) → stands_on patch kind i ≡ true
    → is_fine kind i ≡ true → patched_instr program gates words k i patch ≡ Some j → is_fine kind j ≡ true
patched_fine program gates words k kind i j put.Own stands fine gives =
    let one : i ≡ j = cc in subst (λ (x : Instr). is_fine kind x ≡ true) one fine
patched_fine program gates words k kind i j (put.High v) stands fine gives = high_fine kind i j (value_at gates v) fine gives
patched_fine program gates words k kind i j (put.RelativeHigh v) stands fine gives = high_fine kind i j (distance_to gates words k v) fine gives
patched_fine program gates words k kind i j (put.Low v) stands fine gives =
    low_fine kind i j (value_at gates v) (and_parts (may_be_patched kind) (has_lower i) stands).0 fine gives
patched_fine program gates words k kind i j (put.RelativeLow m) stands fine gives =
    elim (cases_Option (distance gates words m (item_of program m).patch)) [
      | inl none ↦ let same : None ≡ Some j = rw none at gives in absurd (cc)
      | inr (z, some) ↦
          let same : Some (low_part i z) ≡ Some j = rw some at gives in
          low_fine kind i j z (and_parts (may_be_patched kind) (has_lower i) stands).0 fine same
    ]

instr_fine : (program : Program) (gates words : List ℕ) (k : ℕ) (kind : ItemKind) (patch : Patch) (own : Option Instr) (j : Instr)
    → is_of kind patch own ≡ true → option_and_then (λ i. patched_instr program gates words k i patch) own ≡ Some j → is_fine kind j ≡ true
instr_fine program gates words k kind patch None j read gives = absurd (cc)
instr_fine program gates words k kind patch (Some i) j read gives =
    let parts = and_parts (is_fine kind i) (stands_on patch kind i) read in
    patched_fine program gates words k kind i j patch parts.1 parts.0 gives

-- the instruction of a place at a map is of the place's kind and names no reserved register
pub kept : (program : Program) (gates words : List ℕ) (k : ℕ) (j : Instr) → IsSound program → k < count program
    → is_end (item_of program k).kind ≡ false → instr_at program gates words k ≡ Some j
    → (suits (item_of program k).kind j ≡ true) × (names_reserved j ≡ false)
unfolding instr_at
kept program gates words k j sound below some gives =
    let fine = instr_fine program gates words k (item_of program k).kind (item_of program k).patch (decoded (item_of program k).word) j
    (read_there program k sound below some) gives in
    let parts = and_parts (suits (item_of program k).kind j) (not (names_reserved j)) fine in
    (parts.0, not-true (names_reserved j) parts.1)
