-- Direct transfers of an input without a fault, and no others, go to instructions.
use Rattle.std.proofs.Common.{◌≡◌, ◌==◌, ℕ, ℤ, pos, negsuc, ◌+◌, ◌*◌, ◌/◌, ◌^◌, ◌<◌, Bool, true, false, ◌&&◌, Option, Some, None, List, [], ◌∷◌, length, inl, inr, refl, sym, ap, subst, ◌∙◌, arith}
use Rattle.std.specs.Prelude.{is_some}
use Rattle.std.specs.List.{All, find}
use Rattle.std.proofs.lemmas.Bool.{cases_Bool, and_parts, lt-ltb}
use Rattle.std.proofs.lemmas.List.{get_or-map, length-map}
use Rattle.std.proofs.lemmas.List.Elements.{All-head, All-tail}
use Rattle.std.proofs.lemmas.Option.{same_Some}
use Rattle.rv_word.proofs.Cases.{cases_Option}
use Rattle.obj_items.proofs.Prelude.{Instr, Upper, Jal, Jalr, Branch, Load, Store, Immediate, Shift, ShiftWord, Register, Fence, Ecall, Ebreak, Lui, Auipc, Relocation, Definition, Zero, Absolute, Within, Common, Missing, ItemKind, kind_of, is_acting, InputParts, SectionParts, acting_at, is_code, section_of, instr, is_pair, is_start, starts_at, Direct, ByBranch, ByJal, ByPair, Aim, At, Astray, by_link, computed_kind, kind_at, pair_kind, single_kind, word_kind, aim_at, aim_of, direct_at, direct_word, goes_right, guide_at, guides, may_aim, own_aim, missing_in_use, Item, Program, count, is_end, item_of, no_item, place_of, aims, is_direct, aimed_place, item_with, target_of, outline, program_with, IsInput}
use Rattle.obj_input.specs.declared.item_kind.ItemKind.TheVariants as is
use Rattle.obj_check.specs.declared.target.Aim.TheVariants as aim
use Rattle.obj_items.proofs.Bounds.{each_section}
use Rattle.obj_items.proofs.NoFault.{IsRight, IsRightUse, acting_right, acting_there}
use Rattle.obj_items.proofs.LookUp.{place_there, start_below, start_parts}
use Rattle.obj_items.proofs.Starts.{linked_at, linked_is, pair_jalr, pair_kind_is, pair_parts, right_start, single_kind_is, start_read}

-- the place of the instruction that starts at an offset, in the program
pub record IsStartItem (input : InputParts) (k at j : ℕ) (kind : ItemKind) : Type 0 where
  pub found : place_of (outline input) k at ≡ Some j
  pub below : j < count (program_with input (outline input))
  pub going : is_end kind ≡ false
  pub item : item_of (program_with input (outline input)) j ≡ linked_at input (outline input) k (at / 4) kind

pub start_item_there : (input : InputParts) → IsRight input → (k at : ℕ) → is_start (section_of input k) at ≡ true
    → (j : ℕ) × (kind : ItemKind) × IsStartItem input k at j kind
start_item_there input right k at e =
    let there = place_there input k at e in
    let j = there.0 in
    let parts = start_parts (section_of input k) at e in
    let read = start_read input right (outline input) k (at / 4) parts.0 parts.2 in
    let size = length-map (outline input) (item_with input (outline input)) in (
      j,
      read.0,
      record {
        found = there.1.found;
        below = let below = there.1.below in omega arith;
        going = read.2;
        item =
            get_or-map (item_with input (outline input)) (outline input) j no_item no_item there.1.below
            ∙ ap (item_with input (outline input)) there.1.item
            ∙ linked_is input (outline input) k (at / 4) read.0 read.1 read.2;
      },
    )

-- what is a direct transfer has a kind of one
link_direct : (link : ℕ) (kind : ItemKind) → by_link link ≡ Some kind → is_direct kind ≡ true
link_direct link kind e = elim (cases_Bool (link == 0)) [
  | inl zeroth ↦ let same : Some is.Jump ≡ Some kind = rw zeroth at e in ap is_direct (sym (same_Some is.Jump kind same))
  | inr other ↦ elim (cases_Bool (link == 1)) [
    | inl one ↦ let same : Some is.Call ≡ Some kind = rw (other, one) at e in ap is_direct (sym (same_Some is.Call kind same))
    | inr more ↦ let none : None ≡ Some kind = rw (other, more) at e in absurd (cc)
  ]
]

computed_direct : (plain : Bool) (link base imm : ℕ) (kind : ItemKind) → computed_kind plain link base imm ≡ Some kind → is_direct kind ≡ false
computed_direct plain link base imm kind e = elim (cases_Bool (link == 1)) [
  | inl one ↦ let same : Some is.Icall ≡ Some kind = rw one at e in ap is_direct (sym (same_Some is.Icall kind same))
  | inr other ↦ elim (cases_Bool (link == 0)) [
    | inr more ↦ let none : None ≡ Some kind = rw (other, more) at e in absurd (cc)
    | inl zeroth ↦ elim (cases_Bool (base == 1)) [
      | inr jump ↦ let same : Some is.Ijump ≡ Some kind = rw (other, zeroth, jump) at e in ap is_direct (sym (same_Some is.Ijump kind same))
      | inl back ↦ elim (cases_Bool (imm == 0 && plain)) [
        | inr far ↦ let none : None ≡ Some kind = rw (other, zeroth, back, far) at e in absurd (cc)
        | inl near ↦ let same : Some is.Return ≡ Some kind = rw (other, zeroth, back, near) at e in ap is_direct (sym (same_Some is.Return kind same))
      ]
    ]
  ]
]

same_direct : (k kind : ItemKind) (b : Bool) → Some k ≡ Some kind → b ≡ is_direct k → b ≡ is_direct kind
same_direct k kind b e h = h ∙ ap is_direct (same_Some k kind e)

single_direct : (plain : Bool) (i : Instr) (kind : ItemKind) → single_kind plain i ≡ Some kind → is_some (direct_word (Some i)) ≡ is_direct kind
single_direct plain (Upper Lui rd imm) kind e = elim (cases_Bool (rd == 0)) [
  | inl zeroth ↦ let same : Some is.Gate ≡ Some kind = rw zeroth at e in same_direct is.Gate kind false same refl
  | inr other ↦ let same : Some is.Plain ≡ Some kind = rw other at e in same_direct is.Plain kind false same refl
]
single_direct plain (Upper Auipc rd imm) kind e = same_direct is.Plain kind false e refl
single_direct plain (Jal link imm) kind e = sym (link_direct link kind e)
single_direct plain (Jalr link base imm) kind e = sym (computed_direct plain link base imm kind e)
single_direct plain (Branch op a b imm) kind e = same_direct is.Branch kind true e refl
single_direct plain (Load op rd base imm) kind e = same_direct is.Plain kind false e refl
single_direct plain (Store op base value imm) kind e = same_direct is.Store kind false e refl
single_direct plain (Immediate op rd base imm) kind e = same_direct is.Plain kind false e refl
single_direct plain (Shift op rd rs amount) kind e = same_direct is.Plain kind false e refl
single_direct plain (ShiftWord op rd rs amount) kind e = same_direct is.Plain kind false e refl
single_direct plain (Register op rd a b) kind e = same_direct is.Plain kind false e refl
single_direct plain (Fence word) kind e = same_direct is.Plain kind false e refl
single_direct plain Ecall kind e = same_direct is.System kind false e refl
single_direct plain Ebreak kind e = same_direct is.System kind false e refl

pair_direct_is : (s : SectionParts) (i : ℕ) → is_pair s i ≡ true → direct_at s i ≡ Some ByPair
unfolding direct_at
pair_direct_is s i e = rw e refl

single_direct_is : (s : SectionParts) (i : ℕ) → is_pair s i ≡ false → direct_at s i ≡ direct_word (instr s i)
unfolding direct_at
single_direct_is s i e = rw e refl

pub direct_kind : (s : SectionParts) (i : ℕ) (kind : ItemKind) → kind_at s i ≡ Some kind → is_some (direct_at s i) ≡ is_direct kind
direct_kind s i kind e = elim (cases_Bool (is_pair s i)) [
  | inl pair ↦
      let (link, base, imm, second) = pair_jalr (instr s i) (instr s (i + 1)) (pair_parts s i pair).0 in
      let linked : by_link link ≡ Some kind = ap pair_kind (sym second) ∙ sym (pair_kind_is s i pair) ∙ e in
      ap is_some (pair_direct_is s i pair) ∙ sym (link_direct link kind linked)
  | inr single ↦ elim (cases_Option (instr s i)) [
    | inl none ↦
        let plain = length (acting_at s (4 * i)) == 0 in
        let never : None ≡ Some kind = ap (word_kind plain) (sym none) ∙ sym (single_kind_is s i single) ∙ e in absurd (cc)
    | inr (ins, some) ↦
        let plain = length (acting_at s (4 * i)) == 0 in
        let counted : single_kind plain ins ≡ Some kind = ap (word_kind plain) (sym some) ∙ sym (single_kind_is s i single) ∙ e in
        ap is_some (single_direct_is s i single) ∙ ap (λ (o : Option Instr). is_some (direct_word o)) some ∙ single_direct plain ins kind counted
  ]
]

-- what an input without a fault aims at is known
pub find_of : {A : Type 0} (p : A → Bool) (P : A → Type 0) (xs : List A) (x : A) → find p xs ≡ Some x → All P xs → P x
find_of p P [] x e all = absurd (cc)
find_of p P (y ∷ xs) x e all = elim (cases_Bool (p y)) [
  | inl here ↦
      let same : Some y ≡ Some x = rw here at e in
      subst P (same_Some y x same) (All-head P y xs all)
  | inr other ↦ let rest : find p xs ≡ Some x = rw other at e in find_of p P xs x rest (All-tail P y xs all)
]

known : (u : Relocation) → is_acting u ≡ true → missing_in_use u ≡ None → (d : Definition) → u.definition ≡ d → (z : ℤ) → aim_of d z ≡ aim.Unknown → ⊥
known u acting none Zero is z e = cc
known u acting none (Absolute n) is z e = cc
known u acting none (Within k n) is z e = cc
known u acting none (Common n) is z e = cc
known u acting none (Missing n) is z e = let never : Some n ≡ None = rw (acting, is) at none in cc

own_known : (k at : ℕ) (d : Direct) → own_aim k at d ≡ aim.Unknown → ⊥
own_known k at (ByBranch z) e = cc
own_known k at (ByJal z) e = cc
own_known k at ByPair e = cc

never_unknown : (input : InputParts) → IsRight input → (k i : ℕ) (d : Direct) → aim_at input k i d ≡ aim.Unknown → ⊥
unfolding aim_at
never_unknown input right k i d e =
    let acting = acting_at (section_of input k) (4 * i) in
    elim (cases_Option (guide_at (section_of input k) (4 * i) d)) [
      | inl none ↦ let own : own_aim k (4 * i) d ≡ aim.Unknown = rw none at e in own_known k (4 * i) d own
      | inr (u, some) ↦
          let guide : aim_of u.definition u.addend ≡ aim.Unknown = rw some at e in
          let right_use = find_of (λ (v : Relocation). guides d (kind_of v.number)) (IsRightUse input k) acting u some (acting_right input right k (4 * i)) in
          let takes = find_of (λ (v : Relocation). guides d (kind_of v.number)) (λ (v : Relocation). (v.offset == 4 * i && is_acting v) ≡ true) acting u some (acting_there (section_of input k) (4 * i)) in
          known u (and_parts (u.offset == 4 * i) (is_acting u) takes).1 right_use.defined u.definition refl u.addend guide
    ]

-- where a right aim goes, an instruction is found
abbrev AimsAt : InputParts → Aim → Type 0
AimsAt input a = (j : ℕ) × (aimed_place (outline input) a ≡ Some j) × (j < count (program_with input (outline input)))
    × (is_end (item_of (program_with input (outline input)) j).kind ≡ false)

aimed : (input : InputParts) → IsInput input → IsRight input → (a : Aim) → may_aim input a ≡ true → (a ≡ aim.Unknown → ⊥) → AimsAt input a
aimed input is right (At k (pos n)) e known =
    let there = start_item_there input right k n e in
    let size = (each_section input is k).size in
    let inside = start_below (section_of input k) (n / 4) (start_parts (section_of input k) n e).2 in
    let below : n < 2 ^ 64 = omega arith in
    (there.0, rw (lt-ltb n (2 ^ 64) below) there.2.found, there.2.below, ap (λ (x : Item). is_end x.kind) there.2.item ∙ there.2.going)
aimed input is right (At k (negsuc n)) e known = absurd (cc)
aimed input is right Astray e known = absurd (cc)
aimed input is right aim.Unknown e known = absurd (known refl)

aims_from : (p : Program) (kind : ItemKind) (target : Option ℕ) (j : ℕ) → target ≡ Some j → is_direct kind ≡ true → j < count p
    → is_end (item_of p j).kind ≡ false → aims p kind target ≡ true
aims_from p kind target j e direct below going = rw (e, direct, lt-ltb j (count p) below, going) refl

aims_none : (p : Program) (kind : ItemKind) (target : Option ℕ) → target ≡ None → is_direct kind ≡ false → aims p kind target ≡ true
aims_none p kind target e direct = rw (e, direct) refl

pub start_aims : (input : InputParts) → IsInput input → IsRight input → (k i : ℕ) (kind : ItemKind) → is_code (section_of input k) ≡ true
    → starts_at (section_of input k) i ≡ true → kind_at (section_of input k) i ≡ Some kind
    → aims (program_with input (outline input)) kind (target_of input (outline input) k i) ≡ true
start_aims input is right k i kind code starts e =
    let direct = direct_kind (section_of input k) i kind e in
    let found = right_start input right k i code starts in
    elim (cases_Option (direct_at (section_of input k) i)) [
      | inl none ↦
          let target : target_of input (outline input) k i ≡ None = rw none refl in
          aims_none (program_with input (outline input)) kind (target_of input (outline input) k i) target (sym direct ∙ ap is_some none)
      | inr (d, some) ↦
          let goes : may_aim input (aim_at input k i d) ≡ true = ap (goes_right input k i) (sym some) ∙ found.1.goes in
          let at = aimed input is right (aim_at input k i d) goes (never_unknown input right k i d) in
          let target : target_of input (outline input) k i ≡ aimed_place (outline input) (aim_at input k i d) = rw some refl in
          aims_at (aim_at input k i d) at target (sym direct ∙ ap is_some some)
    ]
  where
    aims_at : (a : Aim) → AimsAt input a → target_of input (outline input) k i ≡ aimed_place (outline input) a → is_direct kind ≡ true
        → aims (program_with input (outline input)) kind (target_of input (outline input) k i) ≡ true
    aims_at a (j, found, below, going) target direct =
        aims_from (program_with input (outline input)) kind (target_of input (outline input) k i) j (target ∙ found) direct below going
