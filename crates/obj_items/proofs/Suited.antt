-- An instruction is of the kind that it has, and a relocation of its form may stand on it.
use Rattle.std.proofs.Common.{◌≡◌, ℕ, ◌<◌, ◌==◌, Bool, true, false, ◌&&◌, Option, Some, None, inl, inr, refl, sym, ap, subst, arith}
use Rattle.std.proofs.lemmas.Bool.{cases_Bool, not-true}
use Rattle.std.proofs.lemmas.Option.{same_Some}
use Rattle.obj_items.proofs.Prelude.{Instr, Upper, Jal, Jalr, Branch, Load, Store, Immediate, Shift, ShiftWord, Register, Fence, Ecall, Ebreak, Lui, Auipc, names, is_reserved, first_below, ItemKind, is_auipc, by_link, computed_kind, single_kind, is_i_form, is_upper_form, is_reserved_name, some_reserved, has_lower, is_upper, may_be_patched, names_reserved, suits, is_end}
use Rattle.least.proofs.Firsts.{first_none}
use Rattle.std.specs.Prelude.{is_some}
use Rattle.obj_input.specs.declared.item_kind.ItemKind.TheVariants as is
use Rattle.obj_check.specs.WrongPlace as place

same_kind : (k kind : ItemKind) (i : Instr) → Some k ≡ Some kind → suits k i ≡ true → suits kind i ≡ true
same_kind k kind i e h = subst (λ (one : ItemKind). suits one i ≡ true) (same_Some k kind e) h

-- what links jumps or calls
module _ (i : Instr) (link : ℕ) (kind : ItemKind) (jumps : (link == 0) ≡ true → suits is.Jump i ≡ true) (calls : (link == 1) ≡ true → suits is.Call i ≡ true) where
  linking : by_link link ≡ Some kind → suits kind i ≡ true
  linking e = elim (cases_Bool (link == 0)) [
    | inl zeroth ↦ let same : Some is.Jump ≡ Some kind = rw zeroth at e in same_kind is.Jump kind i same (jumps zeroth)
    | inr other ↦ elim (cases_Bool (link == 1)) [
      | inl one ↦ let same : Some is.Call ≡ Some kind = rw (other, one) at e in same_kind is.Call kind i same (calls one)
      | inr more ↦ let no : None ≡ Some kind = rw (other, more) at e in absurd (cc)
    ]
  ]

pub pair_suits : (link base imm : ℕ) (kind : ItemKind) → by_link link ≡ Some kind → suits kind (Jalr link base imm) ≡ true
pair_suits link base imm kind e = linking (Jalr link base imm) link kind (λ h. h) (λ h. h) e

computed : (plain : Bool) (link base imm : ℕ) (kind : ItemKind) → computed_kind plain link base imm ≡ Some kind → suits kind (Jalr link base imm) ≡ true
computed plain link base imm kind e = elim (cases_Bool (link == 1)) [
  | inl one ↦ let same : Some is.Icall ≡ Some kind = rw one at e in same_kind is.Icall kind (Jalr link base imm) same one
  | inr other ↦ elim (cases_Bool (link == 0)) [
    | inr more ↦ let no : None ≡ Some kind = rw (other, more) at e in absurd (cc)
    | inl zeroth ↦ elim (cases_Bool (base == 1)) [
      | inr jump ↦
          let same : Some is.Ijump ≡ Some kind = rw (other, zeroth, jump) at e in
          same_kind is.Ijump kind (Jalr link base imm) same (rw (zeroth, jump) refl)
      | inl back ↦ elim (cases_Bool (imm == 0)) [
        | inr far ↦ let no : None ≡ Some kind = rw (other, zeroth, back, far) at e in absurd (cc)
        | inl near ↦ elim (cases_Bool plain) [
          | inr patched ↦ let no : None ≡ Some kind = rw (other, zeroth, back, near, patched) at e in absurd (cc)
          | inl alone ↦
              let same : Some is.Return ≡ Some kind = rw (other, zeroth, back, near, alone) at e in
              same_kind is.Return kind (Jalr link base imm) same (rw (zeroth, back, near) refl)
        ]
      ]
    ]
  ]
]

pub single_suits : (plain : Bool) (i : Instr) (kind : ItemKind) → single_kind plain i ≡ Some kind → suits kind i ≡ true
single_suits plain (Upper Lui rd imm) kind e = elim (cases_Bool (rd == 0)) [
  | inl zeroth ↦ let same : Some is.Gate ≡ Some kind = rw zeroth at e in same_kind is.Gate kind (Upper Lui rd imm) same zeroth
  | inr other ↦ let same : Some is.Plain ≡ Some kind = rw other at e in same_kind is.Plain kind (Upper Lui rd imm) same (rw other refl)
]
single_suits plain (Upper Auipc rd imm) kind e = same_kind is.Plain kind (Upper Auipc rd imm) e refl
single_suits plain (Jal link imm) kind e = linking (Jal link imm) link kind (λ h. h) (λ h. h) e
single_suits plain (Jalr link base imm) kind e = computed plain link base imm kind e
single_suits plain (Branch op a b imm) kind e = same_kind is.Branch kind (Branch op a b imm) e refl
single_suits plain (Load op rd base imm) kind e = same_kind is.Plain kind (Load op rd base imm) e refl
single_suits plain (Store op base value imm) kind e = same_kind is.Store kind (Store op base value imm) e refl
single_suits plain (Immediate op rd base imm) kind e = same_kind is.Plain kind (Immediate op rd base imm) e refl
single_suits plain (Shift op rd rs amount) kind e = same_kind is.Plain kind (Shift op rd rs amount) e refl
single_suits plain (ShiftWord op rd rs amount) kind e = same_kind is.Plain kind (ShiftWord op rd rs amount) e refl
single_suits plain (Register op rd a b) kind e = same_kind is.Plain kind (Register op rd a b) e refl
single_suits plain (Fence word) kind e = same_kind is.Plain kind (Fence word) e refl
single_suits plain Ecall kind e = same_kind is.System kind Ecall e refl
single_suits plain Ebreak kind e = same_kind is.System kind Ebreak e refl

-- what is of a kind is no end
pub no_end : (i : Instr) (kind : ItemKind) → suits kind i ≡ true → is_end kind ≡ false
no_end i is.End e = absurd (cc)
no_end i other e = refl

-- the forms that a relocation asks for
may : (k kind : ItemKind) (form : Bool) → Some k ≡ Some kind → (may_be_patched k && form) ≡ true → (may_be_patched kind && form) ≡ true
may k kind form e h = subst (λ (one : ItemKind). (may_be_patched one && form) ≡ true) (same_Some k kind e) h

pub upper_stands : (plain : Bool) (i : Instr) (kind : ItemKind) → single_kind plain i ≡ Some kind → is_upper_form i ≡ true
    → (may_be_patched kind && is_upper i) ≡ true
upper_stands plain (Upper Lui rd imm) kind e form =
    let other : (rd == 0) ≡ false = not-true (rd == 0) form in
    let same : Some is.Plain ≡ Some kind = rw other at e in
    may is.Plain kind true same refl
upper_stands plain other kind e form = absurd (cc)

pub auipc_stands : (plain : Bool) (i : Instr) (kind : ItemKind) → single_kind plain i ≡ Some kind → is_auipc (Some i) ≡ true
    → (may_be_patched kind && is_upper i) ≡ true
auipc_stands plain (Upper Auipc rd imm) kind e form = may is.Plain kind true e refl
auipc_stands plain other kind e form = absurd (cc)

-- no return has a relocation
patched_jalr : (link base imm : ℕ) (kind : ItemKind) → computed_kind false link base imm ≡ Some kind → may_be_patched kind ≡ true
patched_jalr link base imm kind e = elim (cases_Bool (link == 1)) [
  | inl one ↦ let same : Some is.Icall ≡ Some kind = rw one at e in ap may_be_patched (sym (same_Some is.Icall kind same))
  | inr other ↦ elim (cases_Bool (link == 0)) [
    | inr more ↦ let no : None ≡ Some kind = rw (other, more) at e in absurd (cc)
    | inl zeroth ↦ elim (cases_Bool (base == 1)) [
      | inr jump ↦ let same : Some is.Ijump ≡ Some kind = rw (other, zeroth, jump) at e in ap may_be_patched (sym (same_Some is.Ijump kind same))
      | inl back ↦ elim (cases_Bool (imm == 0)) [
        | inr far ↦ let no : None ≡ Some kind = rw (other, zeroth, back, far) at e in absurd (cc)
        | inl near ↦ let no : None ≡ Some kind = rw (other, zeroth, back, near) at e in absurd (cc)
      ]
    ]
  ]
]

pub lower_stands : (i : Instr) (kind : ItemKind) → single_kind false i ≡ Some kind → is_i_form i ≡ true → (may_be_patched kind && has_lower i) ≡ true
lower_stands (Jalr link base imm) kind e form = rw (patched_jalr link base imm kind e) refl
lower_stands (Load op rd base imm) kind e form = may is.Plain kind true e refl
lower_stands (Immediate op rd base imm) kind e form = may is.Plain kind true e refl
lower_stands other kind e form = absurd (cc)

pub store_stands : (plain : Bool) (i : Instr) (kind : ItemKind) → single_kind plain i ≡ Some kind → place.is_store i ≡ true
    → (may_be_patched kind && has_lower i) ≡ true
store_stands plain (Store op base value imm) kind e form = may is.Store kind true e refl
store_stands plain other kind e form = absurd (cc)

-- an instruction of which no register is reserved names none
unnamed : (i : Instr) → some_reserved i ≡ false → (r : ℕ) → r < 32 → is_reserved r ≡ true → names i r ≡ false
unfolding some_reserved
unnamed i none r below kept =
    let first : first_below (is_reserved_name i) 32 ≡ None = nothing (first_below (is_reserved_name i) 32) none in
    let fails : (is_reserved r && names i r) ≡ false = first_none (is_reserved_name i) 32 r first below in
    rw kept at fails
  where
    nothing : (o : Option ℕ) → is_some o ≡ false → o ≡ None
    nothing None e = refl
    nothing (Some n) e = absurd (cc)

pub none_reserved : (i : Instr) → some_reserved i ≡ false → names_reserved i ≡ false
none_reserved i none =
    rw (unnamed i none 3 (omega arith) refl, unnamed i none 4 (omega arith) refl, unnamed i none 30 (omega arith) refl, unnamed i none 31 (omega arith) refl) refl
