-- What an instruction of an input without a fault is: of its kind, free of reserved registers, and with a relocation of its form.
use Rattle.std.proofs.Common.{◌≡◌, ◌==◌, ℕ, ◌+◌, ◌*◌, ◌/◌, nat_lt, true, false, not, ◌&&◌, ◌||◌, Option, Some, None, List, [], ◌∷◌, length, inl, inr, refl, sym, ap, subst, ◌∙◌, arith}
use Rattle.std.specs.Prelude.{is_none}
use Rattle.std.specs.List.{list_any}
use Rattle.std.proofs.lemmas.Bool.{cases_Bool, and_parts, eqb-true, not-false, or_parts, or_cases}
use Rattle.std.proofs.lemmas.List.Elements.{All-head, All-same}
use Rattle.rv_word.proofs.Cases.{cases_Option}
use Rattle.rv_word.proofs.Booleans.{and_rest}
use Rattle.obj_items.proofs.Prelude.{Instr, Jalr, decoded, Relocation, ItemKind, RelocKind, PairTarget, RelativeHigh, TableHigh, RelativeLowI, RelativeLowS, High, LowI, LowS, is_pair_target, kind_of, is_acting, InputParts, SectionParts, acting_at, is_code, section_of, are_pair, auipc_register, has_pair_target, instr, is_inside, is_pair, is_start, starts_at, word, word_count, kind_at, pair_kind, single_kind, word_kind, direct_at, goes_right, some_reserved, fits_on, has_form, has_right_addend, stands, stands_in_code, Item, Patch, is_end, is_read, names_reserved, stands_on, suits, is_taken, item_with, patch_by, patch_from, target_of, own_word, start_at}
use Rattle.obj_check.specs.Reserved as rule
use Rattle.obj_program.specs.declared.item.Patch.TheVariants as put
use Rattle.obj_items.proofs.NoFault.{IsRight, IsRightUse, acting_right, acting_there}
use Rattle.obj_items.proofs.LookUp.{start_below}
use Rattle.obj_items.proofs.Suited.{auipc_stands, lower_stands, no_end, none_reserved, pair_suits, single_suits, store_stands, upper_stands}
use Rattle.obj_items.proofs.Pushed.{no_second}

-- the one relocation of code that does something at an offset
pub record IsSole (input : InputParts) (k at : ℕ) (u : Relocation) (more : List Relocation) : Type 0 where
  pub none_more : more ≡ []
  pub start : is_start (section_of input k) at ≡ true
  pub fits : fits_on (section_of input k) (at / 4) (kind_of u.number) ≡ true
  pub right : IsRightUse input k u
  pub offset : u.offset ≡ at
  pub acting : is_acting u ≡ true

sole_rest : (u : Relocation) (more : List Relocation) → (length (u ∷ more) == 1) ≡ true → more ≡ []
sole_rest u [] e = refl
sole_rest u (v ∷ more) e = let no : length (u ∷ v ∷ more) ≡ 1 = eqb-true (length (u ∷ v ∷ more)) 1 e in absurd (omega arith)

pub sole : (input : InputParts) → IsRight input → (k at : ℕ) → is_code (section_of input k) ≡ true → (u : Relocation) (more : List Relocation)
    → acting_at (section_of input k) at ≡ u ∷ more → IsSole input k at u more
sole input right k at code u more e =
    let one : IsRightUse input k u = All-head (IsRightUse input k) u more (All-same (IsRightUse input k) (u ∷ more) (acting_at (section_of input k) at) (sym e) (acting_right input right k at)) in
    let takes : (u.offset == at && is_acting u) ≡ true =
    All-head (λ (v : Relocation). (v.offset == at && is_acting v) ≡ true) u more
    (All-same (λ (v : Relocation). (v.offset == at && is_acting v) ≡ true) (u ∷ more) (acting_at (section_of input k) at) (sym e) (acting_there (section_of input k) at)) in
    let both = and_parts (u.offset == at) (is_acting u) takes in
    let offset : u.offset ≡ at = eqb-true u.offset at both.0 in
    let may : (stands (section_of input k) u && has_right_addend u) ≡ true = not-false _ (and_rest (is_acting u) _ one.standing both.1) in
    let there : stands (section_of input k) u ≡ true = (and_parts (stands (section_of input k) u) (has_right_addend u) may).0 in
    let stood : stands_in_code (section_of input k) u ≡ true = rw code at there in
    let here : (length (acting_at (section_of input k) at) == 1 && is_start (section_of input k) at && fits_on (section_of input k) (at / 4) (kind_of u.number)) ≡ true =
    subst (λ n. (length (acting_at (section_of input k) n) == 1 && is_start (section_of input k) n && fits_on (section_of input k) (n / 4) (kind_of u.number)) ≡ true) offset stood in
    let parts = and_parts (length (acting_at (section_of input k) at) == 1 && is_start (section_of input k) at) (fits_on (section_of input k) (at / 4) (kind_of u.number)) here in
    let two = and_parts (length (acting_at (section_of input k) at) == 1) (is_start (section_of input k) at) parts.0 in
    let alone : (length (u ∷ more) == 1) ≡ true = ap (λ (us : List Relocation). length us == 1) (sym e) ∙ two.0 in
    record { none_more = sole_rest u more alone; start = two.1; fits = parts.1; right = one; offset = offset; acting = both.1 }

pub pair_jalr : (a b : Option Instr) → are_pair a b ≡ true → (link : ℕ) × (base : ℕ) × (imm : ℕ) × (b ≡ Some (Jalr link base imm))
pair_jalr a (Some (Jalr link base imm)) e = (link, base, imm, refl)
pair_jalr a other e = let no : false ≡ true = sym (no_second (auipc_register a)) ∙ e in absurd (cc)

pub pair_parts : (s : SectionParts) (i : ℕ) → is_pair s i ≡ true → (are_pair (instr s i) (instr s (i + 1)) ≡ true) × (has_pair_target s i ≡ true)
unfolding is_pair
pair_parts s i e = and_parts (are_pair (instr s i) (instr s (i + 1))) (has_pair_target s i) e

-- an instruction is its word's
pub word_of : (s : SectionParts) (i : ℕ) (ins : Instr) → instr s i ≡ Some ins → decoded (word s i) ≡ Some ins
unfolding instr
word_of s i ins e = elim (cases_Bool (nat_lt i (word_count s))) [
  | inl below ↦ rw below at e
  | inr past ↦ let no : None ≡ Some ins = rw past at e in absurd (cc)
]

-- an instruction of code that starts at a word
pub record IsRightStart (input : InputParts) (k i : ℕ) (kind : ItemKind) : Type 0 where
  pub kind_is : kind_at (section_of input k) i ≡ Some kind
  pub goes : goes_right input k i (direct_at (section_of input k) i) ≡ true
  pub unreserved : (rule.names_reserved (instr (section_of input k) i) || is_pair (section_of input k) i && rule.names_reserved (instr (section_of input k) (i + 1))) ≡ false
  pub decoded : is_none (instr (section_of input k) i) ≡ false

pub right_start : (input : InputParts) → IsRight input → (k i : ℕ) → is_code (section_of input k) ≡ true → starts_at (section_of input k) i ≡ true
    → (kind : ItemKind) × IsRightStart input k i kind
right_start input right k i code starts =
    let below = start_below (section_of input k) i starts in
    let outside : not (is_inside (section_of input k) i) ≡ true = (and_parts (nat_lt i (word_count (section_of input k))) (not (is_inside (section_of input k) i)) starts).1 in
    let transfer = or_parts (is_none (kind_at (section_of input k) i)) (not (goes_right input k i (direct_at (section_of input k) i)))
    (and_rest (not (is_inside (section_of input k) i)) _ (right.transfers k i code below) outside) in
    elim (cases_Option (kind_at (section_of input k) i)) [
      | inl none ↦ let no : true ≡ false = rw none at transfer.0 in absurd (cc)
      | inr (kind, some) ↦ (
        kind,
        record {
          kind_is = some;
          goes = not-false (goes_right input k i (direct_at (section_of input k) i)) transfer.1;
          unreserved = and_rest (not (is_inside (section_of input k) i)) _ (right.unreserved k i code below) outside;
          decoded = right.decoded k i code below;
        },
      )
    ]

pub pair_kind_is : (s : SectionParts) (i : ℕ) → is_pair s i ≡ true → kind_at s i ≡ pair_kind (instr s (i + 1))
unfolding kind_at
pair_kind_is s i e = rw e refl

pub single_kind_is : (s : SectionParts) (i : ℕ) → is_pair s i ≡ false → kind_at s i ≡ word_kind (length (acting_at s (4 * i)) == 0) (instr s i)
unfolding kind_at
single_kind_is s i e = rw e refl

-- an instruction with its relocation, its target and whether its address is taken
abbrev pub linked_at : InputParts → List Item → ℕ → ℕ → ItemKind → Item
linked_at input places k i kind = record {
  section = k;
  offset = 4 * i;
  kind = kind;
  word = own_word (section_of input k) i;
  patch = patch_from input places (acting_at (section_of input k) (4 * i));
  target = target_of input places k i;
  taken = is_taken input k (4 * i);
}

pub linked_is : (input : InputParts) (places : List Item) (k i : ℕ) (kind : ItemKind) → kind_at (section_of input k) i ≡ Some kind → is_end kind ≡ false
    → item_with input places (start_at (section_of input k) k i) ≡ linked_at input places k i kind
linked_is input places k i kind e going =
    let index : 4 * i / 4 ≡ i = omega arith in
    rw (e, going, index) refl

-- the patch of a pair is none
pair_use : (kind : RelocKind) → is_pair_target kind ≡ true → kind ≡ PairTarget
pair_use PairTarget e = refl
pair_use other e = absurd (cc)

pub pair_patch : (input : InputParts) → IsRight input → (places : List Item) (k i : ℕ) → is_code (section_of input k) ≡ true → is_pair (section_of input k) i ≡ true
    → patch_from input places (acting_at (section_of input k) (4 * i)) ≡ put.Own
pair_patch input right places k i code pair = by (acting_at (section_of input k) (4 * i)) refl
  where
    by : (us : List Relocation) → acting_at (section_of input k) (4 * i) ≡ us → patch_from input places us ≡ put.Own
    by [] e = refl
    by (u ∷ more) e =
        let one = sole input right k (4 * i) code u more e in
        let some : list_any (λ (v : Relocation). is_pair_target (kind_of v.number)) (u ∷ more) ≡ true =
        ap (λ (us : List Relocation). list_any (λ (v : Relocation). is_pair_target (kind_of v.number)) us) (sym e) ∙ (pair_parts (section_of input k) i pair).1 in
        let here : (is_pair_target (kind_of u.number) || false) ≡ true = rw one.none_more at some in
        elim (or_cases (is_pair_target (kind_of u.number)) false here) [
          | inl target ↦ ap (patch_by input places u) (pair_use (kind_of u.number) target)
          | inr never ↦ absurd (cc)
        ]

-- what a relocation does to a single instruction of its form
patch_stands : (input : InputParts) (places : List Item) (u : Relocation) (i : Instr) (kind : ItemKind) (does : RelocKind) → single_kind false i ≡ Some kind
    → has_form does i ≡ true → stands_on (patch_by input places u does) kind i ≡ true
patch_stands input places u i kind High e form = upper_stands false i kind e form
patch_stands input places u i kind RelativeHigh e form = auipc_stands false i kind e form
patch_stands input places u i kind TableHigh e form = auipc_stands false i kind e form
patch_stands input places u i kind LowI e form = lower_stands i kind e form
patch_stands input places u i kind RelativeLowI e form = lower_stands i kind e form
patch_stands input places u i kind LowS e form = store_stands false i kind e form
patch_stands input places u i kind RelativeLowS e form = store_stands false i kind e form
patch_stands input places u i kind other e form = refl

single_patch : (input : InputParts) → IsRight input → (places : List Item) (k i : ℕ) (ins : Instr) (kind : ItemKind) → is_code (section_of input k) ≡ true
    → is_pair (section_of input k) i ≡ false → instr (section_of input k) i ≡ Some ins
    → single_kind (length (acting_at (section_of input k) (4 * i)) == 0) ins ≡ Some kind
    → stands_on (patch_from input places (acting_at (section_of input k) (4 * i))) kind ins ≡ true
single_patch input right places k i ins kind code single is e = by (acting_at (section_of input k) (4 * i)) refl
  where
    by : (us : List Relocation) → acting_at (section_of input k) (4 * i) ≡ us → stands_on (patch_from input places us) kind ins ≡ true
    by [] none = refl
    by (u ∷ more) some =
        let one = sole input right k (4 * i) code u more some in
        let index : 4 * i / 4 ≡ i = omega arith in
        let fits : fits_on (section_of input k) i (kind_of u.number) ≡ true = ap (λ n. fits_on (section_of input k) n (kind_of u.number)) (sym index) ∙ one.fits in
        let form : has_form (kind_of u.number) ins ≡ true = rw (single, is) at fits in
        let kept : single_kind false ins ≡ Some kind = rw (some, one.none_more) at e in
        patch_stands input places u ins kind (kind_of u.number) kept form

reads : (x : Item) (ins : Instr) → is_end x.kind ≡ false → decoded x.word ≡ Some ins → suits x.kind ins ≡ true → names_reserved ins ≡ false
    → stands_on x.patch x.kind ins ≡ true → is_read x ≡ true
reads x ins going word suited free standing = rw (going, word, suited, free, standing) refl

-- a start of an input without a fault is read
pub start_read : (input : InputParts) → IsRight input → (places : List Item) (k i : ℕ) → is_code (section_of input k) ≡ true → starts_at (section_of input k) i ≡ true
    → (kind : ItemKind) × (kind_at (section_of input k) i ≡ Some kind) × (is_end kind ≡ false) × (is_read (linked_at input places k i kind) ≡ true)
start_read input right places k i code starts =
    let found = right_start input right k i code starts in
    let kind = found.0 in
    let one = found.1 in
    elim (cases_Bool (is_pair (section_of input k) i)) [
      | inl pair ↦
          let (link, base, imm, second) = pair_jalr (instr (section_of input k) i) (instr (section_of input k) (i + 1)) (pair_parts (section_of input k) i pair).0 in
          let linked : pair_kind (instr (section_of input k) (i + 1)) ≡ Some kind = sym (pair_kind_is (section_of input k) i pair) ∙ one.kind_is in
          let suited : suits kind (Jalr link base imm) ≡ true = pair_suits link base imm kind (ap pair_kind (sym second) ∙ linked) in
          let going = no_end (Jalr link base imm) kind suited in
          let free : some_reserved (Jalr link base imm) ≡ false =
          ap rule.names_reserved (sym second) ∙ and_rest (is_pair (section_of input k) i) _ (or_parts (rule.names_reserved (instr (section_of input k) i)) _ one.unreserved).1 pair in
          let word_is : own_word (section_of input k) i ≡ word (section_of input k) (i + 1) = rw pair refl in
          let read : decoded (own_word (section_of input k) i) ≡ Some (Jalr link base imm) = ap decoded word_is ∙ word_of (section_of input k) (i + 1) (Jalr link base imm) second in (
            kind,
            one.kind_is,
            going,
            reads (linked_at input places k i kind) (Jalr link base imm) going read suited (none_reserved (Jalr link base imm) free)
                (ap (λ (p : Patch). stands_on p kind (Jalr link base imm)) (pair_patch input right places k i code pair)),
          )
      | inr single ↦ elim (cases_Option (instr (section_of input k) i)) [
        | inl none ↦ let no : true ≡ false = rw none at one.decoded in absurd (cc)
        | inr (ins, is) ↦
            let plain = length (acting_at (section_of input k) (4 * i)) == 0 in
            let counted : single_kind plain ins ≡ Some kind = ap (word_kind plain) (sym is) ∙ sym (single_kind_is (section_of input k) i single) ∙ one.kind_is in
            let suited = single_suits plain ins kind counted in
            let going = no_end ins kind suited in
            let free : some_reserved ins ≡ false = ap rule.names_reserved (sym is) ∙ (or_parts (rule.names_reserved (instr (section_of input k) i)) _ one.unreserved).0 in
            let word_is : own_word (section_of input k) i ≡ word (section_of input k) i = rw single refl in
            let read : decoded (own_word (section_of input k) i) ≡ Some ins = ap decoded word_is ∙ word_of (section_of input k) i ins is in (
              kind,
              one.kind_is,
              going,
              reads (linked_at input places k i kind) ins going read suited (none_reserved ins free) (single_patch input right places k i ins kind code single is counted),
            )
      ]
    ]
