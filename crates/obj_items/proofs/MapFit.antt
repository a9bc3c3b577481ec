-- A map can name each place of the program of an input whose code is fit.
use Rattle.std.proofs.Common.{◌≡◌, ℕ, zero, suc, ◌+◌, ◌-◌, ◌*◌, ◌%◌, ◌<◌, ◌≤◌, nat_lt, get_or, true, false, Option, Some, None, List, [], ◌∷◌, ◌++◌, length, inl, inr, refl, sym, ap, ◌∙◌, add-one, arith}
use Rattle.std.proofs.lemmas.Bool.{cases_Bool, cases_lt, lt-ltb}
use Rattle.std.proofs.lemmas.List.{append-nil, get_or-append-add, get_or_append_left, get_or-map, length-append, length-map}
use Rattle.std.proofs.lemmas.List.Elements.{All-get_or}
use Rattle.std.proofs.Math.Seq.{get_or-append_seam}
use Rattle.obj_items.proofs.Prelude.{Instr, joined, InputParts, SectionParts, is_code, section_count, section_of, are_pair, are_same, instr, is_inside, is_pair, jalr_base, starts_at, word_count, Item, FitsMap, count, item_of, no_item, HasFitCode, item_with, code_items, end_at, outline, section_items, start_at, start_item, program_of}
use Rattle.obj_items.proofs.InOrder.{same_offset, same_section}
use Rattle.obj_items.proofs.LookUp.{IsOfOutline, outline_right}
use Rattle.obj_items.proofs.Starts.{pair_jalr, pair_parts}

-- the second word of a pair starts no pair
no_second : (b : Option ℕ) → are_same None b ≡ false
no_second None = refl
no_second (Some x) = refl

jalr_starts_none : (a b c : Option Instr) → are_pair a b ≡ true → are_pair b c ≡ false
jalr_starts_none a b c e = let (link, base, imm, is) = pair_jalr a b e in rw is (no_second (jalr_base c))

pair_apart : (s : SectionParts) (i : ℕ) → is_pair s i ≡ true → is_pair s (i + 1) ≡ false
unfolding is_pair
pair_apart s i e =
    let none = jalr_starts_none (instr s i) (instr s (i + 1)) (instr s (i + 1 + 1)) (pair_parts s i e).0 in
    rw none refl

inside_apart : (s : SectionParts) (i : ℕ) → is_inside s i ≡ true → is_pair s i ≡ false
inside_apart s zero e = absurd (cc)
inside_apart s (suc i) e = ap (is_pair s) (sym (add-one i)) ∙ pair_apart s i e

-- each place is at most two words on for each place before it
abbrev AreNear : List Item → Type 0
AreNear items = (j : ℕ) → j < length items → (get_or items j no_item).offset ≤ 8 * j

none_near : AreNear []
none_near j below = absurd (omega arith)

near_append : (xs ys : List Item) → AreNear xs → AreNear ys → AreNear (xs ++ ys)
near_append xs ys first second j below =
    let size = length-append xs ys in
    elim (cases_lt j (length xs)) [
      | inl inside ↦ rw (get_or_append_left xs ys no_item j inside) (first j inside)
      | inr past ↦
          let index : length xs + (j - length xs) ≡ j = omega arith in
          let same : get_or (xs ++ ys) j no_item ≡ get_or ys (j - length xs) no_item =
          ap (λ n. get_or (xs ++ ys) n no_item) (sym index) ∙ get_or-append-add xs ys (j - length xs) no_item in
          let at = second (j - length xs) (omega arith) in
          let offset = ap (λ (x : Item). x.offset) same in
          omega arith
    ]

near_pushed : (xs : List Item) (x : Item) → AreNear xs → x.offset ≤ 8 * length xs → AreNear (xs ++ x ∷ [])
near_pushed xs x near here j below =
    let size = length-append xs (x ∷ []) in
    elim (cases_lt j (length xs)) [
      | inl inside ↦ rw (get_or_append_left xs (x ∷ []) no_item j inside) (near j inside)
      | inr past ↦
          let last : j ≡ length xs = omega arith in
          let same : get_or (xs ++ x ∷ []) j no_item ≡ x = ap (λ n. get_or (xs ++ x ∷ []) n no_item) last ∙ get_or-append_seam xs x [] no_item in
          let offset = ap (λ (y : Item). y.offset) same in
          omega arith
    ]

-- the instructions before a word are half as many as words or more
record AreMany (section : SectionParts) (i : ℕ) (starts : List Item) : Type 0 where
  near : AreNear starts
  many : i ≤ 2 * length starts
  more : is_inside section i ≡ true → i + 1 ≤ 2 * length starts

many_start : (section : SectionParts) (k i : ℕ) (starts : List Item) → AreMany section i starts → AreMany section (suc i) (starts ++ start_at section k i ∷ [])
many_start section k i starts h =
    let size = length-append starts (start_at section k i ∷ []) in
    let many = h.many in
    record {
      near = near_pushed starts (start_at section k i) h.near (omega arith);
      many = omega arith;
      more = λ e. omega arith;
    }

many_inside : (section : SectionParts) (i : ℕ) (starts : List Item) → is_inside section i ≡ true → AreMany section i starts → AreMany section (suc i) starts
many_inside section i starts inside h =
    let more = h.more inside in
    let apart = inside_apart section i inside in
    record { near = h.near; many = omega arith; more = λ e. absurd (cc) }

no_start_inside : (section : SectionParts) (i : ℕ) → is_inside section i ≡ true → starts_at section i ≡ false
no_start_inside section i inside = elim (cases_Bool (nat_lt i (word_count section))) [ inl below ↦ rw (below, inside) refl | inr past ↦ rw past refl ]

start_outside : (section : SectionParts) (i : ℕ) → i < word_count section → is_inside section i ≡ false → starts_at section i ≡ true
start_outside section i below outside = rw (lt-ltb i (word_count section) below, outside) refl

starts_many : (section : SectionParts) (k i : ℕ) → i ≤ word_count section → AreMany section i (joined (start_item section k) i)
unfolding joined
starts_many section k zero most = record { near = none_near; many = omega arith; more = λ e. absurd (cc) }
starts_many section k (suc i) most =
    let before : AreMany section i (joined (start_item section k) i) = starts_many section k i (omega arith) in
    elim (cases_Bool (is_inside section i)) [
      | inl inside ↦ rw (no_start_inside section i inside, append-nil) (many_inside section i (joined (start_item section k) i) inside before)
      | inr outside ↦ rw (start_outside section i (omega arith) outside) (many_start section k i (joined (start_item section k) i) before)
    ]

-- a section of whole words
code_near : (section : SectionParts) (k : ℕ) → section.size % 4 ≡ 0 → AreNear (code_items section k)
code_near section k whole =
    let starts = joined (start_item section k) (word_count section) in
    let all : AreMany section (word_count section) starts = starts_many section k (word_count section) (omega arith) in
    let many = all.many in
    near_pushed starts (end_at section k) all.near (omega arith)

section_near : (input : InputParts) → HasFitCode input → (k : ℕ) → AreNear (section_items input k)
section_near input fit k = elim (cases_Bool (is_code (section_of input k))) [
  | inl code ↦ rw code (code_near (section_of input k) k (fit.words k code))
  | inr other ↦ rw other none_near
]

sections_near : (input : InputParts) → HasFitCode input → (n : ℕ) → AreNear (joined (section_items input) n)
unfolding joined
sections_near input fit zero = none_near
sections_near input fit (suc n) = near_append (joined (section_items input) n) (section_items input n) (sections_near input fit n) (section_near input fit n)

outline_near : (input : InputParts) → HasFitCode input → AreNear (outline input)
unfolding outline
outline_near input fit = sections_near input fit (section_count input)

-- offsets are those of words, too
placed_whole : (input : InputParts) → HasFitCode input → (x : Item) → IsOfOutline input x → x.offset % 4 ≡ 0
placed_whole input fit x placed = elim placed.either [
  | inl (i, starts, e) ↦ let at : x.offset ≡ 4 * i = ap (λ (y : Item). y.offset) e in omega arith
  | inr e ↦
      let at : x.offset ≡ (section_of input x.section).size = ap (λ (y : Item). y.offset) e in
      let whole = fit.words x.section placed.code in
      omega arith
]

moved : (k : ℕ) (x y : Item) → x.section ≡ y.section → x.offset ≡ y.offset → FitsMap k y → FitsMap k x
moved k x y p q h = let a = h.section in let b = h.whole in let c = h.near in record { section = omega arith; whole = omega arith; near = omega arith }

pub program_fits : (input : InputParts) → HasFitCode input → (k : ℕ) → k < count (program_of input) → FitsMap k (item_of (program_of input) k)
unfolding program_of
program_fits input fit k below =
    let size = length-map (outline input) (item_with input (outline input)) in
    let inside : k < length (outline input) = omega arith in
    let at = get_or-map (item_with input (outline input)) (outline input) k no_item no_item inside in
    let x : Item = get_or (outline input) k no_item in
    let placed : IsOfOutline input x = All-get_or (IsOfOutline input) (outline input) k no_item inside (outline_right input) in
    moved k (item_of (program_of input) k) x (ap (λ (y : Item). y.section) at ∙ same_section input (outline input) x)
    (ap (λ (y : Item). y.offset) at ∙ same_offset input (outline input) x)
    (record { section = fit.named x.section placed.code; whole = placed_whole input fit x placed; near = outline_near input fit k inside })
