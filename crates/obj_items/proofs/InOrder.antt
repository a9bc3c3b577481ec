-- The places of an input stand in their order, and one that is pushed behind them keeps it.
use Rattle.std.proofs.Common.{◌≡◌, ℕ, zero, suc, ◌+◌, ◌*◌, ◌<◌, ◌≤◌, get_or, true, List, [], ◌∷◌, ◌++◌, length, inl, inr, refl, sym, ap, subst, ◌∙◌, append_assoc, add-one, arith}
use Rattle.std.proofs.lemmas.Bool.{cases_Bool, cases_lt}
use Rattle.std.proofs.lemmas.Bool.Decides.{nat_tests}
use Rattle.std.proofs.lemmas.List.{append-nil, get_or-map, get_or_append_left, length-append, length-map}
use Rattle.std.proofs.Math.Seq.{get_or-append_seam}
use Rattle.std.specs.Prelude.{map}
use Rattle.obj_items.proofs.Prelude.{joined, InputParts, SectionParts, is_code, section_count, section_of, starts_at, word_count, Item, AreInOrder, is_before, is_end, no_item, MayFollow, item_with, code_items, end_at, outline, section_items, start_at, start_item}

before_more : (x : Item) (k at next : ℕ) → at ≤ next → is_before x k at ≡ true → is_before x k next ≡ true
before_more x k at next more h = grind (arith, nat_tests)

before_section : (x : Item) (k at : ℕ) → is_before x k at ≡ true → is_before x (k + 1) 0 ≡ true
before_section x k at h = grind (arith, nat_tests)

before_itself : (x : Item) (k next : ℕ) → x.section ≡ k → x.offset < next → is_before x k next ≡ true
before_itself x k next at less = grind (arith, nat_tests)

same_before : (a b c d : Item) → c ≡ a → d ≡ b → is_before a b.section b.offset ≡ true → is_before c d.section d.offset ≡ true
same_before a b c d p q h = rw (p, q) h

nothing_before : (k at : ℕ) → MayFollow [] k at
nothing_before k at = record { in_order = λ i j less below. absurd (omega arith); before = λ i below. absurd (omega arith) }

-- a later place may follow too, and one in the next section
pub follow_later : (items : List Item) (k at next : ℕ) → MayFollow items k at → at ≤ next → MayFollow items k next
follow_later items k at next h more = record { in_order = h.in_order; before = λ i below. before_more (get_or items i no_item) k at next more (h.before i below) }

pub follow_section : (items : List Item) (k at : ℕ) → MayFollow items k at → MayFollow items (k + 1) 0
follow_section items k at h = record { in_order = h.in_order; before = λ i below. before_section (get_or items i no_item) k at (h.before i below) }

module _ (items : List Item) (x : Item) where
  old : (i : ℕ) → i < length items → get_or (items ++ x ∷ []) i no_item ≡ get_or items i no_item
  old i below = get_or_append_left items (x ∷ []) no_item i below

  new : (i : ℕ) → i ≡ length items → get_or (items ++ x ∷ []) i no_item ≡ x
  new i last = ap (λ j. get_or (items ++ x ∷ []) j no_item) last ∙ get_or-append_seam items x [] no_item

  -- a place that may follow is pushed behind
  pub pushed_in_order : MayFollow items x.section x.offset → AreInOrder (items ++ x ∷ [])
  pushed_in_order h i j less below =
      let size = length-append items (x ∷ []) in
      elim (cases_lt j (length items)) [
        | inl inside ↦
            let earlier : i < length items = omega arith in
            same_before (get_or items i no_item) (get_or items j no_item) (get_or (items ++ x ∷ []) i no_item) (get_or (items ++ x ∷ []) j no_item)
            (old i earlier) (old j inside) (h.in_order i j less inside)
        | inr most ↦
            let earlier : i < length items = omega arith in
            same_before (get_or items i no_item) x (get_or (items ++ x ∷ []) i no_item) (get_or (items ++ x ∷ []) j no_item)
            (old i earlier) (new j (omega arith)) (h.before i earlier)
      ]

  pub pushed_follow : (next : ℕ) → MayFollow items x.section x.offset → x.offset < next → MayFollow (items ++ x ∷ []) x.section next
  pushed_follow next h more = record {
    in_order = pushed_in_order h;
    before =
        λ i below.
        let size = length-append items (x ∷ []) in
        elim (cases_lt i (length items)) [
          | inl inside ↦
              ap (λ (y : Item). is_before y x.section next) (old i inside)
              ∙ before_more (get_or items i no_item) x.section x.offset next (omega arith) (h.before i inside)
          | inr most ↦ ap (λ (y : Item). is_before y x.section next) (new i (omega arith)) ∙ before_itself x x.section next refl more
        ];
  }

-- the instructions of a section of code, behind places before it
starts_follow : (section : SectionParts) (items : List Item) (k i : ℕ) → MayFollow items k 0
    → MayFollow (items ++ joined (start_item section k) i) k (4 * i)
unfolding joined
starts_follow section items k zero h = rw append-nil h
starts_follow section items k (suc i) h =
    let before = starts_follow section items k i h in
    let apart : items ++ (joined (start_item section k) i ++ start_item section k i) ≡ (items ++ joined (start_item section k) i) ++ start_item section k i
    = sym (append_assoc items (joined (start_item section k) i) (start_item section k i)) in
    subst (λ (ys : List Item). MayFollow ys k (4 * suc i)) (sym apart)
    (elim (cases_Bool (starts_at section i)) [
      | inl starts ↦
          rw starts (pushed_follow (items ++ joined (start_item section k) i) (start_at section k i) (4 * suc i) before (omega arith))
      | inr inside ↦
          rw (inside, append-nil) (follow_later (items ++ joined (start_item section k) i) k (4 * i) (4 * suc i) before (omega arith))
    ])

code_follows : (section : SectionParts) (items : List Item) (k : ℕ) → MayFollow items k 0 → MayFollow (items ++ code_items section k) (k + 1) 0
code_follows section items k h =
    let starts = joined (start_item section k) (word_count section) in
    let here = follow_later (items ++ starts) k (4 * word_count section) section.size (starts_follow section items k (word_count section) h) (omega arith) in
    let pushed = pushed_follow (items ++ starts) (end_at section k) (section.size + 1) here (omega arith) in
    let one = follow_section ((items ++ starts) ++ end_at section k ∷ []) k (section.size + 1) pushed in
    subst (λ (ys : List Item). MayFollow ys (k + 1) 0) (append_assoc items starts (end_at section k ∷ [])) one

section_follows : (input : InputParts) (items : List Item) (k : ℕ) → MayFollow items k 0 → MayFollow (items ++ section_items input k) (k + 1) 0
section_follows input items k h = elim (cases_Bool (is_code (section_of input k))) [
  | inl code ↦ rw code (code_follows (section_of input k) items k h)
  | inr other ↦ rw (other, append-nil) (follow_section items k 0 h)
]

-- so are those of the sections before a number
pub sections_follow : (input : InputParts) (n : ℕ) → MayFollow (joined (section_items input) n) n 0
unfolding joined
sections_follow input zero = nothing_before 0 0
sections_follow input (suc n) =
    subst (λ m. MayFollow (joined (section_items input) n ++ section_items input n) m 0) (add-one n)
    (section_follows input (joined (section_items input) n) n (sections_follow input n))

pub outline_in_order : (input : InputParts) → AreInOrder (outline input)
unfolding outline
outline_in_order input = (sections_follow input (section_count input)).in_order

-- what relocations make of an instruction changes neither its section nor its offset
pub same_section : (input : InputParts) (places : List Item) (x : Item) → (item_with input places x).section ≡ x.section
same_section input places x = elim (cases_Bool (is_end x.kind)) [ inl e ↦ rw e refl | inr e ↦ rw e refl ]

pub same_offset : (input : InputParts) (places : List Item) (x : Item) → (item_with input places x).offset ≡ x.offset
same_offset input places x = elim (cases_Bool (is_end x.kind)) [ inl e ↦ rw e refl | inr e ↦ rw e refl ]

kept_before : (x y a b : Item) → a.section ≡ x.section → a.offset ≡ x.offset → b.section ≡ y.section → b.offset ≡ y.offset
    → is_before x y.section y.offset ≡ true → is_before a b.section b.offset ≡ true
kept_before x y a b p q r s h = rw (p, q, r, s) h

pub linked_in_order : (input : InputParts) (places items : List Item) → AreInOrder items → AreInOrder (map (item_with input places) items)
linked_in_order input places items order i j less below =
    let size = length-map items (item_with input places) in
    let later : j < length items = omega arith in
    let earlier : i < length items = omega arith in
    let at_i = get_or-map (item_with input places) items i no_item no_item earlier in
    let at_j = get_or-map (item_with input places) items j no_item no_item later in
    kept_before (get_or items i no_item) (get_or items j no_item) (get_or (map (item_with input places) items) i no_item)
    (get_or (map (item_with input places) items) j no_item)
    (ap (λ (x : Item). x.section) at_i ∙ same_section input places (get_or items i no_item))
    (ap (λ (x : Item). x.offset) at_i ∙ same_offset input places (get_or items i no_item))
    (ap (λ (x : Item). x.section) at_j ∙ same_section input places (get_or items j no_item))
    (ap (λ (x : Item). x.offset) at_j ∙ same_offset input places (get_or items j no_item))
    (order i j less later)
