-- What the places of a generated object weigh together.
use Rattle.std.proofs.Common.{◌≡◌, ◌≢◌, ℕ, zero, suc, ◌+◌, ◌*◌, ◌/◌, ◌≤◌, ◌<◌, false, if◌then◌else◌, List, [], ◌∷◌, length, inl, inr, refl, ap, ◌∙◌, arith, lt-ltb}
use Rattle.std.specs.List.{sum_by}
use Rattle.std.proofs.lemmas.Bool.{cases_Bool, cases_eq}
use Rattle.std.proofs.lemmas.List.{append-nil}
use Rattle.std.proofs.lemmas.List.Sums.{sum_by-append, sum_by-cons}
use Rattle.gen_hardened.proofs.Prelude.{joined, decoded, number_at, InputParts, SectionParts, is_code, is_code_sort, section_of, instr, starts_at, word_count, Item, code_items, end_at, outline, section_items, start_item, Function, program_lines, Line, code_bytes, IsGenerated, text_section}
use Rattle.gen_hardened.proofs.Listings.{joined_none}
use Rattle.gen_hardened.proofs.Encoded.{line}
use Rattle.gen_hardened.proofs.Weights.{kind_weight, place_weighs, word_weight}
use Rattle.gen_hardened.proofs.LineWeights.{line_weight, program_weighs, word_of, word_there}

abbrev pub item_weight : Item → ℕ
item_weight item = kind_weight item.kind

-- lists one after another, the first taken for itself
sum_joined : {A : Type 0} (f : A → ℕ) (parts : ℕ → List A) (n : ℕ)
    → sum_by f (joined parts (suc n)) ≡ sum_by f (parts 0) + sum_by f (joined (λ k. parts (suc k)) n)
unfolding joined
sum_joined f parts zero = omega arith
sum_joined f parts (suc n) =
    let later : ℕ → List _ = λ k. parts (suc k) in
    omega (
      arith,
      sum_joined f parts n,
      sum_by-append f (joined parts (suc n)) (parts (suc n)),
      sum_by-append f (joined later n) (later n),
    )

-- where each list weighs no more than a line, all weigh no more than the lines
joined_weighs : {A : Type 0} (f : A → ℕ) (g : Line → ℕ) (parts : ℕ → List A) (ls : List Line)
    → ((k : ℕ) → k < length ls → sum_by f (parts k) ≤ g (line ls k)) → sum_by f (joined parts (length ls)) ≤ sum_by g ls
unfolding joined
joined_weighs f g parts [] each = omega arith
joined_weighs f g parts (l ∷ ls) each =
    omega (
      arith,
      each 0 (omega arith),
      sum_joined f parts (length ls),
      sum_by-cons g l ls,
      joined_weighs f g (λ k. parts (suc k)) ls (λ k below. each (suc k) (omega arith)),
    )

-- of several lists one alone is not empty
joined_one : {A : Type 0} (parts : ℕ → List A) (n k : ℕ) → k < n → ((j : ℕ) → j ≢ k → parts j ≡ []) → joined parts n ≡ parts k
unfolding joined
joined_one parts zero k below others = absurd (omega arith)
joined_one parts (suc n) k below others = elim (cases_eq n k) [
  | inl last ↦
      let before : joined parts n ≡ [] = joined_none parts n (λ j less. others j (omega arith)) in
      rw before (ap parts last)
  | inr other ↦ rw (joined_one parts n k (omega arith) others, others n other) (append-nil (parts k))
]

module _ (ls : List Line) (s : SectionParts) (k : ℕ) (size : s.size ≡ 4 * length ls) (content : s.content ≡ code_bytes ls) where
  count_is : word_count s ≡ length ls
  count_is = ap (λ bytes. bytes / 4) size ∙ omega arith

  word_weighs : (i : ℕ) → i < length ls → word_weight (instr s i) ≡ line_weight (line ls i)
  unfolding instr line_weight
  word_weighs i below =
      let inside = lt-ltb i (word_count s) (omega (arith, count_is)) in
      let same : number_at s.content (4 * i) 4 ≡ word_of (line ls i) = ap (λ bytes. number_at bytes (4 * i) 4) content ∙ word_there ls i below in
      rw inside (ap (λ w. word_weight (decoded w)) same)

  start_weighs : (i : ℕ) → i < length ls → sum_by item_weight (start_item s k i) ≤ line_weight (line ls i)
  start_weighs i below = elim (cases_Bool (starts_at s i)) [
    | inl starts ↦ rw starts (omega (arith, place_weighs s i, word_weighs i below))
    | inr inside ↦ rw inside (omega arith)
  ]

  code_weighs : sum_by item_weight (code_items s k) ≤ sum_by line_weight ls + 8
  code_weighs =
      let starts = start_item s k in
      let each = joined_weighs item_weight line_weight starts ls start_weighs in
      let all : sum_by item_weight (joined starts (word_count s)) ≤ sum_by line_weight ls = rw count_is each in
      omega (arith, all, sum_by-append item_weight (joined starts (word_count s)) (end_at s k ∷ []))

module _ (fs : List Function) (input : InputParts) (g : IsGenerated fs input) where
  no_code : (k : ℕ) → k ≢ 1 → is_code (section_of input k) ≡ false
  no_code k other = elim (cases_eq k 2) [
    | inl two ↦ ap (λ j. is_code (section_of input j)) two ∙ ap is_code g.table
    | inr third ↦ ap is_code_sort (g.dropped k other third)
  ]

  outline_is : outline input ≡ code_items (text_section fs) 1
  unfolding outline
  outline_is =
      ap (joined (section_items input)) g.count
      ∙ joined_one (section_items input) 8 1 (omega arith) (λ j other. rw (no_code j other) refl)
      ∙ ap (λ s. if is_code s then code_items s 1 else []) g.text

  -- a function weighs at most 332, a line of `main` 84, and the end 8
  pub outline_weighs : sum_by item_weight (outline input) ≤ 17 * 84 + 332 * length fs + 8
  outline_weighs =
      let ls = program_lines fs in
      rw outline_is (omega (arith, code_weighs ls (text_section fs) 1 refl refl, program_weighs fs))
