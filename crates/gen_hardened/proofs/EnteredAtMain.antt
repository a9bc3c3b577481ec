-- A generated object is entered at its first place, where `main` begins.
use Rattle.std.proofs.Common.{◌≡◌, ℕ, zero, suc, ◌==◌, ◌+◌, ◌*◌, ◌<◌, Bool, true, false, Option, Some, None, List, [], ◌∷◌, ◌++◌, length, map, codes, inl, inr, refl, sym, ap, ◌∙◌, arith, lt-ltb, length-append}
use Rattle.std.specs.Prelude.{option_and_then, slice_index_or}
use Rattle.std.specs.List.{flat_map}
use Rattle.std.proofs.lemmas.Bool.{cases_Bool, cases_lt}
use Rattle.rv_word.proofs.Cases.{cases_Option}
use Rattle.gen_hardened.proofs.Prelude.{Instr, Jalr, joined, ItemKind, InputParts, Named, SectionParts, acting_at, is_code, section_count, section_of, instr, is_pair, word_count, find_spot, kind_at, pair_kind, word_kind, Item, Program, is_end, is_spot, item_of, no_item, item_with, linked, code_items, end_at, outline, section_items, start_at, start_item, program_of, entry_place, instruction_at, Function, function_lines, main_lines, program_lines, IsGenerated}
use Rattle.obj_program.specs.Program.{place_of}
use Rattle.obj_items.proofs.Starts.{pair_kind_is, single_kind_is}
use Rattle.obj_items.proofs.Suited.{no_end, pair_suits, single_suits}
use Rattle.gen_hardened.proofs.DataRoom.{no_code}

-- what begins lists that are joined: what begins the first that is not empty
module _ {A : Type 0} (parts : ℕ → List A) where
  none_joined : (n : ℕ) → ((j : ℕ) → j < n → parts j ≡ []) → joined parts n ≡ []
  unfolding joined
  none_joined zero none = refl
  none_joined (suc n) none = rw (none_joined n (λ j below. none j (omega arith)), none n (omega arith)) refl

  first_joined : (k : ℕ) (x : A) (xs : List A) → ((j : ℕ) → j < k → parts j ≡ []) → parts k ≡ x ∷ xs → (n : ℕ) → k < n
      → (rest : List A) × (joined parts n ≡ x ∷ rest)
  unfolding joined
  first_joined k x xs none here zero below = absurd (omega arith)
  first_joined k x xs none here (suc n) below = elim (cases_lt k n) [
    | inl less ↦
        let before = first_joined k x xs none here n less in
        (before.0 ++ parts n, ap (λ ys. ys ++ parts n) before.1)
    | inr most ↦
        let last : n ≡ k = omega arith in
        (xs, ap (λ ys. ys ++ parts n) (none_joined n (λ j less. none j (omega arith))) ∙ ap parts last ∙ here)
  ]

-- an instruction is no end
pair_going : (o : Option Instr) (kind : ItemKind) → pair_kind o ≡ Some kind → is_end kind ≡ false
pair_going (Some (Jalr link base imm)) kind e = no_end (Jalr link base imm) kind (pair_suits link base imm kind e)
pair_going other kind e = absurd (cc)

single_going : (plain : Bool) (o : Option Instr) (kind : ItemKind) → word_kind plain o ≡ Some kind → is_end kind ≡ false
single_going plain (Some i) kind e = no_end i kind (single_suits plain i kind e)
single_going plain None kind e = absurd (cc)

kind_going : (s : SectionParts) (i : ℕ) (kind : ItemKind) → kind_at s i ≡ Some kind → is_end kind ≡ false
kind_going s i kind e = elim (cases_Bool (is_pair s i)) [
  | inl pair ↦ pair_going (instr s (i + 1)) kind (sym (pair_kind_is s i pair) ∙ e)
  | inr single ↦ single_going (length (acting_at s (4 * i)) == 0) (instr s i) kind (sym (single_kind_is s i single) ∙ e)
]

start_going : (s : SectionParts) (k i : ℕ) → is_end (start_at s k i).kind ≡ false
start_going s k i = elim (cases_Option (kind_at s i)) [
  | inl none ↦ rw none refl
  | inr (kind, some) ↦ rw some (kind_going s i kind some)
]

-- a place that is the first is found first, and is an instruction
module _ (program : Program) (y : Item) (ys : List Item) (items : program.items ≡ y ∷ ys) where
  found_first : (k at : ℕ) → is_spot k at y ≡ true → place_of program.items k at ≡ Some 0
  found_first k at here =
      let more = lt-ltb 0 (suc (length ys)) (omega arith) in ap (λ xs. place_of xs k at) items ∙ rw (here, more) refl

  going_first : is_end y.kind ≡ false → is_end (item_of program 0).kind ≡ false
  going_first going = ap (λ xs. is_end (slice_index_or xs 0 no_item).kind) items ∙ going

  instruction_first : (k at : ℕ) → is_spot k at y ≡ true → is_end y.kind ≡ false → instruction_at program (k, at) ≡ Some 0
  instruction_first k at here going = rw (found_first k at here, going_first going) refl

module _ {fs : List Function} {input : InputParts} (g : IsGenerated fs input) where
  abbrev text : SectionParts
  text = section_of input 1

  -- the place where `main` begins
  abbrev start : Item
  start = start_at text 1 0

  abbrev main_item : Item
  main_item = linked input (outline input) start

  main_there : 0 < word_count text
  unfolding program_lines main_lines
  main_there =
      let size = ap (λ (s : SectionParts). s.size) g.text in
      let count = length-append main_lines (flat_map function_lines fs) in
      omega arith

  first_start : start_item text 1 0 ≡ start ∷ []
  first_start = let below = lt-ltb 0 (word_count text) main_there in rw below refl

  text_code : is_code text ≡ true
  text_code = ap (λ (s : SectionParts). is_code s) g.text

  first_item : (rest : List Item) × (section_items input 1 ≡ start ∷ rest)
  first_item =
      let starts =
      first_joined (start_item text 1) 0 start [] (λ j less. absurd (omega arith)) first_start (word_count text) main_there in
      let last = end_at text 1 ∷ [] in
      let all : code_items text 1 ≡ (start ∷ starts.0) ++ last = ap (λ xs. xs ++ last) starts.1 in
      (starts.0 ++ last, rw text_code all)

  none_before : (j : ℕ) → j < 1 → section_items input j ≡ []
  none_before j less = let other = no_code g j (λ same. absurd (omega arith)) in rw other refl

  first_place : (rest : List Item) × (outline input ≡ start ∷ rest)
  unfolding outline
  first_place =
      let first = first_item in
      let count = g.count in
      first_joined (section_items input) 1 start first.0 none_before first.1 (section_count input) (omega arith)

  main_is : item_with input (outline input) start ≡ main_item
  main_is = let going = start_going text 1 0 in rw going refl

  first_of_program : (rest : List Item) × ((program_of input).items ≡ main_item ∷ rest)
  unfolding program_of
  first_of_program =
      let first = first_place in
      let place = item_with input (outline input) in
      (map place first.0, ap (map place) first.1 ∙ ap (λ y. y ∷ map place first.0) main_is)

  main_named : find_spot (program_of input).names (codes "main") ≡ Some (1, 0)
  unfolding program_of
  main_named = ap (λ (names : List Named). find_spot names (codes "main")) g.names

  pub entered_at_main : entry_place (program_of input) (codes "main") ≡ Some 0
  entered_at_main =
      let first = first_of_program in
      ap (option_and_then (instruction_at (program_of input))) main_named
      ∙ instruction_first (program_of input) main_item first.0 first.1 1 0 refl (start_going text 1 0)
