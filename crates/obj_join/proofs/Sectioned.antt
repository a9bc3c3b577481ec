-- The symbols that sections have addresses of from the table: of one section by its uses of the table alone, and of several one after another.
use Rattle.std.proofs.Common.{◌≡◌, ◌==◌, ℕ, zero, suc, ◌*◌, ◌≤◌, ◌&&◌, List, [], ◌∷◌, ◌++◌, length, map, take, get_or, inl, inr, refl, sym, ap, ◌∙◌, add-one, append-nil, arith}
use Rattle.std.specs.Prelude.{filter, flat_map, fold}
use Rattle.std.proofs.lemmas.Bool.{cases_Bool}
use Rattle.std.proofs.lemmas.List.{take_more, take_all}
use Rattle.std.proofs.lemmas.Grind.{flat_map-append}
use Rattle.least.specs.Nearest.{joined}
use Rattle.obj_input.specs.declared.parts.Sort.TheVariants.{Dropped}
use Rattle.obj_join.specs.Said.{SectionSaid, UseSaid}
use Rattle.obj_join.specs.Table.{is_table_use, slots, table_symbols_at, table_symbols_of, with_symbol}
use Rattle.obj_join.specs.Uses.{symbols_at, table_uses}
use Rattle.obj_join.proofs.Sorting.{joined_same}

one_word : (resolve : ℕ → ℕ) (uses : List UseSaid) (w : ℕ)
    → symbols_at (table_uses resolve uses) w ≡ map (λ u. resolve u.symbol) (filter (λ u. is_table_use u && u.offset == 4 * w) uses)
one_word resolve [] w = refl
one_word resolve (u ∷ uses) w = elim (cases_Bool (is_table_use u)) [
  | inl some ↦ elim (cases_Bool (u.offset == 4 * w)) [
    | inl here ↦ rw (some, here) (ap (λ ns. resolve u.symbol ∷ ns) (one_word resolve uses w))
    | inr other ↦ rw (some, other) (one_word resolve uses w)
  ]
  | inr none ↦ rw none (one_word resolve uses w)
]

-- by the uses of the table alone
pub narrowed : (resolve : ℕ → ℕ) (s : SectionSaid) (n : ℕ) → joined (symbols_at (table_uses resolve s.uses)) n ≡ joined (table_symbols_at resolve s) n
narrowed resolve s n = joined_same _ (table_symbols_at resolve s) n (λ w below. one_word resolve s.uses w)

by_index : {A : Type 0} (f : A → List ℕ) (xs : List A) (d : A) (n : ℕ) → n ≤ length xs → joined (λ k. f (get_or xs k d)) n ≡ flat_map f (take n xs)
unfolding joined
by_index f xs d zero within = refl
by_index f xs d (suc n) within =
    ap (λ ys. ys ++ f (get_or xs n d)) (by_index f xs d n (omega arith))
    ∙ sym (ap (λ (k : ℕ). flat_map f (take k xs)) (sym (add-one n)) ∙ ap (flat_map f) (take_more xs n d within)
    ∙ flat_map-append f (take n xs) (get_or xs n d ∷ []) ∙ ap (λ ys. flat_map f (take n xs) ++ ys) (append-nil (f (get_or xs n d))))

-- one section after another
pub in_order : (resolve : ℕ → ℕ) (sections : List SectionSaid) → slots resolve sections ≡ fold with_symbol [] (flat_map (table_symbols_of resolve) sections)
unfolding slots
in_order resolve sections =
    ap (fold with_symbol [])
    (by_index (table_symbols_of resolve) sections (record { sort = Dropped; size = 0; align = 0; content = []; uses = [] }) (length sections) (omega arith)
    ∙ ap (flat_map (table_symbols_of resolve)) (take_all (length sections) sections (omega arith)))
