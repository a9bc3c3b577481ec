-- Lists that rise.
use Rattle.std.proofs.Common.{◌≡◌, ℕ, zero, suc, ◌-◌, ◌<◌, ◌≤◌, Bool, true, List, [], ◌∷◌, length, drop, get_or, nat_le, nat_lt, refl, sym, ◌∙◌, length-drop, arith}
use Rattle.std.proofs.lemmas.Bool.{and_from, and_parts, leb-true, le-leb, ltb-true, lt-ltb}
use Rattle.cfi_graph.specs.declared.line.Key.{Key}
use Rattle.cfi_graph.specs.declared.line.Key.TheVariants.{Head, Range, Label, Address}
use Rattle.cfi_graph.specs.Graph.{is_rising, key_below}

short_rises : (xs : List ℕ) → length xs ≤ 1 → is_rising nat_lt xs ≡ true
short_rises [] h = refl
short_rises (x ∷ []) h = refl
short_rises (x ∷ y ∷ xs) h = absurd (omega arith)

pub rising_end : (xs : List ℕ) (i : ℕ) → length xs ≤ i → is_rising nat_lt (drop (i - 1) xs) ≡ is_rising nat_lt xs → true ≡ is_rising nat_lt xs
rising_end xs i h e = sym (short_rises (drop (i - 1) xs) (omega (arith, length-drop (i - 1) xs))) ∙ e

-- In a list that rises by a transitive test, each member is below all later ones.
module _ {A : Type 0} (below : A → A → Bool) (transitive : (x y z : A) → below x y ≡ true → below y z ≡ true → below x z ≡ true) where
  rising_tail : (x : A) (xs : List A) → is_rising below (x ∷ xs) ≡ true → is_rising below xs ≡ true
  rising_tail x [] e = refl
  rising_tail x (y ∷ ys) e = (and_parts (below x y) (is_rising below (y ∷ ys)) e).1

  rising_first : (x : A) (xs : List A) → is_rising below (x ∷ xs) ≡ true → (j : ℕ) (d : A) → j < length xs → below x (get_or xs j d) ≡ true
  rising_first x [] e j d h = absurd (omega arith)
  rising_first x (y ∷ ys) e zero d h =
      (and_parts (below x y) (is_rising below (y ∷ ys)) e).0
  rising_first x (y ∷ ys) e (suc j) d h =
      let p = and_parts (below x y) (is_rising below (y ∷ ys)) e in
      transitive x y _ p.0 (rising_first y ys p.1 j d (omega arith))

  pub rising_pairs : (xs : List A) → is_rising below xs ≡ true → (i j : ℕ) (d : A) → i < j → j < length xs → below (get_or xs i d) (get_or xs j d) ≡ true
  rising_pairs [] e i j d h k = absurd (omega arith)
  rising_pairs (x ∷ xs) e zero zero d h k = absurd (omega arith)
  rising_pairs (x ∷ xs) e zero (suc j) d h k = rising_first x xs e j d (omega arith)
  rising_pairs (x ∷ xs) e (suc i) zero d h k = absurd (omega arith)
  rising_pairs (x ∷ xs) e (suc i) (suc j) d h k =
      rising_pairs xs (rising_tail x xs e) i j d (omega arith) (omega arith)

less_transitive : (x y z : ℕ) → nat_lt x y ≡ true → nat_lt y z ≡ true → nat_lt x z ≡ true
less_transitive x y z p q =
    let first = ltb-true x y p in let second = ltb-true y z q in lt-ltb x z (omega arith)

range_transitive : (b c d e f : ℕ) → key_below (Range 0 b) (Range c d) ≡ true → key_below (Range c d) (Range e f) ≡ true → key_below (Range 0 b) (Range e f) ≡ true
range_transitive b c d e f p q =
    let first = and_parts (nat_le b c) (nat_lt c d) p in
    let second = and_parts (nat_le d e) (nat_lt e f) q in
    let to_c = leb-true b c first.0 in
    let to_d = ltb-true c d first.1 in
    let to_e = leb-true d e second.0 in
    and_from _ _ (le-leb b e (omega arith)) second.1

pub key_transitive : (x y z : Key) → key_below x y ≡ true → key_below y z ≡ true → key_below x z ≡ true
key_transitive Head Head z p q = absurd cc
key_transitive Head (Range c d) Head p q = absurd cc
key_transitive Head (Range c d) (Range e f) p q = refl
key_transitive Head (Range c d) (Label m) p q = refl
key_transitive Head (Range c d) (Address g) p q = refl
key_transitive Head (Label l) (Range e f) p q = refl
key_transitive Head (Address a) (Range e f) p q = refl
key_transitive (Range a b) Head z p q = absurd cc
key_transitive (Range a b) (Range c d) Head p q = absurd cc
key_transitive (Range a b) (Label l) Head p q = absurd cc
key_transitive (Range a b) (Address c) Head p q = absurd cc
key_transitive (Range a b) (Range c d) (Range e f) p q = range_transitive b c d e f p q
key_transitive (Range a b) (Label l) (Range e f) p q = absurd cc
key_transitive (Range a b) (Address c) (Range e f) p q = absurd cc
key_transitive (Range a b) y (Label m) p q = refl
key_transitive (Range a b) y (Address g) p q = refl
key_transitive (Label k) (Range c d) z p q = absurd cc
key_transitive (Label k) (Label l) (Range e f) p q = absurd cc
key_transitive (Label k) (Address a) (Range e f) p q = absurd cc
key_transitive (Address a) (Range c d) z p q = absurd cc
key_transitive (Address a) (Address b) (Range e f) p q = absurd cc
key_transitive Head (Label l) Head p q = absurd cc
key_transitive Head (Label l) (Label m) p q = refl
key_transitive Head (Label l) (Address b) p q = refl
key_transitive Head (Address a) Head p q = absurd cc
key_transitive Head (Address a) (Label m) p q = refl
key_transitive Head (Address a) (Address b) p q = refl
key_transitive (Label k) Head z p q = absurd cc
key_transitive (Label k) (Label l) Head p q = absurd cc
key_transitive (Label k) (Address a) Head p q = absurd cc
key_transitive (Address a) Head z p q = absurd cc
key_transitive (Address a) (Address b) Head p q = absurd cc
key_transitive (Label k) (Label l) (Label m) p q = less_transitive k l m p q
key_transitive (Label k) (Label l) (Address b) p q = refl
key_transitive (Label k) (Address a) (Label m) p q = cc
key_transitive (Label k) (Address a) (Address b) p q = refl
key_transitive (Address a) (Label l) z p q = cc
key_transitive (Address a) (Address b) (Label m) p q = cc
key_transitive (Address a) (Address b) (Address c) p q = less_transitive a b c p q
