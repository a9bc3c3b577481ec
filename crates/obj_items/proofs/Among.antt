-- Which object has the symbol with a number, one object more.
use Rattle.std.proofs.Common.{◌≡◌, ℕ, ◌+◌, ◌-◌, ◌<◌, ◌≤◌, List, ◌∷◌, drop, length, get_or, map, sym, ap, ◌∙◌, arith}
use Rattle.std.proofs.lemmas.Bool.{le-ltb, lt-ltb}
use Rattle.std.proofs.lemmas.List.{drop_all, drop_more}
use Rattle.obj_items.proofs.Prelude.{symbol_count, among, said_of, symbol_said_in}
use Rattle.obj_join.proofs.Listing.{length-listed}

-- so many objects on
abbrev pub on : ℕ → ℕ × ℕ → ℕ × ℕ
on k at = (at.0 + k, at.1)

abbrev pub among_from : ℕ → List (List ℕ) → ℕ → ℕ × ℕ
among_from i objects n = on i (among (map said_of (drop i objects)) n)

pub first_of : (objects : List (List ℕ)) (n : ℕ) → among (map said_of objects) n ≡ among_from 0 objects n
first_of objects n = ap (λ (k : ℕ). (k, (among (map said_of objects) n).1)) (omega arith)

symbols_of : (o : List ℕ) → length (said_of o).symbols ≡ symbol_count o
unfolding said_of
symbols_of o = length-listed (symbol_said_in o) (symbol_count o)

module _ (objects : List (List ℕ)) (i n : ℕ) (o : List ℕ) (below : i < length objects) (is : o ≡ get_or objects i o) where
  left : drop i objects ≡ o ∷ drop (i + 1) objects
  left = drop_more objects i o below ∙ ap (λ (p : List ℕ). p ∷ drop (i + 1) objects) (sym is)

  pub found_there : n < symbol_count o → among_from i objects n ≡ (i, n)
  unfolding among
  found_there less = rw (left, symbols_of o, lt-ltb n (symbol_count o) less) (ap (λ (k : ℕ). (k, n)) (omega arith))

  pub found_later : symbol_count o ≤ n → among_from i objects n ≡ among_from (i + 1) objects (n - symbol_count o)
  unfolding among
  found_later past = rw (left, symbols_of o, le-ltb n (symbol_count o) past) (ap (λ (k : ℕ). (k, (among (map said_of (drop (i + 1) objects)) (n - symbol_count o)).1)) (omega arith))

pub found_nowhere : (objects : List (List ℕ)) (i n : ℕ) → length objects ≤ i → among_from i objects n ≡ (i, n)
unfolding among
found_nowhere objects i n past = rw (drop_all i objects past) (ap (λ (k : ℕ). (k, n)) (omega arith))
