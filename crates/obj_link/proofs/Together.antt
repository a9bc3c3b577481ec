-- What several objects say together, one object more.
use Rattle.std.proofs.Common.{◌≡◌, ℕ, ◌+◌, ◌<◌, List, [], ◌∷◌, ◌++◌, length, map, take, get_or, refl, sym, ap, ◌∙◌, append_assoc, append-nil, arith, length-append}
use Rattle.std.specs.Prelude.{fold}
use Rattle.std.specs.List.{sum_by}
use Rattle.std.proofs.lemmas.List.{length-map, map-append, take_more}
use Rattle.std.proofs.lemmas.List.Sums.{fold-append, sum_by-append}
use Rattle.obj_link.proofs.Prelude.{e_shnum, symbol_count, listed, Said, SymbolSaid, nothing_said, said_together, section_behind, symbol_behind, with_object, section_said_in, symbol_said_in, symbols_said, said_by, said_of}
use Rattle.obj_join.proofs.Listing.{length-listed, listed_more, listed_none}
use Rattle.obj_join.proofs.OneObject.{one_said}

pub said_none : said_by [] ≡ nothing_said
unfolding said_by said_together
said_none = refl

said_more : (objects : List (List ℕ)) (o : List ℕ) → said_by (objects ++ o ∷ []) ≡ with_object (said_by objects) (said_of o)
unfolding said_by said_together
said_more objects o = ap (fold with_object nothing_said) (map-append said_of objects (o ∷ [])) ∙ fold-append with_object nothing_said (map said_of objects) (said_of o ∷ [])

pub next_said : (objects : List (List ℕ)) (i : ℕ) (o : List ℕ) → i < length objects → o ≡ get_or objects i o
    → said_by (take (i + 1) objects) ≡ with_object (said_by (take i objects)) (said_of o)
next_said objects i o below is =
    ap said_by (take_more objects i o below ∙ ap (λ (p : List ℕ). take i objects ++ p ∷ []) (sym is)) ∙ said_more (take i objects) o

-- one object by itself
pub said_alone : (o : List ℕ) → said_by (o ∷ []) ≡ said_of o
unfolding said_by
said_alone o = one_said (said_of o)

-- how many sections there are
pub next_sum : (f : List ℕ → ℕ) (objects : List (List ℕ)) (i : ℕ) (o : List ℕ) → i < length objects → o ≡ get_or objects i o
    → sum_by f (take (i + 1) objects) ≡ sum_by f (take i objects) + f o
next_sum f objects i o below is =
    ap (sum_by f) (take_more objects i o below) ∙ sum_by-append f (take i objects) (get_or objects i o ∷ [])
    ∙ ap (λ (p : List ℕ). sum_by f (take i objects) + sum_by f (p ∷ [])) (sym is) ∙ omega arith

-- a list that is grown by what a function makes of one more
pub grown : {A B : Type 0} (f : A → B) (given : ℕ → A) (n : ℕ) (first so_far next : List B) (x : B)
    → so_far ≡ first ++ map f (listed given n) → x ≡ f (given n) → next ≡ so_far ++ x ∷ [] → next ≡ first ++ map f (listed given (n + 1))
grown f given n first so_far next x here is e =
    e ∙ rw (here, is) (append_assoc first (map f (listed given n)) (f (given n) ∷ []))
    ∙ ap (λ ys. first ++ ys) (sym (ap (map f) (listed_more given n) ∙ map-append f (listed given n) (given n ∷ [])))

pub grown_none : {A B : Type 0} (f : A → B) (given : ℕ → A) (first : List B) → first ≡ first ++ map f (listed given 0)
grown_none f given first = sym (ap (λ (xs : List _). first ++ map f xs) (listed_none given) ∙ append-nil first)

-- so many sections are before those of the next object
pub counted : (objects : List (List ℕ)) → length (said_by objects).sections ≡ sum_by e_shnum objects
unfolding said_by said_together said_of
counted objects = from nothing_said objects where
  from : (before : Said) (os : List (List ℕ))
      → length (fold with_object before (map said_of os)).sections ≡ fold (λ a o. a + e_shnum o) (length before.sections) os
  from before [] = refl
  from before (o ∷ os) =
      let one : length (with_object before (said_of o)).sections ≡ length before.sections + e_shnum o =
      length-append before.sections (map (section_behind (length before.symbols)) (said_of o).sections)
      ∙ ap (λ (k : ℕ). length before.sections + k) (length-map (said_of o).sections (section_behind (length before.symbols)) ∙ length-listed (section_said_in o) (e_shnum o)) in
      from (with_object before (said_of o)) os ∙ ap (λ (k : ℕ). fold (λ a p. a + e_shnum p) k os) one

-- and so many symbols
pub counted_symbols : (objects : List (List ℕ)) → length (said_by objects).symbols ≡ sum_by (λ o. symbol_count o) objects
unfolding said_by said_together said_of
counted_symbols objects = from nothing_said objects where
  from : (before : Said) (os : List (List ℕ))
      → length (fold with_object before (map said_of os)).symbols ≡ fold (λ a o. a + symbol_count o) (length before.symbols) os
  from before [] = refl
  from before (o ∷ os) =
      let one : length (with_object before (said_of o)).symbols ≡ length before.symbols + symbol_count o =
      length-append before.symbols (map (symbol_behind (length before.sections)) (said_of o).symbols)
      ∙ ap (λ (k : ℕ). length before.symbols + k) (length-map (said_of o).symbols (symbol_behind (length before.sections)) ∙ length-listed (symbol_said_in o) (symbol_count o)) in
      from (with_object before (said_of o)) os ∙ ap (λ (k : ℕ). fold (λ a p. a + symbol_count p) k os) one

-- the symbols of one object more, behind so many sections
pub next_symbols : (objects : List (List ℕ)) (i sections : ℕ) (o : List ℕ) (so_far next : List SymbolSaid) → i < length objects → o ≡ get_or objects i o
    → so_far ≡ (said_by (take i objects)).symbols → sections ≡ sum_by e_shnum (take i objects) → next ≡ so_far ++ map (symbol_behind sections) (symbols_said o)
    → next ≡ (said_by (take (i + 1) objects)).symbols
unfolding said_of
next_symbols objects i sections o so_far next below is here count e =
    e
    ∙ ap (λ (ys : List SymbolSaid). ys ++ map (symbol_behind sections) (symbols_said o)) here
    ∙ ap (λ (k : ℕ). (said_by (take i objects)).symbols ++ map (symbol_behind k) (symbols_said o)) (count ∙ sym (counted (take i objects)))
    ∙ sym (ap (λ (s : Said). s.symbols) (next_said objects i o below is))
