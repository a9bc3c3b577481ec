-- The uses of the table, and the symbols that have slots, one more.
use Rattle.std.proofs.Common.{◌≡◌, ℕ, ◌+◌, ◌<◌, List, [], ◌∷◌, ◌++◌, length, map, take, get_or, sym, ap, ◌∙◌, append-nil}
use Rattle.std.specs.Prelude.{filter, flat_map, fold}
use Rattle.std.specs.List.{sum_by}
use Rattle.std.proofs.lemmas.List.{map-append}
use Rattle.std.proofs.lemmas.List.Elements.{filter-append}
use Rattle.std.proofs.lemmas.List.Sums.{fold-append}
use Rattle.std.proofs.lemmas.Grind.{flat_map-append}
use Rattle.obj_link.proofs.Prelude.{symbol_count, listed, Said, SectionSaid, UseSaid, section_behind, is_table_use, table_symbols_of, with_symbol, table_use, table_uses, sections_said, said_by, said_of}
use Rattle.obj_join.proofs.Listing.{listed_more, listed_none}
use Rattle.obj_link.proofs.Together.{counted_symbols, next_said, said_none}

split : (resolve : ℕ → ℕ) (us vs : List UseSaid) → table_uses resolve (us ++ vs) ≡ table_uses resolve us ++ table_uses resolve vs
split resolve us vs =
    ap (map (table_use resolve)) (filter-append is_table_use us vs) ∙ map-append (table_use resolve) (filter is_table_use us) (filter is_table_use vs)

module _ (resolve : ℕ → ℕ) (f : UseSaid → UseSaid) (given : ℕ → UseSaid) where
  pub uses_none : [] ≡ table_uses resolve (map f (listed given 0))
  uses_none = sym (ap (λ (us : List UseSaid). table_uses resolve (map f us)) (listed_none given))

  pub uses_more : (n : ℕ) → table_uses resolve (map f (listed given n)) ++ table_uses resolve (f (given n) ∷ []) ≡ table_uses resolve (map f (listed given (n + 1)))
  uses_more n =
      sym (ap (λ (us : List UseSaid). table_uses resolve (map f us)) (listed_more given n) ∙ ap (table_uses resolve) (map-append f (listed given n) (given n ∷ []))
      ∙ split resolve (map f (listed given n)) (f (given n) ∷ []))

-- the slots after some sections, and after more
noted_after : (resolve : ℕ → ℕ) (before : List ℕ) (xs ys : List SectionSaid)
    → fold with_symbol before (flat_map (table_symbols_of resolve) (xs ++ ys))
    ≡ fold with_symbol (fold with_symbol before (flat_map (table_symbols_of resolve) xs)) (flat_map (table_symbols_of resolve) ys)
noted_after resolve before xs ys =
    ap (fold with_symbol before) (flat_map-append (table_symbols_of resolve) xs ys)
    ∙ fold-append with_symbol before (flat_map (table_symbols_of resolve) xs) (flat_map (table_symbols_of resolve) ys)

module _ (resolve : ℕ → ℕ) (before : List ℕ) (f : SectionSaid → SectionSaid) (given : ℕ → SectionSaid) where
  pub noted_none : before ≡ fold with_symbol before (flat_map (table_symbols_of resolve) (map f (listed given 0)))
  noted_none = sym (ap (λ (ss : List SectionSaid). fold with_symbol before (flat_map (table_symbols_of resolve) (map f ss))) (listed_none given))

  pub noted_more : (n : ℕ) (slots next : List ℕ) → slots ≡ fold with_symbol before (flat_map (table_symbols_of resolve) (map f (listed given n)))
      → next ≡ fold with_symbol slots (table_symbols_of resolve (f (given n)))
      → next ≡ fold with_symbol before (flat_map (table_symbols_of resolve) (map f (listed given (n + 1))))
  noted_more n slots next here e =
      e ∙ ap (λ (ns : List ℕ). fold with_symbol ns (table_symbols_of resolve (f (given n)))) here
      ∙ ap (fold with_symbol (fold with_symbol before (flat_map (table_symbols_of resolve) (map f (listed given n))))) (sym (append-nil (table_symbols_of resolve (f (given n)))))
      ∙ sym (ap (λ (ss : List SectionSaid). fold with_symbol before (flat_map (table_symbols_of resolve) (map f ss))) (listed_more given n)
      ∙ ap (λ (ss : List SectionSaid). fold with_symbol before (flat_map (table_symbols_of resolve) ss)) (map-append f (listed given n) (given n ∷ []))
      ∙ noted_after resolve before (map f (listed given n)) (f (given n) ∷ []))

pub no_slots : (resolve : ℕ → ℕ) → [] ≡ fold with_symbol [] (flat_map (table_symbols_of resolve) (said_by []).sections)
no_slots resolve = sym (ap (λ (s : Said). fold with_symbol [] (flat_map (table_symbols_of resolve) s.sections)) said_none)

-- one object more, behind so many symbols
pub next_slots : (resolve : ℕ → ℕ) (objects : List (List ℕ)) (i symbols : ℕ) (o : List ℕ) (slots next : List ℕ) → i < length objects → o ≡ get_or objects i o
    → slots ≡ fold with_symbol [] (flat_map (table_symbols_of resolve) (said_by (take i objects)).sections) → symbols ≡ sum_by (λ p. symbol_count p) (take i objects)
    → next ≡ fold with_symbol slots (flat_map (table_symbols_of resolve) (map (section_behind symbols) (sections_said o)))
    → next ≡ fold with_symbol [] (flat_map (table_symbols_of resolve) (said_by (take (i + 1) objects)).sections)
unfolding said_of
next_slots resolve objects i symbols o slots next below is here count e =
    e
    ∙ ap (λ (ns : List ℕ). fold with_symbol ns (flat_map (table_symbols_of resolve) (map (section_behind symbols) (sections_said o)))) here
    ∙ ap
    (λ (k : ℕ).
    fold with_symbol (fold with_symbol [] (flat_map (table_symbols_of resolve) (said_by (take i objects)).sections))
    (flat_map (table_symbols_of resolve) (map (section_behind k) (sections_said o))))
    (count ∙ sym (counted_symbols (take i objects)))
    ∙ sym (ap (λ (s : Said). fold with_symbol [] (flat_map (table_symbols_of resolve) s.sections)) (next_said objects i o below is)
    ∙ noted_after resolve [] (said_by (take i objects)).sections (map (section_behind (length (said_by (take i objects)).symbols)) (sections_said o)))
