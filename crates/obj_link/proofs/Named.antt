-- The names of symbols, by where they begin.
use Rattle.std.proofs.Common.{◌≡◌, ℕ, zero, suc, ◌+◌, ◌<◌, ◌==◌, true, false, Option, Some, None, IsSome, unwrap_or, List, [], ◌∷◌, ◌++◌, drop, get_or, length, map, take, inl, inr, refl, sym, ap, ◌∙◌, arith}
use Rattle.std.proofs.lemmas.Bool.{cases_Bool, eqb-false}
use Rattle.std.proofs.lemmas.List.{drop_all, map-append}
use Rattle.rv_word.proofs.Cases.{cases_Option}
use Rattle.obj_link.proofs.Prelude.{spelled, AreNumbers, symbol_count, symbol_name, symbol_names, fault_of, listed, Said, SymbolSaid, symbol_behind, names_of, start_in, said_by, said_of, symbol_said_in, symbols_said}
use Rattle.elf_names.proofs.Spelled.{spelled_string}
use Rattle.elf_object.proofs.Right.{symbols_right}
use Rattle.obj_join.proofs.Listing.{listed_same}
use Rattle.obj_link.proofs.Together.{next_said, said_none}

pub map_listed : {A B : Type 0} (f : A → B) (given : ℕ → A) (n : ℕ) → map f (listed given n) ≡ listed (λ k. f (given k)) n
unfolding listed
map_listed f given zero = refl
map_listed f given (suc n) = map-append f (listed given n) (given n ∷ []) ∙ ap (λ (ys : List _). ys ++ f (given n) ∷ []) (map_listed f given n)

module _ (o : List ℕ) (sound : fault_of o ≡ None) where
  there : (n : ℕ) → n < symbol_count o → (n == 0) ≡ false → spelled (drop (start_in o n) (symbol_names o)) ≡ (symbol_said_in o n).name
  there n below other = elim (cases_Option (symbol_name o n)) [
    | inl none ↦ let no = (symbols_right o n sound below (eqb-false n 0 other)).1 in absurd (missing (symbol_name o n) none no)
    | inr (name, some) ↦ rw other (spelled_string _ name some ∙ sym (ap (λ (found : Option (List ℕ)). unwrap_or found []) some))
  ] where
    missing : (found : Option (List ℕ)) → found ≡ None → IsSome found → ⊥
    missing None e is = let no : false ≡ true = is in absurd (cc)
    missing (Some name) e is = absurd (cc)

  spelled_at : (n : ℕ) → n < symbol_count o → spelled (drop (start_in o n) (symbol_names o)) ≡ (symbol_said_in o n).name
  unfolding spelled
  spelled_at n below = elim (cases_Bool (n == 0)) [
    | inl first ↦ rw (first, drop_all (length (symbol_names o)) (symbol_names o) (omega arith)) refl
    | inr other ↦ there n below other
  ]

  pub names_spelled : (starts : List ℕ) → starts ≡ listed (start_in o) (symbol_count o)
      → map (λ (at : ℕ). spelled (drop at (symbol_names o))) starts ≡ names_of (symbols_said o)
  names_spelled starts e =
      ap (map (λ (at : ℕ). spelled (drop at (symbol_names o)))) e
      ∙ map_listed (λ (at : ℕ). spelled (drop at (symbol_names o))) (start_in o) (symbol_count o)
      ∙ listed_same _ _ (symbol_count o) spelled_at
      ∙ sym (map_listed (λ (s : SymbolSaid). s.name) (symbol_said_in o) (symbol_count o))

names_behind : (count : ℕ) (symbols : List SymbolSaid) → names_of (map (symbol_behind count) symbols) ≡ names_of symbols
names_behind count [] = refl
names_behind count (s ∷ ss) = ap (λ (ns : List (List ℕ)). s.name ∷ ns) (names_behind count ss)

pub no_numbers : (texts : List (List ℕ)) (numbers : List ℕ) → numbers ≡ [] → AreNumbers texts numbers (names_of (said_by []).symbols)
no_numbers texts numbers none =
    let empty : names_of (said_by []).symbols ≡ [] = ap (λ (s : Said). names_of s.symbols) said_none in
    record {
      size = ap length none ∙ sym (ap length empty);
      each = λ k below. let size : length (names_of (said_by []).symbols) ≡ 0 = ap length empty in absurd (omega (arith, below, size));
    }

-- the names of one object more
pub next_names : (objects : List (List ℕ)) (i : ℕ) (o : List ℕ) → i < length objects → o ≡ get_or objects i o
    → names_of (said_by (take i objects)).symbols ++ names_of (symbols_said o) ≡ names_of (said_by (take (i + 1) objects)).symbols
unfolding said_of
next_names objects i o below is =
    sym (ap (λ (s : Said). names_of s.symbols) (next_said objects i o below is)
    ∙ map-append (λ (s : SymbolSaid). s.name) (said_by (take i objects)).symbols (map (symbol_behind (length (said_by (take i objects)).sections)) (symbols_said o))
    ∙ ap (λ (ns : List (List ℕ)). names_of (said_by (take i objects)).symbols ++ ns) (names_behind (length (said_by (take i objects)).sections) (symbols_said o)))
