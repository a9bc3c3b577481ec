-- Lists of what is made of what a function gives, one more.
use Rattle.std.proofs.Common.{◌≡◌, ℕ, ◌+◌, ◌<◌, List, [], ◌∷◌, ◌++◌, get_or, length, map, take, refl, sym, ap, ◌∙◌, append_assoc, append-nil}
use Rattle.std.proofs.lemmas.List.{map-append}
use Rattle.std.specs.List.{sum_by}
use Rattle.obj_link.proofs.Prelude.{symbol_count, listed, Said, SectionSaid, section_behind, sections_said, said_by, said_of}
use Rattle.obj_join.proofs.Listing.{listed_more, listed_none}
use Rattle.obj_link.proofs.Together.{counted_symbols, next_said, said_none}

pub no_sections : {C : Type 0} (f : SectionSaid → C) → [] ≡ map f (said_by []).sections
no_sections f = sym (ap (λ (s : Said). map f s.sections) said_none)

-- the sections of one object more, behind so many symbols
pub next_sections : {C : Type 0} (f : SectionSaid → C) (objects : List (List ℕ)) (i symbols : ℕ) (o : List ℕ) (so_far next : List C) → i < length objects → o ≡ get_or objects i o
    → so_far ≡ map f (said_by (take i objects)).sections → symbols ≡ sum_by (λ p. symbol_count p) (take i objects)
    → next ≡ so_far ++ map f (map (section_behind symbols) (sections_said o)) → next ≡ map f (said_by (take (i + 1) objects)).sections
unfolding said_of
next_sections {C} f objects i symbols o so_far next below is here count e =
    e
    ∙ ap (λ (ys : List C). ys ++ map f (map (section_behind symbols) (sections_said o))) here
    ∙ ap (λ (k : ℕ). map f (said_by (take i objects)).sections ++ map f (map (section_behind k) (sections_said o))) (count ∙ sym (counted_symbols (take i objects)))
    ∙ sym (ap (λ (s : Said). map f s.sections) (next_said objects i o below is)
    ∙ map-append f (said_by (take i objects)).sections (map (section_behind (length (said_by (take i objects)).symbols)) (sections_said o)))

module _ {A B C : Type 0} (f : B → C) (g : A → B) (given : ℕ → A) where
  pub made_none : [] ≡ map f (map g (listed given 0))
  made_none = sym (ap (λ (xs : List A). map f (map g xs)) (listed_none given))

  pub made_more : (n : ℕ) (so_far next : List C) (x : C) → so_far ≡ map f (map g (listed given n)) → x ≡ f (g (given n)) → next ≡ so_far ++ x ∷ []
      → next ≡ map f (map g (listed given (n + 1)))
  made_more n so_far next x here is e =
      e ∙ rw (here, is) (sym (ap (λ (xs : List A). map f (map g xs)) (listed_more given n) ∙ ap (map f) (map-append g (listed given n) (given n ∷ []))
      ∙ map-append f (map g (listed given n)) (g (given n) ∷ [])))

  pub made_grown_none : (first : List C) → first ≡ first ++ map f (map g (listed given 0))
  made_grown_none first = sym (ap (λ (ys : List C). first ++ ys) (sym made_none) ∙ append-nil first)

  pub made_grown : (n : ℕ) (first so_far next : List C) (x : C) → so_far ≡ first ++ map f (map g (listed given n)) → x ≡ f (g (given n)) → next ≡ so_far ++ x ∷ []
      → next ≡ first ++ map f (map g (listed given (n + 1)))
  made_grown n first so_far next x here is e =
      e ∙ ap (λ (ys : List C). ys ++ x ∷ []) here ∙ append_assoc first (map f (map g (listed given n))) (x ∷ [])
      ∙ ap (λ (ys : List C). first ++ ys) (made_more n (map f (map g (listed given n))) (map f (map g (listed given n)) ++ x ∷ []) x refl is refl)
