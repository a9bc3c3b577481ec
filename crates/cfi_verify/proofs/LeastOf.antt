-- The least of a class's targets, and of a list of lines, that meets a test.
use Rattle.std.proofs.Common.{◌≡◌, ◌≤◌, ℕ, ◌+◌, ◌==◌, ◌||◌, ◌&&◌, Bool, true, false, List, [], ◌∷◌, ◌++◌, length, take, Option, Some, refl, sym, ap, ◌∙◌, arith, inl, inr}
use Rattle.std.specs.Prelude.{slice_get}
use Rattle.std.specs.List.{list_any}
use Rattle.std.proofs.lemmas.Bool.{cases_Bool, and_left, and_right, and_from, eq-eqb, eqb-true, ne_eqb}
use Rattle.std.proofs.lemmas.Option.{slice_get_within, get_or_from_slice_get}
use Rattle.std.proofs.lemmas.List.{take_more, take_all}
use Rattle.cfi_verify.proofs.Prelude.{IsLeast, lesser, is_among}
use Rattle.least.proofs.Leasts.{least_either, least_same}

pub list_any-push : {A : Type 0} (p : A → Bool) (xs : List A) (y : A) → list_any p (xs ++ y ∷ []) ≡ (list_any p xs || p y)
list_any-push p [] y = elim (cases_Bool (p y)) [ inl e ↦ rw e refl | inr e ↦ rw e refl ]
list_any-push p (x ∷ xs) y = elim (cases_Bool (p x)) [ inl e ↦ rw e refl | inr e ↦ rw e (list_any-push p xs y) ]

-- one more line that may hold the least number
pub least_line : {A : Type 0} (f : ℕ → A → Bool) (xs : List A) (k : ℕ) (line : A) (o p : Option ℕ) → take (k + 1) xs ≡ take k xs ++ line ∷ [] → IsLeast (λ a. list_any (f a) (take k xs)) o → IsLeast (λ a. f a line) p → IsLeast (λ a. list_any (f a) (take (k + 1) xs)) (lesser o p)
least_line f xs k line o p e h q =
    least_same (λ a. list_any (f a) (take k xs) || f a line) (λ a. list_any (f a) (take (k + 1) xs))
    (λ a. sym (list_any-push (f a) (take k xs) line) ∙ ap (list_any (f a)) (sym e)) (lesser o p)
    (least_either (λ a. list_any (f a) (take k xs)) (λ a. f a line) o p h q)

pub among-push : (a : ℕ) (xs : List ℕ) (y : ℕ) → is_among a (xs ++ y ∷ []) ≡ (is_among a xs || (y == a))
among-push a [] y = elim (cases_Bool (y == a)) [ inl e ↦ rw e refl | inr e ↦ rw e refl ]
among-push a (x ∷ xs) y = elim (cases_Bool (x == a)) [ inl e ↦ rw e refl | inr e ↦ rw e (among-push a xs y) ]

spread : (x y g : Bool) → ((x && g) || (y && g)) ≡ ((x || y) && g)
spread true y true = refl
spread true true false = refl
spread true false false = refl
spread false y g = refl

-- one more target, which meets the test
pub least_target : (g : ℕ → Bool) (xs : List ℕ) (k y : ℕ) (o : Option ℕ) → take (k + 1) xs ≡ take k xs ++ y ∷ [] → g y ≡ true → IsLeast (λ a. is_among a (take k xs) && g a) o → IsLeast (λ a. is_among a (take (k + 1) xs) && g a) (lesser o (Some y))
least_target g xs k y o e t h =
    least_same (λ a. (is_among a (take k xs) && g a) || ((y == a) && g a)) (λ a. is_among a (take (k + 1) xs) && g a)
    (λ a. spread (is_among a (take k xs)) (y == a) (g a) ∙ ap (λ b. b && g a) (sym (among-push a (take k xs) y) ∙ ap (is_among a) (sym e))) (lesser o (Some y))
    (least_either (λ a. is_among a (take k xs) && g a) (λ a. (y == a) && g a) o (Some y) h
    (and_from _ _ (eq-eqb y y refl) t, λ b l. and_left _ _ (ne_eqb y b (λ s. omega arith))))

-- one more target, which does not
pub same_target : (g : ℕ → Bool) (xs : List ℕ) (k y : ℕ) (o : Option ℕ) → take (k + 1) xs ≡ take k xs ++ y ∷ [] → g y ≡ false → IsLeast (λ a. is_among a (take k xs) && g a) o → IsLeast (λ a. is_among a (take (k + 1) xs) && g a) o
same_target g xs k y o e t h =
    least_same (λ a. is_among a (take k xs) && g a) (λ a. is_among a (take (k + 1) xs) && g a)
    (λ a. same a ∙ ap (λ b. b && g a) (sym (among-push a (take k xs) y) ∙ ap (is_among a) (sym e))) o h
  where
    same : (a : ℕ) → (is_among a (take k xs) && g a) ≡ ((is_among a (take k xs) || (y == a)) && g a)
    same a =
        elim (cases_Bool (y == a)) [
          | inl s ↦
              let off : g a ≡ false = ap g (sym (eqb-true y a s)) ∙ t in
              and_right _ _ off ∙ sym (and_right _ _ off)
          | inr s ↦ rw s (or_off (is_among a (take k xs)) (g a))
        ]
      where
        or_off : (x z : Bool) → (x && z) ≡ ((x || false) && z)
        or_off true z = refl
        or_off false z = refl

pub take_found : {A : Type 0} (xs : List A) (k : ℕ) (x : A) → slice_get xs k ≡ Some x → take (k + 1) xs ≡ take k xs ++ x ∷ []
take_found xs k x e =
    take_more xs k x (slice_get_within xs k x e) ∙ ap (λ y. take k xs ++ y ∷ []) (get_or_from_slice_get xs k x x e)

pub least_all : {A : Type 0} (f : ℕ → A → Bool) (xs ys : List A) (k : ℕ) (o : Option ℕ) → length xs ≤ k → xs ≡ ys → IsLeast (λ a. list_any (f a) (take k xs)) o → IsLeast (λ a. list_any (f a) ys) o
least_all f xs ys k o h e = least_same _ _ (λ a. ap (list_any (f a)) (take_all k xs h ∙ e)) o
