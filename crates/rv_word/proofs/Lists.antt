-- Lists of which a loop has passed a part.
use Rattle.std.proofs.Common.{◌≡◌, ℕ, ◌+◌, ◌<◌, List, [], ◌∷◌, ◌++◌, length, get_or, map, take, drop, refl, sym, ap, ◌∙◌, add-one, drop-cons}
use Rattle.std.proofs.lemmas.List.{map-append, take_more}

pub drop_step : (xs : List ℕ) (k : ℕ) → k < length xs → drop k xs ≡ get_or xs k 0 ∷ drop (k + 1) xs
drop_step xs k lt = rw (add-one, drop-cons xs k 0) refl

-- a list with a function of one more member
pub map_more : {A B : Type 0} (told : A → B) (xs : List A) (i : ℕ) (d : A) (now next : List B) (y : B) → i < length xs
    → now ≡ map told (take i xs) → y ≡ told (get_or xs i d) → next ≡ now ++ y ∷ [] → next ≡ map told (take (i + 1) xs)
map_more told xs i d now next y below here is e =
    e ∙ ap (λ ys. ys ++ y ∷ []) here ∙ ap (λ z. map told (take i xs) ++ z ∷ []) is
    ∙ sym (map-append told (take i xs) (get_or xs i d ∷ [])) ∙ ap (map told) (sym (take_more xs i d below))
