-- Two lists have the same numbers just where they are one list.
use Rattle.std.proofs.Common.{◌≡◌, ℕ, true, List, [], ◌∷◌, refl, ap, ◌∙◌}
use Rattle.std.specs.Prelude.{◌==◌}
use Rattle.std.proofs.lemmas.Bool.{and_parts, eqb-true, eq-eqb, and_from}
use Rattle.rv_word.specs.Numbers.{are_same}

pub same_list : (ns ms : List ℕ) → are_same ns ms ≡ true → ns ≡ ms
same_list [] [] e = refl
same_list [] (m ∷ ms) e = absurd (cc)
same_list (n ∷ ns) [] e = absurd (cc)
same_list (n ∷ ns) (m ∷ ms) e =
    let parts = and_parts (n == m) (are_same ns ms) e in
    ap (λ k. k ∷ ns) (eqb-true n m parts.0) ∙ ap (λ ks. m ∷ ks) (same_list ns ms parts.1)

pub same_itself : (ns : List ℕ) → are_same ns ns ≡ true
same_itself [] = refl
same_itself (n ∷ ns) = and_from (n == n) (are_same ns ns) (eq-eqb n n refl) (same_itself ns)
