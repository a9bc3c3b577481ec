-- What was read of the files that give a program, by its objects and the other files of a command.
use Rattle.std.proofs.Common.{◌≡◌, ◌∙◌, ℕ, ◌-◌, List, [], ◌∷◌, ◌++◌, Option, ap, drop, length, map, subst, sym, take}
use Rattle.std.proofs.lemmas.List.{drop-map, take-map, take_rest}
use Rattle.tool_common.specs.Reads.{Content, GaveAll}

-- the files of the first names gave the first contents
gave_parts : (content : Content) (names more : List (Option (List ℕ))) (all : List (List ℕ)) → GaveAll content (names ++ more) all
    → GaveAll content names (take (length names) all) × GaveAll content more (drop (length names) all)
gave_parts content [] more all gave = (tt, gave)
gave_parts content (name ∷ names) more [] gave = absurd gave
gave_parts content (name ∷ names) more (bytes ∷ all) gave =
    let (first, rest) = gave_parts content names more all gave.1 in
    ((gave.0, first), rest)

-- what the files of objects behind n others gave is what is behind the first n contents
pub split_parts : {V : Type 0} (items : V → List ℕ) (content : Content) (names more : List (Option (List ℕ))) (all : List V) (n : ℕ) → length names ≡ n
    → GaveAll content (names ++ more) (map items all)
    → GaveAll content more (map items (take (length all - n) (drop n all))) × GaveAll content names (map items (take n all))
split_parts items content names more all n count gave =
    let (first, rest) = gave_parts content names more (map items all) gave in (
      subst (λ (bs : List (List ℕ)). GaveAll content more bs)
          (ap (λ (k : ℕ). drop k (map items all)) count ∙ drop-map items n all ∙ ap (map items) (sym (take_rest all n))) rest,
      subst (λ (bs : List (List ℕ)). GaveAll content names bs) (ap (λ (k : ℕ). take k (map items all)) count ∙ take-map items n all) first,
    )
