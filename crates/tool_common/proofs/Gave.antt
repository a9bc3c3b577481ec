-- What the read of each of several names gave.
use Rattle.std.proofs.Common.{◌≡◌, ◌∙◌, ◌<◌, ℕ, zero, suc, List, [], ◌∷◌, Option, None, ap, arith, get_or, length, map, subst, sym}
use Rattle.tool_common.specs.Reads.{Content, GaveAll, GaveNamed}

-- `x` is the member at `k` of what was given, and holds these bytes
pub gave_at : {V : Type 0} (items : V → List ℕ) (content : Content) (names : List (Option (List ℕ))) (all : List V)
    → GaveAll content names (map items all) → (k : ℕ) (x : V) (bytes : List ℕ) → k < length names → x ≡ get_or all k x → bytes ≡ items x
    → GaveNamed content (get_or names k None) bytes
gave_at items content [] all gave k x bytes below at is = absurd (omega arith)
gave_at items content (name ∷ names) [] gave k x bytes below at is = absurd gave
gave_at items content (name ∷ names) (y ∷ all) gave zero x bytes below at is =
    subst (λ (held : List ℕ). GaveNamed content name held) (sym (is ∙ ap items at)) gave.0
gave_at items content (name ∷ names) (y ∷ all) gave (suc k) x bytes below at is =
    gave_at items content names all gave.1 k x bytes (omega arith) at is
