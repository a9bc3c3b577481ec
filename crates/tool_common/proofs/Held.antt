-- What the read of a file that is held gave, and that no such file is too long.
use Rattle.std.proofs.Common.{◌≡◌, ◌∙◌, ℕ, ◌≤◌, List, [], ◌∷◌, length, Option, Some, None, inl, inr, sym, subst, arith}
use Rattle.tool_common.specs.Held.{AreHeld, IsHeld, IsHeldNamed}
use Rattle.tool_common.specs.Reads.{Content, Gave, GaveNamed, IsLong, IsReached, file_limit}

-- what was read of a file is what it holds
pub same_bytes : (held : Option (List ℕ)) (bytes given : List ℕ) → IsHeld held bytes → Gave held given → given ≡ bytes
same_bytes None bytes given is gave = let e : None ≡ Some bytes = is.told in absurd (cc e)
same_bytes (Some told) bytes given is gave =
    let e : Some told ≡ Some bytes = is.told in
    let same : told ≡ bytes = cc e in
    gave.all ∙ same

pub same_named : (content : Content) (name : Option (List ℕ)) (bytes given : List ℕ) → IsHeldNamed content name bytes → GaveNamed content name given
    → given ≡ bytes
same_named content None bytes given is gave = gave ∙ sym is
same_named content (Some name) bytes given is gave = same_bytes (content name) bytes given is gave

not_long : (held : Option (List ℕ)) (bytes : List ℕ) → IsHeld held bytes → IsLong held → ⊥
not_long None bytes is long = let e : None ≡ Some bytes = is.told in absurd (cc e)
not_long (Some told) bytes is long =
    let e : Some told ≡ Some bytes = is.told in
    let same : told ≡ bytes = cc e in
    let within : length told ≤ file_limit = subst (λ (b : List ℕ). length b ≤ file_limit) (sym same) is.within in
    omega (arith, within, long)

-- no file that is reached is too long
pub none_long : (content : Content) (names : List (Option (List ℕ))) (all : List (List ℕ)) (name : List ℕ) → AreHeld content names all
    → IsReached content names name → IsLong (content name) → ⊥
none_long content [] all name held reached long = reached
none_long content (other ∷ names) [] name held reached long = held
none_long content (None ∷ names) (bytes ∷ all) name held reached long = none_long content names all name held.1 reached long
none_long content (Some first ∷ names) (bytes ∷ all) name held (inl same) long =
    not_long (content first) bytes held.0 (subst (λ (n : List ℕ). IsLong (content n)) same long)
none_long content (Some first ∷ names) (bytes ∷ all) name held (inr later) long =
    none_long content names all name held.1 later.1 long
