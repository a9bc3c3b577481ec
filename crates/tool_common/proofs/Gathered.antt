-- What the reads of several files gave, one after the other.
use Rattle.std.proofs.Common.{◌≡◌, ℕ, zero, suc, ◌<◌, List, [], ◌∷◌, ◌++◌, length, take, get_or, Option, Some, None, inl, inr, subst, arith}
use Rattle.tool_common.specs.Reads.{Content, Gave, GaveAll, GaveNamed, IsLong, IsReached, IsStop}
use Rattle.tool_common.specs.declared.read.Stop.{Stop}
use Rattle.tool_common.specs.declared.read.Stop.TheVariants as stop
use Rattle.tool_common.specs.declared.read.Unread.TheVariants.{Fault, TooLong}

module _ (before now : Content) (same : (name : List ℕ) → now name ≡ before name) where
  gave_before : (name : Option (List ℕ)) (bytes : List ℕ) → GaveNamed now name bytes → GaveNamed before name bytes
  gave_before None bytes gave = gave
  gave_before (Some name) bytes gave = subst (λ held. Gave held bytes) (same name) gave

  gave_after : (names : List (Option (List ℕ))) (i : ℕ) (files : List (List ℕ)) (bytes : List ℕ) → i < length names
      → GaveAll before (take i names) files → GaveNamed before (get_or names i None) bytes → GaveAll before (take (suc i) names) (files ++ bytes ∷ [])
  gave_after [] i files bytes below gave here = absurd (omega arith)
  gave_after (name ∷ names) zero [] bytes below gave here = (here, tt)
  gave_after (name ∷ names) zero (first ∷ files) bytes below gave here = absurd gave
  gave_after (name ∷ names) (suc i) [] bytes below gave here = absurd gave
  gave_after (name ∷ names) (suc i) (first ∷ files) bytes below gave here = (gave.0, gave_after names i files bytes (omega arith) gave.1 here)

  -- one more name gave its bytes
  pub gave_more : (names : List (Option (List ℕ))) (i : ℕ) (files : List (List ℕ)) (bytes : List ℕ) → i < length names
      → GaveAll before (take i names) files → GaveNamed now (get_or names i None) bytes → GaveAll before (take (suc i) names) (files ++ bytes ∷ [])
  gave_more names i files bytes below gave here = gave_after names i files bytes below gave (gave_before (get_or names i None) bytes here)

  -- the read of a name is reached where each before it gave its bytes
  reached_at : (names : List (Option (List ℕ))) (i : ℕ) (files : List (List ℕ)) (name : List ℕ) → i < length names
      → GaveAll before (take i names) files → IsReached now (get_or names i None ∷ []) name → IsReached before names name
  reached_at [] i files name below gave here = absurd (omega arith)
  reached_at (None ∷ names) zero files name below gave here = absurd here
  reached_at (Some first ∷ names) zero files name below gave (inl e) = inl e
  reached_at (Some first ∷ names) zero files name below gave (inr here) = absurd here.1
  reached_at (slot ∷ names) (suc i) [] name below gave here = absurd gave
  reached_at (None ∷ names) (suc i) (bytes ∷ files) name below gave here = reached_at names i files name (omega arith) gave.1 here
  reached_at (Some first ∷ names) (suc i) (bytes ∷ files) name below gave here =
      inr ((bytes, gave.0), reached_at names i files name (omega arith) gave.1 here)

  -- why the read of a name stopped is why that of all names did
  pub stopped_at : (failed : List ℕ) (names : List (Option (List ℕ))) (i : ℕ) (files : List (List ℕ)) (end : Stop) → i < length names
      → GaveAll before (take i names) files → IsStop now failed (get_or names i None ∷ []) end → IsStop before failed names end
  stopped_at failed names i files (stop.Unread (Fault name)) below gave here = (reached_at names i files name.now below gave here.0, here.1)
  stopped_at failed names i files (stop.Unread (TooLong name)) below gave here =
      (reached_at names i files name.now below gave here.0, subst IsLong (same name.now) here.1)
  stopped_at failed names i files stop.NoMemory below gave here = tt
