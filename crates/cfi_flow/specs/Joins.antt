-- Words of private contracts: lists that join what the sets of sites join.
use Rattle.std.specs.Prelude.{◌⊎◌, ℕ, ◌<◌, Bool, Option, IfSome, List}
use Rattle.std.specs.List.{Contains}
use Rattle.cfi_class.specs.Classes.{AreInOne, IsIn, Joined}
use Rattle.cfi_flow.specs.declared.join.Joining.{Joining}
use Rattle.cfi_flow.specs.declared.span.Span.{Span}
use Rattle.cfi_flow.specs.Kept.{open_targets}

abbrev pub HaveCommon : List ℕ → List ℕ → Type 0
HaveCommon xs ys = (t : ℕ) × Contains xs t × Contains ys t

-- lists join the same members as sets
pub record JoinAs (sets lists : List (List ℕ)) : Type 0 where
  pub apart : (a b : ℕ) → AreInOne lists a b → Joined sets a b
  pub whole : (a b : ℕ) → AreInOne sets a b → AreInOne lists a b

-- the same of the first k sets, and of a list that grows: it has all that is open to the last site that goes into a span
pub record AreJoining (sets : List (List ℕ)) (taken begun : List Bool) (k : ℕ) (lists : List (List ℕ)) (group : List ℕ) (last : Option Span) : Type 0 where
  pub apart : (a b : ℕ) → AreInOne lists a b → Joined sets a b
  pub one : (a b : ℕ) → Contains group a → Contains group b → Joined sets a b
  pub whole : (i a b : ℕ) → i < k → IsIn sets i a → IsIn sets i b → AreInOne lists a b ⊎ (Contains group a × Contains group b)
  pub latest : IfSome last (λ s. (t : ℕ) → Contains (open_targets taken begun s) t → Contains group t)

abbrev pub IsJoining : List (List ℕ) → List Bool → List Bool → ℕ → Joining → Type 0
IsJoining sets taken begun k j = AreJoining sets taken begun k j.lists.items j.group.items j.last
