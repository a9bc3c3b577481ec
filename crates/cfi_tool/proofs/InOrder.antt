-- Which files were read, by the status.
use Rattle.std.proofs.Common.{◌≡◌, ◌⊎◌, ℕ, ◌<◌, ◌≤◌, List, Option, Ok, inl, inr, arith, subst, sym}
use Rattle.cfi_tool.proofs.Prelude.{AreRead, Fault, TooLong, IsRead, outcome_status, Taken, read_names, Outcome, Unread}
use Rattle.tool_common.proofs.InOrder.{read_less}

-- with a status below 3 or above 6 no file of the command was left unread
read_by_status : (outcome : Outcome) → (outcome_status outcome < 3) ⊎ (6 < outcome_status outcome) → IsRead (Ok outcome)
read_by_status (Unread (Fault name)) (inl below) = omega (arith, below)
read_by_status (Unread (Fault name)) (inr above) = omega (arith, above)
read_by_status (Unread (TooLong name)) (inl below) = omega (arith, below)
read_by_status (Unread (TooLong name)) (inr above) = omega (arith, above)
read_by_status other status = tt

-- of a status from 3 to 6 nothing is asked
unasked : (status : ℕ) → 3 ≤ status → status ≤ 6 → (all : Type 0) → (status < 3) ⊎ (6 < status) → all
unasked status low high all (inl below) = absurd (omega (arith, low, below))
unasked status low high all (inr above) = absurd (omega (arith, high, above))

module _ (before now : Option (List (List ℕ))) (line : Taken) where
  -- as the status tells
  pub read_told : (after : Option (List (List ℕ))) (outcome : Outcome) (status : ℕ) → AreRead before now (read_names line) (IsRead (Ok outcome)) → after ≡ now
      → status ≡ outcome_status outcome → AreRead before after (read_names line) ((status < 3) ⊎ (6 < status))
  read_told after outcome status read same is =
      subst (λ (o : Option (List (List ℕ))). AreRead before o (read_names line) ((status < 3) ⊎ (6 < status))) (sym same)
      (read_less before now (read_names line) (IsRead (Ok outcome)) ((status < 3) ⊎ (6 < status)) read
      (λ holds. read_by_status outcome (subst (λ (n : ℕ). (n < 3) ⊎ (6 < n)) is holds)))

  -- with the status of a write that failed, and of want of memory, nothing is asked of the last names
  pub read_some : (after : Option (List (List ℕ))) (all : Type 0) (status : ℕ) → AreRead before now (read_names line) all → after ≡ now → 3 ≤ status → status ≤ 6
      → AreRead before after (read_names line) ((status < 3) ⊎ (6 < status))
  read_some after all status read same low high =
      subst (λ (o : Option (List (List ℕ))). AreRead before o (read_names line) ((status < 3) ⊎ (6 < status))) (sym same)
      (read_less before now (read_names line) all ((status < 3) ⊎ (6 < status)) read (unasked status low high all))
