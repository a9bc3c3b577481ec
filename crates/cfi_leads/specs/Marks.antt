-- Tables of what holds of each place. Models, private contracts and `mark` cite this.
use Rattle.std.specs.Prelude.{◌≡◌, ℕ, ◌+◌, ◌<◌, nat_lt, ◌&&◌, Bool, true, false, not, ◌==◌, Option, Some, None, List, length, set, slice_index_or}
use Rattle.obj_program.specs.Program.{count, item_of}
use Rattle.cfi_graph.specs.Graph.{has_leaves}
use Rattle.cfi_leads.specs.Entered.{Entered}
use Rattle.cfi_leads.specs.Entries.{if_kind, is_entry}
use Rattle.cfi_leads.specs.Leads.{enters}
use Rattle.cfi_leads.specs.Leaves.{ends_before, head, in_leaf}

-- of each of n places whether a test holds
pub record AreFlags (test : ℕ → Bool) (n : ℕ) (flags : List Bool) : Type 0 where
  pub counted : length flags ≡ n
  pub each : (k : ℕ) → k < n → slice_index_or flags k false ≡ test k

-- flags with one more place marked, if there is one
abbrev pub marked : List Bool → Option ℕ → List Bool
marked flags None = flags
marked flags (Some k) = set flags k true

-- of each place whether it is an entry
abbrev pub AreEntries : Entered → List Bool → Type 0
AreEntries of flags = AreFlags (is_entry of) (count of.program) flags

-- of each place where its piece begins
pub record AreHeads (of : Entered) (heads : List ℕ) : Type 0 where
  pub counted : length heads ≡ count of.program
  pub each : (k : ℕ) → k < count of.program → slice_index_or heads k 0 ≡ head of k

-- where the piece begins to which a place's target belongs, if that is another piece
abbrev pub crossed : Entered → ℕ → Option ℕ → Option ℕ
crossed of k None = None
crossed of k (Some target) = if_kind (not (head of target == head of k)) (Some (head of target))

-- the place behind one that may go on to it
abbrev pub followed : Entered → ℕ → Option ℕ
followed of k = if_kind (nat_lt (k + 1) (count of.program) && not (ends_before (item_of of.program k).kind)) (Some (k + 1))

-- what is known of the places of a program under a graph of version 3
abbrev pub AreLean : Entered → List Bool → List Bool → List ℕ → Type 0
AreLean of entered inside heads =
    has_leaves of.closed.version ≡ true →
    AreFlags (enters of) (count of.program) entered × (AreFlags (in_leaf of) (count of.program) inside × AreHeads of heads)
