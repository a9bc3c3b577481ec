-- Which branches are written long, as two words: the least closed set. A short branch is one word, and
-- reaches from -4096 to 4094 bytes (RISC-V unprivileged ISA, 2.5.2, conditional branches); starts are multiples of 4.
use Rattle.std.specs.Prelude.{◌≡◌, ℕ, ◌+◌, ◌-◌, ◌<◌, ◌==◌, nat_le, Bool, not, ◌&&◌, ◌||◌, if◌then◌else◌, IsTrue, List, [], ◌∷◌, Some, length, slice_get, slice_index}
use Rattle.std.specs.List.{list_any}
use Rattle.cfi_layout.specs.declared.short.Short.{Short}
use Rattle.cfi_layout.specs.Starts.{starts_from}

-- a part is a branch's
abbrev pub is_branch : List Short → ℕ → Bool
is_branch branches k = list_any (λ b. b.at == k) branches

-- sizes of parts, from a number on: one that is not whole has one word less
unfoldable pub sizes_where : (ℕ → Bool) → ℕ → List ℕ → List ℕ
sizes_where whole k [] = []
sizes_where whole k (size ∷ sizes) = (if whole k then size else size - 4) ∷ sizes_where whole (k + 1) sizes

-- A set of branches is a test of their parts. Where exactly these are long, a part is whole
-- unless it is a branch's that is not in the set
abbrev pub is_whole : List Short → (ℕ → Bool) → ℕ → Bool
is_whole branches long k = long k || not (is_branch branches k)

abbrev pub sizes_under : (ℕ → Bool) → List Short → List ℕ → List ℕ
sizes_under long branches sizes = sizes_where (is_whole branches long) 0 sizes

abbrev pub starts_under : ℕ → (ℕ → Bool) → List Short → List ℕ → List ℕ
starts_under from long branches sizes = starts_from from (sizes_under long branches sizes)

-- the address of a branch's word, behind the lead of its part
abbrev pub word : List ℕ → Short → ℕ
word starts b = slice_index starts b.at + b.lead

-- the start of its target, less its word, is at least -4096 and at most 4092
abbrev pub is_in_reach : List ℕ → Short → Bool
is_in_reach starts b =
    nat_le (word starts b) (slice_index starts b.target + 4096) && nat_le (slice_index starts b.target) (word starts b + 4092)

-- a branch is to be long: it is kept so, or does not reach
abbrev pub is_forced : List ℕ → Short → Bool
is_forced starts b = b.keep || not (is_in_reach starts b)

-- a set is closed that holds each branch that is to be long where exactly those of the set are long
abbrev pub HoldsAllForced : ℕ → List Short → List ℕ → (ℕ → Bool) → Type 0
HoldsAllForced from branches sizes long =
    (i : ℕ) (b : Short) → slice_get branches i ≡ Some b → IsTrue (is_forced (starts_under from long branches sizes) b) → IsTrue (long b.at)

-- the branches of one set are in another
abbrev pub IsWithin : List Short → (ℕ → Bool) → (ℕ → Bool) → Type 0
IsWithin branches long other = (k : ℕ) → IsTrue (is_branch branches k) → IsTrue (long k) → IsTrue (other k)

-- the long set: it is closed, and lies in every closed set
pub record IsLongSet (from : ℕ) (branches : List Short) (sizes : List ℕ) (long : ℕ → Bool) : Type 0 where
  pub closed : HoldsAllForced from branches sizes long
  pub least : (other : ℕ → Bool) → HoldsAllForced from branches sizes other → IsWithin branches long other

-- what is asked of a branch: its part and its target's are there, and long it has two words behind the
-- lead
pub record IsShort (sizes : List ℕ) (b : Short) : Type 0 where
  pub at_is : b.at < length sizes
  pub target_is : b.target < length sizes
  pub size : slice_index sizes b.at ≡ b.lead + 8

pub record AreShorts (branches : List Short) (sizes : List ℕ) : Type 0 where
  pub each : (i : ℕ) (b : Short) → slice_get branches i ≡ Some b → IsShort sizes b
