-- While branches are lengthened: which are too far from their targets. Only private contracts cite this.
use Rattle.std.specs.Prelude.{◌≡◌, ℕ, ◌+◌, ◌-◌, ◌≤◌, nat_lt, nat_le, Bool, false, ◌&&◌, ◌||◌, not, if◌then◌else◌, IsTrue, List, Some, length, count_by, slice_get, slice_index}
use Rattle.cfi_layout.specs.declared.short.Short.{Short}
use Rattle.cfi_layout.specs.Starts.{starts_from, flag}
use Rattle.cfi_layout.specs.LongSet.{word, sizes_where, is_branch, HoldsAllForced, IsWithin, AreShorts}

-- how many bytes a branch's word and the start of its target are apart, and how many they may be
abbrev pub gap : List ℕ → Short → ℕ
gap starts b =
    if nat_lt b.at b.target then slice_index starts b.target - word starts b else word starts b - slice_index starts b.target

abbrev pub reach : Short → ℕ
reach b = if nat_lt b.at b.target then 4092 else 4096

-- a branch's part and its target's lie on both sides of a part, or the target is that part itself, behind the branch
abbrev pub spans : Short → ℕ → Bool
spans b part = nat_lt b.at part && nat_lt part b.target || nat_le b.target part && nat_lt part b.at

-- a branch is known to be too far away, at a number of bytes that it is apart from its target at least
abbrev pub is_far : Short → ℕ → Bool
is_far b distance = b.keep || nat_lt (reach b) distance

-- how many parts are not long
abbrev pub short_count : List Bool → ℕ
short_count long = count_by not long

-- while branches are lengthened from a placement on: each part that is not long is a branch's, and the long ones are in every closed set
pub record Going (from : ℕ) (branches : List Short) (sizes : List ℕ) (long : List Bool) : Type 0 where
  pub count : length long ≡ length sizes
  pub only : (k : ℕ) → flag long k ≡ false → IsTrue (is_branch branches k)
  pub within : (other : ℕ → Bool) → HoldsAllForced from branches sizes other → IsWithin branches (flag long) other

-- where parts start, if those with a flag are long
abbrev pub starts_with : ℕ → List Bool → List ℕ → List ℕ
starts_with from long sizes = starts_from from (sizes_where (flag long) 0 sizes)

-- each branch is at least as far from its target as was counted
abbrev pub AreCounted : List Short → List ℕ → List ℕ → Type 0
AreCounted branches starts distances =
    (i : ℕ) (b : Short) → slice_get branches i ≡ Some b → slice_index distances i ≤ gap starts b

-- one part is long now, and each branch over it was counted to be at most a word further from its target
pub record IsWidened (branches : List Short) (part : ℕ) (before after : List ℕ) : Type 0 where
  pub over : (i : ℕ) (b : Short) → slice_get branches i ≡ Some b → IsTrue (spans b part) → slice_index after i ≤ slice_index before i + 4
  pub others : (i : ℕ) (b : Short) → slice_get branches i ≡ Some b → spans b part ≡ false → slice_index after i ≤ slice_index before i

-- wherever the first part starts and whatever the parts' sizes are: where flags and distances are on the way to the long set, these are too
pub record StayOnWay (branches : List Short) (long : List Bool) (distances : List ℕ) (long' : List Bool) (distances' : List ℕ) : Type 0 where
  pub going : (from : ℕ) (sizes : List ℕ) → AreShorts branches sizes → Going from branches sizes long → AreCounted branches (starts_with from long sizes) distances →
      Going from branches sizes long'
  pub counted : (from : ℕ) (sizes : List ℕ) → AreShorts branches sizes → Going from branches sizes long → AreCounted branches (starts_with from long sizes) distances →
      AreCounted branches (starts_with from long' sizes) distances'
