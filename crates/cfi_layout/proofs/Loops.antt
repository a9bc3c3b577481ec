-- Lists of sizes and of starts, while a loop makes them.
use Rattle.std.proofs.Common.{◌≡◌, ℕ, ◌+◌, ◌-◌, ◌<◌, ◌≤◌, Bool, List, [], ◌∷◌, ◌++◌, length, get_or, drop, sym, ◌∙◌, append_assoc, if◌then◌else◌}
use Rattle.std.proofs.lemmas.List.{append-nil, drop_all}
use Rattle.rv_word.proofs.Lists.{drop_step}
use Rattle.cfi_layout.specs.Starts.{starts_from}
use Rattle.cfi_layout.specs.LongSet.{sizes_where}

pub sizes_more : (whole : ℕ → Bool) (k : ℕ) (sizes made all : List ℕ) (size : ℕ) → k < length sizes →
    size ≡ (if whole k then get_or sizes k 0 else get_or sizes k 0 - 4) →
    made ++ sizes_where whole k (drop k sizes) ≡ all → (made ++ size ∷ []) ++ sizes_where whole (k + 1) (drop (k + 1) sizes) ≡ all
unfolding sizes_where
sizes_more whole k sizes made all size lt is so_far = rw (append_assoc, is) (rw (drop_step sizes k lt) at so_far)

pub sizes_end : (whole : ℕ → Bool) (k : ℕ) (sizes made all : List ℕ) → length sizes ≤ k → made ++ sizes_where whole k (drop k sizes) ≡ all → made ≡ all
unfolding sizes_where
sizes_end whole k sizes made all past so_far = sym (append-nil made) ∙ (rw (drop_all k sizes past) at so_far)

pub starts_more : (at k : ℕ) (sizes made all : List ℕ) → k < length sizes →
    made ++ starts_from at (drop k sizes) ≡ all → (made ++ at ∷ []) ++ starts_from (at + get_or sizes k 0) (drop (k + 1) sizes) ≡ all
unfolding starts_from
starts_more at k sizes made all lt so_far = rw append_assoc (rw (drop_step sizes k lt) at so_far)

pub starts_end : (at k : ℕ) (sizes made all : List ℕ) → length sizes ≤ k → made ++ starts_from at (drop k sizes) ≡ all → made ++ at ∷ [] ≡ all
unfolding starts_from
starts_end at k sizes made all past so_far = rw (drop_all k sizes past) at so_far
