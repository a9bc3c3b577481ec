-- How a section keeps its relocations. Only invariants and private contracts cite this.
use Rattle.std.specs.Prelude.{◌≡◌, ℕ, ◌<◌, ◌≤◌, ◌^◌, Bool, true, ◌==◌, if◌then◌else◌, List, length, filter, slice_index_or}
use Rattle.std.specs.List.{All, list_any}
use Rattle.std.specs.List.Sorted.{IsNonDecreasingBy}
use Rattle.obj_input.specs.declared.parts.Relocation.{Relocation}
use Rattle.obj_input.specs.declared.parts.Sort.{Sort}
use Rattle.obj_input.specs.Kinds.{is_pair_target, is_relative_high, kind_of}
use Rattle.obj_input.specs.Relocation.{is_acting}
use Rattle.obj_input.specs.Input.{SectionParts, acting_among, acting_at, has_bytes, is_code_sort}

-- an offset is among some
abbrev pub has : List ℕ → ℕ → Bool
has offsets at = list_any (λ a. a == at) offsets

-- those that stand at an offset
abbrev pub standing_at : ℕ → List Relocation → List Relocation
standing_at at uses = filter (λ u. u.offset == at) uses

abbrev pub is_pair_use : Relocation → Bool
is_pair_use u = is_pair_target (kind_of u.number)

abbrev pub is_high_use : Relocation → Bool
is_high_use u = is_relative_high (kind_of u.number)

-- those that do something in the order of their offsets, and of the table at one offset
pub record IsFoundIn (uses acting : List Relocation) : Type 0 where
  pub in_order : IsNonDecreasingBy (λ (u : Relocation). u.offset) acting
  pub found : (at : ℕ) → standing_at at acting ≡ acting_among uses at

-- the table itself where it is so
abbrev pub by_offset : Bool → List Relocation → List Relocation → List Relocation
by_offset in_order uses acting = if in_order then uses else acting

-- code has no zeros behind the bytes that are lent
abbrev pub IsAllLent : Sort → ℕ → Type 0
IsAllLent sort zeros = is_code_sort sort ≡ true → zeros ≡ 0

-- the first i of a table do something, and stand in the order of their offsets, none past an offset
pub record AreFirst (uses : List Relocation) (i last : ℕ) : Type 0 where
  pub acts : (a : ℕ) (d : Relocation) → a < i → is_acting (slice_index_or uses a d) ≡ true
  pub rising : (a b : ℕ) (d : Relocation) → a ≤ b → b < i → (slice_index_or uses a d).offset ≤ (slice_index_or uses b d).offset
  pub most : (a : ℕ) (d : Relocation) → a < i → (slice_index_or uses a d).offset ≤ last

-- the relocations that do something, in the order of their offsets, and of the table at one offset; and the offsets of
-- those that name a pair's target and of those that are high parts
pub record IsKept (section : SectionParts) (acting : List Relocation) (pairs highs : List ℕ) : Type 0 where
  pub whole : has_bytes section.sort ≡ true → length section.content ≡ section.size
  pub in_order : IsNonDecreasingBy (λ (u : Relocation). u.offset) acting
  pub found : (at : ℕ) → standing_at at acting ≡ acting_at section at
  pub pair_at : (at : ℕ) → has pairs at ≡ list_any is_pair_use (acting_at section at)
  pub high_at : (at : ℕ) → has highs at ≡ list_any is_high_use (acting_at section at)

-- sections have indices of 32 bits, and the sizes of all of them and of the blocks sum up within 128 bits
pub record AreFew (sections blocks : ℕ) : Type 0 where
  pub sections_few : sections < 2 ^ 32
  pub blocks_few : blocks < 2 ^ 60

-- addresses far below what 128 bits hold
abbrev pub AreSmall : List ℕ → Type 0
AreSmall addresses = All (λ a. a < 2 ^ 126) addresses

pub record AreAddresses (sections blocks : List ℕ) (end : ℕ) : Type 0 where
  pub sections_small : AreSmall sections
  pub blocks_small : AreSmall blocks
  pub end_small : end < 2 ^ 126
