-- Texts by their numbers.
use Rattle.std.specs.Prelude.{◌≡◌, ℕ, ◌*◌, ◌<◌, ◌≤◌, Option, Some, List, [], ◌∷◌, ◌++◌, length, fold, slice_index_or}
use Rattle.std.specs.Cmp.Lexicographic.{slice_cmp}
use Rattle.std.specs.Ordering.{nat_cmp, ordering_then}
use Rattle.std.specs.BTreeMap.{BTreeMap, get_by}
use denote.Ref.{Bor}

-- the text with this number is there, and is `text`
abbrev pub Has : List (List ℕ) → ℕ → List ℕ → Type 0
Has texts n text = (n < length texts) × (slice_index_or texts n [] ≡ text)

-- each text keeps its number
abbrev pub Grows : List (List ℕ) → List (List ℕ) → Type 0
Grows old new = (n : ℕ) (text : List ℕ) → Has old n text → Has new n text

-- a text is cut into blocks of 64 bytes from its end; what stands before them is a block of at most 64
pub record IsBlock (block tail : List ℕ) : Type 0 where
  pub some : 0 < length block
  pub most : length block ≤ 64
  pub count : ℕ
  pub whole : length tail ≡ 64 * count

-- a block in front of the text with a number
abbrev pub FitsOn : List (List ℕ) → ℕ → List ℕ → Type 0
FitsOn texts tail block = (text : List ℕ) × Has texts tail text × IsBlock block text

-- one text more
abbrev pub with_node : List (List ℕ) → ℕ × Bor (List ℕ) → List (List ℕ)
with_node texts node = texts ++ (node.1.now ++ slice_index_or texts node.0 []) ∷ []

unfoldable pub texts_of : List (ℕ × Bor (List ℕ)) → List (List ℕ)
texts_of nodes = fold with_node ([] ∷ []) nodes

abbrev pub looked_up : ℕ → List ℕ → BTreeMap (ℕ × Bor (List ℕ)) ℕ → Option ℕ
looked_up tail block index = get_by (λ k. ordering_then (nat_cmp tail k.0) (slice_cmp nat_cmp block k.1.now)) index

-- what is found by a number and a block is the block in front of that text; no two texts are equal, and each is found
pub record AreTexts (texts : List (List ℕ)) (index : BTreeMap (ℕ × Bor (List ℕ)) ℕ) : Type 0 where
  pub empty : Has texts 0 []
  pub apart : (m n : ℕ) (text : List ℕ) → Has texts m text → Has texts n text → m ≡ n
  pub found : (tail : ℕ) (block : List ℕ) (n : ℕ) → looked_up tail block index ≡ Some n
      → (text : List ℕ) × Has texts tail text × Has texts n (block ++ text)
  pub closed : (n : ℕ) (block text : List ℕ) → IsBlock block text → Has texts n (block ++ text)
      → (tail : ℕ) × Has texts tail text × (looked_up tail block index ≡ Some n)
