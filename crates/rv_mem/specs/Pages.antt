-- Bytes that are kept in pages, each made of zeros at the first write to it.
use Rattle.std.specs.Prelude.{◌≡◌, ℕ, ◌+◌, ◌-◌, ◌/◌, ◌%◌, ◌≤◌, ◌<◌, ◌==◌, nat_lt, Bool, if◌then◌else◌, List, [], slice_index, slice_index_or, length, IsTrue}
use Rattle.std.specs.List.{sum_by}
use Rattle.rv_image.specs.MemoryMap.{DATA_END, version_2}
use Rattle.rv_word.specs.Memory.{Memory}
use Rattle.rv_mem.specs.declared.page.TheConstants as page

-- how many bytes a page has, and how many pages data and the shadow of either version have together
abbrev pub PAGE_SIZE : ℕ
PAGE_SIZE = page.PAGE_SIZE

abbrev pub PAGE_COUNT : ℕ
PAGE_COUNT = (DATA_END + version_2.shadow_size) / PAGE_SIZE

-- the pages that were made, and a table with an entry a page: 0 where it was never made, else its
-- place among these plus one
pub record Paged : Type 0 where
  pub table : List ℕ
  pub pages : List (List ℕ)

-- the bytes of a list by their places, and 0 past its end
abbrev pub bytes_in : List ℕ → Memory
bytes_in bytes = λ k. slice_index bytes k

abbrev pub entry : Paged → ℕ → ℕ
entry paged number = slice_index paged.table number

-- whether the page with a number was made
unfoldable pub is_made : Paged → ℕ → Bool
is_made paged number = nat_lt 0 (entry paged number)

-- the bytes of the page with a number: none where it was never made
unfoldable pub page_of : Paged → ℕ → List ℕ
page_of paged number = if entry paged number == 0 then [] else slice_index_or paged.pages (entry paged number - 1) []

-- the byte at a place: 0 where its page was never made
unfoldable pub byte_of : Paged → Memory
byte_of paged = λ k. slice_index (page_of paged (k / PAGE_SIZE)) (k % PAGE_SIZE)

-- the pages of the `n` places from `a` on were made
abbrev pub AreMade : Paged → ℕ → ℕ → Type 0
AreMade paged a n = (k : ℕ) → a ≤ k → k < a + n → IsTrue (is_made paged (k / PAGE_SIZE))

-- how many pages an entry stands for
abbrev pub counted : ℕ → ℕ
counted e = if e == 0 then 0 else 1

-- what is so of all pages: each has an entry, each that was made is whole and stands at one entry alone
pub record ArePages (paged : Paged) : Type 0 where
  pub table : length paged.table ≡ PAGE_COUNT
  pub places : (p : ℕ) → entry paged p ≤ length paged.pages
  pub apart : (p q : ℕ) → 0 < entry paged p → entry paged p ≡ entry paged q → p ≡ q
  pub filled : length paged.pages ≡ sum_by counted paged.table
  pub whole : (i : ℕ) → i < length paged.pages → length (slice_index_or paged.pages i []) ≡ PAGE_SIZE
