-- How memory is kept, and what it holds at each address.
use Rattle.std.specs.Prelude.{ℕ, ◌+◌, ◌-◌, ◌/◌, ◌≤◌, ◌<◌, ◌^◌, ◌==◌, nat_lt, Bool, ◌||◌, ◌&&◌, if◌then◌else◌, List, slice_index, length, IsTrue}
use Rattle.rv_image.specs.declared.version.ImageVersion.{ImageVersion}
use Rattle.rv_image.specs.MemoryMap.{DATA_END, CODE_START, CODE_SIZE, SHADOW_START, lies_within, profile_of}
use Rattle.rv_word.specs.Memory.{Memory}
use Rattle.rv_mem.specs.Pages.{PAGE_SIZE, Paged, byte_of, is_made}

-- the version of the image whose memory it is, which says how large the shadow is, the bytes of code that the image
-- has, and the pages of data and shadow
pub record Cells : Type 0 where
  pub version : ImageVersion
  pub code : List ℕ
  pub pages : Paged

-- the place of an address in the pages: data's come first, then shadow's
abbrev pub place_of : ℕ → ℕ
place_of a = if nat_lt a DATA_END then a else DATA_END + (a - SHADOW_START)

-- an address of data or shadow, which are kept in pages
abbrev pub is_paged : ImageVersion → ℕ → Bool
is_paged version a = lies_within 0 DATA_END a 1 || lies_within SHADOW_START (profile_of version).shadow_size a 1

-- what memory holds at each address
unfoldable pub memory_of : Cells → Memory
memory_of cells = λ a.
    if lies_within CODE_START CODE_SIZE a 1 then slice_index cells.code (a - CODE_START) else
    if is_paged cells.version a then byte_of cells.pages (place_of a) else 0

-- whether a byte can be set at an address without taking memory: its page was made
unfoldable pub has_room : Cells → ℕ → Bool
has_room cells a = is_paged cells.version a && is_made cells.pages (place_of a / PAGE_SIZE)

-- the same for the `n` bytes from `a` on
abbrev pub HasRoom : Cells → ℕ → ℕ → Type 0
HasRoom cells a n = (k : ℕ) → a ≤ k → k < a + n → IsTrue (has_room cells k)

-- the memory with one byte set
unfoldable pub with_byte : Memory → ℕ → ℕ → Memory
with_byte m a b = λ k. if k == a then b else m k

-- each address holds a byte
abbrev pub AreBytes : Memory → Type 0
AreBytes m = (a : ℕ) → m a < 2 ^ 8

-- what is so of every memory: code is no longer than its region, and each address holds a byte
pub record IsWhole (cells : Cells) : Type 0 where
  pub code : length cells.code ≤ CODE_SIZE
  pub bytes : AreBytes (memory_of cells)
