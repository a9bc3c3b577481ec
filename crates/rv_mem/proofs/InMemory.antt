-- What memory holds, by what its pages hold.
use Rattle.std.proofs.Common.{◌≡◌, ℕ, ◌+◌, ◌-◌, ◌/◌, ◌%◌, ◌^◌, ◌≤◌, ◌<◌, List, [], ◌∷◌, length, get_or, drop, length-drop, true, false, IsTrue, refl, ap, sym, ◌∙◌, arith, lit<, inl, inr, subst}
use Rattle.std.proofs.lemmas.Bool.{cases_lt, and_parts}
use Rattle.std.proofs.lemmas.Bool.Decides.{nat_tests}
use Rattle.std.proofs.lemmas.List.{get_or_past, get_or-drop}
use Rattle.std.proofs.Math.Path.{fun_ext}
use Rattle.rv_image.specs.declared.version.ImageVersion.{ImageVersion}
use Rattle.rv_image.specs.MemoryMap.{CODE_START, CODE_SIZE, DATA_START, DATA_END, lies_within, can_store, profile_of}
use Rattle.rv_word.specs.Memory.{Memory, placed, read, zeros}
use Rattle.rv_word.proofs.SameBytes.{read_same}
use Rattle.rv_image.proofs.Profiles.{is_profile, laid_out}
use Rattle.rv_mem.specs.Cells.{Cells, memory_of, has_room, HasRoom, AreBytes, IsWhole, is_paged, place_of, with_byte}
use Rattle.rv_mem.specs.Pages.{PAGE_SIZE, Paged, AreMade, byte_of, bytes_in, is_made, page_of}

-- the rest of a page of code, of one in pages, and of one that is in no region
pub code_within : (cells : Cells) (a k : ℕ) → length cells.code ≤ CODE_SIZE → lies_within CODE_START CODE_SIZE a 1 ≡ true → k < length (drop (a - CODE_START) cells.code) →
    get_or (drop (a - CODE_START) cells.code) k 0 ≡ memory_of cells (a + k)
unfolding memory_of
code_within cells a k fits code low =
    let long = length-drop (a - CODE_START) cells.code in
    let place : a - CODE_START + k ≡ a + k - CODE_START = grind (arith, nat_tests) in
    let inside : lies_within CODE_START CODE_SIZE (a + k) 1 ≡ true = grind (arith, nat_tests) in
    rw inside (get_or-drop (a - CODE_START) cells.code k 0 ∙ ap (λ (j : ℕ). get_or cells.code j 0) place)

-- a place of the rest of a page is near
pub near_in_page : (cells : Cells) (a k : ℕ) → is_paged cells.version a ≡ true → length (page_of cells.pages (place_of a / PAGE_SIZE)) ≤ PAGE_SIZE →
    k < length (drop (place_of a % PAGE_SIZE) (page_of cells.pages (place_of a / PAGE_SIZE))) → a % PAGE_SIZE + k < PAGE_SIZE
near_in_page cells a k paged long low =
    let laid = laid_out (profile_of cells.version) (is_profile cells.version) in
    let rest = length-drop (place_of a % PAGE_SIZE) (page_of cells.pages (place_of a / PAGE_SIZE)) in
    let same : place_of a % PAGE_SIZE ≡ a % PAGE_SIZE = grind (arith, nat_tests) in
    omega arith

pub rest_in_code : (cells : Cells) (a k : ℕ) → lies_within CODE_START CODE_SIZE a 1 ≡ true → a % PAGE_SIZE + k < PAGE_SIZE →
    get_or (drop (a - CODE_START) cells.code) k 0 ≡ memory_of cells (a + k)
unfolding memory_of
rest_in_code cells a k code near =
    let place : a - CODE_START + k ≡ a + k - CODE_START = grind (arith, nat_tests) in
    let inside : lies_within CODE_START CODE_SIZE (a + k) 1 ≡ true = grind (arith, nat_tests) in
    rw inside (get_or-drop (a - CODE_START) cells.code k 0 ∙ ap (λ (j : ℕ). get_or cells.code j 0) place)

pub rest_in_pages : (cells : Cells) (a k : ℕ) → is_paged cells.version a ≡ true → a % PAGE_SIZE + k < PAGE_SIZE →
    get_or (drop (place_of a % PAGE_SIZE) (page_of cells.pages (place_of a / PAGE_SIZE))) k 0 ≡ memory_of cells (a + k)
unfolding memory_of byte_of
rest_in_pages cells a k paged near =
    let laid = laid_out (profile_of cells.version) (is_profile cells.version) in
    let outside : lies_within CODE_START CODE_SIZE (a + k) 1 ≡ false = grind (arith, nat_tests) in
    let inside : is_paged cells.version (a + k) ≡ true = grind (arith, nat_tests) in
    let page : place_of a / PAGE_SIZE ≡ place_of (a + k) / PAGE_SIZE = grind (arith, nat_tests) in
    let place : place_of a % PAGE_SIZE + k ≡ place_of (a + k) % PAGE_SIZE = grind (arith, nat_tests) in
    rw (outside, inside) (get_or-drop (place_of a % PAGE_SIZE) (page_of cells.pages (place_of a / PAGE_SIZE)) k 0
    ∙ ap (λ (j : ℕ). get_or (page_of cells.pages (place_of a / PAGE_SIZE)) j 0) place
    ∙ ap (λ (p : ℕ). get_or (page_of cells.pages p) (place_of (a + k) % PAGE_SIZE) 0) page)

pub rest_in_none : (cells : Cells) (a k : ℕ) → lies_within CODE_START CODE_SIZE a 1 ≡ false → is_paged cells.version a ≡ false → a % PAGE_SIZE + k < PAGE_SIZE →
    0 ≡ memory_of cells (a + k)
unfolding memory_of
rest_in_none cells a k code paged near =
    let laid = laid_out (profile_of cells.version) (is_profile cells.version) in
    let outside : lies_within CODE_START CODE_SIZE (a + k) 1 ≡ false = grind (arith, nat_tests) in
    let none : is_paged cells.version (a + k) ≡ false = grind (arith, nat_tests) in
    rw (outside, none) refl

-- what was written into pages stands in memory
pub paged_same : (cells : Cells) (new : Paged) → byte_of new ≡ byte_of cells.pages → memory_of (record cells { pages = new }) ≡ memory_of cells
unfolding memory_of
paged_same cells new same = fun_ext (λ k. rw same refl)

-- a range with room lies in data or in shadow, and its places follow one another
pub room_in_region : (cells : Cells) (a n : ℕ) → 0 < n → HasRoom cells a n → can_store (profile_of cells.version) a n ≡ true
unfolding has_room
room_in_region cells a n some room =
    let laid = laid_out (profile_of cells.version) (is_profile cells.version) in
    let first = room a (omega arith) (omega arith) in
    let last = room (a + n - 1) (omega arith) (omega arith) in
    elim (cases_lt DATA_END a) [
      | inl past ↦ grind (arith, nat_tests)
      | inr within ↦ elim (cases_lt DATA_END (a + n)) [
        | inl over ↦ absurd (let mid = room DATA_END (omega arith) (omega arith) in grind (arith, nat_tests))
        | inr below ↦ grind (arith, nat_tests)
      ]
    ]

pub read_rest : (n : ℕ) (bytes : List ℕ) (m : Memory) (a : ℕ) → ((k : ℕ) → k < n → get_or bytes k 0 ≡ m (a + k)) → read n (bytes_in bytes) 0 ≡ read n m a
read_rest n bytes m a same = read_same n (bytes_in bytes) m 0 a (λ k low. let e : 0 + k ≡ k = omega arith in rw e (same k low))

made_there : (cells : Cells) (a : ℕ) → IsTrue (has_room cells a) → IsTrue (is_made cells.pages (place_of a / PAGE_SIZE))
unfolding has_room
made_there cells a room = (and_parts (is_paged cells.version a) (is_made cells.pages (place_of a / PAGE_SIZE)) room).1

-- room at each address is a page that was made at each place
pub made_for_room : (cells : Cells) (a n : ℕ) → HasRoom cells a n → AreMade cells.pages (place_of a) n
made_for_room cells a n room = λ k from to.
    let laid = laid_out (profile_of cells.version) (is_profile cells.version) in
    let region = room_in_region cells a n (omega arith) room in
    let place : place_of (a + (k - place_of a)) ≡ k = grind (arith, nat_tests) in
    let here = room (a + (k - place_of a)) (omega arith) (omega arith) in
    rw place at (made_there cells (a + (k - place_of a)) here)

pub room_for_made : (cells : Cells) (a n : ℕ) → can_store (profile_of cells.version) a n ≡ true → AreMade cells.pages (place_of a) n → HasRoom cells a n
unfolding has_room
room_for_made cells a n region made = λ k from to.
    let laid = laid_out (profile_of cells.version) (is_profile cells.version) in
    let place : place_of k ≡ place_of a + (k - a) = grind (arith, nat_tests) in
    let inside : is_paged cells.version k ≡ true = grind (arith, nat_tests) in
    let there = made (place_of k) (omega arith) (omega arith) in
    rw inside there

pub room_kept : (cells : Cells) (new : Paged) → ((p : ℕ) → IsTrue (is_made cells.pages p) → IsTrue (is_made new p)) →
    (k : ℕ) → IsTrue (has_room cells k) → IsTrue (has_room (record cells { pages = new }) k)
unfolding has_room
room_kept cells new kept k room =
    let both = and_parts (is_paged cells.version k) (is_made cells.pages (place_of k / PAGE_SIZE)) room in
    rw both.0 (kept (place_of k / PAGE_SIZE) both.1)

pub memory_of-put_in : (cells : Cells) (new : Paged) (a : ℕ) (bytes : List ℕ) → can_store (profile_of cells.version) a (length bytes) ≡ true → byte_of new ≡ placed (byte_of cells.pages) (place_of a) bytes →
    memory_of (record cells { pages = new }) ≡ placed (memory_of cells) a bytes
unfolding memory_of placed
memory_of-put_in cells new a bytes region put = fun_ext (λ k.
    let laid = laid_out (profile_of cells.version) (is_profile cells.version) in
    let byte = ap (λ (m : Memory). m (place_of k)) put in
    rw byte (grind (arith, nat_tests)))

memory_of-put_none : (cells : Cells) (new : Paged) (a : ℕ) (bytes : List ℕ) → length bytes ≡ 0 → byte_of new ≡ placed (byte_of cells.pages) (place_of a) bytes →
    memory_of (record cells { pages = new }) ≡ placed (memory_of cells) a bytes
unfolding memory_of placed
memory_of-put_none cells new a bytes none put = fun_ext (λ k.
    let byte = ap (λ (m : Memory). m (place_of k)) put in
    rw byte (grind (arith, nat_tests)))

pub memory_of-put : (cells : Cells) (new : Paged) (a : ℕ) (bytes : List ℕ) → HasRoom cells a (length bytes) → byte_of new ≡ placed (byte_of cells.pages) (place_of a) bytes →
    memory_of (record cells { pages = new }) ≡ placed (memory_of cells) a bytes
memory_of-put cells new a bytes room put =
    elim (cases_lt 0 (length bytes)) [
      | inl some ↦ memory_of-put_in cells new a bytes (room_in_region cells a (length bytes) some room) put
      | inr none ↦ memory_of-put_none cells new a bytes (omega arith) put
    ]

-- one byte that is placed
pub placed-byte : (m : Memory) (a b : ℕ) → placed m a (b ∷ []) ≡ with_byte m a b
unfolding placed with_byte
placed-byte m a b = fun_ext (λ k. grind (arith, nat_tests))

-- code and data that are placed in either order
pub placed-swap : (code init : List ℕ) → DATA_START + length init ≤ DATA_END →
    placed (placed zeros CODE_START code) DATA_START init ≡ placed (placed zeros DATA_START init) CODE_START code
unfolding placed
placed-swap code init below = fun_ext (λ k. grind (arith, nat_tests))

-- memory of code alone
pub memory_of-code : (version : ImageVersion) (code : List ℕ) (pages : Paged) → length code ≤ CODE_SIZE → byte_of pages ≡ zeros → memory_of (record { version = version; code = code; pages = pages }) ≡ placed zeros CODE_START code
unfolding memory_of placed
memory_of-code version code pages fits none = fun_ext (λ k. rw (ap (λ (m : Memory). m (place_of k)) none) (grind (arith, nat_tests, get_or_past code (k - CODE_START) 0)))

pub bytes_placed : (m : Memory) (a : ℕ) (bs : List ℕ) → AreBytes m → ((k : ℕ) → get_or bs k 0 < 2 ^ 8) → AreBytes (placed m a bs)
unfolding placed
bytes_placed m a bs low bytes k = grind (arith, nat_tests, low k, bytes (k - a))

pub whole_with_code : (version : ImageVersion) (code : List ℕ) (pages : Paged) → length code ≤ CODE_SIZE → byte_of pages ≡ zeros → ((k : ℕ) → get_or code k 0 < 2 ^ 8) → IsWhole (record { version = version; code = code; pages = pages })
whole_with_code version code pages fits none small = record {
  code = fits;
  bytes = subst (λ (f : Memory). AreBytes f) (sym (memory_of-code version code pages fits none)) (bytes_placed zeros CODE_START code (λ k. lit< tt) small);
}
