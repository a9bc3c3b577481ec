-- The words of a code's bytes are what the machine fetches from the loaded image.
use Rattle.std.proofs.Common.{◌≡◌, ℕ, zero, suc, ◌+◌, ◌-◌, ◌*◌, ◌%◌, ◌^◌, ◌≤◌, ◌<◌, inl, inr, List, [], ◌∷◌, length, refl, sym, ap, ◌∙◌, Some, arith, lit<, get_or}
use Rattle.std.specs.Prelude.{slice_get, slice_index, nat_le, nat_lt, ◌&&◌}
use Rattle.std.proofs.lemmas.Bool.{cases_Bool, le-leb, lt-ltb, le-ltb}
use Rattle.std.proofs.lemmas.Option.{slice_get-get_or}
use Rattle.rv_image.specs.Image.{Contents, IsImageSize, loaded}
use Rattle.rv_image.specs.MemoryMap.{CODE_START, DATA_START}
use Rattle.rv_word.specs.Memory.{Memory, read, placed, zeros}
use Rattle.rv_word.proofs.SameBytes.{read_same}
use Rattle.cfi_unit.specs.Laws.{AreWords}
use Rattle.cfi_rules.specs.Laws.{AreBytes}
use Rattle.cfi_rules.specs.Split.{code_words}

pub record IsWordAt (bytes : List ℕ) (j w : ℕ) : Type 0 where
  pub within : 4 * j + 4 ≤ length bytes
  pub is : w ≡ read 4 (λ k. slice_index bytes k) (4 * j)

pub code_word : (bytes : List ℕ) (j w : ℕ) → slice_get (code_words bytes) j ≡ Some w → IsWordAt bytes j w
unfolding code_words
code_word [] j w e = absurd (cc)
code_word (a ∷ []) j w e = absurd (cc)
code_word (a ∷ b ∷ []) j w e = absurd (cc)
code_word (a ∷ b ∷ c ∷ []) j w e = absurd (cc)
code_word (a ∷ b ∷ c ∷ d ∷ rest) zero w e =
    let v : a + 2 ^ 8 * b + 2 ^ 16 * c + 2 ^ 24 * d ≡ w = cc in record { within = omega arith; is = omega arith }
code_word (a ∷ b ∷ c ∷ d ∷ rest) (suc j) w e =
    let w' = code_word rest j w e in
    let within = w'.within in
    let k : 4 * suc j ≡ suc (suc (suc (suc (4 * j)))) = omega arith in
    record {
      within = omega arith;
      is = w'.is ∙ read_same 4 (λ k. slice_index rest k) (λ k. slice_index (a ∷ b ∷ c ∷ d ∷ rest) k) (4 * j) (4 * suc j)
          (λ t below. let s : suc (suc (suc (suc (4 * j + t)))) ≡ 4 * suc j + t = omega arith in ap (slice_index (a ∷ b ∷ c ∷ d ∷ rest)) s);
    }

pub length-code_words : (bytes : List ℕ) → length bytes % 4 ≡ 0 → 4 * length (code_words bytes) ≡ length bytes
unfolding code_words
length-code_words [] e = refl
length-code_words (a ∷ []) e = absurd (omega arith)
length-code_words (a ∷ b ∷ []) e = absurd (omega arith)
length-code_words (a ∷ b ∷ c ∷ []) e = absurd (omega arith)
length-code_words (a ∷ b ∷ c ∷ d ∷ rest) e =
    let more : 4 * length (code_words rest) ≡ length rest = length-code_words rest (omega arith) in omega arith

-- a word of bytes has 32 bits
pub are_words : (bytes : List ℕ) → ((k : ℕ) → slice_index bytes k < 2 ^ 8) → AreWords (code_words bytes)
are_words bytes small k d below =
    let w = code_word bytes k (get_or (code_words bytes) k d) (slice_get-get_or (code_words bytes) k d below) in
    let b0 = small (4 * k) in let b1 = small (4 * k + 1) in let b2 = small (4 * k + 1 + 1) in let b3 = small (4 * k + 1 + 1 + 1) in
    let is = w.is in omega arith

placed_small : (m : Memory) (a : ℕ) (bytes : List ℕ) → ((k : ℕ) → m k < 2 ^ 8) → ((k : ℕ) → slice_index bytes k < 2 ^ 8) →
    (k : ℕ) → placed m a bytes k < 2 ^ 8
unfolding placed
placed_small m a bytes before small k =
    elim (cases_Bool (nat_le a k && nat_lt k (a + length bytes))) [
      | inl e ↦ rw e (small (k - a))
      | inr e ↦ rw e (before k)
    ]

module _ (image : Contents) where
  -- the loaded code
  pub loaded_code : (k : ℕ) → k < length image.code → loaded image (CODE_START + k) ≡ slice_index image.code k
  unfolding loaded placed
  loaded_code k below =
      let back : CODE_START + k - CODE_START ≡ k = omega arith in
      rw (le-leb CODE_START (CODE_START + k) (omega arith), lt-ltb (CODE_START + k) (CODE_START + length image.code) (omega arith), back) refl

  -- past it the region of code is zero
  pub loaded_past : IsImageSize (length image.code) (length image.init) → (k : ℕ) → length image.code ≤ k → loaded image (CODE_START + k) ≡ 0
  unfolding loaded placed
  loaded_past size k past =
      let most = size.data_most in
      rw (
        le-leb CODE_START (CODE_START + k) (omega arith),
        le-ltb (CODE_START + k) (CODE_START + length image.code) (omega arith),
        le-leb DATA_START (CODE_START + k) (omega arith),
        le-ltb (CODE_START + k) (DATA_START + length image.init) (omega arith),
      ) refl

  pub loaded_small : AreBytes image → (k : ℕ) → loaded image k < 2 ^ 8
  unfolding loaded
  loaded_small bytes k =
      placed_small (placed zeros DATA_START image.init) CODE_START image.code
      (placed_small zeros DATA_START image.init (λ j. lit< tt) bytes.init) bytes.code k

  -- what is fetched
  pub loaded_word : (j w : ℕ) → slice_get (code_words image.code) j ≡ Some w → read 4 (loaded image) (CODE_START + 4 * j) ≡ w
  loaded_word j w e =
      let at = code_word image.code j w e in
      let within = at.within in
      read_same 4 (loaded image) (λ k. slice_index image.code k) (CODE_START + 4 * j) (4 * j)
      (λ t below. ap (loaded image) (let z : CODE_START + 4 * j + t ≡ CODE_START + (4 * j + t) = omega arith in z) ∙ loaded_code (4 * j + t) (omega arith))
      ∙ sym at.is
