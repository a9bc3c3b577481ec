-- The words that bytes are cut into are those of the code.
use Rattle.std.proofs.Common.{◌≡◌, ◌<◌, ◌≤◌, ℕ, ◌+◌, ◌*◌, ◌/◌, List, [], ◌∷◌, length, refl, ap, arith}
use Rattle.cfi_verify.proofs.Prelude.{word_of, IsCut, ends, code_words}
use Rattle.cfi_scan.specs.Pieces.{goes_on}

none_whole : (left : List ℕ) → length left < 4 → code_words left ≡ []
unfolding code_words
none_whole [] low = refl
none_whole (a ∷ []) low = refl
none_whole (a ∷ b ∷ []) low = refl
none_whole (a ∷ b ∷ c ∷ []) low = refl
none_whole (a ∷ b ∷ c ∷ d ∷ rest) low = absurd (omega arith)

pub cut_is : {bytes words left : List ℕ} → IsCut bytes words left → code_words bytes ≡ words
unfolding code_words
cut_is (ends left low) = none_whole left low
cut_is (goes_on a b c d bytes words left cut) = ap (λ ws. word_of a b c d ∷ ws) (cut_is cut)

-- how many bytes there are
pub record CutLength (bytes words : List ℕ) : Type 0 where
  pub low : 4 * length words ≤ length bytes
  pub high : length bytes < 4 * length words + 4

pub cut_length : {bytes words left : List ℕ} → IsCut bytes words left → CutLength bytes words
cut_length (ends left low) = record { low = omega arith; high = omega arith }
cut_length (goes_on a b c d bytes words left cut) =
    let low = (cut_length cut).low in
    let high = (cut_length cut).high in
    record { low = omega arith; high = omega arith }

pub cut_count : {bytes words left : List ℕ} → IsCut bytes words left → length bytes / 4 ≡ length words
cut_count cut = let low = (cut_length cut).low in let high = (cut_length cut).high in omega arith
