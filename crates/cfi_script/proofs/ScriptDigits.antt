-- The words of a script's line: its pairs of hexadecimal digits, and their count.
use Rattle.std.proofs.Common.{◌≡◌, ℕ, ◌+◌, ◌*◌, ◌<◌, ◌≤◌, ◌==◌, ◌%◌, nat_le, true, false, inl, inr, List, [], ◌∷◌, ◌++◌, length, get_or, drop, Option, Some, None, Result, Ok, Err, refl, sym, ap, append_assoc, ◌∙◌, arith}
use Rattle.std.specs.List.{list_any, slice_split}
use Rattle.std.specs.Option.{option_map, option_and_then}
use Rattle.std.specs.Result.{result_ok}
use Rattle.std.proofs.lemmas.Bool.{and_parts, cases_Bool, eqb-true, leb-true, or_parts}
use Rattle.std.proofs.lemmas.List.{append-nil, drop_all, drop_more}
use Rattle.hex.specs.Hex.{decode_of, decode_pairs, digit_or_error, hex_digit_value, ◌>>=◌}
use Rattle.hex.specs.declared.error.FromHexError.{FromHexError}
use Rattle.text_lines.specs.Decimal.{MAX_STEP, capped, decimal}
use Rattle.text_lines.specs.Hex.{digit_value, hex}
use Rattle.text_lines.proofs.Cuts.{some_part}
use Rattle.rv_image.specs.MemoryMap.{DATA_END}
use Rattle.cfi_script.specs.declared.script_line.ScriptLine.{ScriptLine}
use Rattle.cfi_script.specs.Script.{Changes}
use Rattle.cfi_script.specs.ScriptNumbers.{is_capital}
use Rattle.cfi_script.specs.ScriptText.{bytes_of, changes_from, data_of, in_range, line_of, words_after_at}

-- a fifth word is one too many
pub at_long : (more : List ℕ) {words second third last : List (List ℕ)} {a b c d : List ℕ} → words ≡ a ∷ second → second ≡ b ∷ third → third ≡ c ∷ last → last ≡ d ∷ slice_split (λ b. b == 32) more → None ≡ words_after_at words
at_long more p q r s = rw (p, q, r, s) (some_part 32 more (λ part parts e. rw e refl))

-- ---- pairs of hexadecimal digits

small_digit : (b : ℕ) → is_capital b ≡ false → hex_digit_value b ≡ digit_value b
small_digit b e = grind (arith)

capital_digit : (b : ℕ) → is_capital b ≡ true → digit_value b ≡ None
capital_digit b e = grind (arith)

abbrev pair_then : Option ℕ → Option ℕ → Option (List ℕ) → Option (List ℕ)
pair_then high low rest =
    option_and_then (λ h. option_and_then (λ l. option_map (λ others. (16 * h + l) ∷ others) rest) low) high

paired : (a b i : ℕ) (high low : Option ℕ) (rest : Result (List ℕ) FromHexError) → pair_then high low (result_ok rest) ≡ result_ok ((digit_or_error a i high >>= (λ h. digit_or_error b (i + 1) low >>= (λ l. Ok (h * 16 + l)))) >>= (λ byte. rest >>= (λ bytes. Ok (byte ∷ bytes))))
paired a b i None low rest = refl
paired a b i (Some h) None rest = refl
paired a b i (Some h) (Some l) (Err e) = refl
paired a b i (Some h) (Some l) (Ok bytes) =
    let e : 16 * h + l ≡ h * 16 + l = omega arith in
    ap (λ (v : ℕ). Some (v ∷ bytes)) e

pairs_same : (i : ℕ) (s : List ℕ) → list_any is_capital s ≡ false → bytes_of s ≡ result_ok (decode_pairs i s)
unfolding bytes_of decode_pairs
pairs_same i [] h = refl
pairs_same i (a ∷ []) h = refl
pairs_same i (a ∷ b ∷ rest) h =
    let first = or_parts (is_capital a) (list_any is_capital (b ∷ rest)) h in
    let second = or_parts (is_capital b) (list_any is_capital rest) first.1 in
    let others = pairs_same (i + 2) rest second.1 in
    rw (← small_digit a first.0, ← small_digit b second.0, others) (paired a b i (hex_digit_value a) (hex_digit_value b) (decode_pairs (i + 2) rest))

no_pair : (high low : Option ℕ) → pair_then high low None ≡ None
no_pair None low = refl
no_pair (Some h) None = refl
no_pair (Some h) (Some l) = refl

no_low : (high : Option ℕ) (rest : Option (List ℕ)) → pair_then high None rest ≡ None
no_low None rest = refl
no_low (Some h) rest = refl

pub capitals : (s : List ℕ) → list_any is_capital s ≡ true → bytes_of s ≡ None
unfolding bytes_of
capitals [] h = cc h
capitals (a ∷ []) h = refl
capitals (a ∷ b ∷ rest) h =
    elim (cases_Bool (is_capital a)) [
      | inl first ↦ rw (capital_digit a first) refl
      | inr other ↦
          elim (cases_Bool (is_capital b)) [
            | inl second ↦ rw (capital_digit b second) (no_low (digit_value a) (bytes_of rest))
            | inr neither ↦ rw (capitals rest (rw (other, neither) at h)) (no_pair (digit_value a) (digit_value b))
          ]
    ]

odd_none : (s : List ℕ) → length s % 2 ≡ 1 → bytes_of s ≡ None
unfolding bytes_of
odd_none [] h = absurd (omega arith)
odd_none (a ∷ []) h = refl
odd_none (a ∷ b ∷ rest) h = rw (odd_none rest (omega arith)) (no_pair (digit_value a) (digit_value b))

pub decoded : (s : List ℕ) → list_any is_capital s ≡ false → bytes_of s ≡ result_ok (decode_of s)
decoded s h =
    elim (cases_Bool (length s % 2 == 1)) [
      | inl odd ↦ rw odd (odd_none s (eqb-true (length s % 2) 1 odd))
      | inr even ↦ rw even (pairs_same 0 s h)
    ]

pub data_is : (s : List ℕ) → 2 ≤ length s → length s ≤ 8192 → data_of s ≡ bytes_of s
data_is s h k = grind (arith)

-- ---- a line

abbrev parsed : Option ℕ → Option ℕ → Option (List ℕ) → Option ScriptLine
parsed step address bytes =
    option_and_then (λ s. option_and_then (λ a. option_map (λ b. record { step = s; address = a; bytes = b }) bytes) address) step

pub line_is : (words : List (List ℕ)) {s a b : List ℕ} → words_after_at words ≡ Some (s, (a, b)) → line_of words ≡ parsed (option_map capped (decimal s)) (hex 8 a) (data_of b)
unfolding line_of
line_is words e = rw e refl

pub no_words : (words : List (List ℕ)) → words_after_at words ≡ None → line_of words ≡ None
unfolding line_of
no_words words e = rw e refl

pub within_data : (l : ScriptLine) → in_range l ≡ true → l.address + length l.bytes ≤ DATA_END
within_data l h =
    leb-true _ _ (and_parts (nat_le l.step MAX_STEP) (nat_le (l.address + length l.bytes) DATA_END) h).1

-- the changes of a line, byte by byte
pub next_change : (front all : Changes) (step address i : ℕ) (bytes : List ℕ) → i < length bytes → front ++ changes_from step address (drop i bytes) ≡ all → (front ++ (step, (address, get_or bytes i 0)) ∷ []) ++ changes_from step (address + 1) (drop (i + 1) bytes) ≡ all
unfolding changes_from
next_change front all step address i bytes h e =
    append_assoc front ((step, (address, get_or bytes i 0)) ∷ []) (changes_from step (address + 1) (drop (i + 1) bytes)) ∙ rw (drop_more bytes i 0 h) at e

pub no_change : (front all : Changes) (step address i : ℕ) (bytes : List ℕ) → length bytes ≤ i → front ++ changes_from step address (drop i bytes) ≡ all → front ≡ all
unfolding changes_from
no_change front all step address i bytes h e = sym (append-nil front) ∙ rw (drop_all i bytes h) at e
