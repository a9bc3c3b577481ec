-- What is written is read back: a number's digits give the number, and the words and lines of a
-- text are the parts between its separators.
use Rattle.std.proofs.Common.{◌≡◌, ℕ, zero, suc, ◌+◌, ◌*◌, ◌/◌, ◌%◌, ◌^◌, ◌<◌, ◌≤◌, ◌==◌, Bool, true, false, if◌then◌else◌, List, [], ◌∷◌, ◌++◌, length, Some, refl, sym, ◌∙◌, ap, append_assoc, inl, inr, arith}
use Rattle.std.specs.List.{All, flat_map, join_with_byte, list_all, slice_split}
use Rattle.std.proofs.lemmas.List.{append-nil}
use Rattle.std.proofs.lemmas.List.Folds.{list_all-append}
use Rattle.std.proofs.lemmas.Bool.{and_from, and_parts, eq-eqb, ne_eqb, le-leb, lt-leb, leb-true, cases_lt, lt-ltb, le-ltb}
use Rattle.std.proofs.lemmas.List.Sums.{AllPass-from_list_all}
use Rattle.std.proofs.lemmas.List.Splits.{slice_split_at, slice_split_none}
use Rattle.std.proofs.lemmas.Nat.{shr-shr, mod_below, div_below}
use Rattle.std.proofs.Math.Dec.{leb}
use Rattle.text_lines.specs.declared.hexadecimal.Case.TheVariants.{Lower}
use Rattle.text_lines.specs.Lines.{spaced, words_of}
use Rattle.text_lines.specs.Hex.{digit_value, hex, hex_digit, hex_from, hex_text}

digit_back : (d : ℕ) → d < 16 → digit_value (hex_digit d) ≡ Some d
digit_back d h =
    elim (cases_lt d 10) [
      | inl low ↦ rw (lt-ltb d 10 low, le-leb 48 (48 + d) (omega arith), le-leb (48 + d) 57 (omega arith)) (ap Some (omega arith))
      | inr high ↦ rw (le-ltb d 10 high, le-leb 48 (87 + d) (omega arith), lt-leb (87 + d) 57 (omega arith), le-leb 97 (87 + d) (omega arith), le-leb (87 + d) 102 (omega arith)) (ap Some (omega arith))
    ]

length-hex_text : (count n : ℕ) → length (hex_text count n) ≡ count
unfolding hex_text
length-hex_text zero n = refl
length-hex_text (suc count) n = ap suc (length-hex_text count n)

hex_from_back : (count n : ℕ) → hex_from Lower (n / 2 ^ (4 * count)) (hex_text count n) ≡ Some n
unfolding hex_from hex_text
hex_from_back zero n = ap Some (omega arith)
hex_from_back (suc count) n =
    let rest = n / 2 ^ (4 * count) in
    let high : n / 2 ^ (4 * suc count) ≡ rest / 2 ^ 4 = ap (λ k. n / 2 ^ k) (omega arith) ∙ sym (shr-shr n (4 * count) 4) in
    let whole : 16 * (n / 2 ^ (4 * suc count)) + rest % 2 ^ 4 ≡ rest = ap (λ k. 16 * k + rest % 2 ^ 4) high ∙ omega arith in
    rw (digit_back (rest % 2 ^ 4) (mod_below rest (2 ^ 4) (omega arith)), whole) (hex_from_back count n)

pub hex_back : (count n : ℕ) → n < 2 ^ (4 * count) → hex count (hex_text count n) ≡ Some n
hex_back count n h =
    let none : n / 2 ^ (4 * count) ≡ 0 = omega (arith, div_below n (2 ^ (4 * count)) 1 (omega arith) (omega arith)) in
    rw (eq-eqb _ _ (length-hex_text count n)) (ap (λ high. hex_from Lower high (hex_text count n)) (sym none) ∙ hex_from_back count n)

-- a word of letters and digits: each byte is at least `0`
abbrev pub plain : List ℕ → Bool
plain word = list_all (λ b. leb 48 b) word

pub hex_plain : (count n : ℕ) → plain (hex_text count n) ≡ true
unfolding hex_text
hex_plain zero n = refl
hex_plain (suc count) n = and_from _ _ (digit_plain (n / 2 ^ (4 * count) % 2 ^ 4)) (hex_plain count n)
  where
    digit_plain : (d : ℕ) → leb 48 (hex_digit d) ≡ true
    digit_plain d =
        elim (cases_lt d 10) [
          | inl low ↦ rw (lt-ltb d 10 low) (le-leb 48 (48 + d) (omega arith))
          | inr high ↦ rw (le-ltb d 10 high) (le-leb 48 (87 + d) (omega arith))
        ]

-- the separator is in none of the words
abbrev pub lacks : ℕ → List ℕ → Bool
lacks separator word = list_all (λ b. if b == separator then false else true) word

lacks_all : (separator : ℕ) (word : List ℕ) → lacks separator word ≡ true → All (λ b. (b == separator) ≡ false) word
lacks_all separator word h =
    let each = AllPass-from_list_all (λ b. if b == separator then false else true) word h in
    λ k d below. other _ (each k d below)
  where
    other : (b : Bool) → (if b then false else true) ≡ true → b ≡ false
    other true e = sym e
    other false e = refl

pub plain_lacks : (separator : ℕ) (word : List ℕ) → separator < 48 → plain word ≡ true → lacks separator word ≡ true
plain_lacks separator [] h p = refl
plain_lacks separator (b ∷ word) h p =
    let parts = and_parts (leb 48 b) (plain word) p in
    let above : 48 ≤ b = leb-true 48 b parts.0 in
    let other : (b == separator) ≡ false = ne_eqb b separator (λ e. omega arith) in
    rw other (plain_lacks separator word h parts.1)

pub split_first : (separator : ℕ) (word rest : List ℕ) → lacks separator word ≡ true → slice_split (λ b. b == separator) (word ++ separator ∷ rest) ≡ word ∷ slice_split (λ b. b == separator) rest
split_first separator word rest first =
    slice_split_at (λ b. b == separator) word separator rest (lacks_all separator word first) (eq-eqb separator separator refl)

pub split_join : (separator : ℕ) (word : List ℕ) (words : List (List ℕ)) → lacks separator word ≡ true → list_all (lacks separator) words ≡ true → slice_split (λ b. b == separator) (join_with_byte separator (word ∷ words)) ≡ word ∷ words
split_join separator word [] first rest =
    slice_split_none (λ b. b == separator) word (lacks_all separator word first)
split_join separator word (next ∷ words) first rest =
    let parts = and_parts (lacks separator next) (list_all (lacks separator) words) rest in
    split_first separator word _ first ∙ ap (λ ws. word ∷ ws) (split_join separator next words parts.0 parts.1)

-- words of letters and digits, joined by spaces, are cut into the same words
all_lack : (separator : ℕ) (words : List (List ℕ)) → separator < 48 → list_all plain words ≡ true → list_all (lacks separator) words ≡ true
all_lack separator [] h e = refl
all_lack separator (word ∷ words) h e =
    let p = and_parts (plain word) (list_all plain words) e in
    and_from _ _ (plain_lacks separator word h p.0) (all_lack separator words h p.1)

pub words_back : (word : List ℕ) (words : List (List ℕ)) → list_all plain (word ∷ words) ≡ true → words_of (spaced (word ∷ words)) ≡ word ∷ words
words_back word words e =
    let p = and_parts (lacks 32 word) (list_all (lacks 32) words) (all_lack 32 (word ∷ words) (omega arith) e) in
    split_join 32 word words p.0 p.1

-- and have no newline
lacks-append : (separator : ℕ) (xs ys : List ℕ) → lacks separator xs ≡ true → lacks separator ys ≡ true → lacks separator (xs ++ ys) ≡ true
lacks-append separator xs ys p q = list_all-append _ xs ys ∙ and_from _ _ p q

pub spaced_line : (words : List (List ℕ)) → list_all plain words ≡ true → lacks 10 (spaced words) ≡ true
spaced_line [] e = refl
spaced_line (word ∷ []) e =
    plain_lacks 10 word (omega arith) (and_parts (plain word) true e).0
spaced_line (word ∷ next ∷ words) e =
    let p = and_parts (plain word) (list_all plain (next ∷ words)) e in
    lacks-append 10 word (32 ∷ spaced (next ∷ words)) (plain_lacks 10 word (omega arith) p.0) (spaced_line (next ∷ words) p.1)

-- lines of which each ends with a newline are lines with newlines between them, and an empty last one
pub join_newlines : (lines : List (List ℕ)) → join_with_byte 10 (lines ++ [] ∷ []) ≡ flat_map (λ line. line ++ 10 ∷ []) lines
join_newlines [] = refl
join_newlines (line ∷ []) = sym (append-nil (line ++ 10 ∷ []))
join_newlines (line ∷ next ∷ lines) =
    ap (λ rest. line ++ 10 ∷ rest) (join_newlines (next ∷ lines)) ∙ sym (append_assoc line (10 ∷ []) _)
