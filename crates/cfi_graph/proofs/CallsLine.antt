-- A line of the numbers of system calls is the spelling of what it is read as, and each spelling is read.
use Rattle.std.proofs.Common.{◌≡◌, ℕ, ◌^◌, nat_lt, nat_le, Bool, true, ◌&&◌, List, [], ◌∷◌, length, map, codes, Some, Ok, refl, sym, subst, ◌∙◌, ap, arith}
use Rattle.std.specs.Fmt as fmt
use Rattle.std.specs.List.{join_with_byte, list_all}
use Rattle.std.specs.Str.{bytes_eq}
use Rattle.std.proofs.lemmas.Bool.{and_from, and_parts, ltb-true}
use Rattle.std.proofs.lemmas.List.Splits.{join_with_byte-slice_split}
use Rattle.std.proofs.lemmas.Option.{same_Some}
use Rattle.std.proofs.lemmas.Slice.Eq.{bytes_eq-Decides}
use Rattle.rv_word.specs.Numbers.{MOST_NUMBERS}
use Rattle.rv_word.proofs.Cases.{guarded}
use Rattle.text_lines.specs.Decimal.{decimal}
use Rattle.text_lines.specs.Lines.{spaced, words_of}
use Rattle.text_lines.proofs.Accepts.{judged_ok}
use Rattle.text_lines.proofs.Options.{and_then, mapped}
use Rattle.text_lines.proofs.Written.{plain, words_back}
use Rattle.cfi_graph.specs.Calls.{calls_of, calls_rules, decimals_of, few_in, if_few, judged_calls}
use Rattle.cfi_graph.specs.Graph.{are_calls, is_rising}
use Rattle.cfi_graph.specs.Text.{words_of_calls}
use Rattle.cfi_graph.proofs.DecimalWords.{decimal_back, decimal_plain, decimal_spelled}

abbrev small : List ℕ → Bool
small numbers = list_all (λ n. nat_lt n (2 ^ 11)) numbers

numbers_spelled : (words : List (List ℕ)) (numbers : List ℕ) → small numbers ≡ true → decimals_of words ≡ Some numbers → words ≡ map fmt.decimal numbers
unfolding decimals_of
numbers_spelled [] numbers low e = ap (map fmt.decimal) (same_Some _ _ e)
numbers_spelled (word ∷ rest) numbers low e =
    and_then _ (decimal word) numbers e (λ n first others.
    mapped (λ ys. n ∷ ys) (decimals_of rest) numbers others (λ ys is whole.
    let p = and_parts (nat_lt n (2 ^ 11)) (small ys) (ap small (sym whole) ∙ low) in
    rw whole (ap (λ w. w ∷ rest) (decimal_spelled word n (omega (arith, ltb-true n (2 ^ 11) p.0)) first) ∙ ap (λ ws. fmt.decimal n ∷ ws) (numbers_spelled rest ys p.1 is))))

numbers_back : (numbers : List ℕ) → small numbers ≡ true → decimals_of (map fmt.decimal numbers) ≡ Some numbers
unfolding decimals_of
numbers_back [] low = refl
numbers_back (n ∷ ns) low =
    let p = and_parts (nat_lt n (2 ^ 11)) (small ns) low in
    rw (decimal_back n (omega (arith, ltb-true n (2 ^ 11) p.0)), numbers_back ns p.1) refl

numbers_plain : (numbers : List ℕ) → small numbers ≡ true → list_all plain (map fmt.decimal numbers) ≡ true
numbers_plain [] low = refl
numbers_plain (n ∷ ns) low =
    let p = and_parts (nat_lt n (2 ^ 11)) (small ns) low in
    and_from _ _ (decimal_plain n (omega (arith, ltb-true n (2 ^ 11) p.0))) (numbers_plain ns p.1)

words_spelled : (words : List (List ℕ)) (numbers : List ℕ) → small numbers ≡ true → calls_of words ≡ Some numbers → (words ≡ words_of_calls numbers) × ((nat_lt 0 (length numbers) && nat_le (length numbers) MOST_NUMBERS) ≡ true)
words_spelled [] numbers low e = absurd cc
words_spelled (name ∷ words) numbers low e =
    let named = guarded (bytes_eq name (codes "calls")) (few_in words) numbers e in
    and_then if_few (decimals_of words) numbers named.1 (λ ns spelled others.
    let g = guarded (nat_lt 0 (length ns) && nat_le (length ns) MOST_NUMBERS) (Some ns) numbers others in
    let same = same_Some _ _ g.1 in
    let first : name ≡ codes "calls" = (bytes_eq-Decides name (codes "calls")).0 named.0 in (
      ap (λ n. n ∷ words) first ∙ ap (λ ws. codes "calls" ∷ ws) (numbers_spelled words numbers low (spelled ∙ ap Some same)),
      subst (λ (xs : List ℕ). (nat_lt 0 (length xs) && nat_le (length xs) MOST_NUMBERS) ≡ true) same g.0,
    ))

-- a line of such numbers is spelled in one way
pub calls_spelled : (line : List ℕ) (numbers : List ℕ) → small numbers ≡ true → calls_of (words_of line) ≡ Some numbers → (line ≡ spaced (words_of_calls numbers)) × (are_calls numbers ≡ true)
calls_spelled line numbers low e =
    let p = words_spelled (words_of line) numbers low e in
    (sym (join_with_byte-slice_split 32 line) ∙ ap (join_with_byte 32) p.0, and_from _ _ p.1 low)

-- what a line that is not refused says
pub record IsList (line numbers : List ℕ) : Type 0 where
  pub spelled : line ≡ spaced (words_of_calls numbers)
  pub are : are_calls numbers ≡ true
  pub rising : is_rising nat_lt numbers ≡ true

pub judged_list : (number : ℕ) (line numbers : List ℕ) → judged_calls number (calls_of (words_of line)) ≡ Ok numbers → IsList line numbers
judged_list number line numbers e =
    let p = judged_ok calls_rules tt number (calls_of (words_of line)) numbers e in
    let q = calls_spelled line numbers p.1 p.0 in
    record { spelled = q.0; are = q.1; rising = p.2 }

-- the parts of what a list may be
abbrev pub Parts : List ℕ → Type 0
Parts numbers = ((nat_lt 0 (length numbers) && nat_le (length numbers) MOST_NUMBERS) ≡ true) × (small numbers ≡ true)

pub parts_of : (numbers : List ℕ) → are_calls numbers ≡ true → Parts numbers
parts_of numbers e = and_parts (nat_lt 0 (length numbers) && nat_le (length numbers) MOST_NUMBERS) (small numbers) e

pub calls_plain : (numbers : List ℕ) → are_calls numbers ≡ true → list_all plain (words_of_calls numbers) ≡ true
calls_plain numbers e = numbers_plain numbers (parts_of numbers e).1

pub calls_words_back : (numbers : List ℕ) → are_calls numbers ≡ true → words_of (spaced (words_of_calls numbers)) ≡ words_of_calls numbers
calls_words_back numbers e = words_back (codes "calls") (map fmt.decimal numbers) (calls_plain numbers e)

pub calls_back : (numbers : List ℕ) → are_calls numbers ≡ true → calls_of (words_of (spaced (words_of_calls numbers))) ≡ Some numbers
calls_back numbers e =
    let p = parts_of numbers e in
    ap calls_of (calls_words_back numbers e) ∙ rw (numbers_back numbers p.1, p.0) refl

-- a list that may be is not refused
pub judged_back : (number : ℕ) (numbers : List ℕ) → are_calls numbers ≡ true → is_rising nat_lt numbers ≡ true → judged_calls number (Some numbers) ≡ Ok numbers
judged_back number numbers e rising = rw ((parts_of numbers e).1, rising) refl
