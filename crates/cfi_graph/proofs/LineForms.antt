-- A line with a word too many has no form, and a list of words has its addresses one by one.
use Rattle.std.proofs.Common.{◌≡◌, ℕ, ◌<◌, ◌==◌, List, [], ◌∷◌, ◌++◌, length, take, drop, get_or, arith, Option, Some, None, refl, sym, ◌∙◌, ap, append_assoc}
use Rattle.std.proofs.lemmas.List.{append-nil}
use Rattle.std.specs.List.{slice_split}
use Rattle.std.specs.Option.{option_and_then, option_map}
use Rattle.text_lines.specs.Hex.{hex}
use Rattle.text_lines.specs.Lines.{words_of}
use Rattle.text_lines.proofs.Cuts.{some_part}
use Rattle.text_lines.proofs.Written.{plain_lacks, split_first}
use Rattle.cfi_graph.proofs.FixedLines.{number_plain, word_then}
use Rattle.cfi_graph.specs.Lines.{addresses_of, length_of, pair_of, site_of}

abbrev split : List ℕ → List (List ℕ)
split line = slice_split (λ b. b == 32) line

-- the words of a line, from those after its first ones
pub site_long : (more : List ℕ) {words rest last : List (List ℕ)} {a b c : List ℕ} → words ≡ a ∷ rest → rest ≡ b ∷ last → last ≡ c ∷ split more → None ≡ site_of words
site_long more p q r = rw (p, q, r) (some_part 32 more (λ part parts e. rw e refl))

pub pair_long : (more : List ℕ) {words last : List (List ℕ)} {a b : List ℕ} → words ≡ a ∷ last → last ≡ b ∷ split more → None ≡ pair_of words
pair_long more p q = rw (p, q) (some_part 32 more (λ part parts e. rw e refl))

pub length_long : (more : List ℕ) {words rest last : List (List ℕ)} {a b c : List ℕ} → words ≡ a ∷ rest → rest ≡ b ∷ last → last ≡ c ∷ split more → None ≡ length_of words
length_long more p q r = rw (p, q, r) (some_part 32 more (λ part parts e. rw e refl))

abbrev onto : List ℕ → Option (List ℕ) → Option (List ℕ)
onto front others = option_map (λ rest. front ++ rest) others

-- the address of a first word, and those of the words after it
abbrev pub led : ℕ → Option (List ℕ) → Option (List ℕ)
led a others = option_map (λ ys. a ∷ ys) others

pub bad_address : (front : List ℕ) {mine all : Option (List ℕ)} → mine ≡ None → onto front mine ≡ all → None ≡ all
bad_address front e h = rw e at h

pub next_address : (front : List ℕ) (a : ℕ) (others : Option (List ℕ)) {mine all : Option (List ℕ)} → mine ≡ led a others → onto front mine ≡ all → onto (front ++ a ∷ []) others ≡ all
next_address front a others {all} e h = again others (rw e at h)
  where
    again : (others : Option (List ℕ)) → onto front (led a others) ≡ all → onto (front ++ a ∷ []) others ≡ all
    again None k = k
    again (Some ys) k = ap Some (append_assoc front (a ∷ []) ys) ∙ k

pub first_word : {words rest : List (List ℕ)} {word : List ℕ} (found : Option ℕ) → words ≡ word ∷ rest → found ≡ hex 8 word → addresses_of words ≡ option_and_then (λ a. led a (addresses_of rest)) found
unfolding addresses_of
first_word found p e = rw (p, ← e) refl

-- a space behind eight digits is the first one
pub eight_digits : (words : List ℕ) (a : ℕ) → 8 < length words → get_or words 8 0 ≡ 32 → hex 8 (take 8 words) ≡ Some a → addresses_of (words_of words) ≡ led a (addresses_of (words_of (drop 9 words)))
eight_digits words a h space e =
    let parts = word_then words 0 8 h space in
    let first : words_of words ≡ take 8 words ∷ words_of (drop 9 words) = ap words_of parts ∙ split_first 32 (take 8 words) (drop 9 words) (plain_lacks 32 (take 8 words) (omega arith) (number_plain 8 (take 8 words) a e)) in
    first_word (Some a) first (sym e)

pub no_address : (front : List ℕ) {all : Option (List ℕ)} → onto front (addresses_of []) ≡ all → Some front ≡ all
unfolding addresses_of
no_address front h = ap Some (sym (append-nil front)) ∙ h
