-- The words of a list of bytes: one word on, at the end, and the first ones.
use Rattle.std.proofs.Common.{◌≡◌, ◌≤◌, ◌<◌, ℕ, zero, suc, ◌==◌, false, inl, inr, refl, ◌+◌, ◌-◌, ◌*◌, ◌^◌, List, [], ◌∷◌, ◌++◌, length, get_or, take, drop, ap, ◌∙◌, sym, arith, append_assoc}
use Rattle.std.proofs.lemmas.Bool.{cases_lt, eq-eqb}
use Rattle.std.proofs.lemmas.List.{append-nil, drop_all, take_all}
use Rattle.std.proofs.Math.Seq.{take-append_seam}
use Rattle.cfi_rules.specs.Split.{code_words}

pub word_more : (ws rest all : List ℕ) (w : ℕ) → 4 ≤ length rest → w ≡ get_or rest 0 0 + get_or rest 1 0 * 256 + get_or rest 2 0 * 65536 + get_or rest 3 0 * 16777216 → ws ++ code_words rest ≡ all → (ws ++ w ∷ []) ++ code_words (take (length rest - 4) (drop 4 rest)) ≡ all
unfolding code_words
word_more ws [] all w h e f = absurd (omega arith)
word_more ws (a ∷ []) all w h e f = absurd (omega arith)
word_more ws (a ∷ b ∷ []) all w h e f = absurd (omega arith)
word_more ws (a ∷ b ∷ c ∷ []) all w h e f = absurd (omega arith)
word_more ws (a ∷ b ∷ c ∷ d ∷ rest) all w h e f =
    let same : take (length (a ∷ b ∷ c ∷ d ∷ rest) - 4) rest ≡ rest = take_all _ rest (omega arith) in
    let word : w ≡ a + 2 ^ 8 * b + 2 ^ 16 * c + 2 ^ 24 * d = omega arith in
    append_assoc ws (w ∷ []) _ ∙ ap (λ xs. ws ++ (w ∷ code_words xs)) same ∙ ap (λ v. ws ++ (v ∷ code_words rest)) word ∙ f

pub word_none : (ws rest all : List ℕ) → length rest < 4 → ws ++ code_words rest ≡ all → ws ≡ all
unfolding code_words
word_none ws [] all h f = sym (append-nil ws) ∙ f
word_none ws (a ∷ []) all h f = sym (append-nil ws) ∙ f
word_none ws (a ∷ b ∷ []) all h f = sym (append-nil ws) ∙ f
word_none ws (a ∷ b ∷ c ∷ []) all h f = sym (append-nil ws) ∙ f
word_none ws (a ∷ b ∷ c ∷ d ∷ rest) all h f = absurd (omega arith)

-- the words from one of them on
pub words_dropped : (k : ℕ) (bytes : List ℕ) → code_words (drop (4 * k) bytes) ≡ drop k (code_words bytes)
unfolding code_words
words_dropped zero bytes = refl
words_dropped (suc k) [] = let e : 4 * suc k ≡ suc (4 * k + 3) = omega arith in ap (λ n. code_words (drop n [])) e
words_dropped (suc k) (a ∷ []) = let e : 4 * suc k ≡ suc (suc (4 * k + 2)) = omega arith in ap (λ n. code_words (drop n (a ∷ []))) e
words_dropped (suc k) (a ∷ b ∷ []) = let e : 4 * suc k ≡ suc (suc (suc (4 * k + 1))) = omega arith in ap (λ n. code_words (drop n (a ∷ b ∷ []))) e
words_dropped (suc k) (a ∷ b ∷ c ∷ []) = let e : 4 * suc k ≡ suc (suc (suc (suc (4 * k)))) = omega arith in ap (λ n. code_words (drop n (a ∷ b ∷ c ∷ []))) e
words_dropped (suc k) (a ∷ b ∷ c ∷ d ∷ rest) =
    let e : 4 * suc k ≡ suc (suc (suc (suc (4 * k)))) = omega arith in
    ap (λ n. code_words (drop n (a ∷ b ∷ c ∷ d ∷ rest))) e ∙ words_dropped k rest

pub words_past : (k : ℕ) (bytes : List ℕ) → length bytes < 4 * k → code_words [] ≡ drop k (code_words bytes)
words_past k bytes past = ap code_words (sym (drop_all (4 * k) bytes (omega arith))) ∙ words_dropped k bytes

-- the first words of a list that begins with them
pub not_full : (n : ℕ) → (n == 21) ≡ false → n ≤ 21 → n < 21
not_full n other most =
    elim (cases_lt n 21) [
      | inl below ↦ below
      | inr above ↦ let full : n ≡ 21 = omega arith in let e = eq-eqb n 21 full in absurd (cc)
    ]

pub first_full : (ws rest all : List ℕ) → length ws ≡ 21 → ws ++ rest ≡ all → ws ≡ take 21 all
first_full ws rest all full e =
    sym (take-append_seam ws rest) ∙ ap (λ n. take n (ws ++ rest)) full ∙ ap (take 21) e

pub first_short : (ws all : List ℕ) → length ws ≤ 21 → ws ≡ all → ws ≡ take 21 all
first_short ws all most e = sym (take_all 21 ws most) ∙ ap (take 21) e
