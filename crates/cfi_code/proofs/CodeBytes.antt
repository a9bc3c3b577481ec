-- Bytes of words, the lowest byte of each first.
use Rattle.std.proofs.Common.{◌≡◌, ℕ, suc, ◌+◌, ◌*◌, ◌/◌, ◌%◌, ◌^◌, ◌<◌, List, [], ◌∷◌, ◌++◌, refl, length, arith, ap, sym, ◌∙◌, w32, length-append, append_assoc, map, take, get_or, ◌≤◌}
use Rattle.std.proofs.Math.Seq.{take-suc}
use Rattle.std.proofs.lemmas.List.{map-append, take_all}
use Rattle.std.specs.Int.{to_le_bytes}
use Rattle.rv_instr.specs.declared.instr.Instr.{Instr}
use Rattle.rv_code.specs.Encode.{code_of}
use Rattle.cfi_rules.specs.Split.{code_words}

code_words_append : (first rest : List ℕ) → length first % 4 ≡ 0 → code_words (first ++ rest) ≡ code_words first ++ code_words rest
unfolding code_words
code_words_append [] rest e = refl
code_words_append (a ∷ []) rest e = absurd (omega arith)
code_words_append (a ∷ b ∷ []) rest e = absurd (omega arith)
code_words_append (a ∷ b ∷ c ∷ []) rest e = absurd (omega arith)
code_words_append (a ∷ b ∷ c ∷ d ∷ first) rest e =
    ap (λ ws. (a + 2 ^ 8 * b + 2 ^ 16 * c + 2 ^ 24 * d) ∷ ws) (code_words_append first rest (omega arith))

word_back : (word : ℕ) → word < 2 ^ 32 → code_words (to_le_bytes w32 word) ≡ word ∷ []
unfolding code_words
word_back word small =
    let same : word % 256 + 256 * (word / 256 % 256) + 65536 * (word / 65536 % 256) + 16777216 * (word / 16777216 % 256) ≡ word = omega arith in
    ap (λ w. w ∷ []) same

pub one_word : (bytes more : List ℕ) (word : ℕ) → length bytes % 4 ≡ 0 → word < 2 ^ 32 → more ≡ bytes ++ to_le_bytes w32 word
    → code_words more ≡ code_words bytes ++ word ∷ []
one_word bytes more word whole small is =
    ap code_words is ∙ code_words_append bytes (to_le_bytes w32 word) whole ∙ ap (λ ws. code_words bytes ++ ws) (word_back word small)

pub one_length : (bytes more : List ℕ) (word : ℕ) → more ≡ bytes ++ to_le_bytes w32 word → length more ≡ length bytes + 4
one_length bytes more word is = ap length is ∙ length-append bytes (to_le_bytes w32 word)

-- words, and the words of instructions, that are put behind others one after another
pub next_word : (first now next words : List ℕ) (k : ℕ) → k < length words → now ≡ first ++ take k words → next ≡ now ++ get_or words k 0 ∷ []
    → next ≡ first ++ take (k + 1) words
next_word first now next words k below now_is next_is =
    let one : k + 1 ≡ suc k = omega arith in
    next_is ∙ ap (λ ws. ws ++ get_or words k 0 ∷ []) now_is ∙ append_assoc first (take k words) (get_or words k 0 ∷ [])
    ∙ ap (λ ws. first ++ ws) (sym (take-suc words k 0 below) ∙ ap (λ n. take n words) (sym one))

pub all_words : (first now words : List ℕ) (k : ℕ) → length words ≤ k → now ≡ first ++ take k words → now ≡ first ++ words
all_words first now words k past is = is ∙ ap (λ ws. first ++ ws) (take_all k words past)

pub next_code : (first now next : List ℕ) (instrs : List Instr) (k word : ℕ) (instr : Instr) → k < length instrs → instr ≡ get_or instrs k instr
    → word ≡ code_of instr → now ≡ first ++ map code_of (take k instrs) → next ≡ now ++ word ∷ [] → next ≡ first ++ map code_of (take (k + 1) instrs)
next_code first now next instrs k word instr below instr_is word_is now_is next_is =
    let one : k + 1 ≡ suc k = omega arith in
    let codes = map code_of (take k instrs) in
    next_is ∙ ap (λ ws. ws ++ word ∷ []) now_is ∙ append_assoc first codes (word ∷ [])
    ∙ ap (λ ws. first ++ ws)
    (ap (λ w. codes ++ w ∷ []) (word_is ∙ ap code_of instr_is)
    ∙ sym (map-append code_of (take k instrs) (get_or instrs k instr ∷ []))
    ∙ ap (λ is. map code_of is) (sym (take-suc instrs k instr below)) ∙ ap (λ n. map code_of (take n instrs)) (sym one))

pub all_codes : (first now : List ℕ) (instrs : List Instr) (k : ℕ) → length instrs ≤ k → now ≡ first ++ map code_of (take k instrs)
    → now ≡ first ++ map code_of instrs
all_codes first now instrs k past is = is ∙ ap (λ is. first ++ map code_of is) (take_all k instrs past)

pub next_size : (first now next k : ℕ) → now ≡ first + 4 * k → next ≡ now + 4 → next ≡ first + 4 * (k + 1)
next_size first now next k now_is next_is = omega arith

pub all_size : (first now k n : ℕ) → k ≤ n → n ≤ k → now ≡ first + 4 * k → now ≡ first + 4 * n
all_size first now k n most past is = omega arith
