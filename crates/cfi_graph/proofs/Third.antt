-- The third line of a graph's text, which may be a list of system calls.
use Rattle.std.proofs.Common.{◌≡◌, ℕ, ◌==◌, not, true, false, List, [], ◌∷◌, ◌++◌, codes, Option, Some, None, Result, Ok, Err, refl, sym, ◌∙◌, ap, inl, inr}
use Rattle.std.specs.List.{join_with_byte, starts_with}
use Rattle.std.specs.Option.{option_map}
use Rattle.std.specs.Str.{bytes_eq}
use Rattle.std.proofs.lemmas.List.Splits.{join_with_byte-slice_split}
use Rattle.std.proofs.lemmas.Slice.Eq.{bytes_eq-Decides}
use Rattle.rv_word.proofs.Cases.{cases_Option, guarded, unmapped}
use Rattle.rv_word.specs.declared.end.End.{End}
use Rattle.text_lines.specs.Lines.{lines_of, words_of}
use Rattle.text_lines.proofs.Options.{mapped}
use Rattle.text_lines.proofs.Steps.{some_line}
use Rattle.text_lines.specs.declared.fault.LineFault.{LineFault}
use Rattle.cfi_graph.specs.Calls.{Listed, calls_of, decimals_of, few_in, judged_calls, small_in}
use Rattle.cfi_graph.specs.Reading.{listed, third_line}

abbrev pub without : List (List ℕ) → Listed
without parts = record { calls = None; lines = parts }

-- a list begins with its name and a space
calls_begin : (line numbers : List ℕ) → calls_of (words_of line) ≡ Some numbers → (rest : List ℕ) × (line ≡ codes "calls " ++ rest)
unfolding decimals_of
calls_begin line numbers e = at (words_of line) refl e
  where
    at : (words : List (List ℕ)) → words_of line ≡ words → calls_of words ≡ Some numbers → (rest : List ℕ) × (line ≡ codes "calls " ++ rest)
    at [] is h = absurd cc
    at (name ∷ []) is h = let g = guarded (bytes_eq name (codes "calls")) (few_in []) numbers h in absurd (cc g.1)
    at (name ∷ word ∷ more) is h =
        let g = guarded (bytes_eq name (codes "calls")) (few_in (word ∷ more)) numbers h in
        let named : name ≡ codes "calls" = (bytes_eq-Decides name (codes "calls")).0 g.0 in
        (join_with_byte 32 (word ∷ more), sym (join_with_byte-slice_split 32 line) ∙ ap (join_with_byte 32) (is ∙ ap (λ n. n ∷ word ∷ more) named))

-- what does not begin so has none
pub begins_otherwise : (text : List ℕ) → starts_with (λ a b. a == b) text (codes "calls ") ≡ false → third_line (lines_of text) ≡ Ok (without (lines_of text))
unfolding third_line
begins_otherwise text other = at (lines_of text) refl
  where
    at : (parts : List (List ℕ)) → lines_of text ≡ parts → third_line parts ≡ Ok (without parts)
    at [] is = refl
    at (line ∷ []) is = refl
    at (line ∷ next ∷ rest) is = elim (cases_Option (calls_of (words_of line))) [
      | inl none ↦ rw none refl
      | inr (numbers, some) ↦
          let begins = calls_begin line numbers some in
          let whole : text ≡ codes "calls " ++ (begins.0 ++ 10 ∷ join_with_byte 10 (next ∷ rest)) = sym (join_with_byte-slice_split 10 text) ∙ ap (join_with_byte 10) is ∙ ap (λ l. l ++ 10 ∷ join_with_byte 10 (next ∷ rest)) begins.1 in
          let wrong : true ≡ false = rw whole at other in
          absurd cc
    ]

module _ {parts : List (List ℕ)} {line : List ℕ} where
  pub alone : parts ≡ line ∷ [] → third_line parts ≡ Ok (without parts)
  unfolding third_line
  alone p = rw p refl

module _ (rest : List ℕ) {parts : List (List ℕ)} {line : List ℕ} (p : parts ≡ line ∷ lines_of rest) where
  is_listed : third_line parts ≡ listed (calls_of (words_of line)) parts (lines_of rest)
  unfolding third_line
  is_listed = some_line rest (λ part others q. rw (p, q) refl)

  pub no_list : None ≡ option_map small_in (calls_of (words_of line)) → third_line parts ≡ Ok (without parts)
  no_list e = is_listed ∙ ap (λ found. listed found parts (lines_of rest)) (unmapped small_in (calls_of (words_of line)) (sym e))

  module _ (numbers : Option (List ℕ)) (answer : Result (List ℕ) (End LineFault)) (is : Some numbers ≡ option_map small_in (calls_of (words_of line))) (judges : (calls : List ℕ) → numbers ≡ small_in calls → answer ≡ judged_calls 3 (Some calls)) where
    pub refused_list : (end : End LineFault) → answer ≡ Err end → third_line parts ≡ Err end
    refused_list end e =
        mapped small_in (calls_of (words_of line)) numbers (sym is) (λ calls found small.
        is_listed ∙ ap (λ o. listed o parts (lines_of rest)) found ∙ rw (sym (judges calls small) ∙ e) refl)

    pub right_list : (calls : List ℕ) → answer ≡ Ok calls → third_line parts ≡ Ok (record { calls = Some calls; lines = lines_of rest })
    right_list calls e =
        mapped small_in (calls_of (words_of line)) numbers (sym is) (λ ns found small.
        is_listed ∙ ap (λ o. listed o parts (lines_of rest)) found ∙ rw (sym (judges ns small) ∙ e) refl)
