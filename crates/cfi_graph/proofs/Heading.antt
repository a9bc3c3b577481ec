-- The first two lines of a text.
use Rattle.std.proofs.Common.{◌≡◌, ℕ, true, false, List, [], ◌∷◌, ◌++◌, Option, Some, None, Ok, Err, refl, sym, subst, ◌∙◌, ap}
use Rattle.rv_image.specs.declared.version.GraphVersion.{GraphVersion}
use Rattle.rv_word.specs.declared.end.End.{End}
use Rattle.text_lines.specs.declared.reason.Reason.TheVariants.{Form, Range}
use Rattle.text_lines.specs.Lines.{lines_of, words_of}
use Rattle.text_lines.specs.Reading.{Reading, read, whole}
use Rattle.text_lines.specs.Answers.{Answers, line_fault}
use Rattle.text_lines.proofs.Steps.{some_line}
use Rattle.text_lines.proofs.Whole.{ends_whole, lines_whole}
use Rattle.text_lines.specs.declared.fault.LineFault.{LineFault}
use Rattle.cfi_graph.specs.declared.line.GraphLine.{GraphLine}
use Rattle.cfi_graph.specs.declared.line.Key.{Key}
use Rattle.cfi_graph.specs.Calls.{line_after}
use Rattle.cfi_graph.specs.Graph.{GraphParts, is_code_length}
use Rattle.cfi_graph.specs.Lines.{length_of}
use Rattle.cfi_graph.specs.Reading.{after_first, calls_key, calls_lines, graph_rules, with_code, with_lines}

module _ (version : GraphVersion) {parts : List (List ℕ)} {line : List ℕ} where
  pub second_alone : parts ≡ line ∷ [] → after_first version parts ≡ Err (line_fault 2 Form)
  unfolding after_first
  second_alone p = rw p refl

  pub second_form : (rest : List ℕ) → parts ≡ line ∷ lines_of rest → length_of (words_of line) ≡ None → after_first version parts ≡ Err (line_fault 2 Form)
  unfolding after_first
  second_form rest p e = some_line rest (λ part others q. rw (p, q, e) refl)

  pub second_range : (rest : List ℕ) (len : ℕ) → parts ≡ line ∷ lines_of rest → length_of (words_of line) ≡ Some len → is_code_length len ≡ false → after_first version parts ≡ Err (line_fault 2 Range)
  unfolding after_first
  second_range rest len p e r = some_line rest (λ part others q. rw (p, q, e, r) refl)

  pub second_right : (rest : List ℕ) (len : ℕ) → parts ≡ line ∷ lines_of rest → length_of (words_of line) ≡ Some len → is_code_length len ≡ true → after_first version parts ≡ with_code version len (lines_of rest)
  unfolding after_first
  second_right rest len p e r = some_line rest (λ part others q. rw (p, q, e, r) refl)

-- the lines after the list of system calls, as they are read by a form that has its line and key, if there is one
module _ (version : GraphVersion) (len : ℕ) (calls : Option (List ℕ)) (parts : List (List ℕ)) where
  abbrev reading : Reading GraphLine
  reading = read (graph_rules version len) (calls_key calls) (line_after 3 calls) parts

  pub record Lines (lines : List GraphLine) : Type 0 where
    pub items : List GraphLine
    pub whole_is : whole reading ≡ Ok items
    pub are : lines ≡ calls_lines calls ++ items

  pub lines_right : (lines : List GraphLine) → Lines lines → with_lines version len calls parts ≡ Ok (record { version = version; code = len; lines = lines })
  lines_right lines is = rw (is.whole_is, is.are) refl

  module _ {v : GraphVersion} {l first : ℕ} {before : Option Key} (v_is : v ≡ version) (l_is : l ≡ len) (before_is : before ≡ calls_key calls) (first_is : first ≡ line_after 3 calls) where
    same : read (graph_rules v l) before first parts ≡ reading
    same = rw (v_is, l_is, before_is, first_is) refl

    pub lines_read : (lines : List GraphLine) {front : List GraphLine} → front ≡ calls_lines calls → (read (graph_rules v l) before first parts).end ≡ Ok tt → lines ≡ front ++ (read (graph_rules v l) before first parts).items → Lines lines
    lines_read lines {front} front_is ended are = record {
      items = reading.items;
      whole_is = lines_whole reading reading.items (ap (λ (x : Reading GraphLine). x.end) (sym same) ∙ ended) refl;
      are = are ∙ ap (λ xs. xs ++ (read (graph_rules v l) before first parts).items) front_is ∙ ap (λ (x : Reading GraphLine). calls_lines calls ++ x.items) same;
    }

    pub lines_end : (end : End LineFault) → Answers {A = Unit {0}} (Err end) (read (graph_rules v l) before first parts).end → Answers {A = GraphParts} (Err end) (with_lines version len calls parts)
    lines_end end wrong = ends_whole reading _ end (subst (λ (x : Reading GraphLine). Answers {A = Unit {0}} (Err end) x.end) same wrong)
