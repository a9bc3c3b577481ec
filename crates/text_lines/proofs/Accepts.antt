-- What is read of a list of parts, as a relation: each part is a line that may stand there, and `end`
-- and its newline are last.
use Rattle.std.proofs.Common.{◌≡◌, ℕ, ◌+◌, Bool, true, false, not, if◌then◌else◌, List, [], ◌∷◌, ◌++◌, codes, Option, Some, None, Result, Ok, Err, refl, sym, ◌∙◌, ap, inl, inr}
use Rattle.std.specs.Str.{bytes_eq}
use Rattle.std.proofs.lemmas.Slice.Eq.{bytes_eq-Decides}
use Rattle.std.proofs.lemmas.Bool.{cases_Bool}
use Rattle.rv_word.specs.declared.end.End.{End}
use Rattle.text_lines.specs.Lines.{words_of}
use Rattle.text_lines.specs.Reading.{LineRules, Reading, at_end, judged, read, with_front, with_line}
use Rattle.text_lines.specs.declared.fault.LineFault.{LineFault}

pub data Accepts {L B I : Type 0} (rules : LineRules L B I) : B → List (List ℕ) → List I → Type 0 where
  end_only : {before : B} → Accepts rules before (codes "end" ∷ [] ∷ []) []
  line_first : {before : B} {line : List ℕ} {parts : List (List ℕ)} {l : L} {items : List I} → rules.spelled (words_of line) ≡ Some l → rules.in_range l ≡ true → rules.in_order before l ≡ true → Accepts rules (rules.after l) parts items → Accepts rules before (line ∷ parts) (rules.items l ++ items)

pub if_ok : {A E : Type 0} (b : Bool) (x : Result A E) (fault : E) (y : A) → (if b then x else Err fault) ≡ Ok y → (b ≡ true) × (x ≡ Ok y)
if_ok true x fault y e = (refl, e)
if_ok false x fault y e = cc

unless_ok : {A E : Type 0} (b : Bool) (x : Result A E) (fault : E) (y : A) → (if not b then Err fault else x) ≡ Ok y → (b ≡ true) × (x ≡ Ok y)
unless_ok true x fault y e = (refl, e)
unless_ok false x fault y e = cc

module _ {L B I : Type 0} (rules : LineRules L B I) where
  pub judged_ok : (before : B) (number : ℕ) (found : Option L) (l : L) → judged rules before number found ≡ Ok l → (found ≡ Some l) × (rules.in_range l ≡ true) × (rules.in_order before l ≡ true)
  judged_ok before number None l e = cc
  judged_ok before number (Some line) l e =
      let range = unless_ok (rules.in_range line) _ _ _ e in
      let order = unless_ok (rules.in_order before line) _ _ _ range.1 in
      let same : line ≡ l = cc in
      (ap Some same, ap rules.in_range (sym same) ∙ range.0, ap (rules.in_order before) (sym same) ∙ order.0)

  -- what a line and the others give, if nothing is refused
  with_line_ok : (P : List I → Type 0) (first : Result L (End LineFault)) (others : L → Reading I) → (with_line rules first others).end ≡ Ok tt → ((l : L) → first ≡ Ok l → (others l).end ≡ Ok tt → P (rules.items l ++ (others l).items)) → P (with_line rules first others).items
  with_line_ok P (Ok l) others e go = go l refl e
  with_line_ok P (Err fault) others e go = absurd cc

  at_end_ok : (number : ℕ) (parts : List (List ℕ)) → (at_end {Item = I} number parts).end ≡ Ok tt → (parts ≡ [] ∷ []) × ((at_end {Item = I} number parts).items ≡ [])
  at_end_ok number [] e = cc
  at_end_ok number ([] ∷ []) e = (refl, refl)
  at_end_ok number ((b ∷ line) ∷ []) e = cc
  at_end_ok number ([] ∷ next ∷ rest) e = cc
  at_end_ok number ((b ∷ line) ∷ next ∷ rest) e = cc

  pub accepts_from_read : (before : B) (number : ℕ) (parts : List (List ℕ)) → (read rules before number parts).end ≡ Ok tt → Accepts rules before parts (read rules before number parts).items
  unfolding read
  accepts_from_read before number [] e = absurd cc
  accepts_from_read before number (line ∷ []) e = absurd cc
  accepts_from_read before number (line ∷ part ∷ parts) e =
      elim (cases_Bool (bytes_eq line (codes "end"))) [
        | inl ended ↦
            let p = at_end_ok (number + 1) (part ∷ parts) (rw ended at e) in
            rw (ended, p.1, p.0, (bytes_eq-Decides line (codes "end")).0 ended) end_only
        | inr going ↦
            rw going (with_line_ok (Accepts rules before (line ∷ part ∷ parts)) _ _ (rw going at e) (λ l first others.
            let c = judged_ok before number _ l first in
            line_first c.0 c.1 c.2 (accepts_from_read (rules.after l) (number + 1) (part ∷ parts) others)))
      ]

  -- where `end` is no line of the form, what is accepted is read
  module _ (no_end : rules.spelled (words_of (codes "end")) ≡ None) where
    pub not_end : (line : List ℕ) (l : L) → rules.spelled (words_of line) ≡ Some l → bytes_eq line (codes "end") ≡ false
    not_end line l e =
        elim (cases_Bool (bytes_eq line (codes "end"))) [
          | inl t ↦
              let same : line ≡ codes "end" = (bytes_eq-Decides line (codes "end")).0 t in
              let none : None ≡ Some l = sym no_end ∙ ap (λ w. rules.spelled (words_of w)) (sym same) ∙ e in
              absurd cc
          | inr f ↦ f
        ]

    pub read_back : {before : B} {parts : List (List ℕ)} {items : List I} → (number : ℕ) → Accepts rules before parts items → read rules before number parts ≡ record { items = items; end = Ok tt }
    unfolding read
    read_back number end_only = refl
    read_back {before} number (line_first {line} {l} found range order end_only) =
        rw (not_end line l found, found, range, order) refl
    read_back {before} number (line_first {line} {l} found range order (line_first {line = second} {parts} {l = m} {items} f r o rest)) =
        let again : read rules (rules.after l) (number + 1) (second ∷ parts) ≡ record { items = rules.items m ++ items; end = Ok tt } = read_back {before = rules.after l} (number + 1) (line_first {line = second} f r o rest) in
        rw (not_end line l found, found, range, order) (ap (with_front (rules.items l)) again)
