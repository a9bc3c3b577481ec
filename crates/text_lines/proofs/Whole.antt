-- A whole text: its heading, and what is read after it.
use Rattle.std.proofs.Common.{◌≡◌, ℕ, ◌<◌, List, [], ◌∷◌, codes, get_or, length, position, Some, None, Result, Ok, Err, refl, subst, ap, inl, inr}
use Rattle.std.specs.Str.{bytes_eq}
use Rattle.std.proofs.lemmas.Slice.Eq.{bytes_eq-Decides}
use Rattle.std.proofs.lemmas.List.Quantifiers.{position-Some}
use Rattle.rv_word.proofs.Cases.{cases_Option}
use Rattle.rv_word.specs.declared.end.End.{End}
use Rattle.rv_word.specs.declared.end.End.TheVariants.{Fault, NoMemory}
use Rattle.text_lines.specs.Answers.{Answers, UnlessNoMemory}
use Rattle.text_lines.specs.Lines.{words_of}
use Rattle.text_lines.specs.Reading.{LineRules, Reading, after_heading, if_right, one_named, read, whole}
use Rattle.text_lines.proofs.Accepts.{Accepts, accepts_from_read, end_only, line_first, read_back}
use Rattle.text_lines.specs.declared.fault.LineFault.{LineFault}

-- ---- what a reader answers

pub lines_whole : {I : Type 0} (reading : Reading I) (items : List I) → reading.end ≡ Ok tt → items ≡ reading.items → whole reading ≡ Ok items
lines_whole reading items e is = rw (e, is) refl

pub ends_whole : {A I : Type 0} (reading : Reading I) (next : List I → Result A (End LineFault)) (end : End LineFault) → Answers {A = Unit {0}} (Err end) reading.end → Answers {A = A} (Err end) (if_right (whole reading) next)
ends_whole reading next (Fault fault) e = rw e refl
ends_whole reading next NoMemory e = tt

pub goes_on : {A C : Type 0} (step : Result A (End LineFault)) (x : A) (next : A → Result C (End LineFault)) (answer : Result C (End LineFault)) → step ≡ Ok x → Answers answer (next x) → Answers answer (if_right step next)
goes_on step x next answer e a = rw e a

pub stops : {A C : Type 0} (step : Result A (End LineFault)) (end : End LineFault) (next : A → Result C (End LineFault)) → step ≡ Err end → Answers {A = C} (Err end) (if_right step next)
stops step (Fault fault) next e = rw e refl
stops step NoMemory next e = tt

-- what is read after a heading, and after one that is refused
module _ {H I : Type 0} (heading : Result H (End LineFault)) (others : H → Reading I) where
  pub right_heading : (head : H) → heading ≡ Ok head → after_heading heading others ≡ others head
  right_heading head e = rw e refl

  pub wrong_heading : (end : End LineFault) → heading ≡ Err end → Answers {A = Unit {0}} (Err end) (after_heading heading others).end
  wrong_heading (Fault fault) e = rw e refl
  wrong_heading NoMemory e = tt

  pub nothing_read : (end : End LineFault) → heading ≡ Err end → UnlessNoMemory {A = Unit {0}} (Err end) ([] ≡ (after_heading heading others).items)
  nothing_read (Fault fault) e = rw e refl
  nothing_read NoMemory e = tt

-- ---- what a text that is read is

pub whole_ok : {I : Type 0} (reading : Reading I) (items : List I) → whole reading ≡ Ok items → (reading.end ≡ Ok tt) × (reading.items ≡ items)
whole_ok {I} reading items e = at reading.end e
  where
    at : (end : Result (Unit {0}) (End LineFault)) → if_right end (λ done. Ok reading.items) ≡ Ok items → (end ≡ Ok tt) × (reading.items ≡ items)
    at (Ok done) h = (refl, cc)
    at (Err fault) h = absurd cc

-- a text that is read begins with one of the names
pub one_named_ok : {A P : Type 0} (names parts : List (List ℕ)) (next : ℕ × List (List ℕ) → Result A (End LineFault)) (x : A) → if_right (one_named names parts) next ≡ Ok x → ((which : ℕ) (rest : List (List ℕ)) → which < length names → parts ≡ get_or names which [] ∷ rest → next (which, rest) ≡ Ok x → P) → P
unfolding one_named
one_named_ok names [] next x e go = absurd cc
one_named_ok names (line ∷ []) next x e go = absurd cc
one_named_ok names (line ∷ part ∷ parts) next x e go =
    elim (cases_Option (position (bytes_eq line) names)) [
      | inl none ↦ absurd (cc (rw none at e))
      | inr (which, some) ↦
          let at = position-Some (bytes_eq line) names which [] some in
          go which (part ∷ parts) at.0 (ap (λ first. first ∷ part ∷ parts) ((bytes_eq-Decides line (get_or names which [])).0 at.1)) (rw some at e)
    ]

-- one of the names, and then what is accepted, tells which of them it is
pub named_back : {L B I : Type 0} {rules : LineRules L B I} {before : B} {items : List I} (names : List (List ℕ)) (name : List ℕ) (which : ℕ) (rest : List (List ℕ)) → position (bytes_eq name) names ≡ Some which → Accepts rules before rest items → one_named names (name ∷ rest) ≡ Ok (which, rest)
unfolding one_named
named_back names name which _ at end_only = rw at refl
named_back names name which _ at (line_first found range order others) = rw at refl

module _ {L B I : Type 0} (rules : LineRules L B I) (before : B) where
  pub whole_accepts : (number : ℕ) (parts : List (List ℕ)) (items : List I) → whole (read rules before number parts) ≡ Ok items → Accepts rules before parts items
  whole_accepts number parts items e =
      let p = whole_ok (read rules before number parts) items e in
      subst (Accepts rules before parts) p.1 (accepts_from_read rules before number parts p.0)

  -- what is accepted is read whole; `end` is no line of the form
  pub whole_back : (no_end : rules.spelled (words_of (codes "end")) ≡ None) (number : ℕ) (rest : List (List ℕ)) (items : List I) → Accepts rules before rest items → whole (read rules before number rest) ≡ Ok items
  whole_back no_end number rest items accepts = rw (read_back rules no_end number accepts) refl
