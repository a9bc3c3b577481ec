-- Reading lines. After its heading a text has lines of one form, and then `end`. The first line that
-- fails is named by its number, with the first of three reasons. Form: it is no line that may stand
-- there, or it has no newline. Range: a number in it is not allowed. Order: it may not stand after
-- the line before it.
use Rattle.std.specs.Prelude.{ℕ, ◌+◌, Bool, false, not, if◌then◌else◌, List, [], ◌∷◌, ◌++◌, take, ◌≡◌, codes, position, Option, Some, None, Result, Ok, Err}
use Rattle.std.specs.Str.{bytes_eq}
use Rattle.rv_word.specs.declared.end.End.{End}
use Rattle.text_lines.specs.Lines.{lines_of, words_of}
use Rattle.text_lines.specs.declared.reason.Reason.{Reason}
use Rattle.text_lines.specs.declared.reason.Reason.TheVariants.{Form, Range, Order}
use Rattle.text_lines.specs.declared.fault.LineFault.{LineFault}
use Rattle.text_lines.specs.Answers.{line_fault}

-- A form of lines. `spelled` is the line that words spell, if they spell one; `in_range` says whether
-- its numbers are allowed, `in_order` whether it may stand there by what is known of the line before,
-- which `after` gives; `items` is what a line adds to what is read.
pub record LineRules (Line Before Item : Type 0) : Type 0 where
  pub spelled : List (List ℕ) → Option Line
  pub in_range : Line → Bool
  pub in_order : Before → Line → Bool
  pub after : Line → Before
  pub items : Line → List Item

-- what is read of a text: what the lines before the first fault add, and the fault, if there is one
pub record Reading (Item : Type 0) : Type 0 where
  pub items : List Item
  pub end : Result (Unit {0}) (End LineFault)

-- what was there before, and after it the first of these items
abbrev pub FirstCollected : {Item : Type 0} → List Item → List Item → List Item → Type 0
FirstCollected before now items = (n : ℕ) × (now ≡ before ++ take n items)

abbrev pub refused : {Item : Type 0} → ℕ → Reason → Reading Item
refused number reason = record { items = []; end = Err (line_fault number reason) }

-- what is read with this before it
abbrev pub with_front : {Item : Type 0} → List Item → Reading Item → Reading Item
with_front front rest = record { items = front ++ rest.items; end = rest.end }

-- nothing stands after the last line's newline
abbrev pub at_end : {Item : Type 0} → ℕ → List (List ℕ) → Reading Item
at_end number ([] ∷ []) = record { items = []; end = Ok tt }
at_end number lines = refused number Form

module _ {L B I : Type 0} (rules : LineRules L B I) where
  -- the line, or the first reason why it is refused
  abbrev pub judged : B → ℕ → Option L → Result L (End LineFault)
  judged before number None = Err (line_fault number Form)
  judged before number (Some line) =
      if not (rules.in_range line) then Err (line_fault number Range) else
      if not (rules.in_order before line) then Err (line_fault number Order) else Ok line

  -- what a line adds, and what is read after it
  abbrev pub with_line : Result L (End LineFault) → (L → Reading I) → Reading I
  with_line (Ok line) others = with_front (rules.items line) (others line)
  with_line (Err fault) others = record { items = []; end = Err fault }

  -- the lines from the one with this number on; `end` is the last, and each has a newline
  unfoldable pub read : B → ℕ → List (List ℕ) → Reading I
  read before number [] = refused number Form
  read before number (line ∷ []) = refused number Form
  read before number (line ∷ next ∷ rest) =
      if bytes_eq line (codes "end") then at_end (number + 1) (next ∷ rest) else
      with_line (judged before number (rules.spelled (words_of line)))
      (λ l. read (rules.after l) (number + 1) (next ∷ rest))

-- what the first line of a text spells, which has a newline and is not `end`, and what stands after it
pub record FirstLine {L B I : Type 0} (rules : LineRules L B I) (text : List ℕ) (line : L) (rest : List ℕ) : Type 0 where
  pub bytes : List ℕ
  pub first : lines_of text ≡ bytes ∷ lines_of rest
  pub spells : rules.spelled (words_of bytes) ≡ Some line
  pub goes_on : bytes_eq bytes (codes "end") ≡ false

-- what comes after a step that may be refused
abbrev pub if_right : {A C : Type 0} → Result A (End LineFault) → (A → Result C (End LineFault)) → Result C (End LineFault)
if_right (Ok x) next = next x
if_right (Err fault) next = Err fault

-- all that is read, if nothing is refused
abbrev pub whole : {Item : Type 0} → Reading Item → Result (List Item) (End LineFault)
whole reading = if_right reading.end (λ done. Ok reading.items)

-- what the first line tells: which of the names it is, from 0, and the lines after it
abbrev pub told : Option ℕ → List (List ℕ) → Result (ℕ × List (List ℕ)) (End LineFault)
told None lines = Err (line_fault 1 Form)
told (Some which) lines = Ok (which, lines)

-- the first line of a text is one of these names, the first that it is
unfoldable pub one_named : List (List ℕ) → List (List ℕ) → Result (ℕ × List (List ℕ)) (End LineFault)
one_named names (line ∷ next ∷ rest) = told (position (bytes_eq line) names) (next ∷ rest)
one_named names lines = Err (line_fault 1 Form)

-- what is read after the heading, by what the heading tells
abbrev pub after_heading : {Head Item : Type 0} → Result Head (End LineFault) → (Head → Reading Item) → Reading Item
after_heading (Ok head) others = others head
after_heading (Err fault) others = record { items = []; end = Err fault }
