-- The turns of a script's text, and its line with the count of harts.
use Rattle.std.proofs.Common.{◌≡◌, ℕ, ◌+◌, ◌==◌, nat_le, ◌&&◌, Bool, if◌then◌else◌, true, false, inl, inr, List, [], ◌∷◌, ◌++◌, Some, None, Result, Ok, Err, refl, sym, ap, ◌∙◌, append_assoc, append-nil}
use Rattle.std.specs.List.{slice_split}
use Rattle.std.proofs.lemmas.Bool.{ne_eqb}
use Rattle.std.proofs.lemmas.Option.{same_Some}
use Rattle.rv_word.proofs.Cases.{cases_Option}
use Rattle.rv_image.specs.declared.profile.TheConstants.{MOST_HARTS}
use Rattle.rv_word.specs.declared.end.End.{End}
use Rattle.rv_word.specs.declared.end.End.TheVariants.{Fault, NoMemory}
use Rattle.text_lines.specs.Answers.{Answers, line_fault}
use Rattle.text_lines.specs.Lines.{lines_of, words_of}
use Rattle.text_lines.specs.Reading.{if_right}
use Rattle.text_lines.specs.declared.reason.Reason.TheVariants.{Form, Range}
use Rattle.text_lines.proofs.Cuts.{some_part}
use Rattle.text_lines.proofs.Steps.{some_line}
use Rattle.text_lines.specs.declared.fault.LineFault.{LineFault}
use Rattle.cfi_script.specs.Script.{ScriptParts}
use Rattle.cfi_script.specs.ScriptNumbers.{first_turn}
use Rattle.cfi_script.specs.ScriptText.{TurnsRead, changes_of_lines, for_one, for_several, harts_of, turn_in_range, turn_of, turns_read, with_harts, with_turn_line}
use Rattle.cfi_script.specs.Turns.{Turns}

-- ---- words

-- a word more than a line with the count of harts has
pub harts_long : (more : List ℕ) {words second : List (List ℕ)} {a b : List ℕ} → words ≡ a ∷ second → second ≡ b ∷ slice_split (λ b. b == 32) more → None ≡ harts_of words
harts_long more p q = rw (p, q) (some_part 32 more (λ part parts e. rw e refl))

-- a word more than a turn has
pub turn_long : (more : List ℕ) {words second third : List (List ℕ)} {a b c : List ℕ} → words ≡ a ∷ second → second ≡ b ∷ third → third ≡ c ∷ slice_split (λ b. b == 32) more → None ≡ turn_of words
turn_long more p q r = rw (p, q, r) (some_part 32 more (λ part parts e. rw e refl))

-- ---- turns

-- a turn that stands first
pub turn_first : {parts : List (List ℕ)} {line : List ℕ} {turn : ℕ × ℕ} (rest : List ℕ) → parts ≡ line ∷ lines_of rest → turn_of (words_of line) ≡ Some turn → Some (turn, lines_of rest) ≡ first_turn parts
turn_first rest p e = some_line rest (λ part others q. rw (p, q, e) refl)

module _ (harts number : ℕ) where
  -- the first line is no turn
  pub turns_end : (lines : List (List ℕ)) → first_turn lines ≡ None → turns_read harts number lines ≡ Ok (record { turns = []; number = number; rest = lines })
  unfolding turns_read
  turns_end [] e = refl
  turns_end (line ∷ []) e = refl
  turns_end (line ∷ next ∷ rest) e =
      elim (cases_Option (turn_of (words_of line))) [
        | inl none ↦ rw none refl
        | inr (turn, some) ↦ absurd (cc (rw some at e))
      ]

  -- the first line is a turn
  pub turns_next : (lines rest : List (List ℕ)) (turn : ℕ × ℕ) → first_turn lines ≡ Some (turn, rest)
      → turns_read harts number lines ≡ with_turn_line harts number turn (turns_read harts (number + 1) rest)
  unfolding turns_read
  turns_next [] rest turn e = absurd cc
  turns_next (line ∷ []) rest turn e = absurd cc
  turns_next (line ∷ next ∷ others) rest turn e =
      elim (cases_Option (turn_of (words_of line))) [
        | inl none ↦ absurd (cc (rw none at e))
        | inr (found, some) ↦
            let same = same_Some (found, next ∷ others) (turn, rest) (rw some at e) in
            rw some (ap (λ (first : (ℕ × ℕ) × List (List ℕ)). with_turn_line harts number first.0 (turns_read harts (number + 1) first.1)) same)
      ]

-- a turn that was asked whether it is allowed
pub not_allowed : (within : Bool) (turn : ℕ × ℕ) → (if within then Some turn else None) ≡ None → within ≡ false
not_allowed true turn e = absurd cc
not_allowed false turn e = refl

pub is_allowed : (within : Bool) (turn given : ℕ × ℕ) → (if within then Some turn else None) ≡ Some given → (within ≡ true) × (given ≡ turn)
is_allowed true turn given e = (refl, sym (same_Some turn given e))
is_allowed false turn given e = absurd cc

-- what is read with these turns before it
abbrev pub with_turns : Turns → Result TurnsRead (End LineFault) → Result TurnsRead (End LineFault)
with_turns front later = if_right later (λ read. Ok (record read { turns = front ++ read.turns }))

one_more : (front : Turns) (turn : ℕ × ℕ) (later : Result TurnsRead (End LineFault))
    → with_turns (front ++ turn ∷ []) later ≡ with_turns front (if_right later (λ read. Ok (record read { turns = turn ∷ read.turns })))
one_more front turn (Ok read) =
    let told : Turns → Result TurnsRead (End LineFault) = λ ts. Ok (record read { turns = ts }) in
    ap told (append_assoc front (turn ∷ []) read.turns)
one_more front turn (Err end) = refl

module _ (harts number : ℕ) (front : Turns) (lines : List (List ℕ)) (whole : Result TurnsRead (End LineFault)) (before : with_turns front (turns_read harts number lines) ≡ whole) where
  pub no_more : first_turn lines ≡ None → whole ≡ Ok (record { turns = front; number = number; rest = lines })
  no_more none =
      let told : Turns → Result TurnsRead (End LineFault) = λ ts. Ok (record { turns = ts; number = number; rest = lines }) in
      sym before ∙ ap (with_turns front) (turns_end harts number lines none) ∙ ap told (append-nil front)

  pub out_of_range : (turn : ℕ × ℕ) (rest : List (List ℕ)) → first_turn lines ≡ Some (turn, rest) → turn_in_range harts turn ≡ false → whole ≡ Err (line_fault number Range)
  out_of_range turn rest first past =
      let refused : with_turn_line harts number turn (turns_read harts (number + 1) rest) ≡ Err (line_fault number Range) = rw past refl in
      sym before ∙ ap (with_turns front) (turns_next harts number lines rest turn first ∙ refused)

  pub turn_more : (after : Turns) (turn : ℕ × ℕ) (rest : List (List ℕ)) → first_turn lines ≡ Some (turn, rest) → turn_in_range harts turn ≡ true → after ≡ front ++ turn ∷ []
      → with_turns after (turns_read harts (number + 1) rest) ≡ whole
  turn_more after turn rest first within grown =
      let later : Result TurnsRead (End LineFault) = turns_read harts (number + 1) rest in
      let added : with_turn_line harts number turn later ≡ if_right later (λ read. Ok (record read { turns = turn ∷ read.turns })) = rw within refl in
      rw grown (one_more front turn later) ∙ ap (with_turns front) (sym (turns_next harts number lines rest turn first ∙ added)) ∙ before

-- ---- the lines before the turns

module _ {parts : List (List ℕ)} {line : List ℕ} where
  pub second_alone : parts ≡ line ∷ [] → for_several parts ≡ Err (line_fault 2 Form)
  unfolding for_several
  second_alone p = rw p refl

  pub second_form : (rest : List ℕ) → parts ≡ line ∷ lines_of rest → harts_of (words_of line) ≡ None → for_several parts ≡ Err (line_fault 2 Form)
  unfolding for_several
  second_form rest p e = some_line rest (λ part others q. rw (p, q, e) refl)

  module _ (rest : List ℕ) (harts : ℕ) (first : parts ≡ line ∷ lines_of rest) (given : harts_of (words_of line) ≡ Some harts) where
    pub second_range : (nat_le 1 harts && nat_le harts MOST_HARTS) ≡ false → for_several parts ≡ Err (line_fault 2 Range)
    unfolding for_several
    second_range past = some_line rest (λ part others q. rw (first, q, given, past) refl)

    pub second_right : (nat_le 1 harts && nat_le harts MOST_HARTS) ≡ true → for_several parts ≡ with_harts harts (lines_of rest)
    unfolding for_several
    second_right within = some_line rest (λ part others q. rw (first, q, given, within) refl)

-- a turn that is refused
pub turns_refused : (harts : ℕ) (lines : List (List ℕ)) (end : End LineFault) → Answers {A = TurnsRead} (Err end) (turns_read harts 3 lines) → Answers {A = ScriptParts} (Err end) (with_harts harts lines)
turns_refused harts lines (Fault fault) e = rw e refl
turns_refused harts lines NoMemory e = tt

-- turns that are read, and what comes of the lines after them
pub turns_right : (harts : ℕ) (lines : List (List ℕ)) (turns : TurnsRead) (answer : Result ScriptParts (End LineFault)) → turns_read harts 3 lines ≡ Ok turns
    → Answers answer (if_right (changes_of_lines turns.number turns.rest) (λ changes. Ok (record { harts = harts; turns = turns.turns; changes = changes }))) → Answers answer (with_harts harts lines)
turns_right harts lines turns answer e right = rw e right

-- ---- the first line

pub lone : (which : ℕ) (lines : List (List ℕ)) (answer : Result ScriptParts (End LineFault)) → which ≡ 0 → Answers answer (for_one lines) → Answers answer (if which == 0 then for_one lines else for_several lines)
lone which lines answer e right = rw e right

pub several : (which : ℕ) (lines : List (List ℕ)) (answer : Result ScriptParts (End LineFault)) → (which ≡ 0 → ⊥) → Answers answer (for_several lines) → Answers answer (if which == 0 then for_one lines else for_several lines)
several which lines answer other right = rw (ne_eqb which 0 other) right
