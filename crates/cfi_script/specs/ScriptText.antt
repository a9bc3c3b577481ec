-- Reading a script. Its first line is `rvcfi-script 1`, its last is `end`, and each line between is
-- `at STEP ADDR BYTES`. Range: the step is too large, or a byte lies outside of data. Order: the step
-- is below that of the line before it. In a script for several harts the first line is `rvcfi-script 2`, the
-- second `harts N`, then `turn HART STEPS` lines come before the others. Range: no count from 1 to 8, a hart
-- that is not below the count, or no number of steps from 1 to 1,000,000,000.
use Rattle.std.specs.Prelude.{ℕ, ◌+◌, ◌*◌, ◌==◌, nat_le, nat_lt, Bool, ◌&&◌, if◌then◌else◌, List, [], ◌∷◌, length, codes, Option, Some, None, option_map, option_and_then, Result, Ok, Err}
use Rattle.std.specs.Str.{bytes_eq}
use Rattle.rv_image.specs.MemoryMap.{DATA_END}
use Rattle.rv_image.specs.declared.profile.TheConstants.{MOST_HARTS}
use Rattle.rv_word.specs.declared.end.End.{End}
use Rattle.text_lines.specs.Decimal.{MAX_STEP, capped, decimal}
use Rattle.text_lines.specs.Hex.{digit_value, hex}
use Rattle.text_lines.specs.Lines.{lines_of, words_of}
use Rattle.text_lines.specs.Reading.{LineRules, if_right, one_named, read, whole}
use Rattle.text_lines.specs.declared.reason.Reason.TheVariants.{Form, Range}
use Rattle.text_lines.specs.declared.fault.LineFault.{LineFault}
use Rattle.text_lines.specs.Answers.{line_fault}
use Rattle.cfi_script.specs.Script.{Changes, ScriptParts}
use Rattle.cfi_script.specs.Turns.{Turns}
use Rattle.cfi_script.specs.declared.script_line.ScriptLine.{ScriptLine}

-- the bytes that pairs of hexadecimal digits in lower case spell
unfoldable pub bytes_of : List ℕ → Option (List ℕ)
bytes_of [] = Some []
bytes_of (digit ∷ []) = None
bytes_of (high ∷ low ∷ rest) =
    option_and_then (λ h. option_and_then (λ l. option_map (λ others. (16 * h + l) ∷ others) (bytes_of rest)) (digit_value low)) (digit_value high)

-- the bytes of a word of 2 to 8,192 digits
abbrev pub data_of : List ℕ → Option (List ℕ)
data_of word = if nat_le 2 (length word) && nat_le (length word) 8192 then bytes_of word else None

-- the three words of a line after `at`
abbrev pub words_after_at : List (List ℕ) → Option (List ℕ × (List ℕ × List ℕ))
words_after_at (name ∷ step ∷ address ∷ bytes ∷ []) =
    if bytes_eq name (codes "at") then Some (step, (address, bytes)) else None
words_after_at words = None

-- the line that a step, an address and bytes spell; a step that is too large counts as the least that is
abbrev pub spelled : List ℕ → List ℕ → List ℕ → Option ScriptLine
spelled step address word =
    option_and_then (λ s. option_and_then (λ a. option_map (λ bytes. record { step = s; address = a; bytes = bytes }) (data_of word)) (hex 8 address)) (option_map capped (decimal step))

-- the line that words spell, if they spell one
unfoldable pub line_of : List (List ℕ) → Option ScriptLine
line_of words = option_and_then (λ w. spelled w.0 w.1.0 w.1.1) (words_after_at words)

-- the step is not too large, and each byte is one of data
abbrev pub in_range : ScriptLine → Bool
in_range line = nat_le line.step MAX_STEP && nat_le (line.address + length line.bytes) DATA_END

-- bytes from an address on, each changed after `step` steps
unfoldable pub changes_from : ℕ → ℕ → List ℕ → Changes
changes_from step address [] = []
changes_from step address (byte ∷ rest) = (step, (address, byte)) ∷ changes_from step (address + 1) rest

abbrev pub line_changes : ScriptLine → Changes
line_changes line = changes_from line.step line.address line.bytes

-- the form of a script's lines
abbrev pub script_rules : LineRules ScriptLine ℕ (ℕ × (ℕ × ℕ))
script_rules = record {
  spelled = line_of;
  in_range = in_range;
  in_order = λ before line. nat_le before line.step;
  after = λ line. line.step;
  items = line_changes;
}

-- the changes of the lines from the one with this number on; any step may come first, since none is below 0
abbrev pub changes_of_lines : ℕ → List (List ℕ) → Result Changes (End LineFault)
changes_of_lines number lines = whole (read script_rules 0 number lines)

-- the count of harts that a line of these words gives, if it gives one
abbrev pub harts_of : List (List ℕ) → Option ℕ
harts_of (name ∷ count ∷ []) = if bytes_eq name (codes "harts") then option_map capped (decimal count) else None
harts_of words = None

-- the hart and the steps of a line of these words, if it is a turn
abbrev pub turn_of : List (List ℕ) → Option (ℕ × ℕ)
turn_of (name ∷ hart ∷ steps ∷ []) =
    if bytes_eq name (codes "turn")
    then option_and_then (λ h. option_map (λ s. (capped h, capped s)) (decimal steps)) (decimal hart) else None
turn_of words = None

-- one of so many harts, and a number of steps that is allowed
abbrev pub turn_in_range : ℕ → ℕ × ℕ → Bool
turn_in_range harts turn = nat_lt turn.0 harts && nat_le 1 turn.1 && nat_le turn.1 MAX_STEP

-- what comes of a line that may be a turn
abbrev pub or_no_turn : {A : Type 0} → Option (ℕ × ℕ) → A → (ℕ × ℕ → Result A (End LineFault)) → Result A (End LineFault)
or_no_turn None otherwise next = Ok otherwise
or_no_turn (Some turn) otherwise next = next turn

-- turns that stand first, and the lines after them from the one with a number on
pub record TurnsRead : Type 0 where
  pub turns : Turns
  pub number : ℕ
  pub rest : List (List ℕ)

-- what a turn adds, where it is in range, to those that are read after it
abbrev pub with_turn_line : ℕ → ℕ → ℕ × ℕ → Result TurnsRead (End LineFault) → Result TurnsRead (End LineFault)
with_turn_line harts number turn later =
    if turn_in_range harts turn then if_right later (λ read. Ok (record read { turns = turn ∷ read.turns })) else Err (line_fault number Range)

-- the turns of so many harts from the line with a number on, up to the first line that is none
unfoldable pub turns_read : ℕ → ℕ → List (List ℕ) → Result TurnsRead (End LineFault)
turns_read harts number (line ∷ next ∷ rest) =
    or_no_turn (turn_of (words_of line)) (record { turns = []; number = number; rest = line ∷ next ∷ rest })
    (λ turn. with_turn_line harts number turn (turns_read harts (number + 1) (next ∷ rest)))
turns_read harts number lines = Ok (record { turns = []; number = number; rest = lines })

-- the script of so many harts, from its third line on
abbrev pub with_harts : ℕ → List (List ℕ) → Result ScriptParts (End LineFault)
with_harts harts lines =
    if_right (turns_read harts 3 lines) (λ read.
    if_right (changes_of_lines read.number read.rest) (λ changes. Ok (record { harts = harts; turns = read.turns; changes = changes })))

-- the second line gives the count of harts
abbrev pub with_count : Option ℕ → List (List ℕ) → Result ScriptParts (End LineFault)
with_count None lines = Err (line_fault 2 Form)
with_count (Some harts) lines = if nat_le 1 harts && nat_le harts MOST_HARTS then with_harts harts lines else Err (line_fault 2 Range)

unfoldable pub for_several : List (List ℕ) → Result ScriptParts (End LineFault)
for_several (line ∷ next ∷ rest) = with_count (harts_of (words_of line)) (next ∷ rest)
for_several lines = Err (line_fault 2 Form)

-- a script for one hart has no turns
abbrev pub for_one : List (List ℕ) → Result ScriptParts (End LineFault)
for_one lines = if_right (changes_of_lines 2 lines) (λ changes. Ok (record { harts = 1; turns = []; changes = changes }))

-- the first lines that a script may have
abbrev pub script_names : List (List ℕ)
script_names = codes "rvcfi-script 1" ∷ codes "rvcfi-script 2" ∷ []

-- what a text is read as
unfoldable pub script_of : List ℕ → Result ScriptParts (End LineFault)
script_of text =
    if_right (one_named script_names (lines_of text)) (λ first. if first.0 == 0 then for_one first.1 else for_several first.1)
