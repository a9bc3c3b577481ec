-- Reading a graph. Its first line tells its version, its second gives the length of the code, the third
-- may be a list of system calls, and the other lines have the form below. Form: a line is none that may stand there, or it has
-- no newline. Range: a number in it is not allowed. Order: it does not rise above the line before it,
-- or its own addresses do not rise.
use Rattle.std.specs.Prelude.{ℕ, ◌==◌, Bool, ◌&&◌, if◌then◌else◌, List, [], ◌∷◌, ◌++◌, Option, Some, None, Result, Ok, Err}
use Rattle.rv_image.specs.declared.version.GraphVersion.{GraphVersion}
use Rattle.rv_image.specs.declared.version.GraphVersion.TheVariants.{OneLabel, TwoLabels, CalleeSaves}
use Rattle.rv_word.specs.declared.end.End.{End}
use Rattle.text_lines.specs.declared.reason.Reason.TheVariants.{Form, Range}
use Rattle.text_lines.specs.Lines.{lines_of, words_of}
use Rattle.text_lines.specs.Reading.{LineRules, if_right, one_named, read, whole}
use Rattle.text_lines.specs.declared.fault.LineFault.{LineFault}
use Rattle.text_lines.specs.Answers.{line_fault}
use Rattle.cfi_graph.specs.declared.line.GraphLine.{GraphLine}
use Rattle.cfi_graph.specs.declared.line.GraphLine.TheVariants.{Calls}
use Rattle.cfi_graph.specs.declared.line.Key.{Key}
use Rattle.cfi_graph.specs.declared.line.Key.TheVariants.{Head}
use Rattle.cfi_graph.specs.Calls.{Listed, calls_of, judged_calls, line_after}
use Rattle.cfi_graph.specs.Graph.{GraphParts, is_code_length, line_in_range, key_of, key_below, targets_rise}
use Rattle.cfi_graph.specs.Lines.{length_of, line_of}
use Rattle.cfi_graph.specs.Text.{graph_name}

-- a line rises above the key of the line before it, if there is one, and so do a class's addresses
abbrev pub in_order : Option Key → GraphLine → Bool
in_order None line = targets_rise line
in_order (Some before) line = targets_rise line && key_below before (key_of line)

-- the form of the lines of a graph of a version, whose code has this length
abbrev pub graph_rules : GraphVersion → ℕ → LineRules GraphLine (Option Key) GraphLine
graph_rules version len = record {
  spelled = line_of version;
  in_range = line_in_range len;
  in_order = in_order;
  after = λ line. Some (key_of line);
  items = λ line. line ∷ [];
}

-- the line of a list of system calls, and its key, if there is one
abbrev pub calls_lines : Option (List ℕ) → List GraphLine
calls_lines None = []
calls_lines (Some calls) = Calls calls ∷ []

abbrev pub calls_key : Option (List ℕ) → Option Key
calls_key None = None
calls_key (Some calls) = Some Head

-- the graph of a version, a length and a list of system calls, if there is one, with the lines after these
abbrev pub with_lines : GraphVersion → ℕ → Option (List ℕ) → List (List ℕ) → Result GraphParts (End LineFault)
with_lines version len calls lines =
    if_right (whole (read (graph_rules version len) (calls_key calls) (line_after 3 calls) lines)) (λ read. Ok (record { version = version; code = len; lines = calls_lines calls ++ read }))

-- the third line may be a list of system calls
abbrev pub listed : Option (List ℕ) → List (List ℕ) → List (List ℕ) → Result Listed (End LineFault)
listed None lines rest = Ok (record { calls = None; lines = lines })
listed (Some numbers) lines rest =
    if_right (judged_calls 3 (Some numbers)) (λ calls. Ok (record { calls = Some calls; lines = rest }))

unfoldable pub third_line : List (List ℕ) → Result Listed (End LineFault)
third_line (line ∷ next ∷ rest) = listed (calls_of (words_of line)) (line ∷ next ∷ rest) (next ∷ rest)
third_line lines = Ok (record { calls = None; lines = lines })

-- the graph of a version, a length and the lines from the third on
abbrev pub with_code : GraphVersion → ℕ → List (List ℕ) → Result GraphParts (End LineFault)
with_code version len lines = if_right (third_line lines) (λ told. with_lines version len told.calls told.lines)

-- the second line gives the length of the code
abbrev pub with_length : GraphVersion → Option ℕ → List (List ℕ) → Result GraphParts (End LineFault)
with_length version None lines = Err (line_fault 2 Form)
with_length version (Some len) lines = if is_code_length len then with_code version len lines else Err (line_fault 2 Range)

unfoldable pub after_first : GraphVersion → List (List ℕ) → Result GraphParts (End LineFault)
after_first version (line ∷ next ∷ rest) = with_length version (length_of (words_of line)) (next ∷ rest)
after_first version lines = Err (line_fault 2 Form)

-- the first lines that a graph may have
abbrev pub graph_names : List (List ℕ)
graph_names = graph_name OneLabel ∷ graph_name TwoLabels ∷ graph_name CalleeSaves ∷ []

-- the version that the first line tells, by its place among these
abbrev pub version_at : ℕ → GraphVersion
version_at which = if which == 0 then OneLabel else if which == 1 then TwoLabels else CalleeSaves

-- what a text is read as
unfoldable pub graph_of : List ℕ → Result GraphParts (End LineFault)
graph_of text = if_right (one_named graph_names (lines_of text)) (λ first. after_first (version_at first.0) first.1)
