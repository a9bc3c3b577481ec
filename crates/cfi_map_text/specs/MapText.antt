-- The text of a map, and what a text is read as. Every line ends with one newline, words are parted by
-- one space; a gate and an offset have eight hexadecimal digits, a section four, in lower case.
use Rattle.std.specs.Prelude.{ℕ, ◌==◌, Bool, true, if◌then◌else◌, List, [], ◌∷◌, ◌++◌, map, codes, Option, Some, None, option_map, option_and_then, Result, Ok}
use Rattle.std.specs.List.{flat_map}
use Rattle.std.specs.Str.{bytes_eq}
use Rattle.rv_image.specs.declared.form.Form.{Form}
use Rattle.rv_image.specs.declared.form.Form.TheVariants.{Plain, Harts, Split, HartsSplit, Lean, HartsLean}
use Rattle.rv_word.specs.declared.end.End.{End}
use Rattle.text_lines.specs.Hex.{hex, hex_text}
use Rattle.text_lines.specs.Lines.{lines_of, spaced}
use Rattle.text_lines.specs.Reading.{LineRules, if_right, one_named, read, whole}
use Rattle.text_lines.specs.declared.fault.LineFault.{LineFault}
use Rattle.cfi_map_text.specs.declared.map.MapLine.{MapLine}
use Rattle.cfi_map_text.specs.Map.{MapParts, map_line_below, map_line_in_range}

abbrev pub map_words : MapLine → List (List ℕ)
map_words line = codes "at" ∷ hex_text 8 line.gate ∷ hex_text 4 line.section ∷ hex_text 8 line.offset ∷ []

-- the first line, by which the form is told
abbrev pub map_name : Form → List ℕ
map_name Plain = codes "rvcfi-map 1"
map_name Harts = codes "rvcfi-map 2 harts"
map_name Split = codes "rvcfi-map 2 split"
map_name HartsSplit = codes "rvcfi-map 2 harts-split"
map_name Lean = codes "rvcfi-map 2 lean"
map_name HartsLean = codes "rvcfi-map 2 harts-lean"

-- the lines of the text, without their newlines
unfoldable pub map_lines : Form → List MapLine → List (List ℕ)
map_lines form lines = map_name form ∷ map (λ line. spaced (map_words line)) lines ++ codes "end" ∷ []

-- the one spelling of a map
unfoldable pub map_text : MapParts → List ℕ
map_text m = flat_map (λ line. line ++ 10 ∷ []) (map_lines m.form m.lines)

-- the line that a gate, a section and an offset spell
abbrev pub map_line_spelled : List ℕ → List ℕ → List ℕ → Option MapLine
map_line_spelled gate section offset =
    option_and_then (λ g. option_and_then (λ s. option_map (λ o. record { gate = g; section = s; offset = o }) (hex 8 offset)) (hex 4 section)) (hex 8 gate)

-- the line that words spell, if they spell one
abbrev pub map_line_of : List (List ℕ) → Option MapLine
map_line_of (name ∷ gate ∷ section ∷ offset ∷ []) =
    if bytes_eq name (codes "at") then map_line_spelled gate section offset else None
map_line_of words = None

-- a line rises above the one before it, if there is one
abbrev pub in_map_order : Option MapLine → MapLine → Bool
in_map_order None line = true
in_map_order (Some before) line = map_line_below before line

-- the form of the lines of a form's maps
abbrev pub map_rules : Form → LineRules MapLine (Option MapLine) MapLine
map_rules form = record {
  spelled = map_line_of;
  in_range = map_line_in_range form;
  in_order = in_map_order;
  after = λ line. Some line;
  items = λ line. line ∷ [];
}

-- the first lines that a map may have
abbrev pub map_names : List (List ℕ)
map_names = map_name Plain ∷ map_name Harts ∷ map_name Split ∷ map_name HartsSplit ∷ map_name Lean ∷ map_name HartsLean ∷ []

-- the form that the first line tells, by its place among these
abbrev pub form_at : ℕ → Form
form_at which =
    if which == 0 then Plain else if which == 1 then Harts else if which == 2 then Split else if which == 3 then HartsSplit else
    if which == 4 then Lean else HartsLean

-- the map of a form, and of the lines from the second on
abbrev pub map_with : Form → List (List ℕ) → Result MapParts (End LineFault)
map_with form lines =
    if_right (whole (read (map_rules form) None 2 lines)) (λ read. Ok (record { form = form; lines = read }))

-- what a text is read as
unfoldable pub map_of : List ℕ → Result MapParts (End LineFault)
map_of text = if_right (one_named map_names (lines_of text)) (λ first. map_with (form_at first.0) first.1)
