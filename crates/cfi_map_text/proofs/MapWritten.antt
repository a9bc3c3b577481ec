-- The text of a map as it is written, piece after piece; and a line of a map with a word too many.
use Rattle.std.proofs.Common.{◌≡◌, ℕ, ◌==◌, None, List, [], ◌∷◌, ◌++◌, codes, map, refl, sym, ◌∙◌, ap, append_assoc}
use Rattle.std.specs.List.{flat_map, slice_split}
use Rattle.text_lines.specs.Lines.{spaced}
use Rattle.text_lines.proofs.Cuts.{some_part}
use Rattle.cfi_map_text.specs.declared.map.MapLine.{MapLine}
use Rattle.cfi_map_text.specs.Map.{MapParts}
use Rattle.cfi_map_text.specs.MapText.{map_line_of, map_lines, map_name, map_text, map_words}
use Rattle.cfi_graph.proofs.Printed.{flat_map-append, flat_map-map}

-- a fifth word is one too many
pub map_long : (more : List ℕ) {words second third last : List (List ℕ)} {a b c d : List ℕ} → words ≡ a ∷ second → second ≡ b ∷ third → third ≡ c ∷ last → last ≡ d ∷ slice_split (λ b. b == 32) more → None ≡ map_line_of words
map_long more p q r s = rw (p, q, r, s) (some_part 32 more (λ part parts e. rw e refl))

-- the text of a line, with its newline
abbrev line_text : MapLine → List ℕ
line_text l = spaced (map_words l) ++ 10 ∷ []

abbrev newline : List ℕ → List ℕ
newline line = line ++ 10 ∷ []

abbrev spell : MapLine → List ℕ
spell l = spaced (map_words l)

lines_text : (lines : List MapLine) → flat_map newline (map spell lines ++ codes "end" ∷ []) ≡ flat_map line_text lines ++ 101 ∷ 110 ∷ 100 ∷ 10 ∷ []
lines_text lines =
    flat_map-append newline (map spell lines) (codes "end" ∷ []) ∙ ap (λ text. text ++ 101 ∷ 110 ∷ 100 ∷ 10 ∷ []) (flat_map-map newline spell lines)

-- the pieces in the order in which they are added
pub map_written : (m : MapParts) {none name first second third : List ℕ} → none ≡ [] → name ≡ none ++ map_name m.form → first ≡ name ++ 10 ∷ [] → second ≡ first ++ flat_map line_text m.lines → third ≡ second ++ 101 ∷ 110 ∷ 100 ∷ 10 ∷ [] → third ≡ map_text m
unfolding map_text map_lines
map_written m z n a b c =
    rw (c, b, a, n, z) (append_assoc (map_name m.form ++ 10 ∷ []) (flat_map line_text m.lines) (101 ∷ 110 ∷ 100 ∷ 10 ∷ []) ∙ ap (λ rest. (map_name m.form ++ 10 ∷ []) ++ rest) (sym (lines_text m.lines)))
