-- What is read of a map's text is a map, and the text is its spelling; and each spelling is read.
use Rattle.std.proofs.Common.{◌≡◌, ℕ, zero, suc, ◌%◌, ◌^◌, ◌<◌, ◌==◌, ◌&&◌, Bool, true, List, [], ◌∷◌, ◌++◌, codes, get_or, map, position, Option, Some, None, Result, Ok, Err, IfOk, refl, sym, subst, ◌∙◌, ap, arith}
use Rattle.std.specs.List.{join_with_byte, list_all}
use Rattle.std.specs.Str.{bytes_eq}
use Rattle.std.proofs.lemmas.Bool.{and_from, and_parts, ltb-true}
use Rattle.std.proofs.lemmas.List.Splits.{join_with_byte-slice_split}
use Rattle.std.proofs.lemmas.Slice.Eq.{bytes_eq-Decides}
use Rattle.std.proofs.Math.Dec.{leb, ltb}
use Rattle.text_lines.specs.Answers.{Answers}
use Rattle.text_lines.specs.Hex.{hex, hex_text}
use Rattle.text_lines.specs.Lines.{lines_of, spaced, words_of}
use Rattle.text_lines.specs.Reading.{if_right, read, whole}
use Rattle.text_lines.proofs.Accepts.{Accepts, end_only, line_first}
use Rattle.text_lines.proofs.Numbers.{hex_spelled}
use Rattle.rv_word.proofs.Cases.{guarded}
use Rattle.text_lines.proofs.Options.{and_then, mapped}
use Rattle.text_lines.proofs.Whole.{ends_whole, named_back, one_named_ok, whole_accepts, whole_back}
use Rattle.text_lines.proofs.Written.{hex_back, hex_plain, join_newlines, lacks, spaced_line, split_join, words_back}
use Rattle.text_lines.specs.declared.fault.LineFault.{LineFault}
use Rattle.rv_image.specs.Form.{profile_for}
use Rattle.rv_image.specs.declared.form.Form.{Form}
use Rattle.rv_image.specs.declared.form.Form.TheVariants.{Plain, Harts, Split, HartsSplit, Lean, HartsLean}
use Rattle.rv_word.specs.declared.end.End.{End}
use Rattle.rv_word.specs.declared.end.End.TheVariants.{Fault, NoMemory}
use Rattle.cfi_map_text.specs.declared.map.MapLine.{MapLine}
use Rattle.cfi_graph.specs.Graph.{is_rising}
use Rattle.cfi_map_text.specs.Map.{IsMap, MapParts, is_gate, map_line_below, map_line_in_range}
use Rattle.cfi_map_text.specs.MapText.{form_at, in_map_order, map_line_of, map_line_spelled, map_lines, map_name, map_names, map_of, map_rules, map_text, map_with, map_words}

-- lines rise after the line before
abbrev rises_after : Option MapLine → List MapLine → Bool
rises_after None lines = is_rising map_line_below lines
rises_after (Some before) lines = is_rising map_line_below (before ∷ lines)

in_range : (form : Form) {before : Option MapLine} {parts : List (List ℕ)} {lines : List MapLine} → Accepts (map_rules form) before parts lines → list_all (map_line_in_range form) lines ≡ true
in_range form end_only = refl
in_range form (line_first found range order rest) = and_from _ _ range (in_range form rest)

rises_none : (before : Option MapLine) → rises_after before [] ≡ true
rises_none None = refl
rises_none (Some line) = refl

rises_more : (before : Option MapLine) (l : MapLine) (lines : List MapLine) → in_map_order before l ≡ true → rises_after (Some l) lines ≡ true → rises_after before (l ∷ lines) ≡ true
rises_more None l lines order rest = rest
rises_more (Some line) l lines order rest = and_from _ _ order rest

rises : (form : Form) {before : Option MapLine} {parts : List (List ℕ)} {lines : List MapLine} → Accepts (map_rules form) before parts lines → rises_after before lines ≡ true
rises form {before} end_only = rises_none before
rises form {before} (line_first {l} {items} found range order rest) = rises_more before l items order (rises form rest)

-- ---- the spelling

spelled_parts : (gate section offset : List ℕ) (l : MapLine) → map_line_spelled gate section offset ≡ Some l → gate ∷ section ∷ offset ∷ [] ≡ hex_text 8 l.gate ∷ hex_text 4 l.section ∷ hex_text 8 l.offset ∷ []
spelled_parts gate section offset l e =
    and_then _ (hex 8 gate) l e (λ g first others.
    and_then _ (hex 4 section) l others (λ s second last.
    mapped _ (hex 8 offset) l last (λ o third whole.
    let p = hex_spelled 8 gate g first in let q = hex_spelled 4 section s second in let r = hex_spelled 8 offset o third in
    rw (whole, p, q, r) refl)))

words_spelled : (words : List (List ℕ)) (l : MapLine) → map_line_of words ≡ Some l → words ≡ map_words l
words_spelled [] l e = absurd cc
words_spelled (name ∷ []) l e = absurd cc
words_spelled (name ∷ gate ∷ []) l e = absurd cc
words_spelled (name ∷ gate ∷ section ∷ []) l e = absurd cc
words_spelled (name ∷ gate ∷ section ∷ offset ∷ more ∷ rest) l e = absurd cc
words_spelled (name ∷ gate ∷ section ∷ offset ∷ []) l e =
    let g = guarded (bytes_eq name (codes "at")) _ l e in
    ap (λ n. n ∷ gate ∷ section ∷ offset ∷ []) ((bytes_eq-Decides name (codes "at")).0 g.0) ∙ ap (λ ws. codes "at" ∷ ws) (spelled_parts gate section offset l g.1)

line_spelled : (line : List ℕ) (l : MapLine) → map_line_of (words_of line) ≡ Some l → line ≡ spaced (map_words l)
line_spelled line l e =
    sym (join_with_byte-slice_split 32 line) ∙ ap (join_with_byte 32) (words_spelled (words_of line) l e)

-- the lines of the text after the first, without the newline that ends it
abbrev spellings : List MapLine → List (List ℕ)
spellings lines = map (λ l. spaced (map_words l)) lines ++ codes "end" ∷ []

spelled : (form : Form) {before : Option MapLine} {parts : List (List ℕ)} {lines : List MapLine} → Accepts (map_rules form) before parts lines → parts ≡ spellings lines ++ [] ∷ []
spelled form end_only = refl
spelled form (line_first {line} {parts} {l} {items} found range order rest) =
    ap (λ first. first ∷ parts) (line_spelled line l found) ∙ ap (λ others. spaced (map_words l) ∷ others) (spelled form rest)

-- ---- each spelling is read

line_back : (form : Form) (l : MapLine) → map_line_in_range form l ≡ true → map_line_of (words_of (spaced (map_words l))) ≡ Some l
line_back form l e =
    let p = and_parts (is_gate form l.gate && l.offset % 4 == 0 && ltb l.section (2 ^ 16)) (ltb l.offset (2 ^ 32)) e in
    let q = and_parts (is_gate form l.gate && l.offset % 4 == 0) (ltb l.section (2 ^ 16)) p.0 in
    let r = and_parts (is_gate form l.gate) (l.offset % 4 == 0) q.0 in
    let s = and_parts (l.gate % 4 == 0 && leb (profile_for form).units_from l.gate) (ltb l.gate 0x40100000) r.0 in
    let small : l.gate < 0x40100000 = ltb-true l.gate 0x40100000 s.1 in
    let gate = hex_back 8 l.gate (omega arith) in
    let section = hex_back 4 l.section (ltb-true l.section (2 ^ 16) q.1) in
    let offset = hex_back 8 l.offset (ltb-true l.offset (2 ^ 32) p.1) in
    let cut = words_back (codes "at") (hex_text 8 l.gate ∷ hex_text 4 l.section ∷ hex_text 8 l.offset ∷ []) (and_from _ _ (hex_plain 8 l.gate) (and_from _ _ (hex_plain 4 l.section) (and_from _ true (hex_plain 8 l.offset) refl))) in
    rw (cut, gate, section, offset) refl

order_first : (before : Option MapLine) (l : MapLine) (lines : List MapLine) → rises_after before (l ∷ lines) ≡ true → (in_map_order before l ≡ true) × (rises_after (Some l) lines ≡ true)
order_first None l lines e = (refl, e)
order_first (Some line) l lines e = let p = and_parts (map_line_below line l) _ e in (p.0, p.1)

accepts : (form : Form) (before : Option MapLine) (lines : List MapLine) → list_all (map_line_in_range form) lines ≡ true → rises_after before lines ≡ true → Accepts (map_rules form) before (spellings lines ++ [] ∷ []) lines
accepts form before [] r o = end_only
accepts form before (l ∷ lines) r o =
    let p = and_parts (map_line_in_range form l) (list_all (map_line_in_range form) lines) r in
    let s = order_first before l lines o in
    line_first (line_back form l p.0) p.0 s.0 (accepts form (Some l) lines p.1 s.1)

line_lacks : (l : MapLine) → lacks 10 (spaced (map_words l)) ≡ true
line_lacks l =
    spaced_line (map_words l) (and_from _ _ (hex_plain 8 l.gate) (and_from _ _ (hex_plain 4 l.section) (and_from _ true (hex_plain 8 l.offset) refl)))

lines_lack : (lines : List MapLine) → list_all (lacks 10) (spellings lines ++ [] ∷ []) ≡ true
lines_lack [] = refl
lines_lack (l ∷ lines) = and_from _ _ (line_lacks l) (lines_lack lines)

-- the first line of each form, and its place among them
which_of : Form → ℕ
which_of Plain = 0
which_of Harts = 1
which_of Split = 2
which_of HartsSplit = 3
which_of Lean = 4
which_of HartsLean = 5

name_there : (form : Form) → position (bytes_eq (map_name form)) map_names ≡ Some (which_of form)
unfolding which_of
name_there Plain = refl
name_there Harts = refl
name_there Split = refl
name_there HartsSplit = refl
name_there Lean = refl
name_there HartsLean = refl

form_there : (form : Form) → form_at (which_of form) ≡ form
unfolding which_of
form_there Plain = refl
form_there Harts = refl
form_there Split = refl
form_there HartsSplit = refl
form_there Lean = refl
form_there HartsLean = refl

name_lacks : (form : Form) → lacks 10 (map_name form) ≡ true
name_lacks Plain = refl
name_lacks Harts = refl
name_lacks Split = refl
name_lacks HartsSplit = refl
name_lacks Lean = refl
name_lacks HartsLean = refl

name_at : (which : ℕ) → which < 6 → get_or map_names which [] ≡ map_name (form_at which)
name_at zero lt = refl
name_at (suc zero) lt = refl
name_at (suc (suc zero)) lt = refl
name_at (suc (suc (suc zero))) lt = refl
name_at (suc (suc (suc (suc zero)))) lt = refl
name_at (suc (suc (suc (suc (suc zero))))) lt = refl
name_at (suc (suc (suc (suc (suc (suc which)))))) lt = absurd (omega arith)

lines_back : (m : MapParts) → lines_of (map_text m) ≡ map_name m.form ∷ (spellings m.lines ++ [] ∷ [])
unfolding map_text map_lines
lines_back m =
    ap lines_of (sym (join_newlines (map_lines m.form m.lines))) ∙ split_join 10 (map_name m.form) (spellings m.lines ++ [] ∷ []) (name_lacks m.form) (lines_lack m.lines)

no_end : map_line_of (words_of (codes "end")) ≡ None
no_end = refl

pub map_of-map_text : (m : MapParts) → IsMap m → map_of (map_text m) ≡ Ok m
unfolding map_of
map_of-map_text m is =
    let rest = spellings m.lines ++ [] ∷ [] in
    let others = accepts m.form None m.lines is.range is.order in
    rw (lines_back m, named_back map_names (map_name m.form) (which_of m.form) rest (name_there m.form) others, form_there m.form, whole_back (map_rules m.form) None no_end 2 rest m.lines others) refl

-- ---- what an answer says

read_with : (form : Form) (answer : Result (List MapLine) (End LineFault)) (m : MapParts) → if_right answer (λ read. Ok (record { form = form; lines = read })) ≡ Ok m → (answer ≡ Ok m.lines) × (m.form ≡ form)
read_with form (Ok lines) m e =
    let read : MapParts = record { form = form; lines = lines } in
    let is : read ≡ m = cc in
    (ap (λ (x : MapParts). Ok x.lines) is, sym (ap (λ (x : MapParts). x.form) is))
read_with form (Err fault) m e = absurd cc

-- a text that is read begins with the name of its form, and its lines are those of the form
begun : {P : Type 0} (text : List ℕ) (m : MapParts) → map_of text ≡ Ok m → ((rest : List (List ℕ)) → lines_of text ≡ map_name m.form ∷ rest → Accepts (map_rules m.form) None rest m.lines → P) → P
unfolding map_of
begun text m e go =
    one_named_ok map_names (lines_of text) (λ first. map_with (form_at first.0) first.1) m e (λ which rest known parts_are others.
    let is = read_with (form_at which) (whole (read (map_rules (form_at which)) None 2 rest)) m others in
    go rest (parts_are ∙ ap (λ (first : List ℕ). first ∷ rest) (name_at which known ∙ ap map_name (sym is.1)))
    (subst (λ (form : Form). Accepts (map_rules form) None rest m.lines) (sym is.1) (whole_accepts (map_rules (form_at which)) None 2 rest m.lines is.0)))

pub map_of_allowed : (text : List ℕ) (m : MapParts) → map_of text ≡ Ok m → IsMap m
map_of_allowed text m e =
    begun text m e (λ rest begins accepts. record { range = in_range m.form accepts; order = rises m.form accepts })

pub map_of_spelled : (text : List ℕ) (m : MapParts) → map_of text ≡ Ok m → text ≡ map_text m
unfolding map_text map_lines
map_of_spelled text m e =
    begun text m e (λ rest begins accepts.
    sym (join_with_byte-slice_split 10 text) ∙ ap (join_with_byte 10) (begins ∙ ap (λ others. map_name m.form ∷ others) (spelled m.form accepts)) ∙ join_newlines (map_name m.form ∷ spellings m.lines))

-- what comes of the lines after the first
pub map_collected : (form : Form) (which : ℕ) (lines : List (List ℕ)) (items : List MapLine) → form ≡ form_at which → whole (read (map_rules form) None 2 lines) ≡ Ok items → map_with (form_at which) lines ≡ Ok (record { form = form; lines = items })
map_collected form which lines items is e = rw (← is, e) refl

pub map_refused : (form : Form) (which : ℕ) (lines : List (List ℕ)) (end : End LineFault) → form ≡ form_at which → Answers {A = Unit {0}} (Err end) (read (map_rules form) None 2 lines).end → Answers {A = MapParts} (Err end) (map_with (form_at which) lines)
map_refused form which lines end is e = rw (← is) (ends_whole (read (map_rules form) None 2 lines) (λ read. Ok (record { form = form; lines = read })) end e)

pub record IsMapReading (text : List ℕ) (answer : Result MapParts (End LineFault)) : Type 0 where
  pub allowed : IfOk answer IsMap
  pub spelled : IfOk answer (λ m. text ≡ map_text m)
  pub only : (m : MapParts) → IsMap m → text ≡ map_text m → Answers answer (Ok m)

read_of : (text : List ℕ) (m : MapParts) → IsMap m → text ≡ map_text m → map_of text ≡ Ok m
read_of text m is e = ap map_of e ∙ map_of-map_text m is

pub reading : (text : List ℕ) (answer : Result MapParts (End LineFault)) → Answers answer (map_of text) → IsMapReading text answer
reading text (Ok m) right =
    record {
      allowed = map_of_allowed text m right;
      spelled = map_of_spelled text m right;
      only = λ other is e. sym (read_of text other is e) ∙ right;
    }
reading text (Err (Fault fault)) right =
    record { allowed = tt; spelled = tt; only = λ other is e. sym (read_of text other is e) ∙ right }
reading text (Err NoMemory) right =
    record { allowed = tt; spelled = tt; only = λ other is e. tt }
