-- A text that is read as a graph is that graph's spelling, and the graph is one that may be.
use Rattle.std.proofs.Common.{◌≡◌, ℕ, zero, suc, ◌<◌, nat_lt, Bool, true, List, [], ◌∷◌, ◌++◌, codes, get_or, map, Option, Some, None, Result, Ok, Err, refl, sym, subst, ◌∙◌, ap, arith}
use Rattle.std.specs.List.{join_with_byte, list_all}
use Rattle.std.proofs.lemmas.Bool.{and_from, and_parts}
use Rattle.std.proofs.lemmas.List.Splits.{join_with_byte-slice_split}
use Rattle.rv_image.specs.declared.version.GraphVersion.{GraphVersion}
use Rattle.rv_word.specs.declared.end.End.{End}
use Rattle.cfi_graph.specs.declared.line.GraphLine.{GraphLine}
use Rattle.cfi_graph.specs.declared.line.Key.{Key}
use Rattle.text_lines.specs.Hex.{hex_text}
use Rattle.text_lines.specs.Lines.{lines_of, spaced, words_of}
use Rattle.text_lines.specs.Reading.{if_right, one_named, read, whole}
use Rattle.text_lines.proofs.Accepts.{Accepts, end_only, if_ok, line_first}
use Rattle.text_lines.proofs.Whole.{one_named_ok, whole_accepts}
use Rattle.text_lines.proofs.Written.{join_newlines}
use Rattle.text_lines.specs.declared.fault.LineFault.{LineFault}
use Rattle.cfi_graph.specs.Calls.{Listed, calls_of, judged_calls, line_after, may_be_calls}
use Rattle.cfi_graph.specs.Graph.{GraphParts, IsGraph, are_calls, fits_version, is_code_length, is_rising, key_below, key_of, line_in_range, targets_rise}
use Rattle.cfi_graph.specs.Lines.{length_of}
use Rattle.cfi_graph.specs.Text.{graph_lines, graph_name, graph_text, words_of_calls, words_of_line}
use Rattle.cfi_graph.specs.Reading.{after_first, calls_key, calls_lines, graph_names, graph_of, graph_rules, in_order, listed, third_line, version_at, with_length, with_lines}
use Rattle.cfi_graph.proofs.CallsLine.{judged_list}
use Rattle.cfi_graph.proofs.Spelled.{line_fits, line_spelled, length_spelled}

-- lines rise after the line with the key `before`
abbrev pub rises_after : Option Key → List Key → Bool
rises_after None keys = is_rising key_below keys
rises_after (Some before) keys = is_rising key_below (before ∷ keys)

targets_in_order : (before : Option Key) (l : GraphLine) → in_order before l ≡ true → targets_rise l ≡ true
targets_in_order None l e = e
targets_in_order (Some k) l e = (and_parts (targets_rise l) (key_below k (key_of l)) e).0

rises_more : (before : Option Key) (l : GraphLine) (keys : List Key) → in_order before l ≡ true → rises_after (Some (key_of l)) keys ≡ true → rises_after before (key_of l ∷ keys) ≡ true
rises_more None l keys order rest = rest
rises_more (Some k) l keys order rest =
    and_from _ _ (and_parts (targets_rise l) (key_below k (key_of l)) order).1 rest

rises_none : (before : Option Key) → rises_after before [] ≡ true
rises_none None = refl
rises_none (Some k) = refl

-- the lines of the text after the second, without the newline that ends it
abbrev pub spellings : List GraphLine → List (List ℕ)
spellings lines = map (λ l. spaced (words_of_line l)) lines ++ codes "end" ∷ []

module _ (version : GraphVersion) (len : ℕ) where
  in_range : {before : Option Key} {parts : List (List ℕ)} {lines : List GraphLine} → Accepts (graph_rules version len) before parts lines → list_all (line_in_range len) lines ≡ true
  in_range end_only = refl
  in_range (line_first found range order rest) = and_from _ _ range (in_range rest)

  targets : {before : Option Key} {parts : List (List ℕ)} {lines : List GraphLine} → Accepts (graph_rules version len) before parts lines → list_all targets_rise lines ≡ true
  targets end_only = refl
  targets (line_first {before} {l} found range order rest) =
      and_from _ _ (targets_in_order before l order) (targets rest)

  fits : {before : Option Key} {parts : List (List ℕ)} {lines : List GraphLine} → Accepts (graph_rules version len) before parts lines → list_all (fits_version version) lines ≡ true
  fits end_only = refl
  fits (line_first {line} {parts} {l} found range order rest) =
      and_from _ _ (line_fits version (words_of line) l found) (fits rest)

  rises : {before : Option Key} {parts : List (List ℕ)} {lines : List GraphLine} → Accepts (graph_rules version len) before parts lines → rises_after before (map key_of lines) ≡ true
  rises {before} end_only = rises_none before
  rises (line_first {before} {l} {items} found range order rest) =
      rises_more before l (map key_of items) order (rises rest)

  spelled : {before : Option Key} {parts : List (List ℕ)} {lines : List GraphLine} → Accepts (graph_rules version len) before parts lines → parts ≡ spellings lines ++ [] ∷ []
  spelled end_only = refl
  spelled (line_first {line} {parts} {l} {items} found range order rest) =
      ap (λ first. first ∷ parts) (line_spelled version line l found) ∙ ap (λ others. spaced (words_of_line l) ∷ others) (spelled rest)

-- what a list of parts that gives a graph is
pub record Gives (parts : List (List ℕ)) (graph : GraphParts) : Type 0 where
  pub allowed : IsGraph graph
  pub lines : parts ≡ graph_lines graph ++ [] ∷ []

pub record GivesAfter (parts : List (List ℕ)) (graph : GraphParts) : Type 0 where
  pub second : List ℕ
  pub rest : List (List ℕ)
  pub parts_are : parts ≡ second ∷ rest
  pub second_is : second ≡ spaced (codes "code" ∷ codes "40000000" ∷ hex_text 8 graph.code ∷ [])
  pub spelled : rest ≡ spellings graph.lines ++ [] ∷ []
  pub allowed : IsGraph graph

-- a graph of a version that there is, whose lines from the third on are accepted
accepted : (version : GraphVersion) (len : ℕ) (calls : Option (List ℕ)) {parts : List (List ℕ)} {lines : List GraphLine} → is_code_length len ≡ true → may_be_calls calls ≡ true → Accepts (graph_rules version len) (calls_key calls) parts lines → IsGraph (record { version = version; code = len; lines = calls_lines calls ++ lines })
accepted version len None length may accepts =
    record {
      sorts = fits version len accepts;
      length = length;
      range = in_range version len accepts;
      targets = targets version len accepts;
      order = rises version len accepts;
    }
accepted version len (Some calls) length may accepts =
    let p = and_parts (are_calls calls) (is_rising nat_lt calls) may in
    record {
      sorts = fits version len accepts;
      length = length;
      range = and_from _ _ p.0 (in_range version len accepts);
      targets = and_from _ _ p.1 (targets version len accepts);
      order = rises version len accepts;
    }

pub valid : (version : GraphVersion) (len : ℕ) (calls : Option (List ℕ)) (parts : List (List ℕ)) (lines : List GraphLine) → is_code_length len ≡ true → may_be_calls calls ≡ true → whole (read (graph_rules version len) (calls_key calls) (line_after 3 calls) parts) ≡ Ok lines → IsGraph (record { version = version; code = len; lines = calls_lines calls ++ lines })
valid version len calls parts lines length may e =
    accepted version len calls length may (whole_accepts (graph_rules version len) (calls_key calls) (line_after 3 calls) parts lines e)

-- what is read is of the version, the length and the lines that were told
with_front_ok : (version : GraphVersion) (len : ℕ) (front : List GraphLine) (lines : Result (List GraphLine) (End LineFault)) (graph : GraphParts) → if_right lines (λ read. Ok (record { version = version; code = len; lines = front ++ read })) ≡ Ok graph → (read : List GraphLine) × (lines ≡ Ok read) × (record { version = version; code = len; lines = front ++ read } ≡ graph)
with_front_ok version len front (Ok lines) graph e =
    let same : record { version = version; code = len; lines = front ++ lines } ≡ graph = cc in
    (lines, refl, same)
with_front_ok version len front (Err fault) graph e = absurd cc

-- the lines from the third on are those of the list, if there is one, and then others
abbrev pub list_lines : Option (List ℕ) → List (List ℕ)
list_lines None = []
list_lines (Some calls) = spaced (words_of_calls calls) ∷ []

pub record Third (parts : List (List ℕ)) (told : Listed) : Type 0 where
  pub may : may_be_calls told.calls ≡ true
  pub are : parts ≡ list_lines told.calls ++ told.lines

same_Ok : {A E : Type 0} (x y : A) → ◌≡◌ {A = Result A E} (Ok x) (Ok y) → x ≡ y
same_Ok x y e = cc

third_none : (parts : List (List ℕ)) (told : Listed) → ◌≡◌ {A = Result Listed (End LineFault)} (Ok (record { calls = None; lines = parts })) (Ok told) → Third parts told
third_none parts told e = subst (Third parts) (same_Ok (record { calls = None; lines = parts }) told e) (record { may = refl; are = refl })

third_some : (line : List ℕ) (rest : List (List ℕ)) (numbers : List ℕ) (found : Result (List ℕ) (End LineFault)) (told : Listed) → calls_of (words_of line) ≡ Some numbers → judged_calls 3 (Some numbers) ≡ found → if_right found (λ calls. Ok (record { calls = Some calls; lines = rest })) ≡ Ok told → Third (line ∷ rest) told
third_some line rest numbers (Err fault) told is j e = absurd cc
third_some line rest numbers (Ok calls) told is j e =
    let list = judged_list 3 line calls (ap (judged_calls 3) is ∙ j) in
    let here : Third (line ∷ rest) (record { calls = Some calls; lines = rest }) = record { may = and_from _ _ list.are list.rising; are = ap (λ first. first ∷ rest) list.spelled } in
    subst (Third (line ∷ rest)) (same_Ok (record { calls = Some calls; lines = rest }) told e) here

pub third_ok : (parts : List (List ℕ)) (told : Listed) → third_line parts ≡ Ok told → Third parts told
unfolding third_line
third_ok [] told e = third_none [] told e
third_ok (line ∷ []) told e = third_none (line ∷ []) told e
third_ok (line ∷ next ∷ rest) told e = at (calls_of (words_of line)) refl e
  where
    at : (found : Option (List ℕ)) → calls_of (words_of line) ≡ found → listed found (line ∷ next ∷ rest) (next ∷ rest) ≡ Ok told → Third (line ∷ next ∷ rest) told
    at None is h = third_none (line ∷ next ∷ rest) told h
    at (Some numbers) is h = third_some line (next ∷ rest) numbers (judged_calls 3 (Some numbers)) told is refl h

-- the spelling of the lines with those of the list before them
with_list : (calls : Option (List ℕ)) (lines : List GraphLine) → list_lines calls ++ (spellings lines ++ [] ∷ []) ≡ spellings (calls_lines calls ++ lines) ++ [] ∷ []
with_list None lines = refl
with_list (Some calls) lines = refl

with_code_ok : (version : GraphVersion) (len : ℕ) (second : List ℕ) (parts : List (List ℕ)) (found : Result Listed (End LineFault)) (graph : GraphParts) → is_code_length len ≡ true → second ≡ spaced (codes "code" ∷ codes "40000000" ∷ hex_text 8 len ∷ []) → third_line parts ≡ found → if_right found (λ told. with_lines version len told.calls told.lines) ≡ Ok graph → (GivesAfter (second ∷ parts) graph) × (graph.version ≡ version)
with_code_ok version len second parts (Err fault) graph length is third e = absurd cc
with_code_ok version len second parts (Ok told) graph length is third e =
    let list = third_ok parts told third in
    let found = with_front_ok version len (calls_lines told.calls) (whole (read (graph_rules version len) (calls_key told.calls) (line_after 3 told.calls) told.lines)) graph e in
    let accepts = whole_accepts (graph_rules version len) (calls_key told.calls) (line_after 3 told.calls) told.lines found.0 found.1 in
    let spelled_as = list.are ∙ ap (λ others. list_lines told.calls ++ others) (spelled version len accepts) ∙ with_list told.calls found.0 in
    let after : GivesAfter (second ∷ parts) (record { version = version; code = len; lines = calls_lines told.calls ++ found.0 }) = record {
      second = second;
      rest = parts;
      parts_are = refl;
      second_is = is;
      spelled = spelled_as;
      allowed = accepted version len told.calls length list.may accepts;
    } in
    (subst (GivesAfter (second ∷ parts)) found.2 after, ap (λ (g : GraphParts). g.version) (sym found.2))

with_length_ok : (version : GraphVersion) (line : List ℕ) (parts : List (List ℕ)) (graph : GraphParts) → with_length version (length_of (words_of line)) parts ≡ Ok graph → (GivesAfter (line ∷ parts) graph) × (graph.version ≡ version)
with_length_ok version line parts graph e = told (length_of (words_of line)) refl e
  where
    told : (found : Option ℕ) → length_of (words_of line) ≡ found → with_length version found parts ≡ Ok graph → (GivesAfter (line ∷ parts) graph) × (graph.version ≡ version)
    told None is h = absurd cc
    told (Some len) is h =
        let range = if_ok (is_code_length len) _ _ _ h in
        with_code_ok version len line parts (third_line parts) graph range.0 (length_spelled line len is) refl range.1

after_first_ok : (version : GraphVersion) (parts : List (List ℕ)) (graph : GraphParts) → after_first version parts ≡ Ok graph → (GivesAfter parts graph) × (graph.version ≡ version)
unfolding after_first
after_first_ok version [] graph e = absurd cc
after_first_ok version (line ∷ []) graph e = absurd cc
after_first_ok version (line ∷ part ∷ parts) graph e = with_length_ok version line (part ∷ parts) graph e

-- each first line is the name of the version that it tells
name_at : (which : ℕ) → which < 3 → get_or graph_names which [] ≡ graph_name (version_at which)
name_at zero lt = refl
name_at (suc zero) lt = refl
name_at (suc (suc zero)) lt = refl
name_at (suc (suc (suc which))) lt = absurd (omega arith)

from_lines_ok : (parts : List (List ℕ)) (graph : GraphParts) → if_right (one_named graph_names parts) (λ first. after_first (version_at first.0) first.1) ≡ Ok graph → Gives parts graph
unfolding graph_lines
from_lines_ok parts graph e =
    one_named_ok graph_names parts (λ first. after_first (version_at first.0) first.1) graph e (λ which rest known parts_are named.
    let p = after_first_ok (version_at which) rest graph named in
    let after = p.0 in
    let others : rest ≡ spaced (codes "code" ∷ codes "40000000" ∷ hex_text 8 graph.code ∷ []) ∷ (spellings graph.lines ++ [] ∷ []) = after.parts_are ∙ ap (λ second. second ∷ after.rest) after.second_is ∙ ap (λ ls. spaced (codes "code" ∷ codes "40000000" ∷ hex_text 8 graph.code ∷ []) ∷ ls) after.spelled in
    record {
      allowed = after.allowed;
      lines = parts_are ∙ ap (λ first. first ∷ rest) (name_at which known ∙ ap graph_name (sym p.1)) ∙ ap (λ ls. graph_name graph.version ∷ ls) others;
    })

pub graph_of_allowed : (text : List ℕ) (graph : GraphParts) → graph_of text ≡ Ok graph → IsGraph graph
unfolding graph_of
graph_of_allowed text graph e = (from_lines_ok (lines_of text) graph e).allowed

pub graph_of_spelled : (text : List ℕ) (graph : GraphParts) → graph_of text ≡ Ok graph → text ≡ graph_text graph
unfolding graph_of graph_text
graph_of_spelled text graph e =
    sym (join_with_byte-slice_split 10 text) ∙ ap (join_with_byte 10) (from_lines_ok (lines_of text) graph e).lines ∙ join_newlines (graph_lines graph)
