-- The spelling of a graph is read as that graph.
use Rattle.std.proofs.Common.{◌≡◌, ℕ, ◌+◌, ◌%◌, ◌^◌, ◌<◌, ◌≤◌, ◌==◌, ◌&&◌, nat_lt, not, Bool, true, false, List, [], ◌∷◌, ◌++◌, codes, map, position, Option, Some, None, Ok, inl, inr, refl, sym, ◌∙◌, ap, arith}
use Rattle.std.specs.List.{list_all}
use Rattle.std.specs.Str.{bytes_eq}
use Rattle.std.proofs.lemmas.Bool.{and_from, and_parts, cases_Bool, leb-true, ltb-true, not-true}
use Rattle.std.proofs.lemmas.Slice.Eq.{bytes_eq-Decides}
use Rattle.std.proofs.Math.Dec.{leb, ltb}
use Rattle.rv_image.specs.declared.version.GraphVersion.TheVariants.{OneLabel, TwoLabels, CalleeSaves}
use Rattle.rv_image.specs.declared.version.GraphVersion.{GraphVersion}
use Rattle.cfi_graph.specs.declared.line.GraphLine.{GraphLine}
use Rattle.cfi_graph.specs.declared.line.GraphLine.TheVariants.{Calls, Leaf, Class, Site, Edge, Call}
use Rattle.cfi_graph.specs.declared.line.SiteKind.TheVariants as kind
use Rattle.cfi_graph.specs.declared.line.Sort.{Sort}
use Rattle.cfi_graph.specs.declared.line.Sort.TheVariants as sorts
use Rattle.cfi_graph.specs.declared.line.Key.{Key}
use Rattle.cfi_graph.specs.declared.line.Key.TheVariants.{Head, Range, Label, Address}
use Rattle.cfi_graph.specs.Calls.{calls_of, line_after}
use Rattle.cfi_graph.specs.Graph.{GraphParts, IsGraph, are_calls, class_in_range, fits_version, is_code_address, is_code_end, is_code_length, is_label, is_rising, is_sort_of, key_below, key_of, line_in_range, targets_rise}
use Rattle.text_lines.specs.Hex.{hex, hex_text}
use Rattle.text_lines.specs.Lines.{lines_of, spaced, words_of}
use Rattle.text_lines.specs.Reading.{if_right, one_named}
use Rattle.text_lines.proofs.Accepts.{Accepts, end_only, line_first, read_back}
use Rattle.text_lines.proofs.Written.{hex_back, hex_plain, join_newlines, lacks, spaced_line, split_join, words_back}
use Rattle.cfi_graph.specs.Text.{class_name, graph_lines, graph_name, graph_text, kind_name, words_of_calls, words_of_class, words_of_line}
use Rattle.cfi_graph.specs.Lines.{addresses_of, length_of, line_of, sort_named}
use Rattle.cfi_graph.specs.Reading.{after_first, calls_key, calls_lines, graph_names, graph_of, graph_rules, in_order, third_line, version_at, with_code, with_lines}
use Rattle.cfi_graph.proofs.CallsLine.{calls_back, calls_plain, judged_back}
use Rattle.cfi_graph.proofs.Plain.{class_plain, is_list, words_plain}
use Rattle.cfi_graph.proofs.Spelled.{no_end}
use Rattle.cfi_graph.proofs.Whole.{rises_after, spellings}

-- a line above another is no list
other_after : (before : Key) (l : GraphLine) → key_below before (key_of l) ≡ true → is_list l ≡ false
other_after Head (Calls numbers) e = absurd cc
other_after (Range a b) (Calls numbers) e = absurd cc
other_after (Label k) (Calls numbers) e = absurd cc
other_after (Address a) (Calls numbers) e = absurd cc
other_after before (Leaf from to) e = refl
other_after before (Class sort label targets) e = refl
other_after before (Site address k label) e = refl
other_after before (Edge from to) e = refl
other_after before (Call from to) e = refl

-- an allowed number has no more digits than are written
length_small : (len : ℕ) → is_code_length len ≡ true → len ≤ 0x100000
length_small len e =
    let p = and_parts (len % 4 == 0 && leb 4 len) (leb len 0x100000) e in leb-true len 0x100000 p.1

address_back : (len a : ℕ) → len ≤ 0x100000 → is_code_address len a ≡ true → hex 8 (hex_text 8 a) ≡ Some a
address_back len a small e =
    let p = and_parts (a % 4 == 0 && leb 0x40000000 a) (ltb a (0x40000000 + len)) e in
    let below : a < 0x40000000 + len = ltb-true a (0x40000000 + len) p.1 in
    hex_back 8 a (omega arith)

end_back : (len a : ℕ) → len ≤ 0x100000 → is_code_end len a ≡ true → hex 8 (hex_text 8 a) ≡ Some a
end_back len a small e =
    let p = and_parts (a % 4 == 0 && leb 0x40000000 a) (leb a (0x40000000 + len)) e in
    let below : a ≤ 0x40000000 + len = leb-true a (0x40000000 + len) p.1 in
    hex_back 8 a (omega arith)

label_back : (label : ℕ) → is_label label ≡ true → hex 5 (hex_text 5 label) ≡ Some label
label_back label e =
    let p = and_parts (ltb 0 label) (ltb label (2 ^ 20)) e in hex_back 5 label (ltb-true label (2 ^ 20) p.1)

addresses_back : (len : ℕ) (addresses : List ℕ) → len ≤ 0x100000 → list_all (is_code_address len) addresses ≡ true → addresses_of (map (hex_text 8) addresses) ≡ Some addresses
unfolding addresses_of
addresses_back len [] small e = refl
addresses_back len (a ∷ rest) small e =
    let p = and_parts (is_code_address len a) (list_all (is_code_address len) rest) e in
    rw (address_back len a small p.0, addresses_back len rest small p.1) refl

module _ (version : GraphVersion) (len : ℕ) (small : len ≤ 0x100000) where
  class_back : (sort : Sort) (label : ℕ) (targets : List ℕ) → is_sort_of version sort ≡ true → class_in_range len label targets ≡ true → line_of version (words_of_class sort label targets) ≡ Some (Class sort label targets)
  unfolding line_of
  class_back sort label targets fits e =
      let p = and_parts (is_label label) (list_all (is_code_address len) targets) e in
      rw (name_back sort fits, label_back label p.0, addresses_back len targets small p.1) refl
    where
      name_back : (sort : Sort) → is_sort_of version sort ≡ true → sort_named version (class_name sort) ≡ Some sort
      name_back sorts.Both fits = rw fits refl
      name_back sorts.Calls fits = rw fits refl
      name_back sorts.Jumps fits = rw fits refl

  named_back : (l : GraphLine) → is_list l ≡ false → fits_version version l ≡ true → line_in_range len l ≡ true → line_of version (words_of_line l) ≡ Some l
  unfolding line_of
  named_back (Calls numbers) other fits e = absurd cc
  named_back (Leaf from to) other fits e =
      let p = and_parts (is_code_address len from) (is_code_end len to) e in
      rw (fits, address_back len from small p.0, end_back len to small p.1) refl
  named_back (Class sort label targets) other fits e = class_back sort label targets fits e
  named_back (Site a kind.Call label) other fits e =
      let p = and_parts (is_code_address len a) (is_label label) e in
      rw (address_back len a small p.0, label_back label p.1) refl
  named_back (Site a kind.Jump label) other fits e =
      let p = and_parts (is_code_address len a) (is_label label) e in
      rw (address_back len a small p.0, label_back label p.1) refl
  named_back (Edge from to) other fits e =
      let p = and_parts (is_code_address len from) (is_code_address len to) e in
      rw (address_back len from small p.0, address_back len to small p.1) refl
  named_back (Call from to) other fits e =
      let p = and_parts (is_code_address len from) (is_code_address len to) e in
      rw (address_back len from small p.0, address_back len to small p.1) refl

-- the words of a class are cut apart again
class_words_back : (sort : Sort) (label : ℕ) (targets : List ℕ) → words_of (spaced (words_of_class sort label targets)) ≡ words_of_class sort label targets
class_words_back sort label targets =
    words_back (class_name sort) (hex_text 5 label ∷ map (hex_text 8) targets) (class_plain sort label targets)

line_words_back : (l : GraphLine) → is_list l ≡ false → words_of (spaced (words_of_line l)) ≡ words_of_line l
line_words_back (Calls numbers) other = absurd cc
line_words_back (Leaf from to) other =
    words_back (codes "leaf") (hex_text 8 from ∷ hex_text 8 to ∷ []) (words_plain (Leaf from to) refl)
line_words_back (Class sort label targets) other = class_words_back sort label targets
line_words_back (Site a k label) other =
    words_back (codes "site") (hex_text 8 a ∷ kind_name k ∷ hex_text 5 label ∷ []) (words_plain (Site a k label) refl)
line_words_back (Edge from to) other =
    words_back (codes "edge") (hex_text 8 from ∷ hex_text 8 to ∷ []) (words_plain (Edge from to) refl)
line_words_back (Call from to) other =
    words_back (codes "call") (hex_text 8 from ∷ hex_text 8 to ∷ []) (words_plain (Call from to) refl)

lines_lack : (lines : List GraphLine) → list_all (λ l. not (is_list l)) lines ≡ true → list_all (lacks 10) (spellings lines ++ [] ∷ []) ≡ true
lines_lack [] others = refl
lines_lack (l ∷ lines) others =
    let p = and_parts (not (is_list l)) (list_all (λ l. not (is_list l)) lines) others in
    and_from _ _ (spaced_line (words_of_line l) (words_plain l (not-true (is_list l) p.0))) (lines_lack lines p.1)

order_first : (before : Option Key) (l : GraphLine) (keys : List Key) → targets_rise l ≡ true → rises_after before (key_of l ∷ keys) ≡ true → (in_order before l ≡ true) × (rises_after (Some (key_of l)) keys ≡ true)
order_first None l keys t e = (t, e)
order_first (Some k) l keys t e =
    let p = and_parts (key_below k (key_of l)) _ e in (and_from _ _ t p.0, p.1)

-- lines after one are no lists
others_after : (before : Key) (lines : List GraphLine) → rises_after (Some before) (map key_of lines) ≡ true → list_all (λ l. not (is_list l)) lines ≡ true
others_after before [] e = refl
others_after before (l ∷ lines) e =
    let p = and_parts (key_below before (key_of l)) _ e in
    and_from _ _ (ap not (other_after before l p.0)) (others_after (key_of l) lines p.1)

module _ (version : GraphVersion) (len : ℕ) (small : len ≤ 0x100000) where
  accepts : (before : Option Key) (lines : List GraphLine) → list_all (λ l. not (is_list l)) lines ≡ true → list_all (fits_version version) lines ≡ true → list_all (line_in_range len) lines ≡ true → list_all targets_rise lines ≡ true → rises_after before (map key_of lines) ≡ true → Accepts (graph_rules version len) before (spellings lines ++ [] ∷ []) lines
  accepts before [] n f r t o = end_only
  accepts before (l ∷ lines) n f r t o =
      let other = and_parts (not (is_list l)) (list_all (λ l. not (is_list l)) lines) n in
      let no = not-true (is_list l) other.0 in
      let fits = and_parts (fits_version version l) (list_all (fits_version version) lines) f in
      let p = and_parts (line_in_range len l) (list_all (line_in_range len) lines) r in
      let q = and_parts (targets_rise l) (list_all targets_rise lines) t in
      let s = order_first before l (map key_of lines) q.0 o in
      let back = ap (line_of version) (line_words_back l no) ∙ named_back version len small l no fits.0 p.0 in
      line_first back p.0 s.0 (accepts (Some (key_of l)) lines other.1 fits.1 p.1 q.1 s.1)

-- a line of another form is no list
no_calls : (version : GraphVersion) (words : List (List ℕ)) (l : GraphLine) → line_of version words ≡ Some l → calls_of words ≡ None
unfolding line_of
no_calls version [] l e = refl
no_calls version (name ∷ words) l e =
    elim (cases_Bool (bytes_eq name (codes "calls"))) [
      | inl named ↦
          let same : name ≡ codes "calls" = (bytes_eq-Decides name (codes "calls")).0 named in
          let none : None ≡ Some l = rw same at e in
          absurd cc
      | inr not_named ↦ rw not_named refl
    ]

abbrev second_words : List ℕ → List (List ℕ)
second_words size = codes "code" ∷ codes "40000000" ∷ size ∷ []

length_back : (len : ℕ) → is_code_length len ≡ true → length_of (words_of (spaced (second_words (hex_text 8 len)))) ≡ Some len
length_back len e =
    let small = length_small len e in
    ap length_of (words_back (codes "code") (codes "40000000" ∷ hex_text 8 len ∷ []) (and_from _ true (hex_plain 8 len) refl)) ∙ hex_back 8 len (omega arith)

module _ (version : GraphVersion) (len : ℕ) where
  -- lines that are no lists are read after the list, if there is one
  body_back : (calls : Option (List ℕ)) (lines : List GraphLine) → Accepts (graph_rules version len) (calls_key calls) (spellings lines ++ [] ∷ []) lines → with_lines version len calls (spellings lines ++ [] ∷ []) ≡ Ok (record { version = version; code = len; lines = calls_lines calls ++ lines })
  body_back calls lines are = rw (read_back (graph_rules version len) (no_end version) (line_after 3 calls) are) refl

  -- lines without a list
  abbrev Spelled : GraphLine → Type 0
  Spelled l = line_of version (words_of (spaced (words_of_line l))) ≡ Some l

  third_none : third_line (spellings [] ++ [] ∷ []) ≡ Ok (record { calls = None; lines = spellings [] ++ [] ∷ [] })
  unfolding third_line
  third_none = refl

  third_other : (l : GraphLine) (lines : List GraphLine) → Spelled l → third_line (spellings (l ∷ lines) ++ [] ∷ []) ≡ Ok (record { calls = None; lines = spellings (l ∷ lines) ++ [] ∷ [] })
  unfolding third_line
  third_other l [] back = rw (no_calls version _ l back) refl
  third_other l (m ∷ lines) back = rw (no_calls version _ l back) refl

  third_list : (numbers : List ℕ) (lines : List GraphLine) → are_calls numbers ≡ true → is_rising nat_lt numbers ≡ true → third_line (spaced (words_of_calls numbers) ∷ (spellings lines ++ [] ∷ [])) ≡ Ok (record { calls = Some numbers; lines = spellings lines ++ [] ∷ [] })
  unfolding third_line
  third_list numbers [] are rising = rw (calls_back numbers are, judged_back 3 numbers are rising) refl
  third_list numbers (l ∷ lines) are rising = rw (calls_back numbers are, judged_back 3 numbers are rising) refl

  listed_back : (l : GraphLine) (lines : List GraphLine) → is_list l ≡ true → IsGraph (record { version = version; code = len; lines = l ∷ lines }) → with_code version len (spellings (l ∷ lines) ++ [] ∷ []) ≡ Ok (record { version = version; code = len; lines = l ∷ lines })
  listed_back (Leaf from to) lines e is = absurd cc
  listed_back (Class sort label targets) lines e is = absurd cc
  listed_back (Site address k label) lines e is = absurd cc
  listed_back (Edge from to) lines e is = absurd cc
  listed_back (Call from to) lines e is = absurd cc
  listed_back (Calls numbers) lines e is =
      let range = and_parts (are_calls numbers) (list_all (line_in_range len) lines) is.range in
      let rise = and_parts (is_rising nat_lt numbers) (list_all targets_rise lines) is.targets in
      let are = accepts version len (length_small len is.length) (Some Head) lines (others_after Head lines is.order) is.sorts range.1 rise.1 is.order in
      rw (third_list numbers lines range.0 rise.0) (body_back (Some numbers) lines are)

  code_back : (lines : List GraphLine) → IsGraph (record { version = version; code = len; lines = lines }) → with_code version len (spellings lines ++ [] ∷ []) ≡ Ok (record { version = version; code = len; lines = lines })
  code_back [] is =
      let are = accepts version len (length_small len is.length) None [] refl is.sorts is.range is.targets is.order in
      rw third_none (body_back None [] are)
  code_back (l ∷ lines) is = by_first (is_list l) refl
    where
      by_first : (b : Bool) → is_list l ≡ b → with_code version len (spellings (l ∷ lines) ++ [] ∷ []) ≡ Ok (record { version = version; code = len; lines = l ∷ lines })
      by_first false other =
          let others = and_from _ _ (ap not other) (others_after (key_of l) lines is.order) in
          let are = accepts version len (length_small len is.length) None (l ∷ lines) others is.sorts is.range is.targets is.order in
          let fits = and_parts (fits_version version l) (list_all (fits_version version) lines) is.sorts in
          let range = and_parts (line_in_range len l) (list_all (line_in_range len) lines) is.range in
          let back = ap (line_of version) (line_words_back l other) ∙ named_back version len (length_small len is.length) l other fits.0 range.0 in
          rw (third_other l lines back) (body_back None (l ∷ lines) are)
      by_first true list = listed_back l lines list is

  after_first_back : (lines : List GraphLine) → IsGraph (record { version = version; code = len; lines = lines }) → after_first version (spaced (second_words (hex_text 8 len)) ∷ (spellings lines ++ [] ∷ [])) ≡ Ok (record { version = version; code = len; lines = lines })
  unfolding after_first
  after_first_back [] is = rw (length_back len is.length, is.length) (code_back [] is)
  after_first_back (l ∷ lines) is = rw (length_back len is.length, is.length) (code_back (l ∷ lines) is)

-- the first line of a version, by its place among the first lines
record Named (version : GraphVersion) : Type 0 where
  pub which : ℕ
  pub there : position (bytes_eq (graph_name version)) graph_names ≡ Some which
  pub tells : version_at which ≡ version

named : (version : GraphVersion) → Named version
named OneLabel = record { which = 0; there = refl; tells = refl }
named TwoLabels = record { which = 1; there = refl; tells = refl }
named CalleeSaves = record { which = 2; there = refl; tells = refl }

name_lacks : (version : GraphVersion) → lacks 10 (graph_name version) ≡ true
name_lacks OneLabel = refl
name_lacks TwoLabels = refl
name_lacks CalleeSaves = refl

second_lacks : (len : ℕ) → lacks 10 (spaced (second_words (hex_text 8 len))) ≡ true
second_lacks len =
    spaced_line (second_words (hex_text 8 len)) (and_from _ true (hex_plain 8 len) refl)

-- no line of a graph has a newline
all_lack : (len : ℕ) (lines : List GraphLine) → list_all (line_in_range len) lines ≡ true → is_rising key_below (map key_of lines) ≡ true → list_all (lacks 10) (spellings lines ++ [] ∷ []) ≡ true
all_lack len [] range order = refl
all_lack len (Calls numbers ∷ lines) range order =
    let p = and_parts (are_calls numbers) (list_all (line_in_range len) lines) range in
    and_from _ _ (spaced_line (words_of_calls numbers) (calls_plain numbers p.0)) (lines_lack lines (others_after Head lines order))
all_lack len (Leaf from to ∷ lines) range order = lines_lack (Leaf from to ∷ lines) (others_after (Range from to) lines order)
all_lack len (Class sort label targets ∷ lines) range order = lines_lack (Class sort label targets ∷ lines) (others_after (Label label) lines order)
all_lack len (Site address k label ∷ lines) range order = lines_lack (Site address k label ∷ lines) (others_after (Address address) lines order)
all_lack len (Edge from to ∷ lines) range order = lines_lack (Edge from to ∷ lines) (others_after (Address from) lines order)
all_lack len (Call from to ∷ lines) range order = lines_lack (Call from to ∷ lines) (others_after (Address from) lines order)

module _ (graph : GraphParts) (is : IsGraph graph) where
  from_lines_back : if_right (one_named graph_names (graph_lines graph ++ [] ∷ [])) (λ first. after_first (version_at first.0) first.1) ≡ Ok graph
  unfolding one_named graph_lines
  from_lines_back =
      let name = named graph.version in
      rw (name.there, name.tells) (after_first_back graph.version graph.code graph.lines is)

  -- the lines of a graph's text
  lines_back : lines_of (graph_text graph) ≡ graph_lines graph ++ [] ∷ []
  unfolding graph_text graph_lines
  lines_back =
      ap lines_of (sym (join_newlines (graph_lines graph))) ∙ split_join 10 (graph_name graph.version) (spaced (second_words (hex_text 8 graph.code)) ∷ (spellings graph.lines ++ [] ∷ [])) (name_lacks graph.version) (and_from _ _ (second_lacks graph.code) (all_lack graph.code graph.lines is.range is.order))

  pub graph_of-graph_text : graph_of (graph_text graph) ≡ Ok graph
  unfolding graph_of
  graph_of-graph_text =
      ap (λ lines. if_right (one_named graph_names lines) (λ first. after_first (version_at first.0) first.1)) lines_back ∙ from_lines_back
