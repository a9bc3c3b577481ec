-- A line whose words stand at fixed places, with a space between each two, has these words; and what a
-- newline after such a line leaves of a text.
use Rattle.std.proofs.Common.{◌≡◌, ℕ, ◌+◌, ◌<◌, true, false, List, [], ◌∷◌, ◌++◌, length, take, drop, get_or, codes, Option, Some, None, refl, sym, ◌∙◌, ap, arith}
use Rattle.std.specs.Prelude.{IfSome}
use Rattle.std.specs.Str.{bytes_eq}
use Rattle.std.proofs.lemmas.Bool.{and_from}
use Rattle.std.proofs.lemmas.List.{drop-drop, drop_more, take-append-drop}
use Rattle.std.proofs.lemmas.Slice.Eq.{bytes_eq-Decides}
use Rattle.rv_image.specs.declared.version.GraphVersion.{GraphVersion}
use Rattle.cfi_graph.specs.declared.line.GraphLine.{GraphLine}
use Rattle.cfi_graph.specs.declared.line.GraphLine.TheVariants.{Calls, Leaf, Class, Site, Edge, Call}
use Rattle.text_lines.specs.Hex.{hex}
use Rattle.text_lines.specs.Lines.{lines_of, words_of}
use Rattle.text_lines.specs.Reading.{FirstLine}
use Rattle.text_lines.proofs.Accepts.{not_end}
use Rattle.text_lines.proofs.Numbers.{hex_spelled}
use Rattle.text_lines.proofs.Options.{and_then, mapped}
use Rattle.text_lines.proofs.Written.{hex_plain, lacks, plain, spaced_line, split_first, words_back}
use Rattle.cfi_graph.specs.Lines.{kind_of, line_of, site_from}
use Rattle.cfi_graph.specs.Reading.{graph_rules}
use Rattle.cfi_graph.specs.Text.{words_of_line}
use Rattle.cfi_graph.proofs.Plain.{is_list, kind_plain, words_plain}
use Rattle.cfi_graph.proofs.Spelled.{kind_spelled, line_spelled, no_end, words_spelled}

pub number_plain : (count : ℕ) (word : List ℕ) (a : ℕ) → hex count word ≡ Some a → plain word ≡ true
number_plain count word a e = ap plain (hex_spelled count word a e) ∙ hex_plain count a

three_words : (name from to : List ℕ) (a b : ℕ) → plain name ≡ true → hex 8 from ≡ Some a → hex 8 to ≡ Some b → words_of (name ++ 32 ∷ (from ++ 32 ∷ to)) ≡ name ∷ from ∷ to ∷ []
three_words name from to a b n p q =
    words_back name (from ∷ to ∷ []) (and_from _ _ n (and_from _ _ (number_plain 8 from a p) (and_from _ true (number_plain 8 to b q) refl)))

edge_words : (version : GraphVersion) (name from to : List ℕ) (a b : ℕ) → name ≡ codes "edge" → hex 8 from ≡ Some a → hex 8 to ≡ Some b → line_of version (words_of (name ++ 32 ∷ (from ++ 32 ∷ to))) ≡ Some (Edge a b)
unfolding line_of
edge_words version name from to a b n p q =
    ap (line_of version) (three_words name from to a b (ap plain n) p q) ∙ rw (n, p, q) refl

call_words : (version : GraphVersion) (name from to : List ℕ) (a b : ℕ) → name ≡ codes "call" → hex 8 from ≡ Some a → hex 8 to ≡ Some b → line_of version (words_of (name ++ 32 ∷ (from ++ 32 ∷ to))) ≡ Some (Call a b)
unfolding line_of
call_words version name from to a b n p q =
    ap (line_of version) (three_words name from to a b (ap plain n) p q) ∙ rw (n, p, q) refl

site_words : (version : GraphVersion) (name address sort label : List ℕ) (l : GraphLine) → name ≡ codes "site" → site_from address sort label ≡ Some l → line_of version (words_of (name ++ 32 ∷ (address ++ 32 ∷ (sort ++ 32 ∷ label)))) ≡ Some l
unfolding line_of
site_words version name address sort label l n e =
    and_then _ (hex 8 address) l e (λ a first others.
    and_then _ (kind_of sort) l others (λ k second last.
    mapped (λ m. Site a k m) (hex 5 label) l last (λ m third whole.
    let plains = and_from _ _ (ap plain n) (and_from _ _ (number_plain 8 address a first) (and_from _ _ (ap plain (kind_spelled sort k second) ∙ kind_plain k) (and_from _ true (number_plain 5 label m third) refl))) in
    ap (line_of version) (words_back name (address ∷ sort ∷ label ∷ []) plains) ∙ rw n e)))

-- a word, the space behind it, and what stands after that
pub word_then : (line : List ℕ) (start size : ℕ) → start + size < length line → get_or line (start + size) 0 ≡ 32 → drop start line ≡ take size (drop start line) ++ 32 ∷ drop (start + size + 1) line
word_then line start size h space =
    sym (take-append-drop size (drop start line)) ∙ ap (λ xs. take size (drop start line) ++ xs) (drop-drop size start line ∙ drop_more line (start + size) 0 h ∙ ap (λ b. b ∷ drop (start + size + 1) line) space)

-- a line of a name of four letters and two addresses
module _ (line : List ℕ) (size : length line ≡ 22) (first : get_or line 4 0 ≡ 32) (second : get_or line 13 0 ≡ 32) where
  pair_parts : line ≡ take 4 line ++ 32 ∷ (take 8 (drop 5 line) ++ 32 ∷ drop 14 line)
  pair_parts =
      word_then line 0 4 (omega arith) first ∙ ap (λ xs. take 4 line ++ 32 ∷ xs) (word_then line 5 8 (omega arith) second)

  pub edge_line : (version : GraphVersion) (a b : ℕ) → bytes_eq (take 4 line) (codes "edge") ≡ true → hex 8 (take 8 (drop 5 line)) ≡ Some a → hex 8 (drop 14 line) ≡ Some b → line_of version (words_of line) ≡ Some (Edge a b)
  edge_line version a b n p q =
      ap (λ xs. line_of version (words_of xs)) pair_parts ∙ edge_words version (take 4 line) _ _ a b ((bytes_eq-Decides (take 4 line) (codes "edge")).0 n) p q

  pub call_line : (version : GraphVersion) (a b : ℕ) → bytes_eq (take 4 line) (codes "call") ≡ true → hex 8 (take 8 (drop 5 line)) ≡ Some a → hex 8 (drop 14 line) ≡ Some b → line_of version (words_of line) ≡ Some (Call a b)
  call_line version a b n p q =
      ap (λ xs. line_of version (words_of xs)) pair_parts ∙ call_words version (take 4 line) _ _ a b ((bytes_eq-Decides (take 4 line) (codes "call")).0 n) p q

-- a line of a name of four letters, an address, another such name and a label
module _ (line : List ℕ) (size : length line ≡ 24) (first : get_or line 4 0 ≡ 32) (second : get_or line 13 0 ≡ 32) (third : get_or line 18 0 ≡ 32) where
  site_parts : line ≡ take 4 line ++ 32 ∷ (take 8 (drop 5 line) ++ 32 ∷ (take 4 (drop 14 line) ++ 32 ∷ drop 19 line))
  site_parts =
      word_then line 0 4 (omega arith) first ∙ ap (λ xs. take 4 line ++ 32 ∷ xs) (word_then line 5 8 (omega arith) second ∙ ap (λ xs. take 8 (drop 5 line) ++ 32 ∷ xs) (word_then line 14 4 (omega arith) third))

  pub site_line : (found : Option GraphLine) → bytes_eq (take 4 line) (codes "site") ≡ true → found ≡ site_from (take 8 (drop 5 line)) (take 4 (drop 14 line)) (drop 19 line) → IfSome found (λ l. (version : GraphVersion) → line_of version (words_of line) ≡ Some l)
  site_line None n e = tt
  site_line (Some l) n e = λ version.
      ap (λ xs. line_of version (words_of xs)) site_parts ∙ site_words version (take 4 line) _ _ _ l ((bytes_eq-Decides (take 4 line) (codes "site")).0 n) (sym e)

-- no line that words spell is a list of system calls
not_list : (version : GraphVersion) (words : List (List ℕ)) (l : GraphLine) → line_of version words ≡ Some l → is_list l ≡ false
unfolding line_of
not_list version words (Calls numbers) e = absurd (cc (sym (ap (line_of version) (words_spelled version words (Calls numbers) e)) ∙ e))
not_list version words (Leaf from to) e = refl
not_list version words (Class sort label targets) e = refl
not_list version words (Site address k label) e = refl
not_list version words (Edge from to) e = refl
not_list version words (Call from to) e = refl

-- what stands before a newline, and spells a line, is a text's first line
pub spelled_first : (version : GraphVersion) (len : ℕ) {text rest : List ℕ} (line : List ℕ) (l : GraphLine) → text ≡ line ++ 10 ∷ rest → line_of version (words_of line) ≡ Some l → FirstLine (graph_rules version len) text l rest
spelled_first version len {rest} line l is e =
    let plains = words_plain l (not_list version (words_of line) l e) in
    let none : lacks 10 line ≡ true = ap (lacks 10) (line_spelled version line l e) ∙ spaced_line (words_of_line l) plains in
    record {
      bytes = line;
      first = ap lines_of is ∙ split_first 10 line rest none;
      spells = e;
      goes_on = not_end (graph_rules version len) (no_end version) line l e;
    }
