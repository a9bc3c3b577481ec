-- A text as it is written, piece after piece.
use Rattle.std.proofs.Common.{◌≡◌, ℕ, List, [], ◌∷◌, ◌++◌, ◌+◌, ◌<◌, codes, get_or, length, take, map, refl, sym, ◌∙◌, ap, append_assoc}
use Rattle.std.specs.Fmt.{decimal}
use Rattle.std.specs.List.{flat_map}
use Rattle.std.proofs.lemmas.List.{append-nil, take_more}
use Rattle.cfi_graph.specs.declared.line.GraphLine.{GraphLine}
use Rattle.cfi_graph.specs.declared.line.Sort.{Sort}
use Rattle.cfi_graph.specs.Graph.{GraphParts}
use Rattle.text_lines.specs.Hex.{hex_text}
use Rattle.text_lines.specs.Lines.{spaced}
use Rattle.cfi_graph.specs.Text.{class_name, graph_lines, graph_name, graph_text, words_of_calls, words_of_class, words_of_line}

-- words with a space before each but the first
pub spaced_flat : (word : List ℕ) (words : List (List ℕ)) → spaced (word ∷ words) ≡ word ++ flat_map (λ w. 32 ∷ w) words
spaced_flat word [] = sym (append-nil word)
spaced_flat word (next ∷ words) = ap (λ rest. word ++ 32 ∷ rest) (spaced_flat next words)

pub flat_map-map : {X Y : Type 0} (f : Y → List ℕ) (g : X → Y) (xs : List X) → flat_map f (map g xs) ≡ flat_map (λ x. f (g x)) xs
flat_map-map f g [] = refl
flat_map-map f g (x ∷ xs) = ap (λ rest. f (g x) ++ rest) (flat_map-map f g xs)

pub flat_map-append : {X : Type 0} (f : X → List ℕ) (xs ys : List X) → flat_map f (xs ++ ys) ≡ flat_map f xs ++ flat_map f ys
flat_map-append f [] ys = refl
flat_map-append f (x ∷ xs) ys =
    ap (λ rest. f x ++ rest) (flat_map-append f xs ys) ∙ sym (append_assoc (f x) (flat_map f xs) (flat_map f ys))

-- the pieces of the first ones, and then that of the next
pub next_piece : {X : Type 0} (f : X → List ℕ) (xs : List X) (k : ℕ) (x d : X) (out : List ℕ) {before after : List ℕ} → k < length xs → x ≡ get_or xs k d → before ≡ out ++ flat_map f (take k xs) → after ≡ before ++ f x → after ≡ out ++ flat_map f (take (k + 1) xs)
next_piece f xs k x d out {before} low is so more =
    let first = flat_map f (take k xs) in
    let next : take (k + 1) xs ≡ take k xs ++ x ∷ [] = take_more xs k d low ∙ ap (λ y. take k xs ++ y ∷ []) (sym is) in
    let joined : flat_map f (take (k + 1) xs) ≡ first ++ f x = ap (flat_map f) next ∙ flat_map-append f (take k xs) (x ∷ []) ∙ ap (λ ys. first ++ ys) (append-nil (f x)) in
    more ∙ ap (λ ys. ys ++ f x) so ∙ append_assoc out first (f x) ∙ ap (λ ys. out ++ ys) (sym joined)

class_text : (name : List ℕ) (label : ℕ) (targets : List ℕ) → spaced (name ∷ hex_text 5 label ∷ map (hex_text 8) targets) ≡ name ++ (32 ∷ (hex_text 5 label ++ flat_map (λ n. 32 ∷ hex_text 8 n) targets))
class_text name label targets =
    spaced_flat name (hex_text 5 label ∷ map (hex_text 8) targets) ∙ ap (λ rest. name ++ (32 ∷ (hex_text 5 label ++ rest))) (flat_map-map (λ w. 32 ∷ w) (hex_text 8) targets)

pub class_written : (out named labelled : List ℕ) (sort : Sort) (label : ℕ) (targets : List ℕ) → named ≡ out ++ class_name sort → labelled ≡ named ++ 32 ∷ hex_text 5 label → labelled ++ flat_map (λ n. 32 ∷ hex_text 8 n) targets ≡ out ++ spaced (words_of_class sort label targets)
class_written out named labelled sort label targets p q =
    rw (class_text (class_name sort) label targets, q, p) (simp append_assoc)

pub calls_written : (out named : List ℕ) (numbers : List ℕ) → named ≡ out ++ codes "calls" → named ++ flat_map (λ n. 32 ∷ decimal n) numbers ≡ out ++ spaced (words_of_calls numbers)
calls_written out named numbers p =
    let text = flat_map (λ n. 32 ∷ decimal n) numbers in
    let spelled = spaced_flat (codes "calls") (map decimal numbers) ∙ ap (λ rest. codes "calls" ++ rest) (flat_map-map (λ w. 32 ∷ w) decimal numbers) in
    ap (λ xs. xs ++ text) p ∙ append_assoc out (codes "calls") text ∙ ap (λ ys. out ++ ys) (sym spelled)

-- the text of a line, with its newline
abbrev pub line_text : GraphLine → List ℕ
line_text l = spaced (words_of_line l) ++ 10 ∷ []

-- what stands between the first line and the length of the code
abbrev pub second : List ℕ
second = 10 ∷ codes "code 40000000"

pub graph_pieces : (graph : GraphParts) → graph_text graph ≡ graph_name graph.version ++ (second ++ (32 ∷ (hex_text 8 graph.code ++ (10 ∷ (flat_map line_text graph.lines ++ 101 ∷ 110 ∷ 100 ∷ 10 ∷ [])))))
unfolding graph_text graph_lines
graph_pieces graph =
    let newline : List ℕ → List ℕ = λ line. line ++ 10 ∷ [] in
    let spell : GraphLine → List ℕ = λ l. spaced (words_of_line l) in
    let name = graph_name graph.version in
    let code = hex_text 8 graph.code in
    let body : flat_map newline (map spell graph.lines ++ codes "end" ∷ []) ≡ flat_map line_text graph.lines ++ 101 ∷ 110 ∷ 100 ∷ 10 ∷ [] =
    flat_map-append newline (map spell graph.lines) (codes "end" ∷ []) ∙ ap (λ text. text ++ 101 ∷ 110 ∷ 100 ∷ 10 ∷ []) (flat_map-map newline spell graph.lines) in
    append_assoc name (10 ∷ []) _ ∙ ap (λ rest. name ++ (second ++ (32 ∷ rest))) (append_assoc code (10 ∷ []) _ ∙ ap (λ rest. code ++ (10 ∷ rest)) body)

-- the pieces in the order in which they are added
pub graph_written : (graph : GraphParts) {none name first length third fourth fifth : List ℕ} → none ≡ [] → name ≡ none ++ graph_name graph.version → first ≡ name ++ second → length ≡ first ++ 32 ∷ hex_text 8 graph.code → third ≡ length ++ 10 ∷ [] → fourth ≡ third ++ flat_map line_text graph.lines → fifth ≡ fourth ++ 101 ∷ 110 ∷ 100 ∷ 10 ∷ [] → fifth ≡ graph_text graph
graph_written graph z n a b c d e =
    rw (e, d, c, b, a, n, z, graph_pieces graph) (simp append_assoc)
