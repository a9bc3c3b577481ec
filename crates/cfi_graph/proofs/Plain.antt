-- The words of a line that is no list of system calls have letters and digits alone.
use Rattle.std.proofs.Common.{◌≡◌, ℕ, Bool, true, false, List, [], ◌∷◌, map, refl}
use Rattle.std.specs.List.{list_all}
use Rattle.std.proofs.lemmas.Bool.{and_from}
use Rattle.cfi_graph.specs.declared.line.GraphLine.{GraphLine}
use Rattle.cfi_graph.specs.declared.line.GraphLine.TheVariants.{Calls, Leaf, Class, Site, Edge, Call}
use Rattle.cfi_graph.specs.declared.line.SiteKind.{SiteKind}
use Rattle.cfi_graph.specs.declared.line.SiteKind.TheVariants as kind
use Rattle.cfi_graph.specs.declared.line.Sort.{Sort}
use Rattle.cfi_graph.specs.declared.line.Sort.TheVariants as sorts
use Rattle.text_lines.specs.Hex.{hex_text}
use Rattle.text_lines.proofs.Written.{hex_plain, plain}
use Rattle.cfi_graph.specs.Text.{class_name, kind_name, words_of_class, words_of_line}

-- a line is a list of system calls
abbrev pub is_list : GraphLine → Bool
is_list (Calls numbers) = true
is_list (Leaf from to) = false
is_list (Class sort label targets) = false
is_list (Site address kind label) = false
is_list (Edge from to) = false
is_list (Call from to) = false

targets_plain : (targets : List ℕ) → list_all plain (map (hex_text 8) targets) ≡ true
targets_plain [] = refl
targets_plain (a ∷ rest) = and_from _ _ (hex_plain 8 a) (targets_plain rest)

pub kind_plain : (k : SiteKind) → plain (kind_name k) ≡ true
kind_plain kind.Call = refl
kind_plain kind.Jump = refl

name_plain : (sort : Sort) → plain (class_name sort) ≡ true
name_plain sorts.Both = refl
name_plain sorts.Calls = refl
name_plain sorts.Jumps = refl

pub class_plain : (sort : Sort) (label : ℕ) (targets : List ℕ) → list_all plain (words_of_class sort label targets) ≡ true
class_plain sort label targets =
    and_from _ _ (name_plain sort) (and_from _ _ (hex_plain 5 label) (targets_plain targets))

pub words_plain : (l : GraphLine) → is_list l ≡ false → list_all plain (words_of_line l) ≡ true
words_plain (Calls numbers) other = absurd cc
words_plain (Leaf from to) other = and_from _ _ (hex_plain 8 from) (and_from _ true (hex_plain 8 to) refl)
words_plain (Class sort label targets) other = class_plain sort label targets
words_plain (Site a k label) other =
    and_from _ _ (hex_plain 8 a) (and_from _ _ (kind_plain k) (and_from _ true (hex_plain 5 label) refl))
words_plain (Edge from to) other = and_from _ _ (hex_plain 8 from) (and_from _ true (hex_plain 8 to) refl)
words_plain (Call from to) other = and_from _ _ (hex_plain 8 from) (and_from _ true (hex_plain 8 to) refl)
