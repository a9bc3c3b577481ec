-- The lines of a graph's text: the first word of a line is its name, and the rest has one of four
-- forms. A version names its own sorts of classes.
use Rattle.std.specs.Prelude.{ℕ, ◌&&◌, if◌then◌else◌, List, [], ◌∷◌, codes, Option, Some, None, option_map, option_and_then}
use Rattle.std.specs.Str.{bytes_eq}
use Rattle.rv_image.specs.declared.version.GraphVersion.{GraphVersion}
use Rattle.text_lines.specs.Hex.{hex}
use Rattle.cfi_graph.specs.declared.line.GraphLine.{GraphLine}
use Rattle.cfi_graph.specs.declared.line.GraphLine.TheVariants.{Leaf, Class, Site, Edge, Call}
use Rattle.cfi_graph.specs.declared.line.SiteKind.{SiteKind}
use Rattle.cfi_graph.specs.declared.line.SiteKind.TheVariants as kind
use Rattle.cfi_graph.specs.declared.line.Sort.{Sort}
use Rattle.cfi_graph.specs.declared.line.Sort.TheVariants.{Both, Calls, Jumps}
use Rattle.cfi_graph.specs.Graph.{has_leaves, is_sort_of}
use Rattle.cfi_graph.specs.Text.{class_name}

-- the numbers of eight digits that words spell
unfoldable pub addresses_of : List (List ℕ) → Option (List ℕ)
addresses_of [] = Some []
addresses_of (word ∷ rest) =
    option_and_then (λ a. option_map (λ others. a ∷ others) (addresses_of rest)) (hex 8 word)

-- what stands after a class's name: a label, and then addresses
abbrev pub class_of : Sort → List (List ℕ) → Option GraphLine
class_of sort [] = None
class_of sort (label ∷ rest) =
    option_and_then (λ l. option_map (λ targets. Class sort l targets) (addresses_of rest)) (hex 5 label)

-- the sort whose classes have a name
abbrev pub sort_with : List ℕ → Option Sort
sort_with name =
    if bytes_eq name (class_name Both) then Some Both else
    if bytes_eq name (class_name Calls) then Some Calls else
    if bytes_eq name (class_name Jumps) then Some Jumps else None

-- the same, where it is a sort of a version
abbrev pub sort_named : GraphVersion → List ℕ → Option Sort
sort_named version name =
    option_and_then (λ sort. if is_sort_of version sort then Some sort else None) (sort_with name)

abbrev pub kind_of : List ℕ → Option SiteKind
kind_of name =
    if bytes_eq name (codes "call") then Some kind.Call else
    if bytes_eq name (codes "jump") then Some kind.Jump else None

-- the line that an address, a kind and a label spell
abbrev pub site_from : List ℕ → List ℕ → List ℕ → Option GraphLine
site_from address name label =
    option_and_then (λ a. option_and_then (λ k. option_map (λ l. Site a k l) (hex 5 label)) (kind_of name)) (hex 8 address)

-- after `site`: an address, a kind, a label
abbrev pub site_of : List (List ℕ) → Option GraphLine
site_of (address ∷ name ∷ label ∷ []) = site_from address name label
site_of words = None

-- the addresses that two words spell
abbrev pub two_addresses : List ℕ → List ℕ → Option (ℕ × ℕ)
two_addresses from to = option_and_then (λ a. option_map (λ b. (a, b)) (hex 8 to)) (hex 8 from)

-- after `edge`, `call` and `leaf`: two addresses
abbrev pub pair_of : List (List ℕ) → Option (ℕ × ℕ)
pair_of (from ∷ to ∷ []) = two_addresses from to
pair_of words = None

-- a line that is no class's
abbrev pub other_of : GraphVersion → List ℕ → List (List ℕ) → Option GraphLine
other_of version name words =
    if bytes_eq name (codes "site") then site_of words else
    if bytes_eq name (codes "edge") then option_map (λ p. Edge p.0 p.1) (pair_of words) else
    if bytes_eq name (codes "call") then option_map (λ p. Call p.0 p.1) (pair_of words) else
    if bytes_eq name (codes "leaf") && has_leaves version then option_map (λ p. Leaf p.0 p.1) (pair_of words) else None

abbrev pub class_or_other : GraphVersion → Option Sort → List ℕ → List (List ℕ) → Option GraphLine
class_or_other version (Some sort) name words = class_of sort words
class_or_other version None name words = other_of version name words

-- the line of a version that words spell, if they spell one
unfoldable pub line_of : GraphVersion → List (List ℕ) → Option GraphLine
line_of version [] = None
line_of version (name ∷ words) = class_or_other version (sort_named version name) name words

-- the second line gives the length of the code
abbrev pub length_of : List (List ℕ) → Option ℕ
length_of (name ∷ start ∷ len ∷ []) =
    if bytes_eq name (codes "code") && bytes_eq start (codes "40000000") then hex 8 len else None
length_of words = None
