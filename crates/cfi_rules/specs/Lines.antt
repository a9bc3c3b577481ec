-- What a graph says of an address and of a label.
use Rattle.std.specs.Prelude.{ℕ, ◌-◌, ◌==◌, ◌&&◌, ◌||◌, nat_le, not, Bool, true, false, List, [], ◌∷◌, Option, Some, None, option_and_then, find, if◌then◌else◌}
use Rattle.rv_image.specs.declared.version.GraphVersion.{GraphVersion}
use Rattle.rv_image.specs.declared.version.GraphVersion.TheVariants.{OneLabel, TwoLabels, CalleeSaves}
use Rattle.cfi_graph.specs.declared.line.GraphLine.{GraphLine}
use Rattle.cfi_graph.specs.declared.line.GraphLine.TheVariants.{Leaf, Site, Edge, Call}
use Rattle.cfi_graph.specs.declared.line.SiteKind.{SiteKind}
use Rattle.cfi_graph.specs.declared.line.SiteKind.TheVariants as K
use Rattle.cfi_graph.specs.declared.line.Sort.{Sort}
use Rattle.cfi_graph.specs.declared.line.Sort.TheVariants.{Both, Calls, Jumps}
use Rattle.cfi_graph.specs.declared.line.Key.{Key}
use Rattle.cfi_graph.specs.declared.line.Key.TheVariants.{Head, Range, Label, Address}
use Rattle.cfi_graph.specs.Graph.{ClassLine, class_in, key_of}
use Rattle.cfi_unit.specs.declared.target_word.TargetWord.{TargetWord}
use Rattle.cfi_unit.specs.declared.target_word.TargetWord.TheVariants.{First, Second, Third}
use Rattle.cfi_pending.specs.Kinds as kinds

-- a test of a value that is there
abbrev pub holds_of : {A : Type 0} → Option A → (A → Bool) → Bool
holds_of None test = false
holds_of (Some x) test = test x

-- a line stands at an address: its first one, where it is a site, an edge or a call
abbrev pub stands_at : ℕ → GraphLine → Bool
stands_at a (Site address kind label) = address == a
stands_at a (Edge from to) = from == a
stands_at a (Call from to) = from == a
stands_at a other = false

-- the line at an address
unfoldable pub line_at : List GraphLine → ℕ → Option GraphLine
line_at [] a = None
line_at (line ∷ lines) a = if stands_at a line then Some line else line_at lines a

-- the class with a label: this one, or one of later lines
abbrev pub or_class : ℕ → Option ClassLine → Option ClassLine → Option ClassLine
or_class l None rest = rest
or_class l (Some class) rest = if class.label == l then Some class else rest

unfoldable pub class_with : List GraphLine → ℕ → Option ClassLine
class_with [] l = None
class_with (line ∷ lines) l = or_class l (class_in line) (class_with lines l)

-- an address is among some addresses
abbrev pub is_among : ℕ → List ℕ → Bool
is_among a [] = false
is_among a (x ∷ xs) = (x == a) || is_among a xs

-- which word of its destination the check of a computed call reads, and of a computed jump, in code whose graph has
-- this version: so that word of each of its targets bears a class's label
abbrev pub call_word : GraphVersion → TargetWord
call_word OneLabel = First
call_word TwoLabels = First
call_word CalleeSaves = Third

abbrev pub jump_word : GraphVersion → TargetWord
jump_word OneLabel = First
jump_word TwoLabels = Second
jump_word CalleeSaves = First

abbrev pub read_of : GraphVersion → Sort → TargetWord
read_of version Both = First
read_of version Calls = call_word version
read_of version Jumps = jump_word version

-- a class serves computed transfers of this kind whose checks read this word
abbrev pub serves : Sort → SiteKind → TargetWord → Bool
serves Both kind First = true
serves Calls K.Call First = true
serves Calls K.Call Third = true
serves Jumps K.Jump First = true
serves Jumps K.Jump Second = true
serves sort kind which = false

abbrev pub if_serves : SiteKind → TargetWord → ClassLine → Option (List ℕ)
if_serves kind which class = if serves class.sort kind which then Some class.targets else None

-- the targets of the class with a label, for a computed transfer that it serves
unfoldable pub targets_for : List GraphLine → SiteKind → TargetWord → ℕ → Option (List ℕ)
targets_for lines kind which l = option_and_then (if_serves kind which) (class_with lines l)

-- at an address stands this word of one of some targets
abbrev pub is_word_of : TargetWord → ℕ → List ℕ → Bool
is_word_of First a targets = is_among a targets
is_word_of Second a targets = nat_le 4 a && is_among (a - 4) targets
is_word_of Third a targets = nat_le 8 a && is_among (a - 8) targets

-- at an address stands no word of a target that is to bear the class's label
abbrev pub is_beside : GraphVersion → ClassLine → ℕ → Bool
is_beside version class a = not (is_word_of (read_of version class.sort) a class.targets)

-- two keys are the same
abbrev pub same_key : Key → Key → Bool
same_key Head Head = true
same_key (Range a b) (Range c d) = a == c && b == d
same_key (Label k) (Label l) = k == l
same_key (Address a) (Address b) = a == b
same_key key other = false

-- a key is a leaf's range
abbrev pub is_range : Key → Bool
is_range (Range a b) = true
is_range key = false

-- the line with a key
unfoldable pub line_with : List GraphLine → Key → Option GraphLine
line_with lines key = find (λ line. same_key (key_of line) key) lines

-- a label is a class's, and at an address stands no word of its targets that is to bear it
abbrev pub is_outside : GraphVersion → List GraphLine → ℕ → ℕ → Bool
is_outside version lines label a = holds_of (class_with lines label) (λ class. is_beside version class a)

-- the functions that call nothing, of which a graph tells
unfoldable pub leaves_in : List GraphLine → List kinds.Leaf
leaves_in [] = []
leaves_in (Leaf from to ∷ lines) = record { from = from; to = to } ∷ leaves_in lines
leaves_in (other ∷ lines) = leaves_in lines
