-- A graph of control flow: its version, the length of the code that it is of, and its lines. The rules
-- here say which lines a version has, which numbers a line may have and in which order lines stand.
use Rattle.std.specs.Prelude.{ℕ, ◌+◌, ◌%◌, ◌^◌, ◌==◌, nat_lt, nat_le, Bool, true, false, ◌&&◌, IsTrue, List, [], ◌∷◌, length, Option, Some, None, is_some, map}
use Rattle.std.specs.List.{list_all}
use Rattle.rv_image.specs.MemoryMap.{CODE_START, CODE_SIZE}
use Rattle.rv_word.specs.Numbers.{MOST_NUMBERS}
use Rattle.rv_image.specs.declared.version.GraphVersion.{GraphVersion}
use Rattle.rv_image.specs.declared.version.GraphVersion.TheVariants.{OneLabel, TwoLabels, CalleeSaves}
use Rattle.cfi_graph.specs.declared.line.GraphLine.{GraphLine}
use Rattle.cfi_graph.specs.declared.line.GraphLine.TheVariants.{Calls, Leaf, Class, Site, Edge, Call}
use Rattle.cfi_graph.specs.declared.line.Sort.{Sort}
use Rattle.cfi_graph.specs.declared.line.Sort.TheVariants as sorts
use Rattle.cfi_graph.specs.declared.line.Key.{Key}
use Rattle.cfi_graph.specs.declared.line.Key.TheVariants.{Head, Range, Label, Address}

pub record GraphParts : Type 0 where
  pub version : GraphVersion
  pub code : ℕ
  pub lines : List GraphLine

-- A class: which computed transfers it serves, its label, and the addresses of its targets
pub record ClassLine : Type 0 where
  pub sort : Sort
  pub label : ℕ
  pub targets : List ℕ

-- the class of a line, where it is a class's
abbrev pub class_in : GraphLine → Option ClassLine
class_in (Calls numbers) = None
class_in (Leaf from to) = None
class_in (Class sort label targets) = Some (record { sort = sort; label = label; targets = targets })
class_in (Site address kind label) = None
class_in (Edge from to) = None
class_in (Call from to) = None

-- the numbers of the system calls that the program may make: those of the first line, where it is a list of them
abbrev pub calls_in : List GraphLine → Option (List ℕ)
calls_in [] = None
calls_in (Calls numbers ∷ lines) = Some numbers
calls_in (Leaf from to ∷ lines) = None
calls_in (Class sort label targets ∷ lines) = None
calls_in (Site address kind label ∷ lines) = None
calls_in (Edge from to ∷ lines) = None
calls_in (Call from to ∷ lines) = None

-- Versions. The classes of version 1 serve computed calls and jumps alike; those of versions 2 and 3 serve either
abbrev pub is_sort_of : GraphVersion → Sort → Bool
is_sort_of OneLabel sorts.Both = true
is_sort_of OneLabel sorts.Calls = false
is_sort_of OneLabel sorts.Jumps = false
is_sort_of TwoLabels sorts.Both = false
is_sort_of TwoLabels sorts.Calls = true
is_sort_of TwoLabels sorts.Jumps = true
is_sort_of CalleeSaves sorts.Both = false
is_sort_of CalleeSaves sorts.Calls = true
is_sort_of CalleeSaves sorts.Jumps = true

-- graphs of version 3 have lines of leaves
abbrev pub has_leaves : GraphVersion → Bool
has_leaves OneLabel = false
has_leaves TwoLabels = false
has_leaves CalleeSaves = true

-- a line may stand in a graph of a version
abbrev pub fits_version : GraphVersion → GraphLine → Bool
fits_version version (Calls numbers) = true
fits_version version (Leaf from to) = has_leaves version
fits_version version (Class sort label targets) = is_sort_of version sort
fits_version version (Site address kind label) = true
fits_version version (Edge from to) = true
fits_version version (Call from to) = true

-- Range. A length of code is a multiple of 4 bytes, one word at least, and no more than the region holds
abbrev pub is_code_length : ℕ → Bool
is_code_length len = len % 4 == 0 && nat_le 4 len && nat_le len CODE_SIZE

-- a label is not 0, and five hexadecimal digits hold it
abbrev pub is_label : ℕ → Bool
is_label label = nat_lt 0 label && nat_lt label (2 ^ 20)

-- an address is a multiple of 4 in the code
abbrev pub is_code_address : ℕ → ℕ → Bool
is_code_address len address = address % 4 == 0 && nat_le CODE_START address && nat_lt address (CODE_START + len)

-- an end is such an address, or that where the code ends
abbrev pub is_code_end : ℕ → ℕ → Bool
is_code_end len address = address % 4 == 0 && nat_le CODE_START address && nat_le address (CODE_START + len)

abbrev pub class_in_range : ℕ → ℕ → List ℕ → Bool
class_in_range len label targets = is_label label && list_all (is_code_address len) targets

-- a list of system calls has 1 to 8 numbers, each below 2^11
abbrev pub are_calls : List ℕ → Bool
are_calls numbers =
    nat_lt 0 (length numbers) && nat_le (length numbers) MOST_NUMBERS && list_all (λ n. nat_lt n (2 ^ 11)) numbers

abbrev pub line_in_range : ℕ → GraphLine → Bool
line_in_range len (Calls numbers) = are_calls numbers
line_in_range len (Leaf from to) = is_code_address len from && is_code_end len to
line_in_range len (Class sort label targets) = class_in_range len label targets
line_in_range len (Site address kind label) = is_code_address len address && is_label label
line_in_range len (Edge from to) = is_code_address len from && is_code_address len to
line_in_range len (Call from to) = is_code_address len from && is_code_address len to

-- Order. Each member of a list is below the next
abbrev pub is_rising : {A : Type 0} → (A → A → Bool) → List A → Bool
is_rising below [] = true
is_rising below (x ∷ []) = true
is_rising below (x ∷ y ∷ rest) = below x y && is_rising below (y ∷ rest)

-- the list of system calls stands first; a leaf is ordered by its range, a class by its label, any other line by its
-- first address
abbrev pub key_of : GraphLine → Key
key_of (Calls numbers) = Head
key_of (Leaf from to) = Range from to
key_of (Class sort label targets) = Label label
key_of (Site address kind label) = Address address
key_of (Edge from to) = Address from
key_of (Call from to) = Address from

-- one list at most, before all lines; then ranges, each from the end of the one before or past it; then classes, whose
-- labels rise; then other lines, whose first addresses rise
abbrev pub key_below : Key → Key → Bool
key_below Head Head = false
key_below Head (Range c d) = true
key_below Head (Label l) = true
key_below Head (Address b) = true
key_below (Range a b) Head = false
key_below (Range a b) (Range c d) = nat_le b c && nat_lt c d
key_below (Range a b) (Label l) = true
key_below (Range a b) (Address c) = true
key_below (Label k) Head = false
key_below (Label k) (Range c d) = false
key_below (Address a) Head = false
key_below (Address a) (Range c d) = false
key_below (Label k) (Label l) = nat_lt k l
key_below (Label k) (Address a) = true
key_below (Address a) (Label l) = false
key_below (Address a) (Address b) = nat_lt a b

-- the addresses of a class rise, and so do the numbers of system calls; a leaf ends past where it begins
abbrev pub targets_rise : GraphLine → Bool
targets_rise (Calls numbers) = is_rising nat_lt numbers
targets_rise (Leaf from to) = nat_lt from to
targets_rise (Class sort label targets) = is_rising nat_lt targets
targets_rise (Site address kind label) = true
targets_rise (Edge from to) = true
targets_rise (Call from to) = true

-- the parts that a graph may have
pub record IsGraph (graph : GraphParts) : Type 0 where
  pub sorts : IsTrue (list_all (fits_version graph.version) graph.lines)
  pub length : IsTrue (is_code_length graph.code)
  pub range : IsTrue (list_all (line_in_range graph.code) graph.lines)
  pub targets : IsTrue (list_all targets_rise graph.lines)
  pub order : IsTrue (is_rising key_below (map key_of graph.lines))

-- what a line is a line of
abbrev pub is_class : GraphLine → Bool
is_class line = is_some (class_in line)

abbrev pub is_site : GraphLine → Bool
is_site (Calls numbers) = false
is_site (Leaf from to) = false
is_site (Class sort label targets) = false
is_site (Site address kind label) = true
is_site (Edge from to) = false
is_site (Call from to) = false
