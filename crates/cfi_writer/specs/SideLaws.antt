-- How the lines of classes go with the words before places, whatever sides there are: labels are given side by side, and each side has
-- a word of its own before a target's unit.
use Rattle.std.specs.Prelude.{◌≡◌, ℕ, zero, suc, ◌*◌, ◌<◌, true, List, [], Some, length, map, option_and_then, slice_get, slice_index, slice_index_or}
use Rattle.std.specs.List.Sorted.{IsStrictlyIncreasing}
use Rattle.rv_image.specs.declared.version.GraphVersion.{GraphVersion}
use Rattle.rv_image.specs.declared.version.GraphVersion.TheVariants.{CalleeSaves}
use Rattle.cfi_class.specs.Classes.{IsIn}
use Rattle.cfi_graph.specs.Graph.{ClassLine, class_in}
use Rattle.cfi_graph.specs.declared.line.SiteKind.{SiteKind}
use Rattle.cfi_graph.specs.declared.line.SiteKind.TheVariants as kinds
use Rattle.cfi_closed.specs.declared.side.Site.{Site}
use Rattle.cfi_closed.specs.Closed.{Side, sorts_of, is_target}
use Rattle.cfi_map.specs.GraphAtMap.{class_lines}
use Rattle.cfi_map.specs.LabelOf.{all_classes, labels_of, site_label, site_number, tagged}
use Rattle.cfi_unit.specs.declared.target_word.TargetWord.{TargetWord}
use Rattle.cfi_unit.specs.UnitWords.{past}
use Rattle.cfi_rules.specs.Lines.{call_word, class_with, is_among, jump_word, read_of, targets_for}
use Rattle.cfi_writer.specs.Accepted.{IsSiteOf}

-- the word that the check of a computed transfer of a kind reads
abbrev pub word_asked : GraphVersion → SiteKind → TargetWord
word_asked version kinds.Call = call_word version
word_asked version kinds.Jump = jump_word version

-- which word before a target's unit is that of the side with this index: under version 3 jumps have the first one, and calls the third
abbrev pub word_of_side : GraphVersion → ℕ → ℕ
word_of_side CalleeSaves zero = 2
word_of_side CalleeSaves (suc j) = 0
word_of_side version j = j

-- labels of the classes of the sides for a version of graphs
pub record AreLabelled (version : GraphVersion) (labels : List ℕ) (sides : List Side) : Type 0 where
  pub sorts : map (λ (s : Side). s.sort) sides ≡ sorts_of version
  pub counted : length labels ≡ length (tagged sides)
  pub rising : IsStrictlyIncreasing labels
  pub apart : (j a b k : ℕ) (side : Side) → slice_get sides j ≡ Some side → IsIn side.classes a k → IsIn side.classes b k → a ≡ b
  pub site_classes : (j i c : ℕ) (side : Side) (site : Site) → slice_get sides j ≡ Some side → slice_get side.sites i ≡ Some site →
      site.class ≡ Some c → c < length side.classes

-- a place whose word of a side bears the label of a class that has its gate
pub record IsBorne (version : GraphVersion) (gates labels : List ℕ) (sides : List Side) (a : ℕ) (c : ClassLine) : Type 0 where
  pub place : ℕ
  pub index : ℕ
  pub side : Side
  pub there : slice_get sides index ≡ Some side
  pub class : ℕ
  pub inside : IsIn side.classes class place
  pub gate_is : slice_index gates place ≡ a
  pub target : is_target sides place ≡ true
  pub word : past (read_of version c.sort) ≡ 4 * word_of_side version index
  pub label : slice_get (labels_of labels sides place) index ≡ Some (Some c.label)

-- each target of a class bears its label, at the word that its checks read
abbrev pub TargetsBear : Type 0
TargetsBear =
    (version : GraphVersion) (gates labels : List ℕ) (sides : List Side) → AreLabelled version labels sides → (n a : ℕ) (c : ClassLine) →
    option_and_then class_in (slice_get (class_lines gates labels (tagged sides)) n) ≡ Some c → is_among a c.targets ≡ true →
    IsBorne version gates labels sides a c

-- each place that bears a class's label is one of its targets
abbrev pub GatesListed : Type 0
GatesListed =
    (version : GraphVersion) (gates labels : List ℕ) (sides : List Side) → AreLabelled version labels sides → (k j label : ℕ) (c : ClassLine) →
    slice_get (labels_of labels sides k) j ≡ Some (Some label) → class_with (class_lines gates labels (tagged sides)) label ≡ Some c →
    (past (read_of version c.sort) ≡ 4 * word_of_side version j) × (is_among (slice_index gates k) c.targets ≡ true)

-- each site is served by the class whose label it asks for
abbrev pub SitesServed : Type 0
SitesServed =
    (version : GraphVersion) (gates labels : List ℕ) (sides : List Side) → AreLabelled version labels sides → (k : ℕ) (kind : SiteKind) (at : IsSiteOf sides k kind) →
    targets_for (class_lines gates labels (tagged sides)) kind (word_asked version kind) (site_label labels sides k)
    ≡ Some (map (slice_index gates) (slice_index_or (all_classes at.side) (site_number at.side.sites (length at.side.classes) k) []))
