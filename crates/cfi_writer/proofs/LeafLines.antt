-- The lines of leaves before those of classes, and the places at which leaves begin: just these are told, in their order.
use Rattle.std.proofs.Common.{◌≡◌, ℕ, zero, suc, ◌+◌, ◌<◌, ◌≤◌, inl, inr, Bool, true, false, List, [], ◌∷◌, ◌++◌, map, Some, None, refl, sym, ap, subst, ◌∙◌, arith}
use Rattle.std.specs.Prelude.{if◌then◌else◌, option_and_then, option_map, slice_get}
use Rattle.std.specs.List.{filter, list_all, range_with_len}
use Rattle.std.proofs.lemmas.Bool.{and_from, cases_Bool, cases_eq}
use Rattle.std.proofs.lemmas.Option.{same_Some, slice_get-map}
use Rattle.rv_word.proofs.Cases.{mapped}
use Rattle.cfi_writer.proofs.Prelude.{GraphVersion, OneLabel, TwoLabels, CalleeSaves, count, GraphLine, ClassLine, calls_in, class_in, has_leaves, Entered, is_leaf, leaf_end, ProgramAtMap, entered_in, gate, leaf_lines_by, leaf_lines_from, with_line, word, Leaf, class_with, leaves_in, Choice}
use Rattle.cfi_graph.specs.declared.line.GraphLine.TheVariants as line

-- of so many numbers from one on those that pass a test
module _ (p : ℕ → Bool) where
  abbrev pub passing : ℕ → ℕ → List ℕ
  passing k n = filter p (range_with_len k n)

  passing_by : (b : Bool) (k : ℕ) (rest : List ℕ) → List ℕ
  passing_by b k rest = if b then k ∷ rest else rest

  from_by : (b : Bool) (k i e n : ℕ) (rest : List ℕ) → p k ≡ b → slice_get (passing_by b k rest) i ≡ Some e →
      ((j : ℕ) → slice_get rest j ≡ Some e → (k + 1 ≤ e) × (e < k + 1 + n) × (p e ≡ true)) → (k ≤ e) × (e < k + suc n) × (p e ≡ true)
  unfolding passing_by
  from_by true k zero e n rest is get later =
      let same : k ≡ e = same_Some k e get in
      (omega arith, omega arith, subst (λ (x : ℕ). p x ≡ true) same is)
  from_by true k (suc i) e n rest is get later = let (from, to, test) = later i get in (omega arith, omega arith, test)
  from_by false k i e n rest is get later = let (from, to, test) = later i get in (omega arith, omega arith, test)

  pub passing_from : (k n i e : ℕ) → slice_get (passing k n) i ≡ Some e → (k ≤ e) × (e < k + n) × (p e ≡ true)
  unfolding passing_by
  passing_from k zero i e get = absurd (cc)
  passing_from k (suc n) i e get = from_by (p k) k i e n (passing (k + 1) n) refl get (λ j there. passing_from (k + 1) n j e there)

  pub passing_to : (k n e : ℕ) → k ≤ e → e < k + n → p e ≡ true → (i : ℕ) × (slice_get (passing k n) i ≡ Some e)
  unfolding passing_by
  passing_to k zero e from to test = absurd (omega arith)
  passing_to k (suc n) e from to test =
      elim (cases_eq k e) [
        | inl same ↦
            let here : p k ≡ true = ap p same ∙ test in
            (0, ap (λ (b : Bool). slice_get (passing_by b k (passing (k + 1) n)) 0) here ∙ ap Some same)
        | inr apart ↦
            let (i, get) = passing_to (k + 1) n e (omega arith) (omega arith) test in
            elim (cases_Bool (p k)) [
              | inl here ↦ (suc i, ap (λ (b : Bool). slice_get (passing_by b k (passing (k + 1) n)) (suc i)) here ∙ get)
              | inr other ↦ (i, ap (λ (b : Bool). slice_get (passing_by b k (passing (k + 1) n)) i) other ∙ get)
            ]
      ]

-- the places at which leaves begin; under versions 1 and 2 there is none
abbrev pub leaf_places_by : GraphVersion → Entered → List ℕ
leaf_places_by OneLabel of = []
leaf_places_by TwoLabels of = []
leaf_places_by CalleeSaves of = passing (is_leaf of) 0 (count of.program)

abbrev pub leaf_places : ProgramAtMap → List ℕ
leaf_places layout = leaf_places_by layout.closed.version (entered_in layout)

-- the leaf of each, and all leaves
abbrev pub leaf_at : ProgramAtMap → ℕ → Leaf
leaf_at layout e = record { from = word layout e; to = gate layout (leaf_end (entered_in layout) e) }

abbrev pub leaves_of : Choice → List Leaf
leaves_of m = map (leaf_at m.layout) (leaf_places m.layout)

-- a place at which a leaf begins
pub record IsLeafPlace (layout : ProgramAtMap) (e : ℕ) : Type 0 where
  pub lean : has_leaves layout.closed.version ≡ true
  pub below : e < count layout.program
  pub leaf : is_leaf (entered_in layout) e ≡ true

place_by : (version : GraphVersion) (of : Entered) (i e : ℕ) → slice_get (leaf_places_by version of) i ≡ Some e →
    (has_leaves version ≡ true) × (e < count of.program) × (is_leaf of e ≡ true)
place_by OneLabel of i e get = absurd (cc)
place_by TwoLabels of i e get = absurd (cc)
place_by CalleeSaves of i e get = let (from, to, leaf) = passing_from (is_leaf of) 0 (count of.program) i e get in (refl, omega arith, leaf)

pub leaf_place : (layout : ProgramAtMap) (i e : ℕ) → slice_get (leaf_places layout) i ≡ Some e → IsLeafPlace layout e
leaf_place layout i e get =
    let (lean, below, leaf) = place_by layout.closed.version (entered_in layout) i e get in
    record { lean = lean; below = below; leaf = leaf }

listed_by : (version : GraphVersion) (of : Entered) (e : ℕ) → has_leaves version ≡ true → e < count of.program → is_leaf of e ≡ true →
    (i : ℕ) × (slice_get (leaf_places_by version of) i ≡ Some e)
listed_by OneLabel of e lean below leaf = absurd (cc)
listed_by TwoLabels of e lean below leaf = absurd (cc)
listed_by CalleeSaves of e lean below leaf = passing_to (is_leaf of) 0 (count of.program) e (omega arith) (omega arith) leaf

pub leaf_listed : (layout : ProgramAtMap) (e : ℕ) → IsLeafPlace layout e → (i : ℕ) × (slice_get (leaf_places layout) i ≡ Some e)
leaf_listed layout e is = listed_by layout.closed.version (entered_in layout) e is.lean is.below is.leaf

-- each leaf is that of such a place, and each such place has its leaf among them
pub from_leaf : (m : Choice) (i : ℕ) (leaf : Leaf) → slice_get (leaves_of m) i ≡ Some leaf →
    (e : ℕ) × (slice_get (leaf_places m.layout) i ≡ Some e) × IsLeafPlace m.layout e × (leaf_at m.layout e ≡ leaf)
from_leaf m i leaf get =
    let (e, there, same) = mapped (leaf_at m.layout) (slice_get (leaf_places m.layout) i) leaf (sym (slice_get-map (leaf_at m.layout) (leaf_places m.layout) i) ∙ get) in
    (e, there, leaf_place m.layout i e there, same)

pub to_leaf : (m : Choice) (e : ℕ) → IsLeafPlace m.layout e → (i : ℕ) × (slice_get (leaves_of m) i ≡ Some (leaf_at m.layout e))
to_leaf m e is =
    let (i, there) = leaf_listed m.layout e is in
    (i, slice_get-map (leaf_at m.layout) (leaf_places m.layout) i ∙ ap (option_map (leaf_at m.layout)) there)

-- what holds of the line of each leaf holds of all lines of leaves
all_with : (p : GraphLine → Bool) (b : Bool) (one : GraphLine) (lines : List GraphLine) → (b ≡ true → p one ≡ true) → list_all p lines ≡ true →
    list_all p (with_line (if b then Some one else None) lines) ≡ true
all_with p true one lines is all = and_from (p one) (list_all p lines) (is refl) all
all_with p false one lines is all = all

all_from : (p : GraphLine → Bool) (layout : ProgramAtMap) (k n : ℕ) →
    ((e : ℕ) → e < k + n → is_leaf (entered_in layout) e ≡ true → p (line.Leaf (word layout e) (gate layout (leaf_end (entered_in layout) e))) ≡ true) →
    list_all p (leaf_lines_from layout k n) ≡ true
unfolding leaf_lines_from
all_from p layout k zero each = refl
all_from p layout k (suc n) each =
    all_with p (is_leaf (entered_in layout) k) (line.Leaf (word layout k) (gate layout (leaf_end (entered_in layout) k))) (leaf_lines_from layout (k + 1) n)
    (λ leaf. each k (omega arith) leaf) (all_from p layout (k + 1) n (λ e less leaf. each e (omega arith) leaf))

pub leaf_lines_all : (p : GraphLine → Bool) (layout : ProgramAtMap) (version : GraphVersion) →
    ((e : ℕ) → has_leaves version ≡ true → e < count layout.program → is_leaf (entered_in layout) e ≡ true →
    p (line.Leaf (word layout e) (gate layout (leaf_end (entered_in layout) e))) ≡ true) →
    list_all p (leaf_lines_by version layout) ≡ true
leaf_lines_all p layout OneLabel each = refl
leaf_lines_all p layout TwoLabels each = refl
leaf_lines_all p layout CalleeSaves each = all_from p layout 0 (count layout.program) (λ e less leaf. each e refl (omega arith) leaf)

-- each is a leaf's
abbrev pub is_leaf_line : GraphLine → Bool
is_leaf_line (line.Leaf from to) = true
is_leaf_line other = false

pub leaf_lines_are : (layout : ProgramAtMap) (version : GraphVersion) → list_all is_leaf_line (leaf_lines_by version layout) ≡ true
leaf_lines_are layout version = leaf_lines_all is_leaf_line layout version (λ e lean below leaf. refl)

-- so what is asked of classes is asked behind them
pub behind_leaves_with : (leaves lines : List GraphLine) (label : ℕ) → list_all is_leaf_line leaves ≡ true → class_with (leaves ++ lines) label ≡ class_with lines label
unfolding class_with
behind_leaves_with [] lines label all = refl
behind_leaves_with (line.Leaf from to ∷ leaves) lines label all = behind_leaves_with leaves lines label all
behind_leaves_with (other ∷ leaves) lines label all = absurd (cc)

pub behind_leaves_class : (leaves lines : List GraphLine) (j : ℕ) (class : ClassLine) → list_all is_leaf_line leaves ≡ true →
    option_and_then class_in (slice_get (leaves ++ lines) j) ≡ Some class → (i : ℕ) × (option_and_then class_in (slice_get lines i) ≡ Some class)
behind_leaves_class [] lines j class all e = (j, e)
behind_leaves_class (line.Leaf from to ∷ leaves) lines zero class all e = absurd (cc)
behind_leaves_class (line.Leaf from to ∷ leaves) lines (suc j) class all e = behind_leaves_class leaves lines j class all e
behind_leaves_class (other ∷ leaves) lines j class all e = absurd (cc)

-- and they tell no list of system calls
pub leaves_tell : (leaves lines : List GraphLine) → list_all is_leaf_line leaves ≡ true → calls_in lines ≡ None → calls_in (leaves ++ lines) ≡ None
leaves_tell [] lines all none = none
leaves_tell (line.Leaf from to ∷ leaves) lines all none = refl
leaves_tell (other ∷ leaves) lines all none = absurd (cc)

-- they tell the leaves
tells_with : (layout : ProgramAtMap) (b : Bool) (k : ℕ) (lines : List GraphLine) (places : List ℕ) → leaves_in lines ≡ map (leaf_at layout) places →
    leaves_in (with_line (if b then Some (line.Leaf (word layout k) (gate layout (leaf_end (entered_in layout) k))) else None) lines)
    ≡ map (leaf_at layout) (if b then k ∷ places else places)
unfolding leaves_in
tells_with layout true k lines places rest = ap (λ (ls : List Leaf). leaf_at layout k ∷ ls) rest
tells_with layout false k lines places rest = rest

tells_from : (layout : ProgramAtMap) (k n : ℕ) → leaves_in (leaf_lines_from layout k n) ≡ map (leaf_at layout) (passing (is_leaf (entered_in layout)) k n)
unfolding leaf_lines_from leaves_in
tells_from layout k zero = refl
tells_from layout k (suc n) =
    tells_with layout (is_leaf (entered_in layout) k) k (leaf_lines_from layout (k + 1) n) (passing (is_leaf (entered_in layout)) (k + 1) n) (tells_from layout (k + 1) n)

pub leaf_lines_tell : (layout : ProgramAtMap) (version : GraphVersion) →
    leaves_in (leaf_lines_by version layout) ≡ map (leaf_at layout) (leaf_places_by version (entered_in layout))
unfolding leaves_in
leaf_lines_tell layout OneLabel = refl
leaf_lines_tell layout TwoLabels = refl
leaf_lines_tell layout CalleeSaves = tells_from layout 0 (count layout.program)
