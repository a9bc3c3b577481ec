-- The lines of placed units: which stands at an address, and that none of them is a class's or the list of
-- system calls.
use Rattle.std.proofs.Common.{◌≡◌, ℕ, suc, ◌+◌, ◌*◌, ◌<◌, ◌==◌, length, inl, inr, true, false, List, [], ◌∷◌, ◌++◌, refl, sym, ap, subst, ◌∙◌, Some, None, arith}
use Rattle.std.specs.Prelude.{Option, IsTrue, nat_le, nat_lt, ◌&&◌, ◌||◌, option_and_then, slice_get, not, if◌then◌else◌}
use Rattle.std.specs.List.{list_all, list_any}
use Rattle.std.proofs.lemmas.Bool.{and_left, and_parts, and_right, cases_Bool, cases_eq, eq-eqb, lt-leb, ne_eqb, or_from}
use Rattle.rv_image.specs.declared.version.GraphVersion.{GraphVersion}
use Rattle.rv_image.specs.MemoryMap.{CODE_START, Profile}
use Rattle.cfi_graph.specs.declared.line.GraphLine.{GraphLine}
use Rattle.cfi_graph.specs.declared.line.GraphLine.TheVariants.{Calls, Leaf, Class, Site, Edge, Call}
use Rattle.cfi_graph.specs.Graph.{ClassLine, calls_in, class_in}
use Rattle.cfi_unit.specs.declared.unit.Unit as U
use Rattle.cfi_unit.specs.declared.place.Place.TheVariants.{Body as body}
use Rattle.cfi_unit.specs.UnitWords.{word_count}
use Rattle.cfi_pending.specs.Kinds as kinds
use Rattle.cfi_pending.specs.Kinds.{in_leaf, leaf_of}
use Rattle.cfi_rules.specs.Lines.{class_with, holds_of, is_among, leaves_in, line_at, or_class, read_of, stands_at}
use Rattle.cfi_rules.specs.Placed.{is_head, line_by, line_of, lines_from, with_line}
use Rattle.cfi_rules.specs.Rules.{Signs, call_of, edge_of, is_borne, lacks_end, lacks_gate, site_of}
use Rattle.cfi_rules.specs.declared.asks.Asks.{Asks}
use Rattle.cfi_rules.specs.Split.{is_start, unit_in}
use Rattle.cfi_unit.proofs.Counts.{some_word}
use Rattle.cfi_rules.proofs.UnitIn.{in_here, in_later, in_none}

-- a line that a unit may have, with the address of the unit
line_here : (at : ℕ) (edge call : Option ℕ) (site : Option Asks) (rest : List GraphLine) → line_at rest at ≡ None →
    line_at (with_line (line_by at edge call site) rest) at ≡ line_by at edge call site
unfolding line_at
line_here at (Some target) call site rest none = rw (eq-eqb at at refl) refl
line_here at None (Some target) site rest none = rw (eq-eqb at at refl) refl
line_here at None None (Some asked) rest none = rw (eq-eqb at at refl) refl
line_here at None None None rest none = none

line_later : (at a : ℕ) (edge call : Option ℕ) (site : Option Asks) (rest : List GraphLine) → (at == a) ≡ false →
    line_at (with_line (line_by at edge call site) rest) a ≡ line_at rest a
unfolding line_at
line_later at a (Some target) call site rest other = rw other refl
line_later at a None (Some target) site rest other = rw other refl
line_later at a None None (Some asked) rest other = rw other refl
line_later at a None None None rest other = refl

-- the line at an address is that of the unit that starts there
pub line_in : (us : List U.Unit) (at a : ℕ) → line_at (lines_from at us) a ≡ option_and_then (line_of a) (unit_in us at a)
unfolding line_at lines_from unit_in
line_in [] at a = refl
line_in (u ∷ us) at a =
    let some = some_word u in
    let rest : List GraphLine = lines_from (at + 4 * word_count u) us in
    elim (cases_eq a at) [
      | inl here ↦
          let none : line_at rest at ≡ None =
          line_in us (at + 4 * word_count u) at ∙ ap (option_and_then (line_of at)) (in_none us (at + 4 * word_count u) at (omega arith)) in
          subst (λ (b : ℕ). line_at (lines_from at (u ∷ us)) b ≡ option_and_then (line_of b) (unit_in (u ∷ us) at b)) (sym here)
          (line_here at (edge_of (body u)) (call_of (body u)) (site_of (body u)) rest none ∙ sym (ap (option_and_then (line_of at)) (in_here u us at)))
      | inr other ↦
          line_later at a (edge_of (body u)) (call_of (body u)) (site_of (body u)) rest (ne_eqb at a (λ e. other (sym e)))
          ∙ line_in us (at + 4 * word_count u) a
          ∙ sym (ap (option_and_then (line_of a)) (in_later u us at a other))
    ]

-- heads stand at no address
head_stands : (line : GraphLine) (a : ℕ) → is_head line ≡ true → stands_at a line ≡ false
head_stands (Calls numbers) a head = refl
head_stands (Leaf from to) a head = refl
head_stands (Class sort label targets) a head = refl
head_stands (Site address kind label) a head = absurd (cc)
head_stands (Edge from to) a head = absurd (cc)
head_stands (Call from to) a head = absurd (cc)

pub line_past : (heads rest : List GraphLine) (a : ℕ) → IsTrue (list_all is_head heads) → line_at (heads ++ rest) a ≡ line_at rest a
unfolding line_at
line_past [] rest a all = refl
line_past (line ∷ heads) rest a all =
    let parts = and_parts (is_head line) (list_all is_head heads) all in
    ap (λ b. if b then Some line else line_at (heads ++ rest) a) (head_stands line a parts.0) ∙ line_past heads rest a parts.1

-- a list of system calls is the heads'
pub calls_before : (heads rest : List GraphLine) → calls_in rest ≡ None → calls_in (heads ++ rest) ≡ calls_in heads
calls_before [] rest none = none
calls_before (Calls numbers ∷ heads) rest none = refl
calls_before (Leaf from to ∷ heads) rest none = refl
calls_before (Class sort label targets ∷ heads) rest none = refl
calls_before (Site address kind label ∷ heads) rest none = refl
calls_before (Edge from to ∷ heads) rest none = refl
calls_before (Call from to ∷ heads) rest none = refl

-- lines of units are no classes'
past_unit : (at l : ℕ) (edge call : Option ℕ) (site : Option Asks) (rest : List GraphLine) →
    class_with (with_line (line_by at edge call site) rest) l ≡ class_with rest l
unfolding class_with
past_unit at l (Some target) call site rest = refl
past_unit at l None (Some target) site rest = refl
past_unit at l None None (Some asked) rest = refl
past_unit at l None None None rest = refl

pub no_class : (us : List U.Unit) (at l : ℕ) → class_with (lines_from at us) l ≡ None
unfolding class_with lines_from
no_class [] at l = refl
no_class (u ∷ us) at l =
    past_unit at l (edge_of (body u)) (call_of (body u)) (site_of (body u)) (lines_from (at + 4 * word_count u) us) ∙ no_class us (at + 4 * word_count u) l

pub class_before : (heads rest : List GraphLine) (l : ℕ) → class_with rest l ≡ None → class_with (heads ++ rest) l ≡ class_with heads l
unfolding class_with
class_before [] rest l none = none
class_before (line ∷ heads) rest l none = ap (or_class l (class_in line)) (class_before heads rest l none)

-- nor leaves'
no_leaves_with : (at : ℕ) (edge call : Option ℕ) (site : Option Asks) (rest : List GraphLine) →
    leaves_in (with_line (line_by at edge call site) rest) ≡ leaves_in rest
unfolding leaves_in
no_leaves_with at (Some target) call site rest = refl
no_leaves_with at None (Some target) site rest = refl
no_leaves_with at None None (Some asked) rest = refl
no_leaves_with at None None None rest = refl

pub no_leaves : (us : List U.Unit) (at : ℕ) → leaves_in (lines_from at us) ≡ []
unfolding leaves_in lines_from
no_leaves [] at = refl
no_leaves (u ∷ us) at =
    no_leaves_with at (edge_of (body u)) (call_of (body u)) (site_of (body u)) (lines_from (at + 4 * word_count u) us) ∙ no_leaves us (at + 4 * word_count u)

pub leaves_before : (heads rest : List GraphLine) → leaves_in rest ≡ [] → leaves_in (heads ++ rest) ≡ leaves_in heads
unfolding leaves_in
leaves_before [] rest none = none
leaves_before (Leaf from to ∷ heads) rest none = ap (λ (leaves : List kinds.Leaf). record { from = from; to = to } ∷ leaves) (leaves_before heads rest none)
leaves_before (Calls numbers ∷ heads) rest none = leaves_before heads rest none
leaves_before (Class sort label targets ∷ heads) rest none = leaves_before heads rest none
leaves_before (Site address kind label ∷ heads) rest none = leaves_before heads rest none
leaves_before (Edge from to ∷ heads) rest none = leaves_before heads rest none
leaves_before (Call from to ∷ heads) rest none = leaves_before heads rest none

-- where there are no leaves none lacks an end
pub ends_stand : (p : Profile) (words : List ℕ) (a : ℕ) (lines : List GraphLine) → leaves_in lines ≡ [] → list_any (lacks_end p words a) lines ≡ false
unfolding leaves_in
ends_stand p words a [] none = refl
ends_stand p words a (Leaf from to ∷ lines) none = absurd (cc)
ends_stand p words a (Calls numbers ∷ lines) none = ends_stand p words a lines none
ends_stand p words a (Class sort label targets ∷ lines) none = ends_stand p words a lines none
ends_stand p words a (Site address kind label ∷ lines) none = ends_stand p words a lines none
ends_stand p words a (Edge from to ∷ lines) none = ends_stand p words a lines none
ends_stand p words a (Call from to ∷ lines) none = ends_stand p words a lines none

-- nor do leaves that begin and end where units do
abbrev pub EndsRight : Profile → List ℕ → kinds.Leaf → Type 0
EndsRight p words leaf = is_start p words leaf.from && (is_start p words leaf.to || (leaf.to == CODE_START + 4 * length words)) ≡ true

pub ends_right : (p : Profile) (words : List ℕ) (a : ℕ) (heads rest : List GraphLine) →
    ((k : ℕ) (leaf : kinds.Leaf) → slice_get (leaves_in heads) k ≡ Some leaf → EndsRight p words leaf) →
    list_any (lacks_end p words a) rest ≡ false → list_any (lacks_end p words a) (heads ++ rest) ≡ false
unfolding leaves_in
ends_right p words a [] rest right none = none
ends_right p words a (Leaf from to ∷ heads) rest right none =
    or_from (lacks_end p words a (Leaf from to)) (list_any (lacks_end p words a) (heads ++ rest))
    (and_right (from == a) (not (is_start p words from && (is_start p words to || (to == CODE_START + 4 * length words))))
    (ap not (right 0 (record { from = from; to = to }) refl)))
    (ends_right p words a heads rest (λ k. right (suc k)) none)
ends_right p words a (Calls numbers ∷ heads) rest right none = ends_right p words a heads rest right none
ends_right p words a (Class sort label targets ∷ heads) rest right none = ends_right p words a heads rest right none
ends_right p words a (Site address kind label ∷ heads) rest right none = ends_right p words a heads rest right none
ends_right p words a (Edge from to ∷ heads) rest right none = ends_right p words a heads rest right none
ends_right p words a (Call from to ∷ heads) rest right none = ends_right p words a heads rest right none

-- an address before all leaves is in none
pub no_leaf_before : (leaves : List kinds.Leaf) (a : ℕ) → ((k : ℕ) (leaf : kinds.Leaf) → slice_get leaves k ≡ Some leaf → a < leaf.from) → leaf_of leaves a ≡ None
no_leaf_before [] a before = refl
no_leaf_before (leaf ∷ leaves) a before =
    let outside : in_leaf a leaf ≡ false = and_left (nat_le leaf.from a) (nat_lt a leaf.to) (lt-leb leaf.from a (before 0 leaf refl)) in
    ap (λ b. if b then Some leaf else leaf_of leaves a) outside ∙ no_leaf_before leaves a (λ k. before (suc k))

module _ (version : GraphVersion) (signs : Signs) where
  lacks_with : (at a : ℕ) (edge call : Option ℕ) (site : Option Asks) (rest : List GraphLine) →
      list_any (lacks_gate version signs a) (with_line (line_by at edge call site) rest) ≡ list_any (lacks_gate version signs a) rest
  lacks_with at a (Some target) call site rest = refl
  lacks_with at a None (Some target) site rest = refl
  lacks_with at a None None (Some asked) rest = refl
  lacks_with at a None None None rest = refl

  pub none_lacks : (us : List U.Unit) (at a : ℕ) → list_any (lacks_gate version signs a) (lines_from at us) ≡ false
  unfolding lines_from
  none_lacks [] at a = refl
  none_lacks (u ∷ us) at a =
      lacks_with at a (edge_of (body u)) (call_of (body u)) (site_of (body u)) (lines_from (at + 4 * word_count u) us) ∙ none_lacks us (at + 4 * word_count u) a

  -- a line whose class's target bears the label lacks no gate
  has_gate : (a : ℕ) (o : Option ClassLine) →
      ((class : ClassLine) → o ≡ Some class → is_among a class.targets ≡ true → is_borne signs (read_of version class.sort) a class.label ≡ true) →
      holds_of o (λ (class : ClassLine). is_among a class.targets && not (is_borne signs (read_of version class.sort) a class.label)) ≡ false
  has_gate a None stand = refl
  has_gate a (Some class) stand =
      elim (cases_Bool (is_among a class.targets)) [
        | inl among ↦ ap (λ b. b && not (is_borne signs (read_of version class.sort) a class.label)) among ∙ ap not (stand class refl among)
        | inr apart ↦ ap (λ b. b && not (is_borne signs (read_of version class.sort) a class.label)) apart
      ]

  -- classes whose targets have their gates lack none
  pub gates_stand : (heads rest : List GraphLine) (a : ℕ) →
      ((k : ℕ) (class : ClassLine) → option_and_then class_in (slice_get heads k) ≡ Some class → is_among a class.targets ≡ true → is_borne signs (read_of version class.sort) a class.label ≡ true) →
      list_any (lacks_gate version signs a) rest ≡ false → list_any (lacks_gate version signs a) (heads ++ rest) ≡ false
  gates_stand [] rest a stand none = none
  gates_stand (line ∷ heads) rest a stand none =
      or_from (lacks_gate version signs a line) (list_any (lacks_gate version signs a) (heads ++ rest))
      (has_gate a (class_in line) (λ class is among. stand 0 class is among))
      (gates_stand heads rest a (λ k class is among. stand (suc k) class is among) none)
