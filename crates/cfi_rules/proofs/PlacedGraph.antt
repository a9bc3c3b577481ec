-- The lines of sound placed units are a graph's, where its heads are.
use Rattle.std.proofs.Common.{inl, inr, ◌≡◌, ℕ, ◌+◌, ◌*◌, ◌%◌, ◌≤◌, ◌<◌, ◌==◌, Bool, true, false, List, [], ◌∷◌, ◌++◌, length, map, refl, sym, ap, ◌∙◌, Some, None, arith}
use Rattle.std.specs.Prelude.{Option, IsTrue, nat_le, nat_lt, ◌&&◌, is_some, if◌then◌else◌}
use Rattle.std.specs.List.{list_all}
use Rattle.std.specs.Option.{option_or}
use Rattle.std.proofs.lemmas.Bool.{and_from, and_parts, cases_Bool, eq-eqb, eqb-true, le-leb, lt-ltb}
use Rattle.std.proofs.lemmas.List.Folds.{list_all-append}
use Rattle.std.proofs.lemmas.Option.{same_Some}
use Rattle.rv_image.specs.declared.version.GraphVersion.{GraphVersion}
use Rattle.rv_image.specs.MemoryMap.{CODE_START, Profile}
use Rattle.rv_word.proofs.Cases.{cases_Option}
use Rattle.rv_image.proofs.Profiles.{LaidOut, laid_out}
use Rattle.cfi_graph.specs.declared.line.GraphLine.{GraphLine}
use Rattle.cfi_graph.specs.declared.line.GraphLine.TheVariants.{Calls, Leaf, Class, Site, Edge, Call}
use Rattle.cfi_graph.specs.declared.line.Key.TheVariants.{Address}
use Rattle.cfi_graph.specs.declared.line.SiteKind.{SiteKind}
use Rattle.cfi_graph.specs.Graph.{ClassLine, IsGraph, class_in, fits_version, is_code_address, is_label, is_rising, key_below, key_of, line_in_range, targets_rise}
use Rattle.cfi_unit.specs.declared.unit.Unit as U
use Rattle.cfi_unit.specs.declared.place.Place.TheVariants.{Body as body}
use Rattle.cfi_unit.specs.Prologue.{OPENING}
use Rattle.cfi_unit.specs.UnitWords.{word_count}
use Rattle.cfi_rules.specs.PlacedLaws.{PlacedIsGraph}
use Rattle.cfi_rules.specs.Lines.{class_with, or_class}
use Rattle.cfi_rules.specs.Placed.{is_head, line_by, line_of, lines_from, placed_code, placed_lines, with_line}
use Rattle.cfi_rules.specs.Rules.{call_of, edge_of, site_of}
use Rattle.cfi_rules.specs.Sound.{IsSound, StartsIn}
use Rattle.cfi_rules.specs.Split.{unit_in}
use Rattle.cfi_rules.specs.declared.asks.Asks.{Asks}
use Rattle.cfi_rules.proofs.Served.{some_class}
use Rattle.cfi_unit.proofs.Counts.{some_word}
use Rattle.cfi_rules.proofs.UnitIn.{in_here, in_past, length-placed_code, lies}

-- what holds of each unit's line holds of all lines
all_with : (test : GraphLine → Bool) (o : Option GraphLine) (rest : List GraphLine) → ((line : GraphLine) → o ≡ Some line → test line ≡ true) → list_all test rest ≡ true → list_all test (with_line o rest) ≡ true
all_with test None rest one all = all
all_with test (Some line) rest one all = and_from (test line) (list_all test rest) (one line refl) all

all_lines : (test : GraphLine → Bool) (us : List U.Unit) (at : ℕ) →
    ((a : ℕ) (u : U.Unit) (line : GraphLine) → unit_in us at a ≡ Some u → line_of a u ≡ Some line → test line ≡ true) → list_all test (lines_from at us) ≡ true
unfolding lines_from
all_lines test [] at each = refl
all_lines test (u ∷ us) at each =
    all_with test (line_of at u) (lines_from (at + 4 * word_count u) us) (λ line is. each at u line (in_here u us at) is)
    (all_lines test us (at + 4 * word_count u) (λ a v line here is. each a v line (in_past u v us at a here) is))

-- a test of the one line that there is
given : (test : GraphLine → Bool) (l m : GraphLine) → Some l ≡ Some m → test l ≡ true → test m ≡ true
given test l m e right = ap test (sym (same_Some l m e)) ∙ right

-- a test that each edge, call and site passes is one that each line of a unit does
passes : (test : GraphLine → Bool) → ((from to : ℕ) → test (Edge from to) ≡ true) → ((from to : ℕ) → test (Call from to) ≡ true) →
    ((a : ℕ) (kind : SiteKind) (label : ℕ) → test (Site a kind label) ≡ true) → (a : ℕ) (edge call : Option ℕ) (site : Option Asks) (line : GraphLine) →
    line_by a edge call site ≡ Some line → test line ≡ true
passes test edge call site a (Some target) to asked line e = given test (Edge a target) line e (edge a target)
passes test edge call site a None (Some target) asked line e = given test (Call a target) line e (call a target)
passes test edge call site a None None (Some asked) line e = given test (Site a asked.kind asked.label) line e (site a asked.kind asked.label)
passes test edge call site a None None None line e = absurd (cc)

-- so none of them has targets that could fall, and each may stand in a graph of any version
flat : (u : U.Unit) (a : ℕ) (line : GraphLine) → line_of a u ≡ Some line → targets_rise line ≡ true
flat u a = passes targets_rise (λ from to. refl) (λ from to. refl) (λ a kind label. refl) a (edge_of (body u)) (call_of (body u)) (site_of (body u))

of_each : (version : GraphVersion) (u : U.Unit) (a : ℕ) (line : GraphLine) → line_of a u ≡ Some line → fits_version version line ≡ true
of_each version u a = passes (fits_version version) (λ from to. refl) (λ from to. refl) (λ a kind label. refl) a (edge_of (body u)) (call_of (body u)) (site_of (body u))

-- the lines' addresses rise
abbrev keys_above : ℕ → List GraphLine → Bool
keys_above bound lines = is_rising key_below (Address bound ∷ map key_of lines)

rise_with : (edge call : Option ℕ) (site : Option Asks) (bound at : ℕ) (rest : List GraphLine) → bound < at → keys_above bound rest ≡ true → keys_above at rest ≡ true →
    keys_above bound (with_line (line_by at edge call site) rest) ≡ true
rise_with (Some target) call site bound at rest below past here = and_from (nat_lt bound at) (keys_above at rest) (lt-ltb bound at below) here
rise_with None (Some target) site bound at rest below past here = and_from (nat_lt bound at) (keys_above at rest) (lt-ltb bound at below) here
rise_with None None (Some asked) bound at rest below past here = and_from (nat_lt bound at) (keys_above at rest) (lt-ltb bound at below) here
rise_with None None None bound at rest below past here = past

lines_rise : (us : List U.Unit) (bound at : ℕ) → bound < at → keys_above bound (lines_from at us) ≡ true
unfolding lines_from
lines_rise [] bound at below = refl
lines_rise (u ∷ us) bound at below =
    let some = some_word u in
    rise_with (edge_of (body u)) (call_of (body u)) (site_of (body u)) bound at (lines_from (at + 4 * word_count u) us) below
    (lines_rise us bound (at + 4 * word_count u) (omega arith)) (lines_rise us at (at + 4 * word_count u) (omega arith))

-- heads come before what has an address
head_below : (line : GraphLine) (a : ℕ) → is_head line ≡ true → key_below (key_of line) (Address a) ≡ true
head_below (Calls numbers) a head = refl
head_below (Leaf from to) a head = refl
head_below (Class sort label targets) a head = refl
head_below (Site address kind label) a head = absurd (cc)
head_below (Edge from to) a head = absurd (cc)
head_below (Call from to) a head = absurd (cc)

heads_rise : (heads : List GraphLine) (bound to : ℕ) (rest : List GraphLine) → IsTrue (list_all is_head heads) → is_rising key_below (map key_of heads) ≡ true →
    keys_above bound rest ≡ true → is_rising key_below (map key_of (heads ++ (Call bound to ∷ rest))) ≡ true
heads_rise [] bound to rest all order above = above
heads_rise (line ∷ []) bound to rest all order above =
    and_from (key_below (key_of line) (Address bound)) (keys_above bound rest) (head_below line bound (and_parts (is_head line) true all).0) above
heads_rise (line ∷ next ∷ heads) bound to rest all order above =
    let parts = and_parts (key_below (key_of line) (key_of next)) (is_rising key_below (map key_of (next ∷ heads))) order in
    and_from (key_below (key_of line) (key_of next)) (is_rising key_below (map key_of ((next ∷ heads) ++ (Call bound to ∷ rest)))) parts.0
    (heads_rise (next ∷ heads) bound to rest (and_parts (is_head line) (list_all is_head (next ∷ heads)) all).1 parts.1 above)

-- a class's label is one
line_label : (len : ℕ) (line : GraphLine) (class : ClassLine) → class_in line ≡ Some class → line_in_range len line ≡ true → is_label class.label ≡ true
line_label len (Class sort k ts) class e range =
    ap (λ (c : ClassLine). is_label c.label) (sym (same_Some (record { sort = sort; label = k; targets = ts }) class e)) ∙ (and_parts (is_label k) (list_all (is_code_address len) ts) range).0
line_label len other class e range = absurd (cc)

class_label : (len : ℕ) (classes : List GraphLine) (l : ℕ) → list_all (line_in_range len) classes ≡ true → is_some (class_with classes l) ≡ true → is_label l ≡ true
unfolding class_with
class_label len [] l range some = absurd (cc)
class_label len (line ∷ classes) l range some =
    let parts = and_parts (line_in_range len line) (list_all (line_in_range len) classes) range in
    elim (cases_Option (class_in line)) [
      | inl none ↦ class_label len classes l parts.1 (sym (ap (λ o. is_some (or_class l o (class_with classes l))) none) ∙ some)
      | inr (class, is) ↦ elim (cases_Bool (class.label == l)) [
        | inl same ↦ ap is_label (sym (eqb-true class.label l same)) ∙ line_label len line class is parts.0
        | inr other ↦ class_label len classes l parts.1
            (sym (ap (λ o. is_some (or_class l o (class_with classes l))) is ∙ ap (λ b. is_some (if b then Some class else class_with classes l)) other) ∙ some)
      ]
    ]

-- a unit's line has addresses of the code, and a class's label
unit_range : (len a : ℕ) (edge call : Option ℕ) (site : Option Asks) (line : GraphLine) → is_code_address len a ≡ true →
    ((t : ℕ) → option_or edge call ≡ Some t → is_code_address len t ≡ true) → ((asked : Asks) → site ≡ Some asked → is_label asked.label ≡ true) →
    line_by a edge call site ≡ Some line → line_in_range len line ≡ true
unit_range len a (Some target) call site line here leads known e =
    given (line_in_range len) (Edge a target) line e (and_from (is_code_address len a) (is_code_address len target) here (leads target refl))
unit_range len a None (Some target) site line here leads known e =
    given (line_in_range len) (Call a target) line e (and_from (is_code_address len a) (is_code_address len target) here (leads target refl))
unit_range len a None None (Some asked) line here leads known e =
    given (line_in_range len) (Site a asked.kind asked.label) line e (and_from (is_code_address len a) (is_label asked.label) here (known asked refl))
unit_range len a None None None line here leads known e = absurd (cc)

module _ (p : Profile) (version : GraphVersion) (entry : ℕ) (us : List U.Unit) (heads : List GraphLine) (sound : IsSound p version entry us heads) where
  laid : LaidOut p
  laid = laid_out p sound.profile

  abbrev size : ℕ
  size = 4 * length (placed_code p entry us)

  code_address : (a : ℕ) → CODE_START ≤ a → a < CODE_START + size → a % 4 ≡ 0 → is_code_address size a ≡ true
  code_address a low high round =
      and_from (a % 4 == 0 && nat_le CODE_START a) (nat_lt a (CODE_START + size))
      (and_from (a % 4 == 0) (nat_le CODE_START a) (eq-eqb (a % 4) 0 round) (le-leb CODE_START a low)) (lt-ltb a (CODE_START + size) high)

  start_address : (a : ℕ) (u : U.Unit) → unit_in us p.units_from a ≡ Some u → is_code_address size a ≡ true
  start_address a u e =
      let some = some_word u in
      let words = length-placed_code p sound.profile entry us in
      let front = laid.low in
      let even = laid.round in
      let from = (lies us p.units_from a u e).from in
      let to = (lies us p.units_from a u e).to in
      let round = (lies us p.units_from a u e).round in
      code_address a (omega arith) (omega arith) (omega arith)

  begun_address : (a : ℕ) → StartsIn p us a → is_code_address size a ≡ true
  begun_address a begun =
      elim (cases_Option (unit_in us p.units_from a)) [
        | inl none ↦ let no : false ≡ true = ap is_some (sym none) ∙ begun in absurd (cc)
        | inr (u, e) ↦ start_address a u e
      ]

  opening_address : is_code_address size OPENING ≡ true
  opening_address = let words = length-placed_code p sound.profile entry us in let front = laid.low in code_address OPENING (omega arith) (omega arith) refl

  pub placed_graph : IsGraph (record { version = version; code = size; lines = heads }) → IsGraph (record { version = version; code = size; lines = placed_lines p entry us heads })
  placed_graph graph =
      let rest : List GraphLine = Call OPENING entry ∷ lines_from p.units_from us in
      let opening : line_in_range size (Call OPENING entry) ≡ true =
      and_from (is_code_address size OPENING) (is_code_address size entry) opening_address (begun_address entry sound.entry_starts) in
      let units : list_all (line_in_range size) (lines_from p.units_from us) ≡ true =
      all_lines (line_in_range size) us p.units_from (λ a u line here is. unit_range size a (edge_of (body u)) (call_of (body u)) (site_of (body u)) line (start_address a u here)
      (λ t leads. begun_address t (sound.targets a t u here leads))
      (λ asked wants. class_label size heads asked.label graph.range (some_class heads asked.kind asked.which asked.label (sound.labels a u asked here wants))) is) in
      let flats : list_all targets_rise (lines_from p.units_from us) ≡ true =
      all_lines targets_rise us p.units_from (λ a u line here is. flat u a line is) in
      let ofs : list_all (fits_version version) (lines_from p.units_from us) ≡ true =
      all_lines (fits_version version) us p.units_from (λ a u line here is. of_each version u a line is) in
      record {
        sorts = list_all-append (fits_version version) heads rest ∙ and_from (list_all (fits_version version) heads) (list_all (fits_version version) rest) graph.sorts ofs;
        length = graph.length;
        range = list_all-append (line_in_range size) heads rest
            ∙ and_from (list_all (line_in_range size) heads) (list_all (line_in_range size) rest) graph.range
            (and_from (line_in_range size (Call OPENING entry)) (list_all (line_in_range size) (lines_from p.units_from us)) opening units);
        targets = list_all-append targets_rise heads rest ∙ and_from (list_all targets_rise heads) (list_all targets_rise rest) graph.targets flats;
        order = heads_rise heads OPENING entry (lines_from p.units_from us) sound.heads_are graph.order
            (lines_rise us OPENING p.units_from (let front = laid.low in omega arith));
      }

pub placed_is_graph : PlacedIsGraph
placed_is_graph = placed_graph
