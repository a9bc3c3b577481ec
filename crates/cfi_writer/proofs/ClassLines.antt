-- The lines of classes: which stands at an index and under a label, and that they are a graph's.
use Rattle.std.proofs.Common.{◌≡◌, ℕ, zero, suc, ◌<◌, ◌==◌, inl, inr, true, List, [], ◌∷◌, map, Option, Some, None, refl, sym, ap, ◌∙◌, arith}
use Rattle.std.specs.Prelude.{Bool, if◌then◌else◌, nat_lt, option_and_then, slice_get, slice_index}
use Rattle.std.specs.List.{list_all}
use Rattle.std.specs.List.Sorted.{IsStrictlyIncreasing}
use Rattle.std.proofs.lemmas.Bool.{and_from, cases_Bool, eq-eqb, eqb-true, lt-ltb, or_cases, or_left, or_right}
use Rattle.std.proofs.lemmas.Option.{same_Some}
use Rattle.cfi_writer.proofs.Prelude.{GraphVersion, Class, GraphLine, SiteKind, Sort, ClassLine, class_in, fits_version, is_class, is_code_address, is_label, is_rising, is_sort_of, key_below, key_of, line_in_range, targets_rise, has, class_lines, Tagged, TargetWord, class_with, if_serves, is_among, or_class, serves, targets_for}
use Rattle.cfi_flow.proofs.Rising.{tail_rises}

-- a gate is among those of a class just where its place is a member
pub among_to : (gates : ℕ → ℕ) (class : List ℕ) (k : ℕ) → has k class ≡ true → is_among (gates k) (map gates class) ≡ true
among_to gates [] k e = absurd (cc)
among_to gates (x ∷ class) k e =
    elim (or_cases (x == k) (has k class) e) [
      | inl here ↦ or_left (gates x == gates k) (is_among (gates k) (map gates class)) (eq-eqb (gates x) (gates k) (ap gates (eqb-true x k here)))
      | inr later ↦ or_right (gates x == gates k) (is_among (gates k) (map gates class)) (among_to gates class k later)
    ]

pub among_from : (gates : ℕ → ℕ) (class : List ℕ) (a : ℕ) → is_among a (map gates class) ≡ true → (k : ℕ) × (has k class ≡ true) × (gates k ≡ a)
among_from gates [] a e = absurd (cc)
among_from gates (x ∷ class) a e =
    elim (or_cases (gates x == a) (is_among a (map gates class)) e) [
      | inl here ↦ (x, or_left (x == x) (has x class) (eq-eqb x x refl), eqb-true (gates x) a here)
      | inr later ↦ let rest = among_from gates class a later in (rest.0, or_right (x == rest.0) (has rest.0 class) rest.1, rest.2)
    ]

-- what the line of a class says, of whatever sort
abbrev pub class_line : List ℕ → ℕ → Tagged → ClassLine
class_line gates label t = record { sort = t.sort; label = label; targets = map (slice_index gates) t.class }

-- the line at an index has the label and the class at that index
pub record IsLine (gates labels : List ℕ) (ts : List Tagged) (j : ℕ) (line : ClassLine) : Type 0 where
  pub label : ℕ
  pub class : Tagged
  pub label_is : slice_get labels j ≡ Some label
  pub class_is : slice_get ts j ≡ Some class
  pub line_is : class_line gates label class ≡ line

pub line_get : (gates labels : List ℕ) (ts : List Tagged) (j : ℕ) (line : ClassLine) → option_and_then class_in (slice_get (class_lines gates labels ts) j) ≡ Some line → IsLine gates labels ts j line
unfolding class_lines
line_get gates [] [] j line e = absurd (cc)
line_get gates (l ∷ labels) [] j line e = absurd (cc)
line_get gates [] (t ∷ ts) j line e = absurd (cc)
line_get gates (l ∷ labels) (t ∷ ts) zero line e =
    record {
      label = l;
      class = t;
      label_is = refl;
      class_is = refl;
      line_is = same_Some (class_line gates l t) line e;
    }
line_get gates (l ∷ labels) (t ∷ ts) (suc j) line e =
    let rest = line_get gates labels ts j line e in
    record { label = rest.label; class = rest.class; label_is = rest.label_is; class_is = rest.class_is; line_is = rest.line_is }

pub all_classes_lines : (gates labels : List ℕ) (ts : List Tagged) → list_all is_class (class_lines gates labels ts) ≡ true
unfolding class_lines
all_classes_lines gates [] [] = refl
all_classes_lines gates (l ∷ labels) [] = refl
all_classes_lines gates [] (t ∷ ts) = refl
all_classes_lines gates (l ∷ labels) (t ∷ ts) = all_classes_lines gates labels ts

first_with : (gates : List ℕ) (l label : ℕ) (t : Tagged) (rest : Option ClassLine) →
    or_class label (class_in (Class t.sort l (map (slice_index gates) t.class))) rest ≡ (if l == label then Some (class_line gates l t) else rest)
first_with gates l label t rest = refl

-- what is said under a label is said of a class with that label
pub targets_of : (gates labels : List ℕ) (ts : List Tagged) (label : ℕ) (line : ClassLine) → class_with (class_lines gates labels ts) label ≡ Some line →
    (j : ℕ) × (t : Tagged) × (slice_get labels j ≡ Some label) × (slice_get ts j ≡ Some t) × (class_line gates label t ≡ line)
unfolding class_lines class_with
targets_of gates [] [] label line e = absurd (cc)
targets_of gates (l ∷ labels) [] label line e = absurd (cc)
targets_of gates [] (t ∷ ts) label line e = absurd (cc)
targets_of gates (l ∷ labels) (t ∷ ts) label line e =
    let so = sym (first_with gates l label t (class_with (class_lines gates labels ts) label)) ∙ e in
    elim (cases_Bool (l == label)) [
      | inl here ↦
          let first : Some (class_line gates l t) ≡ Some line = rw here at so in
          let same : l ≡ label = eqb-true l label here in
          (0, t, ap Some same, refl, ap (λ (n : ℕ). class_line gates n t) (sym same) ∙ same_Some (class_line gates l t) line first)
      | inr other ↦
          let past : class_with (class_lines gates labels ts) label ≡ Some line = rw other at so in
          let (j, class, label_is, class_is, line_is) = targets_of gates labels ts label line past in
          (suc j, class, label_is, class_is, line_is)
    ]

-- under a label that is given once stands the class at its index
pub class_given : (gates labels : List ℕ) (ts : List Tagged) (n label : ℕ) (t : Tagged) → slice_get labels n ≡ Some label → slice_get ts n ≡ Some t →
    ((i : ℕ) → slice_get labels i ≡ Some label → i ≡ n) → class_with (class_lines gates labels ts) label ≡ Some (class_line gates label t)
unfolding class_lines class_with
class_given gates [] ts n label t label_is class_is once = absurd (cc)
class_given gates (l ∷ labels) [] n label t label_is class_is once = absurd (cc)
class_given gates (l ∷ labels) (c ∷ ts) zero label t label_is class_is once =
    let l_is : l ≡ label = same_Some l label label_is in
    let c_is : c ≡ t = same_Some c t class_is in
    first_with gates l label c (class_with (class_lines gates labels ts) label)
    ∙ ap (λ (b : Bool). if b then Some (class_line gates l c) else class_with (class_lines gates labels ts) label) (eq-eqb l label l_is)
    ∙ ap (λ (x : Tagged). Some (class_line gates l x)) c_is ∙ ap (λ (x : ℕ). Some (class_line gates x t)) l_is
class_given gates (l ∷ labels) (c ∷ ts) (suc n) label t label_is class_is once =
    elim (cases_Bool (l == label)) [
      | inl here ↦ let wrong : 0 ≡ suc n = once 0 (ap Some (eqb-true l label here)) in absurd (omega arith)
      | inr other ↦
          first_with gates l label c (class_with (class_lines gates labels ts) label)
          ∙ ap (λ (b : Bool). if b then Some (class_line gates l c) else class_with (class_lines gates labels ts) label) other
          ∙ class_given gates labels ts n label t label_is class_is (λ i get. let same : suc i ≡ suc n = once (suc i) get in omega arith)
    ]

-- and it gives its targets to the transfers that it serves
pub served_by : (lines : List GraphLine) (kind : SiteKind) (which : TargetWord) (label : ℕ) (class : ClassLine) → class_with lines label ≡ Some class →
    serves class.sort kind which ≡ true → targets_for lines kind which label ≡ Some class.targets
unfolding targets_for
served_by lines kind which label class is serving =
    ap (option_and_then (if_serves kind which)) is ∙ ap (λ (b : Bool). if b then Some class.targets else None) serving

-- each line is one of the version whose sorts the classes have
pub lines_of_version : (version : GraphVersion) (gates labels : List ℕ) (ts : List Tagged) → ((j : ℕ) (t : Tagged) → slice_get ts j ≡ Some t → is_sort_of version t.sort ≡ true) →
    list_all (fits_version version) (class_lines gates labels ts) ≡ true
unfolding class_lines
lines_of_version version gates [] [] of = refl
lines_of_version version gates (l ∷ labels) [] of = refl
lines_of_version version gates [] (t ∷ ts) of = refl
lines_of_version version gates (l ∷ labels) (t ∷ ts) of =
    and_from (fits_version version (Class t.sort l (map (slice_index gates) t.class))) (list_all (fits_version version) (class_lines gates labels ts))
    (of 0 t refl) (lines_of_version version gates labels ts (λ j c get. of (suc j) c get))

-- lines of classes are a graph's: labels and addresses are in range, targets and labels rise
pub lines_range : (len : ℕ) (gates labels : List ℕ) (ts : List Tagged) → ((j label : ℕ) → slice_get labels j ≡ Some label → is_label label ≡ true) →
    ((j k : ℕ) (t : Tagged) → slice_get ts j ≡ Some t → has k t.class ≡ true → is_code_address len (slice_index gates k) ≡ true) →
    list_all (line_in_range len) (class_lines gates labels ts) ≡ true
unfolding class_lines
lines_range len gates [] [] are inside = refl
lines_range len gates (l ∷ labels) [] are inside = refl
lines_range len gates [] (t ∷ ts) are inside = refl
lines_range len gates (l ∷ labels) (t ∷ ts) are inside =
    and_from (line_in_range len (Class t.sort l (map (slice_index gates) t.class))) (list_all (line_in_range len) (class_lines gates labels ts))
    (and_from (is_label l) (list_all (is_code_address len) (map (slice_index gates) t.class)) (are 0 l refl) (members_in t.class (λ k there. inside 0 k t refl there)))
    (lines_range len gates labels ts (λ j label get. are (suc j) label get) (λ j k class get there. inside (suc j) k class get there))
  where
    members_in : (class : List ℕ) → ((k : ℕ) → has k class ≡ true → is_code_address len (slice_index gates k) ≡ true) → list_all (is_code_address len) (map (slice_index gates) class) ≡ true
    members_in [] each = refl
    members_in (x ∷ class) each =
        and_from (is_code_address len (slice_index gates x)) (list_all (is_code_address len) (map (slice_index gates) class))
        (each x (or_left (x == x) (has x class) (eq-eqb x x refl))) (members_in class (λ k there. each k (or_right (x == k) (has k class) there)))

targets_rising : (gates : ℕ → ℕ) (n : ℕ) (class : List ℕ) → IsStrictlyIncreasing class → ((k : ℕ) → has k class ≡ true → k < n) → ((i j : ℕ) → i < j → j < n → gates i < gates j) →
    is_rising nat_lt (map gates class) ≡ true
targets_rising gates n [] rising members rise = refl
targets_rising gates n (x ∷ []) rising members rise = refl
targets_rising gates n (x ∷ y ∷ class) rising members rise =
    let next : has y (x ∷ y ∷ class) ≡ true = or_right (x == y) (has y (y ∷ class)) (or_left (y == y) (has y class) (eq-eqb y y refl)) in
    and_from (nat_lt (gates x) (gates y)) (is_rising nat_lt (map gates (y ∷ class))) (lt-ltb (gates x) (gates y) (rise x y (rising 0 (omega arith)) (members y next)))
    (targets_rising gates n (y ∷ class) (tail_rises x (y ∷ class) rising) (λ k there. members k (or_right (x == k) (has k (y ∷ class)) there)) rise)

pub lines_targets : (gates labels : List ℕ) (n : ℕ) (ts : List Tagged) → ((j : ℕ) (t : Tagged) → slice_get ts j ≡ Some t → IsStrictlyIncreasing t.class) →
    ((j k : ℕ) (t : Tagged) → slice_get ts j ≡ Some t → has k t.class ≡ true → k < n) → ((i j : ℕ) → i < j → j < n → slice_index gates i < slice_index gates j) →
    list_all targets_rise (class_lines gates labels ts) ≡ true
unfolding class_lines
lines_targets gates [] n [] rising members rise = refl
lines_targets gates (l ∷ labels) n [] rising members rise = refl
lines_targets gates [] n (t ∷ ts) rising members rise = refl
lines_targets gates (l ∷ labels) n (t ∷ ts) rising members rise =
    and_from (targets_rise (Class t.sort l (map (slice_index gates) t.class))) (list_all targets_rise (class_lines gates labels ts))
    (targets_rising (slice_index gates) n t.class (rising 0 t refl) (λ k there. members 0 k t refl there) rise)
    (lines_targets gates labels n ts (λ j class get. rising (suc j) class get) (λ j k class get there. members (suc j) k class get there) rise)

keys_rise : (s t : Sort) (l m : ℕ) (xs ys : List ℕ) → l < m → key_below (key_of (Class s l xs)) (key_of (Class t m ys)) ≡ true
keys_rise s t l m xs ys less = lt-ltb l m less

pub lines_order : (gates labels : List ℕ) (ts : List Tagged) → IsStrictlyIncreasing labels → is_rising key_below (map key_of (class_lines gates labels ts)) ≡ true
unfolding class_lines
lines_order gates [] [] rising = refl
lines_order gates [] (t ∷ ts) rising = refl
lines_order gates (l ∷ labels) [] rising = refl
lines_order gates (l ∷ []) (t ∷ []) rising = refl
lines_order gates (l ∷ m ∷ labels) (t ∷ []) rising = refl
lines_order gates (l ∷ []) (t ∷ u ∷ ts) rising = refl
lines_order gates (l ∷ m ∷ labels) (t ∷ u ∷ ts) rising =
    and_from (key_below (key_of (Class t.sort l (map (slice_index gates) t.class))) (key_of (Class u.sort m (map (slice_index gates) u.class))))
    (is_rising key_below (map key_of (class_lines gates (m ∷ labels) (u ∷ ts))))
    (keys_rise t.sort u.sort l m (map (slice_index gates) t.class) (map (slice_index gates) u.class) (rising 0 (omega arith)))
    (lines_order gates (m ∷ labels) (u ∷ ts) (tail_rises l (m ∷ labels) rising))
