-- The numbers of sites' classes, from the last site to the first.
use Rattle.std.proofs.Common.{◌≡◌, ℕ, zero, suc, ◌+◌, ◌<◌, ◌≤◌, Bool, false, Option, Some, None, List, [], ◌∷◌, refl, inl, inr, length, length-append, drop, arith, ap, ◌∙◌, sym, subst, ◌-◌, true}
use Rattle.std.specs.List.{All, list_any}
use Rattle.std.specs.Prelude.{◌==◌, if◌then◌else◌, slice_get, slice_index, unwrap_or, is_some}
use Rattle.std.proofs.Math.ListN.{drop_of_length-le, replicate}
use Rattle.std.proofs.lemmas.Option.{get_or_from_slice_get, slice_get_within}
use Rattle.std.proofs.Math.ListN.{set}
use Rattle.std.proofs.Math.Seq.{drop-cons}
use Rattle.std.proofs.lemmas.Bool.{cases_eq, eq-eqb, ne_eqb}
use Rattle.std.proofs.lemmas.List.{get_or-set_same, get_or-set_other}
use Rattle.rv_instr.proofs.RegisterFile.{index-zeros}
use Rattle.cfi_writer.proofs.Prelude.{Site, Side, has_site, class_count, site_label, empty_classes, number, next_after, site_number, with_empty, labels_before}
use Rattle.cfi_writer.proofs.SideLabels.{drop_more}
use Rattle.cfi_writer.proofs.Starts.{before_first, before_next}

-- a site stands at a place
abbrev pub stands : ℕ → List Site → Bool
stands k sites = list_any (λ (s : Site). s.place == k) sites

-- where so many labels belong to what comes before some sites, and those up to a number to these
pub record IsNumbered (labels : List ℕ) (sites : List Site) (next most : ℕ) (old table : List ℕ) : Type 0 where
  pub next_is : next + length (empty_classes sites) ≡ most
  pub each : (k : ℕ) → slice_index table k ≡ (if stands k sites then slice_index labels (site_number sites next k) else slice_index old k)

none_numbered : (labels table : List ℕ) (most : ℕ) → IsNumbered labels [] most most table table
unfolding empty_classes site_number
none_numbered labels table most = record { next_is = omega arith; each = λ k. refl }

counted : (class : Option ℕ) (rest : List (List ℕ)) (next before : ℕ) → next_after class before ≡ next
    → before + length (with_empty class rest) ≡ next + length rest
counted None rest next before is = omega arith
counted (Some c) rest next before is = omega arith

one_numbered : (labels old table : List ℕ) (site : Site) (sites : List Site) (next most before value : ℕ) → IsNumbered labels sites next most old table
    → site.place < length table → next_after site.class before ≡ next → value ≡ slice_index labels (number site.class before)
    → IsNumbered labels (site ∷ sites) before most old (set table site.place value)
unfolding empty_classes site_number
one_numbered labels old table site sites next most before value is below after value_is = record {
  next_is = counted site.class (empty_classes sites) next before after ∙ is.next_is;
  each = λ k. elim (cases_eq site.place k) [
    | inl e ↦ rw (eq-eqb site.place k e) (ap (slice_index (set table site.place value)) (sym e) ∙ get_or-set_same table site.place value 0 below ∙ value_is)
    | inr e ↦ rw (ne_eqb site.place k e, after) (get_or-set_other table site.place k value 0 (λ same. e (sym same)) ∙ is.each k)
  ];
}

empties_less : (class : Option ℕ) (rest : List (List ℕ)) → length rest ≤ length (with_empty class rest)
empties_less None rest = omega arith
empties_less (Some c) rest = omega arith

empties_drop : (sites : List Site) (i : ℕ) → length (empty_classes (drop i sites)) ≤ length (empty_classes sites)
unfolding empty_classes
empties_drop [] zero = omega arith
empties_drop [] (suc i) = omega arith
empties_drop (site ∷ sites) zero = omega arith
empties_drop (site ∷ sites) (suc i) =
    let rest = empties_drop sites i in let less = empties_less site.class (empty_classes sites) in omega arith

pub started : (labels table : List ℕ) (sites : List Site) (n most : ℕ) → n ≡ length sites → IsNumbered labels (drop n sites) most most table table
started labels table sites n most all =
    let none : drop n sites ≡ [] = drop_of_length-le sites (omega arith) in
    subst (λ (ss : List Site). IsNumbered labels ss most most table table) (sym none) (none_numbered labels table most)

last_site : (sites : List Site) (i : ℕ) (site : Site) → slice_get sites (i - 1) ≡ Some site → 0 < i → drop (i - 1) sites ≡ site ∷ drop i sites
last_site sites i site is some =
    let inside = slice_get_within sites (i - 1) site is in
    let whole = drop-cons sites (i - 1) site inside in
    let first = get_or_from_slice_get sites (i - 1) site site is in
    let next : suc (i - 1) ≡ i = omega arith in
    rw (first, next) at whole

pub stepped : (labels old table : List ℕ) (sites : List Site) (i next most before value : ℕ) (site : Site) → IsNumbered labels (drop i sites) next most old table
    → slice_get sites (i - 1) ≡ Some site → 0 < i → site.place < length table → next_after site.class before ≡ next
    → value ≡ slice_index labels (number site.class before) → IsNumbered labels (drop (i - 1) sites) before most old (set table site.place value)
stepped labels old table sites i next most before value site numbered is some below after value_is =
    subst (λ (ss : List Site). IsNumbered labels ss before most old (set table site.place value)) (sym (last_site sites i site is some))
    (one_numbered labels old table site (drop i sites) next most before value numbered below after value_is)

pub number_is : (class : Option ℕ) (next : ℕ) → unwrap_or class next ≡ number class next
number_is None next = refl
number_is (Some c) next = refl

pub after_none : (class : Option ℕ) (next : ℕ) → is_some class ≡ false → 1 ≤ next → next_after class (next - 1) ≡ next
after_none None next none some = omega arith
after_none (Some c) next none some = absurd (cc)

pub after_some : (class : Option ℕ) (next : ℕ) → is_some class ≡ true → next_after class next ≡ next
after_some None next none = absurd (cc)
after_some (Some c) next none = refl

empty_first : (class : Option ℕ) (rest : List (List ℕ)) → is_some class ≡ false → length (with_empty class rest) ≡ length rest + 1
empty_first None rest none = omega arith
empty_first (Some c) rest none = absurd (cc)

pub one_left : (labels old table : List ℕ) (sites : List Site) (i next most : ℕ) (site : Site) → IsNumbered labels (drop i sites) next most old table
    → slice_get sites (i - 1) ≡ Some site → 0 < i → is_some site.class ≡ false → length (empty_classes sites) ≤ most → 1 ≤ next
unfolding empty_classes
one_left labels old table sites i next most site numbered is some none room =
    let rest = ap (λ (ss : List Site). length (empty_classes ss)) (last_site sites i site is some) in
    let less = empties_drop sites (i - 1) in
    let all = numbered.next_is in
    omega (arith, empty_first site.class (empty_classes (drop i sites)) none)

-- all sites of a side
pub ended : (labels old table : List ℕ) (side : Side) (next most : ℕ) → IsNumbered labels side.sites next most old table → most ≡ class_count side →
    (k : ℕ) → slice_index table k ≡ (if has_site k side then slice_index labels (site_number side.sites (length side.classes) k) else slice_index old k)
ended labels old table side next most numbered all k =
    let is = numbered.next_is in
    let whole = length-append side.classes (empty_classes side.sites) in
    let first : next ≡ length side.classes = omega arith in
    numbered.each k ∙ ap (λ n. if has_site k side then slice_index labels (site_number side.sites n k) else slice_index old k) first

pub site_there : (places : ℕ) (sites : List Site) (k : ℕ) (site : Site) → All (λ (s : Site). s.place < places) sites → slice_get sites k ≡ Some site → site.place < places
site_there places sites k site inside is =
    subst (λ (s : Site). s.place < places) (get_or_from_slice_get sites k site site is) (inside k site (slice_get_within sites k site is))

-- before any side is noted, and after one more
pub sides_begin : (labels table : List ℕ) (sides : List Side) (n places : ℕ) → n ≡ length sides → table ≡ replicate places 0 →
    (k : ℕ) → slice_index table k ≡ site_label (drop (labels_before sides n) labels) (drop n sides) k
unfolding site_label
sides_begin labels table sides n places all zeros k =
    let none : drop n sides ≡ [] = drop_of_length-le sides (omega arith) in
    ap (λ (t : List ℕ). slice_index t k) zeros ∙ index-zeros places k
    ∙ sym (ap (λ (ss : List Side). site_label (drop (labels_before sides n) labels) ss k) none)

last_side : (sides : List Side) (i : ℕ) (side : Side) → slice_get sides (i - 1) ≡ Some side → 0 < i → drop (i - 1) sides ≡ side ∷ drop i sides
last_side sides i side is some =
    let inside = slice_get_within sides (i - 1) side is in
    let whole = drop-cons sides (i - 1) side inside in
    let first = get_or_from_slice_get sides (i - 1) side side is in
    let next : suc (i - 1) ≡ i = omega arith in
    rw (first, next) at whole

pub sides_more : (labels old table : List ℕ) (sides : List Side) (i : ℕ) (side : Side) → slice_get sides (i - 1) ≡ Some side → 0 < i →
    ((k : ℕ) → slice_index old k ≡ site_label (drop (labels_before sides i) labels) (drop i sides) k) →
    ((k : ℕ) → slice_index table k ≡ (if has_site k side then slice_index (drop (labels_before sides (i - 1)) labels) (site_number side.sites (length side.classes) k) else slice_index old k)) →
    (k : ℕ) → slice_index table k ≡ site_label (drop (labels_before sides (i - 1)) labels) (drop (i - 1) sides) k
unfolding site_label
sides_more labels old table sides i side is some before here k =
    let own = drop (labels_before sides (i - 1)) labels in
    let number = site_number side.sites (length side.classes) k in
    let next : i - 1 + 1 ≡ i = omega arith in
    let behind : drop (labels_before sides i) labels ≡ drop (class_count side) own =
    ap (λ (n : ℕ). drop n labels) (sym (ap (labels_before sides) next) ∙ before_next sides (i - 1) side is)
    ∙ sym (drop_more labels (labels_before sides (i - 1)) (class_count side)) in
    here k
    ∙ ap (λ (n : ℕ). if has_site k side then slice_index own number else n) (before k ∙ ap (λ (ls : List ℕ). site_label ls (drop i sides) k) behind)
    ∙ sym (ap (λ (ss : List Side). site_label own ss k) (last_side sides i side is some))

pub all_noted : (labels table : List ℕ) (sides : List Side) (i : ℕ) → i ≡ 0 →
    ((k : ℕ) → slice_index table k ≡ site_label (drop (labels_before sides i) labels) (drop i sides) k) → (k : ℕ) → slice_index table k ≡ site_label labels sides k
all_noted labels table sides i none each k =
    each k ∙ ap (λ (n : ℕ). site_label (drop (labels_before sides n) labels) (drop n sides) k) none
    ∙ ap (λ (n : ℕ). site_label (drop n labels) sides k) (before_first sides)
