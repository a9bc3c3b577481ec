-- Worked programs that are accepted: one with a short branch, also as an image for several harts, one with a class and a site, and one with
-- a leaf under a graph of version 3. So what holds of each accepted choice holds of their code.
use Rattle.std.proofs.Common.{◌≡◌, ℕ, zero, suc, ◌+◌, ◌^◌, ◌<◌, ◌||◌, inl, inr, Bool, true, false, List, [], ◌∷◌, Some, length, refl, sym, ap, subst, ◌∙◌, lit<, lit≤, arith, All, get_or, not, ◌==◌, slice_get, eqb-true}
use Rattle.std.specs.Prelude.{is_some, nat_lt, slice_index_or}
use Rattle.std.proofs.lemmas.Bool.{agree_below, agree_below_at, ltb-true}
use Rattle.std.proofs.lemmas.Option.{same_Some}
use Rattle.cfi_writer.proofs.Prelude.{decoded, code_of, Item, instr_at, AreInOrder, count, is_before, is_end, item_of, no_item, IsSound, aims, is_patch, is_read, IsIn, AreLabels, SiteKind, Both, Site, Side, has_site, is_of, head, is_spoilt_by, ProgramAtMap, words_at, used_labels, empty_classes, label_at, labels_of, site_label, site_number, tagged, AreGroups, AreGates, whole_at, words_from, site_kind, words_of, code_from, IsAccepted, IsShortAt, is_branch, Choice, bounds_at, followers, is_later_at, units_of}
use Rattle.std.specs.List.Sorted.{IsStrictlyIncreasing}
use Rattle.rv_word.proofs.Booleans.{implied}
use Rattle.cfi_class.proofs.Sets.{in_none}
use Rattle.cfi_writer.proofs.Grouping.{later_below}
use Rattle.cfi_writer.proofs.LeanRows.{calling_leaf, no_sides}
use Rattle.cfi_writer.proofs.WrittenRows.{pointer, short, short_of_harts}

abbrev no_side : Side
no_side = record { sort = Both; classes = []; sites = [] }

-- what a test finds of each of so many places
each : (n : ℕ) (test : ℕ → Bool) → agree_below test (λ k. true) n ≡ true → (k : ℕ) → k < n → test k ≡ true
each n test all k below = agree_below_at test (λ i. true) n k all below

-- of one side there is no other
only_side : (side : Side) (j : ℕ) (other : Side) → slice_get (side ∷ []) j ≡ Some other → (j ≡ 0) × (side ≡ other)
only_side side zero other there = (refl, same_Some side other there)
only_side side (suc j) other there = absurd (cc)

-- where no place holds a later store there is nothing to ask
no_groups : (m : Choice) → agree_below (is_later_at m) (λ k. false) (count m.layout.program) ≡ true →
    AreGroups (item_of m.layout.program) (bounds_at m) (whole_at m.whole)
no_groups m none k later =
    let first = agree_below_at (is_later_at m) (λ n. false) (count m.layout.program) k none (later_below m k later) in
    let wrong : true ≡ false = sym later ∙ first in
    absurd (cc)

-- places are in order where a test finds so of each two
is_past : List Item → ℕ → ℕ → Bool
is_past items j i =
    is_before (slice_index_or items i no_item) (slice_index_or items j no_item).section (slice_index_or items j no_item).offset

ordered : (items : List Item) → agree_below (λ j. agree_below (is_past items j) (λ i. true) j) (λ j. true) (length items) ≡ true → AreInOrder items
unfolding is_past
ordered items all i j less below =
    agree_below_at (is_past items j) (λ n. true) j i (each (length items) (λ n. agree_below (is_past items n) (λ m. true) n) all j below) less

sound : IsSound short.layout.program
unfolding is_past decoded
sound = record {
  in_order = ordered short.layout.program.items refl;
  few = lit< tt;
  read = each 4 (λ k. is_read (item_of short.layout.program k)) refl;
  patches = each 4 (λ k. is_patch short.layout.program (item_of short.layout.program k).patch) refl;
  targets = each 4 (λ k. aims short.layout.program (item_of short.layout.program k).kind (item_of short.layout.program k).target) refl;
  relocations = λ j r get. absurd (cc);
}

values_there : (ends some : Bool) → (ends || some) ≡ true → ends ≡ false → some ≡ true
values_there true some e f = absurd (cc)
values_there false some e f = e

none_some : (b : Bool) → (b ≡ false) → b ≡ true → ⊥
none_some b e f = let wrong : false ≡ true = sym e ∙ f in absurd (cc)

one_short : (layout : ProgramAtMap) (k target : ℕ) → is_branch (item_of short.layout.program k).kind ≡ true →
    (item_of short.layout.program k).target ≡ Some target → IsShortAt layout 0 2 → IsShortAt layout k target
one_short layout zero target branch some is = subst (λ (t : ℕ). IsShortAt layout 0 t) (same_Some 2 target some) is
one_short layout (suc zero) target branch some is = absurd (cc)
one_short layout (suc (suc zero)) target branch some is = absurd (cc)
one_short layout (suc (suc (suc zero))) target branch some is = absurd (cc)
one_short layout (suc (suc (suc (suc k)))) target branch some is = absurd (cc)

pub short_accepted : IsAccepted short
unfolding AreGates decoded instr_at words_from units_of followers code_from words_of code_of labels_of label_at site_label site_number empty_classes tagged
short_accepted = record {
  profile = inl (inl refl);
  saves = refl;
  sound = sound;
  words = λ k below. ltb-true (item_of short.layout.program k).word (2 ^ 32) (each 4 (λ n. nat_lt (item_of short.layout.program n).word (2 ^ 32)) refl k below);
  last = (3, refl, refl);
  entry_there = lit< tt;
  legal = (refl, (refl, (refl, (refl, tt))));
  groups = no_groups short refl;
  room = lit≤ tt;
  values = λ k below some. values_there (is_end (item_of short.layout.program k).kind)
      (is_some (instr_at short.layout.program short.layout.gates (words_at short.layout) k))
      (each 4 (λ n. is_end (item_of short.layout.program n).kind || is_some (instr_at short.layout.program short.layout.gates (words_at short.layout) n)) refl k below) some;
  calls = refl;
  sorts = refl;
  members = λ j c k side there in_class. absurd (in_none k (subst (λ (s : Side). IsIn s.classes c k) (sym (only_side no_side j side there).1) in_class));
  rising = λ j side there. subst (λ (s : Side). All IsStrictlyIncreasing s.classes) (only_side no_side j side there).1 (λ k d below. absurd (omega arith));
  apart = λ j a b k side there in_one in_other. absurd (in_none k (subst (λ (s : Side). IsIn s.classes a k) (sym (only_side no_side j side there).1) in_one));
  site_classes = λ j i c side site there.
      subst (λ (s : Side). slice_get s.sites i ≡ Some site → site.class ≡ Some c → c < length s.classes) (only_side no_side j side there).1 (λ get. absurd (cc));
  sites = λ k kind below site. absurd (none_some (is_some (site_kind (item_of short.layout.program k).kind))
      (agree_below_at (λ n. is_some (site_kind (item_of short.layout.program n).kind)) (λ n. false) 4 k refl below) (ap is_some site));
  counted = refl;
  labels = λ k below. absurd (omega arith);
  labels_rise = λ k below. absurd (omega arith);
  labels_small = λ k d below. absurd (omega arith);
  shorts = λ k target below branch flag some. one_short short.layout k target branch some (record { back = lit≤ tt; ahead = lit≤ tt; free = refl });
}

pub short_of_harts_accepted : IsAccepted short_of_harts
unfolding AreGates decoded instr_at words_from units_of followers code_from words_of code_of labels_of label_at site_label site_number empty_classes tagged
short_of_harts_accepted = record {
  profile = inl (inr refl);
  saves = refl;
  sound = sound;
  words = short_accepted.words;
  last = (3, refl, refl);
  entry_there = lit< tt;
  legal = (refl, (refl, (refl, (refl, tt))));
  groups = no_groups short_of_harts refl;
  room = lit≤ tt;
  values = λ k below some. values_there (is_end (item_of short_of_harts.layout.program k).kind)
      (is_some (instr_at short_of_harts.layout.program short_of_harts.layout.gates (words_at short_of_harts.layout) k))
      (each 4 (λ n. is_end (item_of short_of_harts.layout.program n).kind || is_some (instr_at short_of_harts.layout.program short_of_harts.layout.gates (words_at short_of_harts.layout) n)) refl k below) some;
  calls = refl;
  sorts = refl;
  members = short_accepted.members;
  rising = short_accepted.rising;
  apart = short_accepted.apart;
  sites = short_accepted.sites;
  site_classes = short_accepted.site_classes;
  counted = refl;
  labels = short_accepted.labels;
  labels_rise = short_accepted.labels_rise;
  labels_small = short_accepted.labels_small;
  shorts = λ k target below branch flag some. one_short short_of_harts.layout k target branch some (record { back = lit≤ tt; ahead = lit≤ tt; free = refl });
}

-- the one side of the other program
abbrev pointer_side : Side
pointer_side = record { sort = Both; classes = (8 ∷ 10 ∷ []) ∷ []; sites = record { place = 4; class = Some 0 } ∷ [] }

pointer_sound : IsSound pointer.layout.program
unfolding is_past decoded
pointer_sound = record {
  in_order = ordered pointer.layout.program.items refl;
  few = lit< tt;
  read = each 13 (λ k. is_read (item_of pointer.layout.program k)) refl;
  patches = each 13 (λ k. is_patch pointer.layout.program (item_of pointer.layout.program k).patch) refl;
  targets = each 13 (λ k. aims pointer.layout.program (item_of pointer.layout.program k).kind (item_of pointer.layout.program k).target) refl;
  relocations = λ j r get. absurd (cc);
}

-- the members of the one class
member_below : (i k : ℕ) → i < 2 → get_or (8 ∷ 10 ∷ []) i k ≡ k → k < 13
member_below zero k below e = omega arith
member_below (suc zero) k below e = omega arith
member_below (suc (suc i)) k below e = absurd (omega arith)

class_member : (c k : ℕ) → IsIn pointer_side.classes c k → (c ≡ 0) × (k < 13)
class_member zero k (i, below, e) = (refl, member_below i k below e)
class_member (suc c) k there = absurd (in_none k there)

class_rises : (k : ℕ) → k + 1 < 2 → get_or (8 ∷ 10 ∷ []) k 0 < get_or (8 ∷ 10 ∷ []) (k + 1) 0
class_rises zero below = lit< tt
class_rises (suc k) below = absurd (omega arith)

classes_rise : All IsStrictlyIncreasing pointer_side.classes
classes_rise zero d below = class_rises
classes_rise (suc k) d below = absurd (omega arith)

site_there : (k : ℕ) → k < count pointer.layout.program → is_some (site_kind (item_of pointer.layout.program k).kind) ≡ true →
    has_site k pointer_side ≡ true
site_there k below some =
    let four : (k == 4) ≡ true = implied (is_some (site_kind (item_of pointer.layout.program k).kind)) (k == 4)
    (each 13 (λ n. not (is_some (site_kind (item_of pointer.layout.program n).kind)) || (n == 4)) refl k below) some in
    ap (λ (n : ℕ). has_site n pointer_side) (eqb-true k 4 four)

sort_has : (kind : SiteKind) → is_of Both kind ≡ true
sort_has kind = refl

site_class : (i c : ℕ) (site : Site) → slice_get pointer_side.sites i ≡ Some site → site.class ≡ Some c → c < length pointer_side.classes
site_class zero c site get some =
    let one = same_Some (record { place = 4; class = Some 0 }) site get in
    let same : 0 ≡ c = same_Some 0 c (ap (λ (x : Site). x.class) one ∙ some) in
    omega arith
site_class (suc i) c site get some = absurd (cc)

label_least : AreLabels (used_labels pointer.layout.program) pointer.labels
label_least zero below = record {
  from_one = lit≤ tt;
  free = λ taken. elim taken [ inl used ↦ in_none 1 used | inr earlier ↦ in_none 1 earlier ];
  least = λ n low less. absurd (omega arith);
}
label_least (suc k) below = absurd (omega arith)

label_below : All (λ label. label < 2 ^ 20) pointer.labels
label_below zero d below = lit< tt
label_below (suc k) d below = absurd (omega arith)

pub pointer_accepted : IsAccepted pointer
unfolding AreGates decoded instr_at words_from units_of followers code_from words_of code_of labels_of label_at site_label site_number empty_classes tagged
pointer_accepted = record {
  profile = inl (inl refl);
  saves = refl;
  sound = pointer_sound;
  words = λ k below. ltb-true (item_of pointer.layout.program k).word (2 ^ 32) (each 13 (λ n. nat_lt (item_of pointer.layout.program n).word (2 ^ 32)) refl k below);
  last = (12, refl, refl);
  entry_there = lit< tt;
  legal = (refl, (refl, (refl, (refl, (refl, (refl, (refl, (refl, (refl, (refl, (refl, (refl, (refl, tt)))))))))))));
  groups = no_groups pointer refl;
  room = lit≤ tt;
  values = λ k below some. values_there (is_end (item_of pointer.layout.program k).kind)
      (is_some (instr_at pointer.layout.program pointer.layout.gates (words_at pointer.layout) k))
      (each 13 (λ n. is_end (item_of pointer.layout.program n).kind || is_some (instr_at pointer.layout.program pointer.layout.gates (words_at pointer.layout) n)) refl k below) some;
  calls = refl;
  sorts = refl;
  members = λ j c k side there inside.
      (class_member c k (subst (λ (s : Side). IsIn s.classes c k) (sym (only_side pointer_side j side there).1) inside)).1;
  rising = λ j side there.
      subst (λ (s : Side). All IsStrictlyIncreasing s.classes) (only_side pointer_side j side there).1 classes_rise;
  apart = λ j a b k side there in_one in_other.
      (class_member a k (subst (λ (s : Side). IsIn s.classes a k) (sym (only_side pointer_side j side there).1) in_one)).0
      ∙ sym (class_member b k (subst (λ (s : Side). IsIn s.classes b k) (sym (only_side pointer_side j side there).1) in_other)).0;
  site_classes = λ j i c side site there.
      subst (λ (s : Side). slice_get s.sites i ≡ Some site → site.class ≡ Some c → c < length s.classes)
      (only_side pointer_side j side there).1 (site_class i c site);
  sites = λ k kind below some. record {
    index = 0;
    side = pointer_side;
    there = refl;
    sort = sort_has kind;
    site = site_there k below (ap is_some some);
    alone = λ j other there has. (only_side pointer_side j other there).0;
  };
  counted = refl;
  labels = label_least;
  labels_rise = λ k below. absurd (omega arith);
  labels_small = label_below;
  shorts = λ k target below branch flag some. absurd (none_some (is_branch (item_of pointer.layout.program k).kind)
      (agree_below_at (λ n. is_branch (item_of pointer.layout.program n).kind) (λ n. false) 13 k refl below) branch);
}

-- the program that calls a leaf, under a graph of version 3, which has two sides
lean_sound : IsSound calling_leaf.layout.program
unfolding is_past decoded
lean_sound = record {
  in_order = ordered calling_leaf.layout.program.items refl;
  few = lit< tt;
  read = each 5 (λ k. is_read (item_of calling_leaf.layout.program k)) refl;
  patches = each 5 (λ k. is_patch calling_leaf.layout.program (item_of calling_leaf.layout.program k).patch) refl;
  targets = each 5 (λ k. aims calling_leaf.layout.program (item_of calling_leaf.layout.program k).kind (item_of calling_leaf.layout.program k).target) refl;
  relocations = λ j r get. absurd (cc);
}

-- neither side has a class or a site
no_classes : (j : ℕ) (side : Side) → slice_get no_sides j ≡ Some side → ([] ≡ side.classes) × ([] ≡ side.sites)
no_classes zero side there = let same = same_Some _ side there in (ap (λ (s : Side). s.classes) same, ap (λ (s : Side). s.sites) same)
no_classes (suc zero) side there = let same = same_Some _ side there in (ap (λ (s : Side). s.classes) same, ap (λ (s : Side). s.sites) same)
no_classes (suc (suc j)) side there = absurd (cc)

none_of : (j c k : ℕ) (side : Side) → slice_get no_sides j ≡ Some side → IsIn side.classes c k → ⊥
none_of j c k side there inside = in_none k (subst (λ (cs : List (List ℕ)). IsIn cs c k) (sym (no_classes j side there).0) inside)

pub lean_accepted : IsAccepted calling_leaf
unfolding AreGates decoded instr_at words_from units_of followers code_from words_of code_of labels_of label_at site_label site_number empty_classes tagged head is_spoilt_by
lean_accepted = record {
  profile = inr (inl refl);
  saves = refl;
  sound = lean_sound;
  words = λ k below. ltb-true (item_of calling_leaf.layout.program k).word (2 ^ 32) (each 5 (λ n. nat_lt (item_of calling_leaf.layout.program n).word (2 ^ 32)) refl k below);
  last = (4, refl, refl);
  entry_there = lit< tt;
  legal = (refl, (refl, (refl, (refl, (refl, tt)))));
  groups = no_groups calling_leaf refl;
  room = lit≤ tt;
  values = λ k below some. values_there (is_end (item_of calling_leaf.layout.program k).kind)
      (is_some (instr_at calling_leaf.layout.program calling_leaf.layout.gates (words_at calling_leaf.layout) k))
      (each 5 (λ n. is_end (item_of calling_leaf.layout.program n).kind || is_some (instr_at calling_leaf.layout.program calling_leaf.layout.gates (words_at calling_leaf.layout) n)) refl k below) some;
  calls = refl;
  sorts = refl;
  members = λ j c k side there inside. absurd (none_of j c k side there inside);
  rising = λ j side there. subst (λ (cs : List (List ℕ)). All IsStrictlyIncreasing cs) (no_classes j side there).0 (λ k d below. absurd (omega arith));
  apart = λ j a b k side there in_one in_other. absurd (none_of j a k side there in_one);
  site_classes = λ j i c side site there.
      subst (λ (sites : List Site). slice_get sites i ≡ Some site → site.class ≡ Some c → c < length side.classes) (no_classes j side there).1 (λ get. absurd (cc));
  sites = λ k kind below site. absurd (none_some (is_some (site_kind (item_of calling_leaf.layout.program k).kind))
      (agree_below_at (λ n. is_some (site_kind (item_of calling_leaf.layout.program n).kind)) (λ n. false) 5 k refl below) (ap is_some site));
  counted = refl;
  labels = λ k below. absurd (omega arith);
  labels_rise = λ k below. absurd (omega arith);
  labels_small = λ k d below. absurd (omega arith);
  shorts = λ k target below branch flag some. absurd (none_some (is_branch (item_of calling_leaf.layout.program k).kind)
      (agree_below_at (λ n. is_branch (item_of calling_leaf.layout.program n).kind) (λ n. false) 5 k refl below) branch);
}
