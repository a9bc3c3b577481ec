-- The gates of a computed transfer's targets bear its label, at the word that its check reads: they are targets of the class that serves
-- it, in a graph that meets the rules.
use Rattle.std.proofs.Common.{◌≡◌, ℕ, suc, ◌<◌, ◌==◌, inl, inr, true, List, [], ◌∷◌, length, Option, Some, None, refl, sym, ap, subst, ◌∙◌}
use Rattle.std.specs.Prelude.{map, option_and_then, slice_get, slice_index, slice_index_or}
use Rattle.std.specs.List.{find, list_any}
use Rattle.std.proofs.lemmas.Bool.{cases_Bool, eqb-true, or_cases, or_left, or_right}
use Rattle.std.proofs.lemmas.List.{get_or_append_left}
use Rattle.std.proofs.lemmas.List.Quantifiers.{position-Some}
use Rattle.std.proofs.lemmas.Option.{same_Some}
use Rattle.cfi_meaning.proofs.Prelude.{GraphVersion, Contents, loaded, has, GraphLine, SiteKind, Site, Side, class_at, class_if, class_of, has_site, is_same, side_reaches, gate, graph_lines, all_classes, empty_classes, next_after, site_label, site_number, TargetWord, HasLabel, class_with, holds_of, if_serves, is_among, targets_for, InClass, IsAccepted, IsSiteOf, written_classes, written_heads, AreLabelled, word_asked, Choice, units, IsImageOf}
use Rattle.cfi_graph.specs.declared.line.SiteKind.TheVariants as K
use Rattle.cfi_rules.proofs.Moves.{in_class_label}
use Rattle.cfi_rules.proofs.PlacedLines.{class_before, no_class}
use Rattle.cfi_rules.proofs.Served.{read_by}
use Rattle.cfi_writer.proofs.ClassLines.{among_to}
use Rattle.cfi_writer.proofs.HeadLines.{heads_serve}
use Rattle.cfi_writer.proofs.SideLabels.{sites_served}
use Rattle.cfi_writer.proofs.WholeLines.{lines_are}
use Rattle.cfi_meaning.specs.PlaceLaws as law
use Rattle.cfi_meaning.proofs.Prologue.{formed, written_graph}

-- the number of a site's class
record SiteFound (sites : List Site) (next k class : ℕ) : Type 0 where
  numbered : site_number sites next k ≡ class
  there : list_any (λ (s : Site). s.place == k) sites ≡ true

site_found : (sites : List Site) (next k class : ℕ) → class_if (find (λ (s : Site). s.place == k) sites) ≡ Some class → SiteFound sites next k class
unfolding site_number
site_found [] next k class e = absurd (cc)
site_found (site ∷ sites) next k class e =
    elim (cases_Bool (site.place == k)) [
      | inl here ↦
          let of : site.class ≡ Some class = rw here at e in
          record { numbered = rw (here, of) refl; there = or_left (site.place == k) (list_any (λ (s : Site). s.place == k) sites) here }
      | inr other ↦
          let rest = site_found sites (next_after site.class next) k class (rw other at e) in
          record { numbered = rw other rest.numbered; there = or_right (site.place == k) (list_any (λ (s : Site). s.place == k) sites) rest.there }
    ]

-- two classes that are the same
same_class : (a b : Option ℕ) → is_same a b ≡ true → (class : ℕ) × (a ≡ Some class) × (b ≡ Some class)
same_class None None e = absurd (cc)
same_class None (Some b) e = absurd (cc)
same_class (Some a) None e = absurd (cc)
same_class (Some a) (Some b) e = (a, refl, ap Some (sym (eqb-true a b e)))

-- the side whose site goes to a place, and the class of both
record ReachedIn (sides : List Side) (k t : ℕ) : Type 0 where
  index : ℕ
  side : Side
  there : slice_get sides index ≡ Some side
  class : ℕ
  site : class_of side k ≡ Some class
  target : class_at side t ≡ Some class

reached_in : (sides : List Side) (k t : ℕ) → list_any (side_reaches k t) sides ≡ true → ReachedIn sides k t
reached_in [] k t e = absurd (cc)
reached_in (side ∷ sides) k t e =
    elim (or_cases (side_reaches k t side) (list_any (side_reaches k t) sides) e) [
      | inl here ↦
          let same = same_class (class_of side k) (class_at side t) here in
          record { index = 0; side = side; there = refl; class = same.0; site = same.1; target = same.2 }
      | inr later ↦
          let rest = reached_in sides k t later in
          record { index = suc rest.index; side = rest.side; there = rest.there; class = rest.class; site = rest.site; target = rest.target }
    ]

-- what the graph says of a label, the lines of its classes say
classes_alone : (m : Choice) → IsAccepted m → (kind : SiteKind) (which : TargetWord) (label : ℕ) →
    targets_for (graph_lines m.layout m.labels) kind which label ≡ targets_for (written_classes m) kind which label
unfolding class_with targets_for
classes_alone m ok kind which label =
    ap (λ (lines : List GraphLine). targets_for lines kind which label) (lines_are m ok)
    ∙ ap (option_and_then (if_serves kind which)) (class_before (written_heads m) _ label (no_class (units m) m.layout.profile.units_from label))
    ∙ heads_serve m kind which label

are_labelled : (m : Choice) → IsAccepted m → AreLabelled m.layout.closed.version m.labels m.layout.closed.sides
are_labelled m ok = record { sorts = ok.sorts; counted = ok.counted; rising = ok.labels_rise; apart = ok.apart; site_classes = ok.site_classes }

-- the word that the check of a transfer asks for is the one that it reads in code of its graph's version
pub reads_it : (version : GraphVersion) (kind : SiteKind) → word_asked version kind ≡ read_by version kind
reads_it version K.Call = refl
reads_it version K.Jump = refl

-- the class that serves a site, by its number among those of its side
pub served : (m : Choice) → IsAccepted m → (k : ℕ) (kind : SiteKind) (at : IsSiteOf m.layout.closed.sides k kind) →
    targets_for (graph_lines m.layout m.labels) kind (word_asked m.layout.closed.version kind) (site_label m.labels m.layout.closed.sides k)
    ≡ Some (map (slice_index m.layout.gates) (slice_index_or (all_classes at.side) (site_number at.side.sites (length at.side.classes) k) []))
served m ok k kind at =
    classes_alone m ok kind (word_asked m.layout.closed.version kind) (site_label m.labels m.layout.closed.sides k)
    ∙ sites_served m.layout.closed.version m.layout.gates m.labels m.layout.closed.sides (are_labelled m ok) k kind at

module _ (m : Choice) (image : Contents) (of : IsImageOf m image) (k t : ℕ) (kind : SiteKind) (at : IsSiteOf m.layout.closed.sides k kind) (class : ℕ)
    (reached : class_of at.side k ≡ Some class) (target : class_at at.side t ≡ Some class) where
  abbrev which : TargetWord
  which = word_asked m.layout.closed.version kind

  abbrev label : ℕ
  label = site_label m.labels m.layout.closed.sides k

  abbrev members : List ℕ
  members = slice_index_or (all_classes at.side) (site_number at.side.sites (length at.side.classes) k) []

  found : (class < length at.side.classes) × (has t (slice_index_or at.side.classes class []) ≡ true)
  found = let is = position-Some (has t) at.side.classes class [] target in (is.0, is.1)

  class_is : members ≡ slice_index_or at.side.classes class []
  class_is =
      ap (λ (n : ℕ). slice_index_or (all_classes at.side) n []) (site_found at.side.sites (length at.side.classes) k class reached).numbered
      ∙ get_or_append_left at.side.classes (empty_classes at.side.sites) [] class found.0

  inside : InClass (graph_lines m.layout m.labels) kind which label (gate m.layout t)
  inside =
      ap (λ (o : Option (List ℕ)). holds_of o (is_among (gate m.layout t))) (served m of.accepted k kind at)
      ∙ among_to (slice_index m.layout.gates) members t (ap (has t) class_is ∙ found.1)

  label_borne : HasLabel (loaded image) which label (gate m.layout t)
  label_borne =
      in_class_label m.layout.profile of.accepted.profile image (written_graph m image of) of.bytes (formed m image of) kind which label (gate m.layout t)
      (reads_it m.layout.closed.version kind) inside

pub target_bears : law.TargetBears
target_bears m image k t kind of below some reaches =
    let at = of.accepted.sites k kind below some in
    let own = reached_in m.layout.closed.sides k t reaches in
    let has_it : has_site k own.side ≡ true = (site_found own.side.sites 0 k own.class own.site).there in
    let index : own.index ≡ at.index = at.alone own.index own.side own.there has_it in
    let same : own.side ≡ at.side =
    same_Some own.side at.side (sym own.there ∙ ap (slice_get m.layout.closed.sides) index ∙ at.there) in
    label_borne m image of k t kind at own.class
    (subst (λ (s : Side). class_of s k ≡ Some own.class) same own.site)
    (subst (λ (s : Side). class_at s t ≡ Some own.class) same own.target)
