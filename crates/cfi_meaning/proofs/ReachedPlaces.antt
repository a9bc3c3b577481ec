-- Where a computed transfer goes that bears its label: to a target of its class.
use Rattle.std.proofs.Common.{◌≡◌, ℕ, ◌<◌, inl, inr, true, false, List, [], length, Option, Some, refl, sym, ap, ◌∙◌}
use Rattle.std.specs.Prelude.{map, slice_get, slice_index, slice_index_or}
use Rattle.std.proofs.lemmas.Bool.{and_from, cases_lt}
use Rattle.std.proofs.lemmas.List.{get_or_past}
use Rattle.std.proofs.lemmas.Option.{slice_get-get_or}
use Rattle.cfi_meaning.proofs.Prelude.{Contents, loaded, count, item_of, has, SiteKind, is_of, is_target, is_target_of, site_kind, is_call_target, serves_calls, gate, all_classes, site_label, site_number, TargetWord, HasLabel, holds_of, is_among, IsSiteOf, word_asked, Choice, IsImageOf}
use Rattle.cfi_graph.specs.declared.line.SiteKind.TheVariants as K
use Rattle.cfi_rules.proofs.Labels.{label_in_class}
use Rattle.cfi_writer.proofs.ClassLines.{among_from}
use Rattle.cfi_writer.proofs.Leading.{asked_small}
use Rattle.cfi_writer.proofs.SideLabels.{any_get, in_classes, is_in}
use Rattle.cfi_meaning.proofs.Prologue.{formed, written_graph}
use Rattle.cfi_meaning.proofs.Targets.{reads_it, served}

-- a member of the class at an index
class_there : (classes : List (List ℕ)) (n t : ℕ) → has t (slice_index_or classes n []) ≡ true → slice_get classes n ≡ Some (slice_index_or classes n [])
class_there classes n t there =
    elim (cases_lt n (length classes)) [
      | inl below ↦ slice_get-get_or classes n [] below
      | inr past ↦
          let none = get_or_past classes n [] past in
          let wrong : false ≡ true = sym (ap (has t) none) ∙ there in
          absurd (cc)
    ]

-- a target at an address, of computed calls where the transfer is a call
pub record Reached (m : Choice) (kind : SiteKind) (a : ℕ) : Type 0 where
  pub place : ℕ
  pub below : place < count m.layout.program
  pub gate_is : gate m.layout place ≡ a
  pub target : is_target m.layout.closed.sides place ≡ true
  pub serves : kind ≡ K.Call → is_call_target m.layout.closed.sides place ≡ true

module _ (m : Choice) (image : Contents) (of : IsImageOf m image) (k : ℕ) (kind : SiteKind) (at : IsSiteOf m.layout.closed.sides k kind) where
  abbrev which : TargetWord
  which = word_asked m.layout.closed.version kind

  abbrev label : ℕ
  label = site_label m.labels m.layout.closed.sides k

  abbrev number : ℕ
  number = site_number at.side.sites (length at.side.classes) k

  abbrev members : List ℕ
  members = slice_index_or (all_classes at.side) number []

  member_reached : (t : ℕ) → has t members ≡ true → Reached m kind (gate m.layout t)
  member_reached t there =
      let class = in_classes at.side.classes at.side.sites number t members (class_there (all_classes at.side) number t there) there in
      let here : is_target_of t at.side ≡ true = any_get (has t) at.side.classes number members class there in
      record {
        place = t;
        below = of.accepted.members at.index number t at.side at.there (is_in at.side.classes number t members class there);
        gate_is = refl;
        target = any_get (is_target_of t) m.layout.closed.sides at.index at.side at.there here;
        serves = λ call.
            any_get (serves_calls t) m.layout.closed.sides at.index at.side at.there
            (and_from (is_of at.side.sort K.Call) (is_target_of t at.side) (ap (is_of at.side.sort) (sym call) ∙ at.sort) here);
      }

  pub bearer_reached : (a : ℕ) → HasLabel (loaded image) which label a → Reached m kind a
  bearer_reached a bears =
      let inside =
      label_in_class m.layout.profile of.accepted.profile image (written_graph m image of) of.bytes (formed m image of) kind which label a
      (map (slice_index m.layout.gates) members) (reads_it m.layout.closed.version kind) (asked_small m of.accepted k) (served m of.accepted k kind at) bears in
      let among : is_among a (map (slice_index m.layout.gates) members) ≡ true = sym (ap (λ (o : Option (List ℕ)). holds_of o (is_among a)) (served m of.accepted k kind at)) ∙ inside in
      let (t, there, gate_is) = among_from (slice_index m.layout.gates) members a among in
      let reached = member_reached t there in
      record { place = reached.place; below = reached.below; gate_is = reached.gate_is ∙ gate_is; target = reached.target; serves = reached.serves }

-- of the transfer at a place
pub place_reached : (m : Choice) (image : Contents) (of : IsImageOf m image) (k : ℕ) (kind : SiteKind) (a : ℕ) → k < count m.layout.program →
    site_kind (item_of m.layout.program k).kind ≡ Some kind →
    HasLabel (loaded image) (word_asked m.layout.closed.version kind) (site_label m.labels m.layout.closed.sides k) a → Reached m kind a
place_reached m image of k kind a below some bears = bearer_reached m image of k kind (of.accepted.sites k kind below some) a bears
