-- One hardened program is right for a request.
use Rattle.std.proofs.Common.{◌≡◌, ℕ, List, length, map, sym, ap, subst, ◌∙◌}
use Rattle.std.proofs.lemmas.Option.{same_Some}
use Rattle.cfi_single.proofs.Prelude.{graph_version, image_version, spelling, GraphParts, data_at, Item, ProgramAtMap, arrival, graph_lines, used_labels, placed_code, AreGiven, HardenedParts, IsWritten, chosen, IsWrittenOf, written_code, IsPlacementOf, Spaced, PreparedParts, HardenedInOneWay}
use Rattle.cfi_unit.specs.declared.unit.Unit as U
use Rattle.cfi_harden.proofs.Right.{lines_same}
use Rattle.cfi_single.proofs.Placed.{layout_unique, sizes_same}
use Rattle.cfi_single.proofs.Prepared.{prepared_unique}
use Rattle.cfi_single.proofs.Written.{bytes_same, labels_unique, under, units_same}

module _ (p : PreparedParts) (s t : Spaced) (labels others code more init filled : List ℕ) (h g : HardenedParts)
    (hs : IsPlacementOf p.form p.program p.closed p.entry s) (ht : IsPlacementOf p.form p.program p.closed p.entry t)
    (written : IsWritten p.form s labels code init h) (other : IsWritten p.form t others more filled g) where
  layouts_are : s.layout ≡ t.layout
  layouts_are = layout_unique p.form p.program p.closed p.entry s t hs ht

  labels_are : labels ≡ others
  labels_are =
      let given = subst (λ (l : ProgramAtMap). AreGiven l.program l.closed labels) layouts_are written.labelled in
      labels_unique (used_labels t.layout.program) labels others (given.counted ∙ sym other.labelled.counted) given.least other.labelled.least

  code_written : written_code (chosen s labels) ≡ written_code (chosen t others)
  code_written =
      ap (λ (l : ProgramAtMap). written_code (under l labels s.whole)) layouts_are
      ∙ ap (λ (us : List U.Unit). placed_code t.layout.profile (arrival t.layout t.layout.entry) us)
      (units_same t.layout labels s.whole t.whole (sizes_same p.form p.program p.closed p.entry s t hs ht))
      ∙ ap (λ (ls : List ℕ). written_code (under t.layout ls t.whole)) labels_are

  code_is : code ≡ more
  code_is =
      bytes_same code more written.bytes.size.words other.bytes.size.words written.bytes.code other.bytes.code
      (written.code_is ∙ code_written ∙ sym other.code_is)

  init_is : init ≡ filled
  init_is =
      same_Some init filled (sym written.init_is ∙ ap (λ (l : ProgramAtMap). data_at l.program l.gates) layouts_are ∙ other.init_is)

  image_is : h.image ≡ g.image
  image_is =
      written.image ∙ ap (λ (bytes : List ℕ). spelling (image_version p.form) bytes init) code_is ∙ ap (spelling (image_version p.form) more) init_is ∙ sym other.image

  -- the graph of a code as long as this one
  abbrev graph_at : List ℕ → ProgramAtMap → List ℕ → GraphParts
  graph_at bytes layout ls = record { version = graph_version p.form; code = length bytes; lines = graph_lines layout ls }

  graph_is : h.graph ≡ g.graph
  graph_is =
      written.graph ∙ ap (λ (bytes : List ℕ). graph_at bytes s.layout labels) code_is
      ∙ ap (λ (l : ProgramAtMap). graph_at more l labels) layouts_are ∙ ap (graph_at more t.layout) labels_are
      ∙ sym other.graph

  lines_are : h.map.lines ≡ g.map.lines
  lines_are =
      lines_same h.map.lines g.map.lines (written.gates ∙ ap (λ (l : ProgramAtMap). l.gates) layouts_are ∙ sym other.gates)
      (written.map.sections ∙ ap (λ (l : ProgramAtMap). map (λ (i : Item). i.section) l.program.items) layouts_are ∙ sym other.map.sections)
      (written.map.offsets ∙ ap (λ (l : ProgramAtMap). map (λ (i : Item). i.offset) l.program.items) layouts_are ∙ sym other.map.offsets)

  map_is : h.map ≡ g.map
  map_is = λ i. record { form = (written.map_form ∙ sym other.map_form) i; lines = lines_are i }

  pub written_same : h ≡ g
  written_same = λ i. record { image = image_is i; graph = graph_is i; map = map_is i }

-- what is written of a prepared program
pub written_unique : (p : PreparedParts) (h g : HardenedParts) → IsWrittenOf p h → IsWrittenOf p g → h ≡ g
written_unique p h g (s, labels, code, init, hs, room, fits, written) (t, others, more, filled, ht, room', fits', other) =
    written_same p s t labels others code more init filled h g hs ht written other

pub hardened_unique : HardenedInOneWay
hardened_unique request h g (p, prepared, written) (q, prepared', written') =
    let same : p ≡ q = prepared_unique request p q prepared prepared' in
    written_unique p h g written (subst (λ (x : PreparedParts). IsWrittenOf x g) (sym same) written')
