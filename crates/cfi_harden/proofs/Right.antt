-- The graph and the map that are written are ones that their texts spell.
use Rattle.std.proofs.Common.{◌≡◌, ℕ, ◌*◌, List, [], ◌∷◌, length, get_or, drop, map, refl, sym, ap, subst, ◌∙◌}
use Rattle.cfi_harden.proofs.Prelude.{GraphVersion, graph_version, profile_for, Profile, GraphParts, IsGraph, IsMap, MapParts, MapLine, ProgramAtMap, graph_lines, IsLegalMap, gates_of, Spaced, IsAccepted, HardenedParts, IsWritten, chosen, written_code, map_lines, Choice, IsFitting, HardenedIsRight, IsPreparedOf, PreparedParts, ProgramRequest}
use Rattle.cfi_rules.proofs.Bytes.{length-code_words}
use Rattle.cfi_writer.proofs.MapFits.{accepted_map}
use Rattle.cfi_writer.proofs.PlaceLines.{gates_are, legal_map}
use Rattle.cfi_writer.proofs.WholeImage.{is_graph}
use Rattle.cfi_harden.proofs.Accepting.{graph_there}
use Rattle.cfi_harden.proofs.Ready.{written_accepted}

-- lines of a map
abbrev sections : List MapLine → List ℕ
sections lines = map (λ (l : MapLine). l.section) lines

abbrev offsets : List MapLine → List ℕ
offsets lines = map (λ (l : MapLine). l.offset) lines

pub lines_same : (a b : List MapLine) → gates_of a ≡ gates_of b → sections a ≡ sections b → offsets a ≡ offsets b → a ≡ b
lines_same [] [] g s o = refl
lines_same [] (m ∷ b) g s o = absurd (cc)
lines_same (l ∷ a) [] g s o = absurd (cc)
lines_same (l ∷ a) (m ∷ b) g s o =
    let gate = ap (λ (xs : List ℕ). get_or xs 0 0) g in
    let section = ap (λ (xs : List ℕ). get_or xs 0 0) s in
    let offset = ap (λ (xs : List ℕ). get_or xs 0 0) o in
    let line : l ≡ m = λ i. record { gate = gate i; section = section i; offset = offset i } in
    let rest = lines_same a b (ap (λ (xs : List ℕ). drop 1 xs) g) (ap (λ (xs : List ℕ). drop 1 xs) s) (ap (λ (xs : List ℕ). drop 1 xs) o) in
    ap (λ (x : MapLine). x ∷ a) line ∙ ap (λ (xs : List MapLine). m ∷ xs) rest

module _ (request : ProgramRequest) (p : PreparedParts) (s : Spaced) (labels code init : List ℕ) (h : HardenedParts)
    (prepared : IsPreparedOf request p) (fitting : IsFitting p s) (w : IsWritten p.form s labels code init h) where
  abbrev m : Choice
  m = chosen s labels

  ok : IsAccepted m
  ok = written_accepted request p s labels code init h prepared fitting w

  profile_is : s.layout.profile ≡ profile_for p.form
  profile_is = ap (λ (l : ProgramAtMap). l.profile) fitting.placed.of

  version_is : s.layout.closed.version ≡ graph_version p.form
  version_is =
      ap (λ (l : ProgramAtMap). l.closed.version) fitting.placed.of
      ∙ (graph_there (graph_version p.form) p.program request.policy p.closed prepared.closed).1

  -- the graph is that of code and labels
  graph_right : IsGraph h.graph
  graph_right =
      let long : length code ≡ 4 * length (written_code m) = sym (length-code_words code w.bytes.size.words) ∙ ap (λ (ws : List ℕ). 4 * length ws) w.code_is in
      let named : record { version = s.layout.closed.version; code = length code; lines = graph_lines s.layout labels } ≡ h.graph =
      ap (λ (v : GraphVersion). record { version = v; code = length code; lines = graph_lines s.layout labels }) version_is ∙ sym w.graph in
      subst IsGraph named (is_graph m (length code) ok long)

  -- the map has the lines of the places at their gates
  map_is : record { form = p.form; lines = map_lines s.layout } ≡ h.map
  map_is =
      let legal = legal_map p.form m ok profile_is in
      let lines : map_lines s.layout ≡ h.map.lines =
      lines_same (map_lines s.layout) h.map.lines (gates_are m ok ∙ sym w.gates) (legal.sections ∙ sym w.map.sections) (legal.offsets ∙ sym w.map.offsets) in
      let form : p.form ≡ h.map.form = sym w.map_form in
      λ i. record { form = form i; lines = lines i }

  map_right : IsMap h.map
  map_right =
      subst IsMap map_is
      (accepted_map p.form m ok profile_is (λ k below. let near = w.fits_maps.fits k below in (near.section, near.whole, near.near)))

pub hardened_is_right : HardenedIsRight
hardened_is_right request p h prepared (s, labels, code, init, placed, room, in_range, w) =
    let fitting : IsFitting p s = record { placed = placed; room = room; in_range = in_range } in (
      graph_right request p s labels code init h prepared fitting w,
      map_right request p s labels code init h prepared fitting w,
    )
