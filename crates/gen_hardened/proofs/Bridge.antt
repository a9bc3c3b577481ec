-- The relocations of lines that stand at a place are those of the line there.
use Rattle.std.proofs.Common.{◌≡◌, ◌≢◌, ℕ, zero, suc, ◌+◌, ◌*◌, ◌<◌, Bool, not, List, [], ◌∷◌, ◌++◌, length, map, filter, filter_map, Option, inl, inr, refl, ap, subst, ◌∙◌, arith, append-nil, eq-eqb, ne_eqb}
use Rattle.std.proofs.lemmas.Bool.{cases_Bool}
use Rattle.std.proofs.lemmas.List.{map-append}
use Rattle.std.proofs.lemmas.List.Elements.{filter-append, filter_map-append}
use Rattle.gen_hardened.proofs.Prelude.{Reloc, Relocation, Definition, is_idle, kind_of, acting_among, Mark, Line, mark_at, relocs_from}
use Rattle.gen_hardened.proofs.Encoded.{line}

-- a relocation with what its symbol stands for
abbrev pub use_by : (ℕ → Definition) → Reloc → Relocation
use_by definition r = record { offset = r.offset; number = r.kind; addend = r.addend; definition = definition r.symbol }

abbrev pub uses_by : (ℕ → Definition) → ℕ → List Mark → List Relocation
uses_by definition at marks = map (use_by definition) (map (mark_at at) marks)

-- the marks that do something
abbrev pub is_acting_mark : Mark → Bool
is_acting_mark m = not (is_idle (kind_of m.kind))

abbrev pub acting_marks : List Mark → List Mark
acting_marks marks = filter is_acting_mark marks

module _ (definition : ℕ → Definition) where
  none_elsewhere : (at place : ℕ) (marks : List Mark) → at ≢ place → acting_among (uses_by definition at marks) place ≡ []
  none_elsewhere at place [] other = refl
  none_elsewhere at place (m ∷ marks) other = rw (ne_eqb at place other) (none_elsewhere at place marks other)

  acting_here : (at : ℕ) (marks : List Mark) → acting_among (uses_by definition at marks) at ≡ uses_by definition at (acting_marks marks)
  acting_here at [] = refl
  acting_here at (m ∷ marks) = elim (cases_Bool (is_acting_mark m)) [
    | inl acting ↦ rw (eq-eqb at at refl, acting, acting_here at marks) refl
    | inr idle ↦ rw (eq-eqb at at refl, idle) (acting_here at marks)
  ]

  in_two : (at place : ℕ) (l : Line) (ls : List Line) → acting_among (map (use_by definition) (relocs_from at (l ∷ ls))) place
      ≡ acting_among (uses_by definition at l.marks) place ++ acting_among (map (use_by definition) (relocs_from (at + 4) ls)) place
  unfolding relocs_from
  in_two at place l ls =
      ap (λ us. acting_among us place) (map-append (use_by definition) (map (mark_at at) l.marks) (relocs_from (at + 4) ls))
      ∙ filter-append _ (uses_by definition at l.marks) (map (use_by definition) (relocs_from (at + 4) ls))

  none_before : (at place : ℕ) (ls : List Line) → place < at → acting_among (map (use_by definition) (relocs_from at ls)) place ≡ []
  unfolding relocs_from
  none_before at place [] before = refl
  none_before at place (l ∷ ls) before =
      in_two at place l ls ∙ rw (none_elsewhere at place l.marks (omega arith), none_before (at + 4) place ls (omega arith)) refl

  pub acting_there : (at place k : ℕ) (ls : List Line) → k < length ls → place ≡ at + 4 * k
      → acting_among (map (use_by definition) (relocs_from at ls)) place ≡ uses_by definition place (acting_marks (line ls k).marks)
  acting_there at place k [] below is = absurd (omega arith)
  acting_there at place zero (l ∷ ls) below is =
      let same : at ≡ place = omega arith in
      let first = uses_by definition at l.marks in
      let rest = map (use_by definition) (relocs_from (at + 4) ls) in
      let P : ℕ → Type 0 = λ p. acting_among first p ++ acting_among rest p
      ≡ uses_by definition p (acting_marks l.marks) in
      in_two at place l ls
      ∙ subst P same
      (rw (acting_here at l.marks, none_before (at + 4) at ls (omega arith)) (append-nil (uses_by definition at (acting_marks l.marks))))
  acting_there at place (suc k) (l ∷ ls) below is =
      in_two at place l ls
      ∙ rw (none_elsewhere at place l.marks (omega arith)) (acting_there (at + 4) place k ls (omega arith) (omega arith))

  -- where a search finds nothing at any line, it finds nothing
  pub none_found : {Y : Type 0} (f : Relocation → Option Y) (at : ℕ) (ls : List Line)
      → ((k place : ℕ) → k < length ls → place ≡ at + 4 * k → filter_map f (uses_by definition place (line ls k).marks) ≡ [])
      → filter_map f (map (use_by definition) (relocs_from at ls)) ≡ []
  unfolding relocs_from
  none_found f at [] none = refl
  none_found f at (l ∷ ls) none =
      ap (filter_map f) (map-append (use_by definition) (map (mark_at at) l.marks) (relocs_from (at + 4) ls))
      ∙ filter_map-append f (uses_by definition at l.marks) (map (use_by definition) (relocs_from (at + 4) ls))
      ∙ rw (
        none 0 at (omega arith) (omega arith),
        none_found f (at + 4) ls (λ k place below is. none (suc k) place (omega arith) (omega arith)),
      ) refl
