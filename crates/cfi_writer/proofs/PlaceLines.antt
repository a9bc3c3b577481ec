-- The lines of a map, one place after another, and that the map is legal.
use Rattle.std.proofs.Common.{◌≡◌, ℕ, suc, ◌+◌, ◌<◌, ◌≤◌, List, [], ◌∷◌, ◌++◌, refl, length, map, drop, arith, ap, ◌∙◌, sym, subst, append_assoc, append-nil}
use Rattle.std.specs.Prelude.{slice_index}
use Rattle.std.proofs.Math.ListN.{drop_of_length-le}
use Rattle.std.proofs.Math.Seq.{drop-cons}
use Rattle.cfi_writer.proofs.Prelude.{profile_for, Profile, Form, Item, count, item_of, no_item, MapLine, ProgramAtMap, entered_in, IsLegalMap, gates_of, AreGates, IsLegal, IsAccepted, lines_from, map_line, map_lines, Choice}
use Rattle.cfi_writer.proofs.Gates.{gates_counted}

-- these are the lines of the first places
abbrev pub ArePlaces : ProgramAtMap → ℕ → List MapLine → Type 0
ArePlaces layout k first = first ++ lines_from layout k (drop k layout.program.items) ≡ map_lines layout

pub next_places : (layout : ProgramAtMap) (k : ℕ) (first more : List MapLine) → k < count layout.program → ArePlaces layout k first
    → more ≡ first ++ map_line layout k (item_of layout.program k) ∷ [] → ArePlaces layout (k + 1) more
unfolding lines_from
next_places layout k first more below are is =
    let one = map_line layout k (item_of layout.program k) in
    let rest = lines_from layout (k + 1) (drop (suc k) layout.program.items) in
    let next : k + 1 ≡ suc k = omega arith in
    let left : drop k layout.program.items ≡ item_of layout.program k ∷ drop (suc k) layout.program.items =
    drop-cons layout.program.items k no_item below in
    let all : first ++ lines_from layout k (item_of layout.program k ∷ drop (suc k) layout.program.items) ≡ map_lines layout =
    subst (λ (items : List Item). first ++ lines_from layout k items ≡ map_lines layout) left are in
    subst (λ (j : ℕ). more ++ lines_from layout (k + 1) (drop j layout.program.items) ≡ map_lines layout) (sym next)
    (ap (λ (ls : List MapLine). ls ++ rest) is ∙ append_assoc first (one ∷ []) rest ∙ all)

pub all_places : (layout : ProgramAtMap) (k : ℕ) (first : List MapLine) → count layout.program ≤ k → ArePlaces layout k first → first ≡ map_lines layout
unfolding lines_from
all_places layout k first past are =
    let none : drop k layout.program.items ≡ [] = drop_of_length-le layout.program.items past in
    sym (append-nil first) ∙ subst (λ (items : List Item). first ++ lines_from layout k items ≡ map_lines layout) none are

sections_of : (layout : ProgramAtMap) (k : ℕ) (items : List Item)
    → map (λ (l : MapLine). l.section) (lines_from layout k items) ≡ map (λ (i : Item). i.section) items
unfolding lines_from
sections_of layout k [] = refl
sections_of layout k (item ∷ items) = ap (λ (ns : List ℕ). item.section ∷ ns) (sections_of layout (k + 1) items)

offsets_of : (layout : ProgramAtMap) (k : ℕ) (items : List Item)
    → map (λ (l : MapLine). l.offset) (lines_from layout k items) ≡ map (λ (i : Item). i.offset) items
unfolding lines_from
offsets_of layout k [] = refl
offsets_of layout k (item ∷ items) = ap (λ (ns : List ℕ). item.offset ∷ ns) (offsets_of layout (k + 1) items)

gates_from : (layout : ProgramAtMap) (k : ℕ) (items : List Item) → length layout.gates ≡ k + length items
    → gates_of (lines_from layout k items) ≡ drop k layout.gates
unfolding lines_from
gates_from layout k [] all = sym (drop_of_length-le layout.gates (omega arith))
gates_from layout k (item ∷ items) all =
    let next : k + 1 ≡ suc k = omega arith in
    ap (λ (ns : List ℕ). slice_index layout.gates k ∷ ns) (gates_from layout (k + 1) items (omega arith))
    ∙ ap (λ (j : ℕ). slice_index layout.gates k ∷ drop j layout.gates) next
    ∙ sym (drop-cons layout.gates k 0 (omega arith))

legal_gates : (m : Choice) → IsAccepted m → (gates : List ℕ) → gates ≡ m.layout.gates
    → IsLegal m.layout.profile.units_from (entered_in m.layout) m.layout.program.items gates
legal_gates m accepted gates is =
    (m.whole, subst (λ (gs : List ℕ). AreGates (entered_in m.layout) m.whole 0 m.layout.profile.units_from m.layout.program.items gs) (sym is) accepted.legal, accepted.groups)

pub gates_are : (m : Choice) → IsAccepted m → gates_of (map_lines m.layout) ≡ m.layout.gates
gates_are m accepted = let counted = gates_counted m accepted in gates_from m.layout 0 m.layout.program.items (omega arith)

pub legal_map : (form : Form) (m : Choice) → IsAccepted m → m.layout.profile ≡ profile_for form →
    IsLegalMap m.layout.program m.layout.closed m.layout.entry (record { form = form; lines = map_lines m.layout })
legal_map form m accepted one =
    record {
      sections = sections_of m.layout 0 m.layout.program.items;
      offsets = offsets_of m.layout 0 m.layout.program.items;
      gates =
          subst (λ (p : Profile). IsLegal p.units_from (entered_in m.layout) m.layout.program.items (gates_of (map_lines m.layout))) one
          (legal_gates m accepted (gates_of (map_lines m.layout)) (gates_are m accepted));
    }
