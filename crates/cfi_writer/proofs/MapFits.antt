-- The lines of an accepted choice are a map.
use Rattle.std.proofs.Common.{◌≡◌, ℕ, zero, suc, ◌+◌, ◌*◌, ◌%◌, ◌^◌, ◌≤◌, ◌<◌, ◌==◌, nat_lt, nat_le, Bool, true, List, [], ◌∷◌, length, get_or, Some, refl, sym, ap, subst, ◌∙◌, arith}
use Rattle.std.specs.Prelude.{◌&&◌, slice_get, slice_index}
use Rattle.std.specs.List.{list_all}
use Rattle.std.proofs.lemmas.Bool.{and_from, eq-eqb, le-leb, lt-ltb}
use Rattle.std.proofs.lemmas.Option.{same_Some, slice_get_within}
use Rattle.cfi_writer.proofs.Prelude.{profile_for, CODE_SIZE, CODE_START, Profile, Form, MapLine, is_rising, IsMap, map_line_below, map_line_in_range, place_below, Item, Program, count, item_of, no_item, ProgramAtMap, gate, IsAccepted, Choice}
use Rattle.cfi_map_text.specs.Map.{is_gate}
use Rattle.cfi_writer.proofs.Gates.{gates_counted}
use Rattle.cfi_writer.specs.MapLines.{lines_from, map_lines as lines_of}
use Rattle.cfi_writer.proofs.Standing.{gate_lies, gates_rise, laid}

-- the lines of places with gates
abbrev map_line : Item → ℕ → MapLine
map_line item gate = record { gate = gate; section = item.section; offset = item.offset }

unfoldable map_lines : List Item → List ℕ → List MapLine
map_lines (item ∷ items) (gate ∷ gates) = map_line item gate ∷ map_lines items gates
map_lines items gates = []

-- they are the lines of a map, where the gates are its own
lines_are : (layout : ProgramAtMap) (k : ℕ) (items : List Item) (gates : List ℕ) → length gates ≡ length items →
    ((i : ℕ) → slice_index gates i ≡ slice_index layout.gates (k + i)) → lines_from layout k items ≡ map_lines items gates
unfolding map_lines lines_from
lines_are layout k [] gates same own = refl
lines_are layout k (item ∷ items) [] same own = absurd (omega arith)
lines_are layout k (item ∷ items) (g ∷ gates) same own =
    let first : g ≡ slice_index layout.gates k = own 0 ∙ ap (slice_index layout.gates) (omega arith) in
    let rest = lines_are layout (k + 1) items gates (omega arith) (λ i. own (suc i) ∙ ap (slice_index layout.gates) (omega arith)) in
    ap (λ (g : ℕ). map_line item g ∷ lines_from layout (k + 1) items) (sym first) ∙ ap (λ (ls : List MapLine). map_line item g ∷ ls) rest

-- what holds of each member, and of each two neighbours
all_from : {A : Type 0} (p : A → Bool) (xs : List A) → ((k : ℕ) (x : A) → slice_get xs k ≡ Some x → p x ≡ true) → list_all p xs ≡ true
all_from p [] each = refl
all_from p (x ∷ xs) each = and_from (p x) (list_all p xs) (each 0 x refl) (all_from p xs (λ k y get. each (suc k) y get))

rising_from : {A : Type 0} (below : A → A → Bool) (xs : List A) →
    ((k : ℕ) (x y : A) → slice_get xs k ≡ Some x → slice_get xs (suc k) ≡ Some y → below x y ≡ true) → is_rising below xs ≡ true
rising_from below [] each = refl
rising_from below (x ∷ []) each = refl
rising_from below (x ∷ y ∷ xs) each =
    and_from (below x y) (is_rising below (y ∷ xs)) (each 0 x y refl refl) (rising_from below (y ∷ xs) (λ k a b one two. each (suc k) a b one two))

-- the lines of places and gates
length-map_lines : (items : List Item) (gates : List ℕ) → length gates ≡ length items → length (map_lines items gates) ≡ length items
unfolding map_lines
length-map_lines [] [] same = refl
length-map_lines [] (g ∷ gates) same = absurd (omega arith)
length-map_lines (item ∷ items) [] same = absurd (omega arith)
length-map_lines (item ∷ items) (g ∷ gates) same = ap suc (length-map_lines items gates (omega arith))

line_at : (items : List Item) (gates : List ℕ) (k : ℕ) (line : MapLine) → length gates ≡ length items → slice_get (map_lines items gates) k ≡ Some line →
    line ≡ map_line (get_or items k no_item) (slice_index gates k)
unfolding map_lines
line_at [] [] k line same get = absurd (cc)
line_at [] (g ∷ gates) k line same get = absurd (cc)
line_at (item ∷ items) [] k line same get = absurd (omega arith)
line_at (item ∷ items) (g ∷ gates) zero line same get = sym (same_Some (map_line item g) line get)
line_at (item ∷ items) (g ∷ gates) (suc k) line same get = line_at items gates k line (omega arith) get

-- what a map asks of each place: a section's index of 16 bits, the offset of a word, which is near
abbrev pub AreNear : Program → Type 0
AreNear program = (k : ℕ) → k < count program →
    ((item_of program k).section < 2 ^ 16) × ((item_of program k).offset % 4 ≡ 0) × ((item_of program k).offset ≤ 8 * k)

module _ (form : Form) (m : Choice) (ok : IsAccepted m) (form_is : m.layout.profile ≡ profile_for form) where
  -- gates are as many as places
  pub counted : length m.layout.gates ≡ count m.layout.program
  counted = gates_counted m ok

  -- each place takes a byte at least
  places_far : (k : ℕ) → k < count m.layout.program → m.layout.profile.units_from + k ≤ gate m.layout k
  places_far zero below = let at = (gate_lies m ok 0 below).0 in omega arith
  places_far (suc k) below =
      let before = places_far k (omega arith) in
      let step : gate m.layout k < gate m.layout (suc k) = gates_rise m ok k (suc k) (omega arith) below in
      omega arith

  gate_is : (k : ℕ) → k < count m.layout.program → is_gate form (gate m.layout k) ≡ true
  gate_is k below =
      let from : m.layout.profile.units_from ≡ (profile_for form).units_from = ap (λ (p : Profile). p.units_from) form_is in
      let at = gate_lies m ok k below in
      let low = at.0 in
      let high = at.1 in
      let front = (laid m ok).low in
      and_from (gate m.layout k % 4 == 0 && nat_le (profile_for form).units_from (gate m.layout k)) (nat_lt (gate m.layout k) (CODE_START + CODE_SIZE))
      (and_from (gate m.layout k % 4 == 0) (nat_le (profile_for form).units_from (gate m.layout k)) (eq-eqb (gate m.layout k % 4) 0 at.2) (le-leb (profile_for form).units_from (gate m.layout k) (omega arith)))
      (lt-ltb (gate m.layout k) (CODE_START + CODE_SIZE) (omega arith))

  line_is : (k : ℕ) (line : MapLine) → slice_get (map_lines m.layout.program.items m.layout.gates) k ≡ Some line →
      (k < count m.layout.program) × (line ≡ map_line (item_of m.layout.program k) (gate m.layout k))
  line_is k line get =
      let within = slice_get_within (map_lines m.layout.program.items m.layout.gates) k line get in
      let many = length-map_lines m.layout.program.items m.layout.gates counted in
      (omega arith, line_at m.layout.program.items m.layout.gates k line counted get)

  module _ (near : AreNear m.layout.program) where
    in_range : (k : ℕ) → k < count m.layout.program → map_line_in_range form (map_line (item_of m.layout.program k) (gate m.layout k)) ≡ true
    in_range k below =
        let item = item_of m.layout.program k in
        let fits = near k below in
        let far = places_far k below in
        let high = (gate_lies m ok k below).1 in
        let front = (laid m ok).low in
        let offset_near : item.offset ≤ 8 * k = fits.2 in
        and_from (is_gate form (gate m.layout k) && item.offset % 4 == 0 && nat_lt item.section (2 ^ 16)) (nat_lt item.offset (2 ^ 32))
        (and_from (is_gate form (gate m.layout k) && item.offset % 4 == 0) (nat_lt item.section (2 ^ 16))
        (and_from (is_gate form (gate m.layout k)) (item.offset % 4 == 0) (gate_is k below) (eq-eqb (item.offset % 4) 0 fits.1)) (lt-ltb item.section (2 ^ 16) fits.0))
        (lt-ltb item.offset (2 ^ 32) (omega arith))

    in_order : (k : ℕ) → suc k < count m.layout.program →
        map_line_below (map_line (item_of m.layout.program k) (gate m.layout k)) (map_line (item_of m.layout.program (suc k)) (gate m.layout (suc k))) ≡ true
    in_order k below =
        let line = map_line (item_of m.layout.program k) (gate m.layout k) in
        let next = map_line (item_of m.layout.program (suc k)) (gate m.layout (suc k)) in
        and_from (place_below line next) (nat_lt (gate m.layout k) (gate m.layout (suc k))) (ok.sound.in_order k (suc k) (omega arith) below)
        (lt-ltb (gate m.layout k) (gate m.layout (suc k)) (gates_rise m ok k (suc k) (omega arith) below))

    zipped_map : IsMap (record { form = form; lines = map_lines m.layout.program.items m.layout.gates })
    zipped_map = record {
      range = all_from (map_line_in_range form) (map_lines m.layout.program.items m.layout.gates)
          (λ k line get. let at = line_is k line get in subst (λ (l : MapLine). map_line_in_range form l ≡ true) (sym at.1) (in_range k at.0));
      order = rising_from map_line_below (map_lines m.layout.program.items m.layout.gates)
          (λ k line next one two.
          let a = line_is k line one in
          let b = line_is (suc k) next two in
          let both : map_line_below line next ≡ map_line_below (map_line (item_of m.layout.program k) (gate m.layout k)) (map_line (item_of m.layout.program (suc k)) (gate m.layout (suc k))) =
          ap (λ (l : MapLine). map_line_below l next) a.1 ∙ ap (map_line_below (map_line (item_of m.layout.program k) (gate m.layout k))) b.1 in
          both ∙ in_order k b.0);
    }

    pub accepted_map : IsMap (record { form = form; lines = lines_of m.layout })
    accepted_map =
        subst (λ (ls : List MapLine). IsMap (record { form = form; lines = ls })) (sym (lines_are m.layout 0 m.layout.program.items m.layout.gates counted (λ i. ap (slice_index m.layout.gates) (omega arith)))) zipped_map
