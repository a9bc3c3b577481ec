-- Units one after another: where the gate and the word of each place stand that has a unit of its own, and where the next begins; what
-- stands in the units that are written, behind how many words.
use Rattle.std.proofs.Common.{◌≡◌, ◌⊎◌, ℕ, zero, suc, ◌+◌, ◌*◌, ◌≤◌, ◌<◌, inl, inr, true, false, List, [], ◌∷◌, ◌++◌, length, get_or, Some, refl, sym, ap, subst, ◌∙◌, arith}
use Rattle.std.specs.Prelude.{slice_get, slice_index, sum}
use Rattle.std.proofs.lemmas.Bool.{cases_Bool, cases_eq}
use Rattle.std.proofs.lemmas.List.Sums.{sum_by-cons}
use Rattle.std.proofs.lemmas.Option.{same_Some, slice_get_within}
use Rattle.cfi_writer.proofs.Prelude.{Item, count, item_of, no_item, lead_size, entered_in, gate, word, AreGates, size_of, whole_at, part_sizes, word_count, unit_in, Choice, behind, is_later_at, later_from, lead, unit_here, unit_places, units_of}
use Rattle.cfi_unit.specs.declared.unit.Unit as U
use Rattle.cfi_rules.proofs.UnitIn.{in_here, in_later, in_past}
use Rattle.cfi_writer.proofs.Grouping.{later_below, later_store, none_later, one_later}
use Rattle.cfi_writer.proofs.Plain.{size_later}
pub use Rattle.cfi_writer.proofs.LeadWords.{AreSingle, IsLabelled, IsLeadWord, IsSaverAt, IsWordOf, LeanLead, calls_saved, enters_bytes, from_lead, labels_there, lead_bytes, lead_cases, lead_few, lead_single, lead_sized, lean_lead, lean_lead_if, over, saver, saver_last, side_word, some_words, to_lead, words_in}

-- of so many places from one on the first has a unit of its own, or has none
pub places_more : (m : Choice) (k n : ℕ) → is_later_at m k ≡ false → unit_places m k (suc n) ≡ k ∷ unit_places m (k + 1) n
places_more m k n first = rw first refl

pub places_skip : (m : Choice) (k n : ℕ) → is_later_at m k ≡ true → unit_places m k (suc n) ≡ unit_places m (k + 1) n
places_skip m k n later = rw later refl

-- which places these are
pub place_there : (m : Choice) (k n i j : ℕ) → slice_get (unit_places m k n) i ≡ Some j → (k ≤ j) × (j < k + n) × (is_later_at m j ≡ false)
place_there m k zero i j get = absurd (cc)
place_there m k (suc n) zero j get =
    elim (cases_Bool (is_later_at m k)) [
      | inl later ↦
          let (from, to, is_first) = place_there m (k + 1) n zero j (ap (λ (ks : List ℕ). slice_get ks zero) (sym (places_skip m k n later)) ∙ get) in
          (omega arith, omega arith, is_first)
      | inr first ↦
          let same : k ≡ j = same_Some k j (ap (λ (ks : List ℕ). slice_get ks zero) (sym (places_more m k n first)) ∙ get) in
          (omega arith, omega arith, subst (λ (x : ℕ). is_later_at m x ≡ false) same first)
    ]
place_there m k (suc n) (suc i) j get =
    elim (cases_Bool (is_later_at m k)) [
      | inl later ↦
          let (from, to, is_first) = place_there m (k + 1) n (suc i) j (ap (λ (ks : List ℕ). slice_get ks (suc i)) (sym (places_skip m k n later)) ∙ get) in
          (omega arith, omega arith, is_first)
      | inr first ↦
          let (from, to, is_first) = place_there m (k + 1) n i j (ap (λ (ks : List ℕ). slice_get ks (suc i)) (sym (places_more m k n first)) ∙ get) in
          (omega arith, omega arith, is_first)
    ]

pub place_among : (m : Choice) (k n j : ℕ) → k ≤ j → j < k + n → is_later_at m j ≡ false → (i : ℕ) × (slice_get (unit_places m k n) i ≡ Some j)
place_among m k zero j from to first = absurd (omega arith)
place_among m k (suc n) j from to first =
    elim (cases_Bool (is_later_at m k)) [
      | inl later ↦
          elim (cases_eq k j) [
            | inl same ↦ let wrong : true ≡ false = sym later ∙ subst (λ (x : ℕ). is_later_at m x ≡ false) (sym same) first in absurd (cc)
            | inr apart ↦
                let (i, get) = place_among m (k + 1) n j (omega arith) (omega arith) first in
                (i, ap (λ (ks : List ℕ). slice_get ks i) (places_skip m k n later) ∙ get)
          ]
      | inr first_is ↦
          elim (cases_eq k j) [
            | inl same ↦ (0, ap (λ (ks : List ℕ). slice_get ks 0) (places_more m k n first_is) ∙ ap Some same)
            | inr apart ↦
                let (i, get) = place_among m (k + 1) n j (omega arith) (omega arith) first in
                (suc i, ap (λ (ks : List ℕ). slice_get ks (suc i)) (places_more m k n first_is) ∙ get)
          ]
    ]

-- the units of these places stand one after another from an address on, up to another
unfoldable pub Run : Choice → ℕ → List ℕ → ℕ → Type 0
Run m at [] last = at ≡ last
Run m at (k ∷ places) last =
    (gate m.layout k ≡ at) × (word m.layout k ≡ at + lead_bytes m k)
    × Run m (at + lead_bytes m k + 4 * word_count (unit_here m k)) places last

-- a later store has no words before it; the size that a placement gives another place, with a word for each store that follows, is that
-- of its unit
pub record AreSized (m : Choice) : Type 0 where
  pub led : (k : ℕ) → lead_size (entered_in m.layout) k ≡ lead_bytes m k
  pub later : (k : ℕ) → is_later_at m k ≡ true → lead_size (entered_in m.layout) k ≡ 0
  pub first : (k : ℕ) → k < count m.layout.program → is_later_at m k ≡ false →
      size_of (entered_in m.layout) k (item_of m.layout.program k) (whole_at m.whole k) + 4 * behind m k ≡ 4 * word_count (unit_here m k)

pub later_size : (m : Choice) (k : ℕ) → is_later_at m k ≡ true → size_of (entered_in m.layout) k (item_of m.layout.program k) (whole_at m.whole k) ≡ 4
later_size m k later =
    let (store, less) = later_store m k later in
    size_later (entered_in m.layout) k (item_of m.layout.program k) (whole_at m.whole k) store less

past_first : (m : Choice) (k : ℕ) → count m.layout.program ≤ k → is_later_at m k ≡ false
past_first m k past =
    elim (cases_Bool (is_later_at m k)) [
      | inr first ↦ first
      | inl later ↦ let below = later_below m k later in absurd (omega arith)
    ]

-- the gates of a placement make units stand so
pub legal_run : (m : Choice) → AreSized m → (k at : ℕ) (items : List Item) (gates : List ℕ) → ((i : ℕ) → gate m.layout (k + i) ≡ slice_index gates i) →
    ((i : ℕ) → i < length items → item_of m.layout.program (k + i) ≡ get_or items i no_item) → k + length items ≡ count m.layout.program →
    AreGates (entered_in m.layout) m.whole k at items gates →
    Run m (at + 4 * later_from m k) (unit_places m k (length items)) (at + sum (part_sizes (entered_in m.layout) m.whole k items))
unfolding Run AreGates part_sizes
legal_run m sized k at [] [] same are all legal =
    let none = none_later m k (past_first m k (omega arith)) in
    omega arith
legal_run m sized k at [] (g ∷ gates) same are all legal = absurd legal
legal_run m sized k at (item ∷ items) [] same are all legal = absurd legal
legal_run m sized k at (item ∷ items) (g ∷ gates) same are all legal =
    let start : k + 0 ≡ k = omega arith in
    let next : (i : ℕ) → k + 1 + i ≡ k + suc i = λ i. omega arith in
    let here : gate m.layout k ≡ g = ap (gate m.layout) (sym start) ∙ same 0 in
    let item_is : item_of m.layout.program k ≡ item = ap (item_of m.layout.program) (sym start) ∙ are 0 (omega arith) in
    let size = size_of (entered_in m.layout) k item (whole_at m.whole k) in
    let size_is : size_of (entered_in m.layout) k (item_of m.layout.program k) (whole_at m.whole k) ≡ size = ap (λ (x : Item). size_of (entered_in m.layout) k x (whole_at m.whole k)) item_is in
    let led = lead_size (entered_in m.layout) k in
    let last = at + sum (part_sizes (entered_in m.layout) m.whole k (item ∷ items)) in
    let rest = legal_run m sized (k + 1) (at + led + size) items gates (λ i. ap (gate m.layout) (next i) ∙ same (suc i))
    (λ i less. ap (item_of m.layout.program) (next i) ∙ are (suc i) (omega arith)) (omega arith) legal.1 in
    let more = sum_by-cons (λ (x : ℕ). x) (led + size) (part_sizes (entered_in m.layout) m.whole (k + 1) items) in
    let to : at + led + size + sum (part_sizes (entered_in m.layout) m.whole (k + 1) items) ≡ last = omega arith in
    elim (cases_Bool (is_later_at m k)) [
      | inl later ↦
          let no_lead = sized.later k later in
          let four = later_size m k later in
          let one = one_later m k later in
          let from : at + led + size + 4 * later_from m (k + 1) ≡ at + 4 * later_from m k = omega arith in
          subst (λ (ks : List ℕ). Run m (at + 4 * later_from m k) ks last) (sym (places_skip m k (length items) later))
          (subst (λ (b : ℕ). Run m b (unit_places m (k + 1) (length items)) last) from
          (subst (Run m (at + led + size + 4 * later_from m (k + 1)) (unit_places m (k + 1) (length items))) to rest))
      | inr first ↦
          let none = none_later m k first in
          let bytes = sized.led k in
          let all = sized.first k (omega arith) first in
          let gate_is : gate m.layout k ≡ at + 4 * later_from m k = here ∙ legal.0 ∙ omega arith in
          let from : at + led + size + 4 * later_from m (k + 1) ≡ at + 4 * later_from m k + lead_bytes m k + 4 * word_count (unit_here m k) = omega arith in
          subst (λ (ks : List ℕ). Run m (at + 4 * later_from m k) ks last) (sym (places_more m k (length items) first)) (
            gate_is,
            omega arith,
            subst (λ (b : ℕ). Run m b (unit_places m (k + 1) (length items)) last) from
                (subst (Run m (at + led + size + 4 * later_from m (k + 1)) (unit_places m (k + 1) (length items))) to rest),
          )
    ]

-- what stands at an address: a word before a place's unit, or the unit
pub data IsUnit (m : Choice) (k : ℕ) (a : ℕ) (u : U.Unit) : Type 0 where
  lead_word : (j : ℕ) → slice_get (lead m k) j ≡ Some u → a ≡ gate m.layout k + 4 * j → IsUnit m k a u
  own : a ≡ word m.layout k → u ≡ unit_here m k → IsUnit m k a u

in_first : (v u : U.Unit) (rest : List U.Unit) (at a : ℕ) → unit_in (v ∷ rest) at a ≡ Some u →
    ((a ≡ at) × (u ≡ v)) ⊎ (unit_in rest (at + 4 * word_count v) a ≡ Some u)
in_first v u rest at a e =
    elim (cases_eq a at) [
      | inl here ↦
          let same : v ≡ u = same_Some v u (sym (in_here v rest at) ∙ ap (unit_in (v ∷ rest) at) (sym here) ∙ e) in
          inl (here, sym same)
      | inr other ↦ inr (sym (in_later v rest at a other) ∙ e)
    ]

in_lead : (us rest : List U.Unit) (at a : ℕ) (u : U.Unit) → AreSingle us → unit_in (us ++ rest) at a ≡ Some u →
    ((j : ℕ) × (slice_get us j ≡ Some u) × (a ≡ at + 4 * j)) ⊎ (unit_in rest (at + 4 * words_in us) a ≡ Some u)
in_lead [] rest at a u single e = let same : at ≡ at + 4 * 0 = omega arith in inr (subst (λ (b : ℕ). unit_in rest b a ≡ Some u) same e)
in_lead (v ∷ []) rest at a u single e =
    elim (in_first v u rest at a e) [
      | inl (here, same) ↦ inl (0, ap Some (sym same), omega arith)
      | inr later ↦
          let last : at + 4 * word_count v ≡ at + 4 * words_in (v ∷ []) = omega arith in
          inr (subst (λ (b : ℕ). unit_in rest b a ≡ Some u) last later)
    ]
in_lead (v ∷ w ∷ us) rest at a u single e =
    elim (in_first v u ((w ∷ us) ++ rest) at a e) [
      | inl (here, same) ↦ inl (0, ap Some (sym same), omega arith)
      | inr later ↦
          let size : word_count v ≡ 1 = single 0 v refl (omega arith) in
          let behind : at + 4 * word_count v ≡ at + 4 = omega arith in
          let past : unit_in ((w ∷ us) ++ rest) (at + 4) a ≡ Some u = subst (λ (b : ℕ). unit_in ((w ∷ us) ++ rest) b a ≡ Some u) behind later in
          elim (in_lead (w ∷ us) rest (at + 4) a u (λ j x get before. single (suc j) x get (omega arith)) past) [
            | inl (j, get, there) ↦ inl (suc j, get, omega arith)
            | inr more ↦
                let last : at + 4 + 4 * words_in (w ∷ us) ≡ at + 4 * words_in (v ∷ w ∷ us) = omega arith in
                inr (subst (λ (b : ℕ). unit_in rest b a ≡ Some u) last more)
          ]
    ]

-- each unit that is written is a place's
pub record Found (m : Choice) (places : List ℕ) (a : ℕ) (u : U.Unit) : Type 0 where
  pub index : ℕ
  pub place : ℕ
  pub there : slice_get places index ≡ Some place
  pub unit : IsUnit m place a u

pub found_at : (m : Choice) (at last : ℕ) (places : List ℕ) (a : ℕ) (u : U.Unit) → Run m at places last → unit_in (units_of m places) at a ≡ Some u →
    Found m places a u
unfolding Run units_of unit_in
found_at m at last [] a u run e = absurd (cc)
found_at m at last (k ∷ places) a u run e =
    elim (in_lead (lead m k) (unit_here m k ∷ units_of m places) at a u (lead_single m k) e) [
      | inl (j, get, here) ↦ record {
        index = 0;
        place = k;
        there = refl;
        unit = lead_word j get (here ∙ ap (λ (b : ℕ). b + 4 * j) (sym run.0));
      }
      | inr past ↦
          elim (in_first (unit_here m k) u (units_of m places) (at + lead_bytes m k) a past) [
            | inl (here, unit_is) ↦ record { index = 0; place = k; there = refl; unit = own (here ∙ sym run.1) unit_is }
            | inr later ↦
                let found = found_at m (at + lead_bytes m k + 4 * word_count (unit_here m k)) last places a u run.2 later in
                record { index = suc found.index; place = found.place; there = found.there; unit = found.unit }
          ]
    ]

-- and each place has its words and its unit
past_lead : (us rest : List U.Unit) (at a : ℕ) (u : U.Unit) → unit_in rest (at + 4 * words_in us) a ≡ Some u → unit_in (us ++ rest) at a ≡ Some u
past_lead [] rest at a u e = let same : at + 4 * 0 ≡ at = omega arith in subst (λ (b : ℕ). unit_in rest b a ≡ Some u) same e
past_lead (v ∷ us) rest at a u e =
    let behind : at + 4 * words_in (v ∷ us) ≡ at + 4 * word_count v + 4 * words_in us = omega arith in
    in_past v u (us ++ rest) at a (past_lead us rest (at + 4 * word_count v) a u (subst (λ (b : ℕ). unit_in rest b a ≡ Some u) behind e))

at_lead : (us rest : List U.Unit) (at a j : ℕ) (u : U.Unit) → AreSingle us → slice_get us j ≡ Some u → a ≡ at + 4 * j → unit_in (us ++ rest) at a ≡ Some u
at_lead [] rest at a j u single get here = absurd (cc)
at_lead (v ∷ us) rest at a zero u single get here =
    let same : a ≡ at = omega arith in
    ap (unit_in (v ∷ us ++ rest) at) same ∙ in_here v (us ++ rest) at ∙ get
at_lead (v ∷ us) rest at a (suc j) u single get here =
    let within = slice_get_within us j u get in
    let size : word_count v ≡ 1 = single 0 v refl (omega arith) in
    in_past v u (us ++ rest) at a
    (at_lead us rest (at + 4 * word_count v) a j u (λ i w at before. single (suc i) w at (omega arith)) get (omega arith))

pub stands_at : (m : Choice) (at last : ℕ) (places : List ℕ) (i k : ℕ) → Run m at places last → slice_get places i ≡ Some k →
    unit_in (units_of m places) at (word m.layout k) ≡ Some (unit_here m k)
unfolding Run units_of
stands_at m at last [] i k run get = absurd (cc)
stands_at m at last (x ∷ places) zero k run get =
    let same : x ≡ k = same_Some x k get in
    let here = in_here (unit_here m x) (units_of m places) (at + lead_bytes m x) in
    let there : unit_in (unit_here m x ∷ units_of m places) (at + lead_bytes m x) (word m.layout x) ≡ Some (unit_here m x) =
    ap (unit_in (unit_here m x ∷ units_of m places) (at + lead_bytes m x)) run.1 ∙ here in
    subst (λ (y : ℕ). unit_in (units_of m (x ∷ places)) at (word m.layout y) ≡ Some (unit_here m y)) same
    (past_lead (lead m x) (unit_here m x ∷ units_of m places) at (word m.layout x) (unit_here m x) there)
stands_at m at last (x ∷ places) (suc i) k run get =
    let later = stands_at m (at + lead_bytes m x + 4 * word_count (unit_here m x)) last places i k run.2 get in
    past_lead (lead m x) (unit_here m x ∷ units_of m places) at (word m.layout k) (unit_here m k)
    (in_past (unit_here m x) (unit_here m k) (units_of m places) (at + lead_bytes m x) (word m.layout k) later)

pub lead_stands : (m : Choice) (at last : ℕ) (places : List ℕ) (i k j : ℕ) (u : U.Unit) → Run m at places last → slice_get places i ≡ Some k →
    slice_get (lead m k) j ≡ Some u → unit_in (units_of m places) at (gate m.layout k + 4 * j) ≡ Some u
unfolding Run units_of
lead_stands m at last [] i k j u run get some = absurd (cc)
lead_stands m at last (x ∷ places) zero k j u run get some =
    let same : k ≡ x = sym (same_Some x k get) in
    let here : slice_get (lead m x) j ≡ Some u = ap (λ (n : ℕ). slice_get (lead m n) j) (sym same) ∙ some in
    at_lead (lead m x) (unit_here m x ∷ units_of m places) at (gate m.layout k + 4 * j) j u (lead_single m x) here
    (ap (λ (n : ℕ). gate m.layout n + 4 * j) same ∙ ap (λ (b : ℕ). b + 4 * j) run.0)
lead_stands m at last (x ∷ places) (suc i) k j u run get some =
    let later = lead_stands m (at + lead_bytes m x + 4 * word_count (unit_here m x)) last places i k j u run.2 get some in
    past_lead (lead m x) (unit_here m x ∷ units_of m places) at (gate m.layout k + 4 * j) u
    (in_past (unit_here m x) u (units_of m places) (at + lead_bytes m x) (gate m.layout k + 4 * j) later)
