-- What is accepted, place by place: the instruction of each is of its kind and in range, the unit of each that has one stands at its word
-- and the words before that at its gate, nothing else stands in the code, and all of it lies in the region of code.
use Rattle.std.proofs.Common.{◌≡◌, ℕ, zero, suc, ◌+◌, ◌*◌, ◌%◌, ◌≤◌, ◌<◌, inl, inr, Bool, true, false, List, [], length, Option, Some, refl, sym, ap, subst, ◌∙◌, arith, unwrap_or}
use Rattle.std.specs.Prelude.{◌&&◌, ◌-◌, not, is_some, slice_get, sum}
use Rattle.std.proofs.lemmas.Bool.{and_from, cases_Bool, cases_eq, not_from_false, or_left, or_right}
use Rattle.cfi_writer.proofs.Prelude.{CODE_SIZE, CODE_START, GraphVersion, OneLabel, TwoLabels, CalleeSaves, IsInstr, Instr, instr_at, count, is_end, item_of, names_reserved, suits, has_leaves, enters, lead_size, in_leaf, arrival, arrival_by, entered_in, gate, word, words_at, is_store, size_of, whole_at, part_sizes, mask_words, word_count, code_from, StartsIn, unit_in, IsAccepted, Choice, behind, entry_arrival, instr_of, is_later_at, lead, mask_at, unit_here, unit_places, units}
use Rattle.rv_word.proofs.Cases.{cases_Option}
use Rattle.rv_image.proofs.Profiles.{LaidOut, laid_out}
use Rattle.rv_instr.specs.declared.instr.Instr.TheVariants as I
use Rattle.obj_program.proofs.Kept.{kept}
use Rattle.cfi_map.proofs.PartSizes.{unit_many}
use Rattle.cfi_unit.specs.declared.unit.Unit as U
use Rattle.cfi_unit.specs.declared.unit.Unit.TheVariants as V
use Rattle.cfi_rules.proofs.UnitIn.{length-placed_code, lies}
use Rattle.cfi_writer.proofs.CodeRoom.{run_bytes, sized, whole_run}
use Rattle.cfi_writer.proofs.Entering.{leaf_unled}
use Rattle.cfi_writer.proofs.GateSteps.{next_from, within}
use Rattle.cfi_writer.proofs.Grouping.{first_behind, later_behind, no_first_later, none_behind, one_later, other_first, store_before, whole_first}
use Rattle.cfi_writer.proofs.InstrAt.{instr_there}
use Rattle.cfi_writer.proofs.Plain.{size_first}
use Rattle.cfi_writer.proofs.Runs.{AreSized, IsUnit, Run, found_at, labels_there, later_size, lead_bytes, lead_cases, lead_stands, place_among, place_there, saver_last, some_words, stands_at, words_in}
use Rattle.cfi_writer.proofs.UnitOf.{is_right}

-- where a unit of the code may lie, the first of which stands at an address
pub record IsIn (first a : ℕ) (u : U.Unit) : Type 0 where
  pub from : first ≤ a
  pub to : a + 4 * word_count u ≤ CODE_START + CODE_SIZE
  pub round : a % 4 ≡ 0

-- a place of the program whose unit, or a word before it, stands at an address
pub record Place (m : Choice) (a : ℕ) (u : U.Unit) : Type 0 where
  pub index : ℕ
  pub below : index < count m.layout.program
  pub first : is_later_at m index ≡ false
  pub unit : IsUnit m index a u

-- a later store's place, so many behind the first of its group
pub record Behind (m : Choice) (k : ℕ) : Type 0 where
  pub first : ℕ
  pub index : ℕ
  pub place : k ≡ first + index
  pub some : 1 ≤ index
  pub inside : index ≤ behind m first
  pub store : is_store (item_of m.layout.program first).kind ≡ true
  pub is_first : is_later_at m first ≡ false

-- calls arrive before the unit at what saves their sites
pub arrival_saves : (version : GraphVersion) (from at : ℕ) (saves : Bool) → has_leaves version ≡ true → saves ≡ true → arrival_by version saves from at ≡ at - 20
arrival_saves OneLabel from at saves leaves is = absurd (cc)
arrival_saves TwoLabels from at saves leaves is = absurd (cc)
arrival_saves CalleeSaves from at saves leaves is = rw is refl

module _ (m : Choice) (ok : IsAccepted m) where
  -- where the parts of its image stand
  pub laid : LaidOut m.layout.profile
  laid = laid_out m.layout.profile ok.profile

  pub instr_in_range : (k : ℕ) → k < count m.layout.program → IsInstr (instr_of m k)
  instr_in_range k below = instr_there m.layout.program m.layout.gates (words_at m.layout) k I.Ebreak (ok.words k below) tt

  -- the instruction that has a value is the one at the map
  pub instr_is : (k : ℕ) → k < count m.layout.program → is_end (item_of m.layout.program k).kind ≡ false →
      instr_at m.layout.program m.layout.gates (words_at m.layout) k ≡ Some (instr_of m k)
  instr_is k below some =
      elim (cases_Option (instr_at m.layout.program m.layout.gates (words_at m.layout) k)) [
        | inl none ↦ let wrong : false ≡ true = ap is_some (sym none) ∙ ok.values k below some in absurd (cc)
        | inr (j, e) ↦ e ∙ ap Some (sym (ap (λ (o : Option Instr). unwrap_or o I.Ebreak) e))
      ]

  pub right : (k : ℕ) → k < count m.layout.program → is_right (item_of m.layout.program k).kind (instr_of m k) ≡ true
  right k below =
      elim (cases_Bool (is_end (item_of m.layout.program k).kind)) [
        | inl last ↦ or_left (is_end (item_of m.layout.program k).kind) (suits (item_of m.layout.program k).kind (instr_of m k) && not (names_reserved (instr_of m k))) last
        | inr some ↦
            let is = kept m.layout.program m.layout.gates (words_at m.layout) k (instr_of m k) ok.sound below some (instr_is k below some) in
            or_right (is_end (item_of m.layout.program k).kind) (suits (item_of m.layout.program k).kind (instr_of m k) && not (names_reserved (instr_of m k)))
            (and_from (suits (item_of m.layout.program k).kind (instr_of m k)) (not (names_reserved (instr_of m k))) is.0 (not_from_false (names_reserved (instr_of m k)) is.1))
      ]

  pub the_run : Run m m.layout.profile.units_from (unit_places m 0 (count m.layout.program))
      (m.layout.profile.units_from + sum (part_sizes (entered_in m.layout) m.whole 0 m.layout.program.items))
  the_run = whole_run m ok.sound ok.values (labels_there m ok) ok.groups m.layout.gates refl ok.legal

  -- how the code ends
  whole_bytes : m.layout.profile.units_from + 4 * length (code_from m.layout.profile.units_from (units m))
      ≡ m.layout.profile.units_from + sum (part_sizes (entered_in m.layout) m.whole 0 m.layout.program.items)
  whole_bytes = run_bytes m m.layout.profile.units_from _ (unit_places m 0 (count m.layout.program)) the_run

  pub unit_there : (k : ℕ) → k < count m.layout.program → is_later_at m k ≡ false →
      unit_in (units m) m.layout.profile.units_from (word m.layout k) ≡ Some (unit_here m k)
  unit_there k below first =
      let (i, get) = place_among m 0 (count m.layout.program) k (omega arith) (omega arith) first in
      stands_at m m.layout.profile.units_from _ (unit_places m 0 (count m.layout.program)) i k the_run get

  -- the sizes of its leads and its units
  pub sizes : AreSized m
  sizes = sized m ok.sound ok.values (labels_there m ok) ok.groups

  -- words stand before no later store
  pub led_first : (k j : ℕ) (u : U.Unit) → slice_get (lead m k) j ≡ Some u → is_later_at m k ≡ false
  led_first k j u some =
      elim (cases_Bool (is_later_at m k)) [
        | inr first ↦ first
        | inl later ↦
            let words = some_words (lead m k) j u some in
            let bytes = sizes.led k in
            let none = sizes.later k later in
            absurd (omega arith)
      ]

  pub lead_there : (k j : ℕ) (u : U.Unit) → k < count m.layout.program → slice_get (lead m k) j ≡ Some u →
      unit_in (units m) m.layout.profile.units_from (gate m.layout k + 4 * j) ≡ Some u
  lead_there k j u below some =
      let (i, get) = place_among m 0 (count m.layout.program) k (omega arith) (omega arith) (led_first k j u some) in
      lead_stands m m.layout.profile.units_from _ (unit_places m 0 (count m.layout.program)) i k j u the_run get some

  pub word_is : (k : ℕ) → word m.layout k ≡ gate m.layout k + lead_bytes m k
  word_is k = ap (λ n. gate m.layout k + n) (sizes.led k)

  -- where no words are before a place's unit, it stands at its gate
  pub at_gate : (k : ℕ) → lead m k ≡ [] → word m.layout k ≡ gate m.layout k
  at_gate k none =
      let bytes : lead_bytes m k ≡ 0 = ap (λ (us : List U.Unit). 4 * words_in us) none in
      let behind = word_is k in
      omega arith

  -- a unit starts at the gate of each place that has one of its own
  pub gate_starts : (k : ℕ) → k < count m.layout.program → is_later_at m k ≡ false → (u : U.Unit) × (unit_in (units m) m.layout.profile.units_from (gate m.layout k) ≡ Some u)
  gate_starts k below first =
      elim (lead_cases m k) [
        | inl none ↦ (unit_here m k, ap (unit_in (units m) m.layout.profile.units_from) (sym (at_gate k none)) ∙ unit_there k below first)
        | inr (u, some) ↦
            let start : gate m.layout k ≡ gate m.layout k + 4 * 0 = omega arith in
            (u, ap (unit_in (units m) m.layout.profile.units_from) start ∙ lead_there k 0 u below some)
      ]

  pub starts : (k : ℕ) → k < count m.layout.program → is_later_at m k ≡ false → StartsIn m.layout.profile (units m) (gate m.layout k)
  starts k below first = let (u, e) = gate_starts k below first in ap is_some e

  -- in a leaf no words stand before a place's unit
  pub no_lead_in_leaf : (k : ℕ) → in_leaf (entered_in m.layout) k ≡ true → word m.layout k ≡ gate m.layout k
  no_lead_in_leaf k inside = let none = leaf_unled (entered_in m.layout) k inside in omega arith

  -- where calls enter a place that saves their sites, that stands
  pub saver_at : (k : ℕ) → k < count m.layout.program → has_leaves m.layout.closed.version ≡ true → enters (entered_in m.layout) k ≡ true →
      unit_in (units m) m.layout.profile.units_from (arrival m.layout k) ≡ Some V.Enter
  saver_at k below leaves saves =
      let (j, is) = saver_last m (labels_there m ok) leaves k saves in
      let behind = is.behind in
      let own = word_is k in
      let at : arrival m.layout k ≡ gate m.layout k + 4 * j = arrival_saves m.layout.closed.version (gate m.layout k) (word m.layout k) _ leaves saves ∙ omega arith in
      ap (unit_in (units m) m.layout.profile.units_from) at ∙ lead_there k j V.Enter below is.there

  -- what starts in the code is a place's
  pub found : (a : ℕ) (u : U.Unit) → unit_in (units m) m.layout.profile.units_from a ≡ Some u → Place m a u
  found a u e =
      let at = found_at m m.layout.profile.units_from _ (unit_places m 0 (count m.layout.program)) a u the_run e in
      let (from, to, first) = place_there m 0 (count m.layout.program) at.index at.place at.there in
      record { index = at.place; below = omega arith; first = first; unit = at.unit }

  pub unit_lies : (a : ℕ) (u : U.Unit) → unit_in (units m) m.layout.profile.units_from a ≡ Some u → IsIn m.layout.profile.units_from a u
  unit_lies a u e =
      let at = lies (units m) m.layout.profile.units_from a u e in
      let from = at.from in
      let to = at.to in
      let round = at.round in
      let whole = length-placed_code m.layout.profile ok.profile (entry_arrival m) (units m) in
      let room = ok.room in
      let even = laid.round in
      record { from = from; to = omega arith; round = round ∙ even }

  pub gate_lies : (k : ℕ) → k < count m.layout.program → (m.layout.profile.units_from ≤ gate m.layout k) × (gate m.layout k + 4 ≤ CODE_START + CODE_SIZE) × (gate m.layout k % 4 ≡ 0)
  gate_lies k below =
      let at = within (entered_in m.layout) m.whole 0 m.layout.profile.units_from m.layout.program.items m.layout.gates ok.legal k below in
      let low = at.low in
      let high = at.high in
      let all = whole_bytes in
      let whole = length-placed_code m.layout.profile ok.profile (entry_arrival m) (units m) in
      let room = ok.room in
      (low, omega arith, at.round laid.round)

  -- the next gate stands behind the size of a place
  pub next_gate : (k : ℕ) → k + 1 < count m.layout.program →
      gate m.layout (k + 1) ≡ word m.layout k + size_of (entered_in m.layout) k (item_of m.layout.program k) (whole_at m.whole k)
  next_gate k below =
      let next : suc k ≡ k + 1 = omega arith in
      let start : 0 + k ≡ k = omega arith in
      ap (gate m.layout) (sym next)
      ∙ next_from (entered_in m.layout) m.whole 0 m.layout.profile.units_from m.layout.program.items m.layout.gates ok.legal k (omega arith)
      ∙ ap (λ (n : ℕ). gate m.layout k + lead_size (entered_in m.layout) n + size_of (entered_in m.layout) n (item_of m.layout.program k) (whole_at m.whole n)) start

  step_up : (k : ℕ) → k + 1 < count m.layout.program → gate m.layout k < gate m.layout (k + 1)
  step_up k below =
      let next = next_gate k below in
      let some = unit_many (entered_in m.layout) k (item_of m.layout.program k) (whole_at m.whole k) in
      omega arith

  pub gates_rise : (i j : ℕ) → i < j → j < count m.layout.program → gate m.layout i < gate m.layout j
  gates_rise i zero less below = absurd (omega arith)
  gates_rise i (suc j) less below =
      let next : j + 1 ≡ suc j = omega arith in
      let up : gate m.layout j < gate m.layout (suc j) = subst (λ (n : ℕ). gate m.layout j < gate m.layout n) next (step_up j (omega arith)) in
      elim (cases_eq i j) [
        | inl same ↦ subst (λ (n : ℕ). gate m.layout n < gate m.layout (suc j)) (sym same) up
        | inr apart ↦ let before = gates_rise i j (omega arith) (omega arith) in omega arith
      ]

  -- a later store's word is its gate
  pub later_word : (k : ℕ) → is_later_at m k ≡ true → word m.layout k ≡ gate m.layout k
  later_word k later = let none = sizes.later k later in omega arith

  -- the gates behind the stores of a group
  pub group_gate : (k i : ℕ) → is_store (item_of m.layout.program k).kind ≡ true → is_later_at m k ≡ false → i ≤ behind m k → k + (i + 1) < count m.layout.program →
      gate m.layout (k + (i + 1)) ≡ word m.layout k + 4 * (mask_words (mask_at m k) + (i + 1))
  group_gate k zero store first few below =
      let start : k + (0 + 1) ≡ k + 1 = omega arith in
      let next = next_gate k (omega arith) in
      let whole = whole_first m k store first in
      let size : size_of (entered_in m.layout) k (item_of m.layout.program k) (whole_at m.whole k) ≡ 4 * (mask_words (mask_at m k) + 1) =
      size_first (entered_in m.layout) k (item_of m.layout.program k) (whole_at m.whole k) store whole in
      ap (gate m.layout) start ∙ omega arith
  group_gate k (suc i) store first few below =
      let before = group_gate k i store first (omega arith) (omega arith) in
      let later : is_later_at m (k + (i + 1)) ≡ true = later_behind m k (i + 1) (omega arith) (omega arith) in
      let last : k + (suc i + 1) ≡ k + (i + 1) + 1 = omega arith in
      let next = next_gate (k + (i + 1)) (omega arith) in
      let word_is = later_word (k + (i + 1)) later in
      let four = later_size m (k + (i + 1)) later in
      ap (gate m.layout) last ∙ omega arith

  -- behind a place's unit the next place with one has its gate
  pub gate_after : (k : ℕ) → is_later_at m k ≡ false → k + (behind m k + 1) < count m.layout.program →
      gate m.layout (k + (behind m k + 1)) ≡ word m.layout k + 4 * word_count (unit_here m k)
  gate_after k first below =
      let size = sizes.first k (omega arith) first in
      elim (cases_Bool (is_store (item_of m.layout.program k).kind)) [
        | inl store ↦
            let last = group_gate k (behind m k) store first (omega arith) below in
            let whole : size_of (entered_in m.layout) k (item_of m.layout.program k) (whole_at m.whole k) ≡ 4 * (mask_words (mask_at m k) + 1) =
            size_first (entered_in m.layout) k (item_of m.layout.program k) (whole_at m.whole k) store (whole_first m k store first) in
            omega arith
        | inr other ↦
            let none = none_behind m ok.groups k other in
            let one : k + (behind m k + 1) ≡ k + 1 = omega arith in
            let next = next_gate k (omega arith) in
            ap (gate m.layout) one ∙ omega arith
      ]

  -- behind what is no store that is the next place
  pub next_after : (k : ℕ) → is_store (item_of m.layout.program k).kind ≡ false → k + 1 < count m.layout.program →
      gate m.layout (k + 1) ≡ word m.layout k + 4 * word_count (unit_here m k)
  next_after k other below =
      let none = none_behind m ok.groups k other in
      let one : k + (behind m k + 1) ≡ k + 1 = omega arith in
      ap (gate m.layout) (sym one) ∙ gate_after k (other_first m k other) (omega arith)

  -- each later store stands behind the first of its group
  pub leader : (k : ℕ) → is_later_at m k ≡ true → Behind m k
  leader zero later = let wrong : true ≡ false = sym later ∙ no_first_later m ok.groups in absurd (cc)
  leader (suc k) later =
      let store = store_before m ok.groups k later in
      let next : suc k ≡ k + 1 = omega arith in
      let here : is_later_at m (k + 1) ≡ true = subst (λ (n : ℕ). is_later_at m n ≡ true) next later in
      elim (cases_Bool (is_later_at m k)) [
        | inr first ↦
            let one = one_later m (k + 1) here in
            record { first = k; index = 1; place = next; some = omega arith; inside = omega arith; store = store; is_first = first }
        | inl before ↦
            let at = leader k before in
            let place = at.place in
            let some = at.some in
            let few = at.inside in
            record {
              first = at.first;
              index = at.index + 1;
              place = omega arith;
              some = omega arith;
              inside = elim (cases_eq at.index (behind m at.first)) [
                | inl last ↦
                    let stop : is_later_at m (at.first + (behind m at.first + 1)) ≡ false = first_behind m at.first in
                    let same : at.first + (behind m at.first + 1) ≡ suc k = omega arith in
                    let wrong : true ≡ false = sym later ∙ subst (λ (n : ℕ). is_later_at m n ≡ false) same stop in
                    absurd (cc)
                | inr less ↦ omega arith
              ];
              store = at.store;
              is_first = at.is_first;
            }
      ]
