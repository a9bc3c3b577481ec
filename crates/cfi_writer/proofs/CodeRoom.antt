-- The words of the units that are written for places, and the sizes of the places' parts.
use Rattle.std.proofs.Common.{◌≡◌, ℕ, suc, ◌+◌, ◌*◌, ◌<◌, true, false, inl, inr, List, [], ◌∷◌, ◌++◌, length, Option, Some, refl, sym, ap, subst, ◌∙◌, arith, unwrap_or}
use Rattle.std.specs.Prelude.{◌&&◌, ◌==◌, ◌-◌, ◌≤◌, not, is_some, slice_index, sum}
use Rattle.std.proofs.lemmas.Bool.{and_from, cases_Bool, not_from_false, or_left, or_right}
use Rattle.std.proofs.lemmas.List.FromFn.{length-map-range_with_len}
use Rattle.rv_word.proofs.Cases.{cases_Option}
use Rattle.cfi_writer.proofs.Prelude.{Instr, CODE_SIZE, CODE_START, IsProfile, instr_at, count, is_end, item_of, IsSound, names_reserved, suits, ItemKind, decoded, entered_in, gate, words_at, is_target, in_leaf, AreGroups, is_direct_target, AreGates, is_ecall, is_ecall_instr, whole_at, word_count, code_from, placed_code, part_sizes, Choice, behind, bounds_at, entry_arrival, group_at, instr_of, later_from, lead, low_at, member_at, unit_here, unit_places, units, units_of}
use Rattle.rv_instr.specs.declared.instr.Instr.TheVariants as I
use Rattle.obj_program.specs.Sound.{is_of}
use Rattle.obj_program.proofs.Kept.{kept}
use Rattle.obj_program.proofs.Read.{read_there}
use Rattle.obj_input.specs.declared.item_kind.ItemKind.TheVariants as is
use Rattle.cfi_unit.specs.declared.unit.Unit as U
use Rattle.cfi_rules.proofs.UnitIn.{length-code_from, length-placed_code}
use Rattle.cfi_writer.proofs.Entering.{unentered_lead}
use Rattle.cfi_writer.proofs.Grouping.{later_joins, no_first_later, none_behind, none_later, whole_first}
use Rattle.cfi_writer.proofs.InstrAt.{own_system}
use Rattle.cfi_writer.proofs.Runs.{AreSized, IsLabelled, Run, lead_bytes, lead_sized, legal_run, words_in}
use Rattle.cfi_writer.proofs.UnitOf.{is_right, unit_size}

-- the words before a unit, and of what follows them
length-lead : (us rest : List U.Unit) (at : ℕ) → length (code_from at (us ++ rest)) ≡ words_in us + length (code_from (at + 4 * words_in us) rest)
length-lead [] rest at =
    let same : at ≡ at + 4 * 0 = omega arith in
    subst (λ (b : ℕ). length (code_from at rest) ≡ 0 + length (code_from b rest)) same (omega arith)
length-lead (v ∷ us) rest at =
    let first = length-code_from v (us ++ rest) at in
    let later = length-lead us rest (at + 4 * word_count v) in
    let same : at + 4 * word_count v + 4 * words_in us ≡ at + 4 * words_in (v ∷ us) = omega arith in
    subst (λ (b : ℕ). length (code_from at (v ∷ us ++ rest)) ≡ words_in (v ∷ us) + length (code_from b rest)) same (omega (arith, first, later))

-- the code of units that stand one after another has as many bytes as lie between
pub run_bytes : (m : Choice) (at last : ℕ) (places : List ℕ) → Run m at places last → at + 4 * length (code_from at (units_of m places)) ≡ last
unfolding Run units_of code_from
run_bytes m at last [] run = let e : at ≡ last = run in omega arith
run_bytes m at last (k ∷ places) run =
    let led = length-lead (lead m k) (unit_here m k ∷ units_of m places) at in
    let own = length-code_from (unit_here m k) (units_of m places) (at + lead_bytes m k) in
    let rest = run_bytes m (at + lead_bytes m k + 4 * word_count (unit_here m k)) last places run.2 in
    omega arith

-- what is a target may be entered
pub target_entered : (m : Choice) (k : ℕ) → is_target m.layout.closed.sides k ≡ true → (bounds_at m).entered k ≡ true
target_entered m k target =
    or_right (k == m.layout.entry) _ (or_right (is_direct_target m.layout.program k) _ (or_left (is_target m.layout.closed.sides k) _ target))

module _ (m : Choice) (sound : IsSound m.layout.program)
    (values : (k : ℕ) → k < count m.layout.program → is_end (item_of m.layout.program k).kind ≡ false →
    is_some (instr_at m.layout.program m.layout.gates (words_at m.layout) k) ≡ true)
    (labels : IsLabelled m) where
  -- the instruction that has a value is the one at the map
  instr_is : (k : ℕ) → k < count m.layout.program → is_end (item_of m.layout.program k).kind ≡ false →
      instr_at m.layout.program m.layout.gates (words_at m.layout) k ≡ Some (instr_of m k)
  instr_is k below some =
      elim (cases_Option (instr_at m.layout.program m.layout.gates (words_at m.layout) k)) [
        | inl none ↦ let wrong : false ≡ true = ap is_some (sym none) ∙ values k below some in absurd (cc)
        | inr (j, e) ↦ e ∙ ap Some (sym (ap (λ (o : Option Instr). unwrap_or o I.Ebreak) e))
      ]

  -- and it is of its place's kind
  right : (k : ℕ) → k < count m.layout.program → is_right (item_of m.layout.program k).kind (instr_of m k) ≡ true
  right k below =
      elim (cases_Bool (is_end (item_of m.layout.program k).kind)) [
        | inl last ↦ or_left (is_end (item_of m.layout.program k).kind) (suits (item_of m.layout.program k).kind (instr_of m k) && not (names_reserved (instr_of m k))) last
        | inr some ↦
            let is = kept m.layout.program m.layout.gates (words_at m.layout) k (instr_of m k) sound below some (instr_is k below some) in
            or_right (is_end (item_of m.layout.program k).kind) (suits (item_of m.layout.program k).kind (instr_of m k) && not (names_reserved (instr_of m k)))
            (and_from (suits (item_of m.layout.program k).kind (instr_of m k)) (not (names_reserved (instr_of m k))) is.0 (not_from_false (names_reserved (instr_of m k)) is.1))
      ]

  -- no relocation makes an `ecall` of another instruction
  ecall_told : (k : ℕ) → k < count m.layout.program → (item_of m.layout.program k).kind ≡ is.System →
      is_ecall (item_of m.layout.program k) ≡ is_ecall_instr (Some (instr_of m k))
  ecall_told k below system =
      let some : is_end (item_of m.layout.program k).kind ≡ false = ap is_end system in
      let read : is_of is.System (item_of m.layout.program k).patch (decoded (item_of m.layout.program k).word) ≡ true =
      subst (λ (kind : ItemKind). is_of kind (item_of m.layout.program k).patch (decoded (item_of m.layout.program k).word) ≡ true) system (read_there m.layout.program k sound below some) in
      ap is_ecall_instr (own_system m.layout.program m.layout.gates (words_at m.layout) k (instr_of m k) read (instr_is k below some))

  module _ (groups : AreGroups (item_of m.layout.program) (bounds_at m) (whole_at m.whole)) where
    pub sized : AreSized m
    sized = record {
      led = lead_sized m labels;
      later = λ k later. unentered_lead (entered_in m.layout) k (later_joins m groups k later).free;
      first = λ k below first.
          unit_size m.layout.closed.version m.layout.closed.calls (in_leaf (entered_in m.layout) k) (item_of m.layout.program k) (instr_of m k) (whole_at m.whole k) _ _
          (group_at m k) (behind m k) (right k below) (ecall_told k below)
          (λ store. (whole_first m k store first, length-map-range_with_len (member_at m (low_at m k)) k (suc (behind m k))))
          refl (none_behind m groups k);
    }

    start : 0 + 0 ≡ 0
    start = omega arith

    -- units stand so from the first on
    pub whole_run : (gates : List ℕ) → m.layout.gates ≡ gates → AreGates (entered_in m.layout) m.whole 0 m.layout.profile.units_from m.layout.program.items gates →
        Run m m.layout.profile.units_from (unit_places m 0 (count m.layout.program))
        (m.layout.profile.units_from + sum (part_sizes (entered_in m.layout) m.whole 0 m.layout.program.items))
    whole_run gates same legal =
        let none = none_later m 0 (no_first_later m groups) in
        let zero_more : (i : ℕ) → 0 + i ≡ i = λ i. omega arith in
        let from : m.layout.profile.units_from + 4 * later_from m 0 ≡ m.layout.profile.units_from = omega arith in
        subst (λ (b : ℕ). Run m b (unit_places m 0 (count m.layout.program)) (m.layout.profile.units_from + sum (part_sizes (entered_in m.layout) m.whole 0 m.layout.program.items))) from
        (legal_run m sized 0 m.layout.profile.units_from m.layout.program.items gates
        (λ i. ap (gate m.layout) (zero_more i) ∙ ap (λ (gs : List ℕ). slice_index gs i) same) (λ i less. ap (item_of m.layout.program) (zero_more i)) (omega arith) legal)

    -- and the code has room where the parts have
    pub room_there : IsProfile m.layout.profile →
        AreGates (entered_in m.layout) m.whole 0 m.layout.profile.units_from m.layout.program.items m.layout.gates →
        m.layout.profile.units_from - CODE_START + sum (part_sizes (entered_in m.layout) m.whole 0 m.layout.program.items) ≤ CODE_SIZE →
        4 * length (placed_code m.layout.profile (entry_arrival m) (units m)) ≤ CODE_SIZE
    room_there is legal room =
        let whole = length-placed_code m.layout.profile is (entry_arrival m) (units m) in
        let bytes = run_bytes m m.layout.profile.units_from _ (unit_places m 0 (count m.layout.program)) (whole_run m.layout.gates refl legal) in
        omega arith
