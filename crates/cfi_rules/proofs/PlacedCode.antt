-- A whole code of placed units: its prologue stands and calls the entry, its units are its split, and with
-- its lines it is well formed.
use Rattle.std.proofs.Common.{◌≡◌, ℕ, ◌+◌, ◌-◌, ◌*◌, ◌/◌, ◌%◌, ◌≤◌, ◌<◌, ◌==◌, inl, inr, true, false, List, [], ◌∷◌, ◌++◌, get_or, length, map, sym, ap, subst, ◌∙◌, lit<, Some, arith}
use Rattle.std.specs.Prelude.{not, ◌&&◌, slice_get, slice_index, option_and_then, option_map, nat_le}
use Rattle.std.proofs.lemmas.Bool.{and_parts, and_left, and_right, cases_Bool, cases_eq, eq-eqb, leb-true, ne_eqb, not_from_true}
use Rattle.std.proofs.lemmas.List.{drop_at}
use Rattle.std.proofs.lemmas.Option.{same_Some, slice_get-map, slice_get-get_or}
use Rattle.rv_image.specs.declared.version.GraphVersion.{GraphVersion}
use Rattle.rv_image.specs.MemoryMap.{CODE_START, IsProfile, Profile, lies_within}
use Rattle.rv_image.proofs.Profiles.{laid_out}
use Rattle.rv_instr.specs.declared.instr.Instr.{Instr}
use Rattle.rv_instr.specs.declared.instr.Instr.TheVariants.{Jal}
use Rattle.rv_code.specs.Decode.{decoded}
use Rattle.rv_code.specs.Encode.{code_of}
use Rattle.rv_code.proofs.ReadBack.{decoded-code_of}
use Rattle.cfi_graph.specs.declared.line.GraphLine.{GraphLine}
use Rattle.cfi_unit.specs.declared.unit.Unit as U
use Rattle.cfi_unit.specs.Prologue.{prologue_instrs}
use Rattle.cfi_unit.specs.Reach.{target_in}
use Rattle.cfi_unit.specs.Split.{IsSplit}
use Rattle.cfi_unit.specs.UnitWords.{Reaches, jump_offset}
use Rattle.cfi_unit.proofs.Jumps.{is_jump_instr}
use Rattle.cfi_unit.proofs.Context.{slice_get-front}
use Rattle.cfi_rules.specs.PlacedLaws.{PlacedEntry, PlacedIsWellFormed, PlacedUnits, SplitUnits}
use Rattle.cfi_rules.specs.Placed.{AllAhead, AllFit, code_from, placed_code}
use Rattle.cfi_rules.specs.Rules.{Holds, fails_prologue, is_link, prologue_word_fits, prologue_words}
use Rattle.cfi_rules.specs.Sound.{IsSound}
use Rattle.cfi_rules.specs.Split.{entry_of, unit_words}
use Rattle.cfi_rules.proofs.Opening.{PrologueIs, call_word, prologue_is, word_at}
use Rattle.cfi_rules.proofs.PlacedRules.{IsPlaced, rules_hold}
use Rattle.cfi_rules.proofs.PlacedSplit.{placed_split, start_is, unit_is}
use Rattle.cfi_rules.proofs.UnitIn.{length-placed_code, prologue_counted}

-- the call of the entry
abbrev entry_call : Profile → ℕ → Instr
entry_call p entry = Jal 1 (jump_offset p.opening_call entry)

call_read : (p : Profile) (entry : ℕ) → decoded (code_of (entry_call p entry)) ≡ Some (entry_call p entry)
call_read p entry = decoded-code_of (entry_call p entry) (is_jump_instr 1 p.opening_call entry (lit< tt))

module _ (p : Profile) (profile : IsProfile p) where
  words_are : PrologueIs p
  words_are = prologue_is p profile

  link_there : (entry : ℕ) (i : Instr) → slice_get (prologue_instrs p entry) (call_word p) ≡ Some i → is_link (decoded (code_of i)) ≡ true
  link_there entry i e =
      let same : entry_call p entry ≡ i = same_Some (entry_call p entry) i (sym (words_are.call entry) ∙ e) in
      subst (λ (j : Instr). is_link (decoded (code_of j)) ≡ true) same (ap is_link (call_read p entry))

  -- each word of the prologue fits
  word_fits : (entry k : ℕ) (i : Instr) → slice_get (prologue_instrs p entry) k ≡ Some i → prologue_word_fits p k (Some (code_of i)) ≡ true
  word_fits entry k i e =
      elim (cases_eq k (call_word p)) [
        | inl call ↦ rw (eq-eqb k (call_word p) call) (link_there entry i (ap (slice_get (prologue_instrs p entry)) (sym call) ∙ e))
        | inr other ↦ rw (ne_eqb k (call_word p) other) (eq-eqb (code_of i) (slice_index (prologue_words p) k) (sym (word_at p words_are entry k i other e)))
      ]

  module _ (entry : ℕ) (us : List U.Unit) where
    abbrev the_code : List ℕ
    the_code = placed_code p entry us

    word_there : (k : ℕ) (i : Instr) → slice_get (prologue_instrs p entry) k ≡ Some i → slice_get the_code k ≡ Some (code_of i)
    word_there k i e =
        slice_get-front (map code_of (prologue_instrs p entry)) (code_from p.units_from us) k (code_of i)
        (slice_get-map code_of (prologue_instrs p entry) k ∙ ap (option_map code_of) e)

    fits_there : (k : ℕ) → CODE_START + 4 * k < p.units_from → prologue_word_fits p k (slice_get the_code k) ≡ true
    fits_there k below =
        let size = words_are.size entry in
        let i : Instr = get_or (prologue_instrs p entry) k (entry_call p entry) in
        let some : slice_get (prologue_instrs p entry) k ≡ Some i = slice_get-get_or (prologue_instrs p entry) k (entry_call p entry) (inside (length (prologue_instrs p entry)) k size below) in
        ap (prologue_word_fits p k) (word_there k i some) ∙ word_fits entry k i some
      where
        inside : (count k : ℕ) → CODE_START + 4 * count ≡ p.units_from → CODE_START + 4 * k < p.units_from → k < count
        inside count k size below = omega (arith, size, below)

    prologue_holds : (a : ℕ) → fails_prologue p the_code a ≡ false
    prologue_holds a =
        elim (cases_Bool (lies_within CODE_START (p.units_from - CODE_START) a 4)) [
          | inl within ↦
              let front = (laid_out p profile).low in
              let bounds = and_parts (nat_le CODE_START a) (nat_le (a + 4) (CODE_START + (p.units_from - CODE_START))) within in
              let low : CODE_START ≤ a = leb-true CODE_START a bounds.0 in
              let high : a + 4 ≤ CODE_START + (p.units_from - CODE_START) = leb-true (a + 4) (CODE_START + (p.units_from - CODE_START)) bounds.1 in
              and_right (lies_within CODE_START (p.units_from - CODE_START) a 4 && (a % 4 == 0)) (not (prologue_word_fits p ((a - CODE_START) / 4) (slice_get the_code ((a - CODE_START) / 4))))
              (not_from_true (prologue_word_fits p ((a - CODE_START) / 4) (slice_get the_code ((a - CODE_START) / 4))) (fits_there ((a - CODE_START) / 4) (omega arith)))
          | inr outside ↦
              and_left (lies_within CODE_START (p.units_from - CODE_START) a 4 && (a % 4 == 0)) (not (prologue_word_fits p ((a - CODE_START) / 4) (slice_get the_code ((a - CODE_START) / 4))))
              (and_left (lies_within CODE_START (p.units_from - CODE_START) a 4) (a % 4 == 0) outside)
        ]

    entry_there : Reaches p.opening_call entry → entry_of p the_code ≡ Some entry
    entry_there reaches =
        ap (λ o. target_in p.opening_call (option_and_then decoded o)) (word_there (call_word p) (entry_call p entry) (words_are.call entry))
        ∙ ap (target_in p.opening_call) (call_read p entry) ∙ ap Some reaches

    -- from the first unit on the code has the units' words
    unit_words_are : unit_words p the_code ≡ code_from p.units_from us
    unit_words_are = drop_at (map code_of (prologue_instrs p entry)) (code_from p.units_from us) ((p.units_from - CODE_START) / 4) (counted (length (map code_of (prologue_instrs p entry))) (prologue_counted p profile entry))
      where
        counted : (count : ℕ) → CODE_START + 4 * count ≡ p.units_from → count ≡ (p.units_from - CODE_START) / 4
        counted count size = omega (arith, size)

    unit_words_split : AllFit p.units_from us → AllAhead p.units_from us → IsSplit (unit_words p the_code) p.units_from us
    unit_words_split fit ahead = subst (λ (ws : List ℕ). IsSplit ws p.units_from us) (sym unit_words_are) (placed_split us p.units_from fit ahead)

    is_placed : (version : GraphVersion) (heads : List GraphLine) → IsSound p version entry us heads → IsPlaced p the_code entry us
    is_placed version heads sound =
        let laid = laid_out p profile in
        let call = laid.call in
        let last = laid.closing in
        let front = laid.low in
        record {
          closing_after = omega arith;
          units_after = omega arith;
          round = laid.round;
          prologue = prologue_holds;
          call = entry_there sound.entry_reached;
          split = unit_words_split sound.fit sound.ahead;
          size = length-placed_code p profile entry us;
        }

pub split_units : SplitUnits
split_units p words us low round split a =
    (start_is p low round words us split a, unit_is p low round words us split a)

pub placed_units : PlacedUnits
placed_units p entry us profile fit ahead =
    let laid = laid_out p profile in
    let front = laid.low in
    unit_is p (omega arith) laid.round (placed_code p entry us) us (unit_words_split p profile entry us fit ahead)

pub placed_entry : PlacedEntry
placed_entry p entry us profile = entry_there p profile entry us

pub placed_well_formed : PlacedIsWellFormed
placed_well_formed p entry us heads image graph sound words lines same_length = record {
  saves = sound.saves;
  same_length = same_length;
  rules = λ rule.
      let holds = rules_hold p (placed_code p entry us) graph.version entry us heads graph.code (is_placed p sound.profile entry us graph.version heads sound) sound rule in
      let with_lines = subst (λ (ls : List GraphLine). Holds p (placed_code p entry us) (record { version = graph.version; code = graph.code; lines = ls }) rule) (sym lines) holds in
      subst (λ (ws : List ℕ). Holds p ws graph rule) (sym words) with_lines;
}
