-- A label's word stands in code only as the gate of that label.
use Rattle.std.proofs.Common.{◌≡◌, ℕ, zero, suc, ◌+◌, ◌-◌, ◌*◌, ◌/◌, ◌%◌, ◌^◌, ◌<◌, ◌≤◌, true, inl, inr, List, [], ◌∷◌, ◌++◌, length, Some, refl, sym, ap, ◌∙◌, arith}
use Rattle.std.specs.Prelude.{slice_get}
use Rattle.std.proofs.lemmas.List.{length-map}
use Rattle.std.proofs.lemmas.Option.{slice_get_cases}
use Rattle.rv_image.specs.MemoryMap.{Profile}
use Rattle.rv_word.specs.Memory.{Memory, read}
use Rattle.rv_instr.specs.declared.instr.Instr.{Instr}
use Rattle.rv_code.specs.Decode.{decoded}
use Rattle.rv_code.specs.Encode.{code_of}
use Rattle.rv_code.specs.Fields.{fields_of, imm_u}
use Rattle.cfi_unit.specs.declared.unit.Unit as U
use Rattle.cfi_unit.specs.declared.unit.Unit.TheVariants as V
use Rattle.cfi_unit.specs.declared.unit.SystemOp.TheVariants as S
use Rattle.cfi_unit.specs.Guarded.{guards}
use Rattle.cfi_unit.specs.UnitWords.{Fits, gate, instrs_of, word_count, words_of}
use Rattle.cfi_unit.specs.Place.{Place, handler, opening, closing, body, place_instrs, place_size}
use Rattle.cfi_unit.specs.Stand.{Stand}
use Rattle.cfi_unit.specs.UnitLaw.{MayStand}
use Rattle.cfi_unit.proofs.Parts.{opening_length}
use Rattle.cfi_unit.proofs.Sought.{lacks, nowhere, opening_lacks, plain_lacks, stores_lack}
use Rattle.cfi_unit.proofs.UnitInList.{words_counted}

-- the word that a check compares with is a gate
pub gate_word : (word label : ℕ) → label < 2 ^ 20 → word ≡ label * 4096 + 55 → decoded word ≡ Some (gate label)
unfolding decoded
gate_word word label low is =
    let opcode : word % 2 ^ 7 ≡ 0x37 = omega arith in
    let rd : word / 2 ^ 7 % 2 ^ 5 ≡ 0 = omega arith in
    let imm : imm_u (fields_of word) ≡ label = omega arith in
    rw (opcode, rd, imm) refl

guards_gate : (ns : List ℕ) (rest : List Instr) → lacks true rest ≡ true → lacks true (guards ns ++ rest) ≡ true
guards_gate [] rest none = none
guards_gate (n ∷ ns) rest none = guards_gate ns rest none

other_unit : (unit : U.Unit) (at k label : ℕ) → lacks true (instrs_of unit at) ≡ true → slice_get (instrs_of unit at) k ≡ Some (gate label) →
    (unit ≡ V.Gate label) × (k ≡ 0)
other_unit unit at k label none is = absurd (nowhere true (instrs_of unit at) k (gate label) refl none is)

pub gate_unit : (unit : U.Unit) (at k label : ℕ) → Fits unit at → slice_get (instrs_of unit at) k ≡ Some (gate label) →
    (unit ≡ V.Gate label) × (k ≡ 0)
gate_unit (V.Gate other) at zero label fits is = let same : other ≡ label = cc in (ap V.Gate same, refl)
gate_unit (V.Gate other) at (suc k) label fits is = absurd (cc)
gate_unit (V.Plain instr) at k label fits is = other_unit (V.Plain instr) at k label (plain_lacks true instr fits.1) is
gate_unit (V.System S.Ecall) at k label fits is = other_unit (V.System S.Ecall) at k label refl is
gate_unit (V.System S.Ebreak) at k label fits is = other_unit (V.System S.Ebreak) at k label refl is
gate_unit (V.Guarded numbers) at k label fits is = other_unit (V.Guarded numbers) at k label (guards_gate numbers _ refl) is
gate_unit (V.Stores mask rs1 imm members) at k label fits is =
    other_unit (V.Stores mask rs1 imm members) at k label (stores_lack true mask rs1 imm members) is
gate_unit other at k label fits is = other_unit other at k label refl is

gate_place : (p : Profile) (pending : List ℕ) (place : Place) (at k label : ℕ) → MayStand p place at pending →
    slice_get (place_instrs p place at) k ≡ Some (gate label) → (place ≡ body (V.Gate label)) × (k ≡ 0)
gate_place p pending handler at k label may is = absurd (nowhere true (place_instrs p handler at) k (gate label) refl refl is)
gate_place p pending (opening entry) at k label may is = absurd (nowhere true (place_instrs p (opening entry) at) k (gate label) refl (opening_lacks true p (inl may.0) entry) is)
gate_place p pending closing at k label may is = absurd (nowhere true (place_instrs p closing at) k (gate label) refl refl is)
gate_place p pending (body unit) at k label may is =
    let found = gate_unit unit at k label may.0 is in (ap body found.0, found.1)

-- the words of a place are its bytes
unit_size : (unit : U.Unit) (at : ℕ) → 4 * length (instrs_of unit at) ≡ 4 * word_count unit
unfolding words_of
unit_size unit at = let words = length-map (instrs_of unit at) code_of in let counted = words_counted unit at in omega arith

pub place_length : (p : Profile) (pending : List ℕ) (place : Place) (at : ℕ) → MayStand p place at pending →
    4 * length (place_instrs p place at) ≡ place_size p place
place_length p pending handler at may = refl
place_length p pending (opening entry) at may = let whole = opening_length p (inl may.0) entry in omega arith
place_length p pending closing at may = refl
place_length p pending (body unit) at may = unit_size unit at

-- an address in a place at which a label's word stands is the start of a gate of that label
pub label_is_gate : (p : Profile) (image : Memory) (pending : List ℕ) (place : Place) (at label v : ℕ) → MayStand p place at pending →
    Stand image at (place_instrs p place at) → label < 2 ^ 20 → v % 4 ≡ 0 → read 4 image v ≡ label * 4096 + 55 → at ≤ v → v < at + place_size p place →
    (place ≡ body (V.Gate label)) × (v ≡ at)
label_is_gate p image pending place at label v may w low round_v word_v from to =
    let size = place_length p pending place at may in
    let round = w.round in
    let here : v ≡ at + 4 * ((v - at) / 4) = omega arith in
    let gate_here : decoded (read 4 image (at + 4 * ((v - at) / 4))) ≡ Some (gate label) =
    gate_word _ label low (ap (read 4 image) (sym here) ∙ word_v) in
    elim (slice_get_cases (place_instrs p place at) ((v - at) / 4)).1 [
      | inl found ↦
          let word = w.words ((v - at) / 4) found.0 found.2 in
          let same : found.0 ≡ gate label = cc in
          let at_gate = gate_place p pending place at ((v - at) / 4) label may (found.2 ∙ ap Some same) in
          let first = at_gate.1 in
          (at_gate.0, omega arith)
      | inr past ↦ let beyond = past.0 in absurd (omega arith)
    ]
