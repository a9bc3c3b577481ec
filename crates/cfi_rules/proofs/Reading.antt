-- The units that a code's words decode to are those that begin them: what starts at an address is the same by either.
use Rattle.std.proofs.Common.{◌≡◌, ℕ, ◌-◌, ◌/◌, ◌^◌, ◌<◌, List, [], ◌∷◌, ◌++◌, drop, take, refl, sym, ap, subst, ◌∙◌, Option, Some, arith}
use Rattle.std.specs.Prelude.{map}
use Rattle.std.proofs.lemmas.List.Elements.{All-drop, All-head, All-tail, All-take}
use Rattle.rv_image.specs.MemoryMap.{CODE_START, Profile}
use Rattle.rv_instr.specs.declared.instr.Instr.{Instr}
use Rattle.rv_code.specs.Decode.{decoded}
use Rattle.rv_code.specs.Encode.{code_of}
use Rattle.rv_code.proofs.Inverse.{code_of-decoded, decoded-in_range}
use Rattle.rv_code.proofs.ReadBack.{decoded-code_of}
use Rattle.cfi_unit.specs.declared.mask.Mask.{Mask}
use Rattle.cfi_unit.specs.declared.mask.Mask.TheVariants.{Shifts, Short, Long}
use Rattle.cfi_unit.specs.declared.members.Member.{Member}
use Rattle.cfi_unit.specs.declared.place.Place.{Place}
use Rattle.cfi_unit.specs.declared.unit.Unit as U
use Rattle.cfi_unit.specs.declared.unit.Unit.TheVariants as V
use Rattle.cfi_unit.specs.Laws.{AreWords}
use Rattle.cfi_unit.specs.Members.{member_instr}
use Rattle.cfi_unit.specs.Split.{IsSplit}
use Rattle.cfi_unit.specs.UnitWords.{Begins, Fits, MaskFits, after_unit, instrs_of, mask_instrs, word_count, words_of}
use Rattle.cfi_rules.specs.Along.{AllRunAlong}
use Rattle.cfi_rules.specs.Laws.{ReadUnits, SafeAsRecognised}
use Rattle.cfi_rules.specs.Reading.{IsProper, AreRead, ReadsAs, place_in}
use Rattle.cfi_rules.specs.Split.{code_words, place_at, place_by, unit_at, unit_in, unit_words}
use Rattle.cfi_rules.proofs.InRange.{AreInstrs, unit_instrs}
use Rattle.cfi_rules.proofs.PlacedSplit.{unit_is}

-- words that decode to instructions are theirs, with fields in range
record AreCodes (ws : List ℕ) (is : List Instr) : Type 0 where
  same : ws ≡ map code_of is
  in_range : AreInstrs is

codes : (ws : List ℕ) (is : List Instr) → AreWords ws → map decoded ws ≡ map Some is → AreCodes ws is
codes [] [] small e = record { same = refl; in_range = tt }
codes [] (i ∷ is) small e = absurd (cc)
codes (w ∷ ws) [] small e = absurd (cc)
codes (w ∷ ws) (i ∷ is) small e =
    let first : decoded w ≡ Some i = cc in
    let later : map decoded ws ≡ map Some is = cc in
    let low : w < 2 ^ 32 = All-head (λ (x : ℕ). x < 2 ^ 32) w ws small in
    let code : code_of i ≡ w = code_of-decoded w i low first in
    let rest = codes ws is (All-tail (λ (x : ℕ). x < 2 ^ 32) w ws small) later in
    let tail : ws ≡ map code_of is = rest.same in
    record { same = cc; in_range = (decoded-in_range w i low first, rest.in_range) }

decoded_codes : (is : List Instr) → AreInstrs is → map decoded (map code_of is) ≡ map Some is
decoded_codes [] all = refl
decoded_codes (i ∷ is) all =
    let first : decoded (code_of i) ≡ Some i = decoded-code_of i all.0 in
    let later : map decoded (map code_of is) ≡ map Some is = decoded_codes is all.1 in
    cc

-- the fields of a mask have places in its first instruction, or the offset is none
mask_fields : (mask : Mask) (rs1 imm : ℕ) (members : List Member) → MaskFits mask imm → AreInstrs (mask_instrs mask rs1 imm ++ map member_instr members) →
    (rs1 < 32) × (imm < 2 ^ 12)
mask_fields Shifts rs1 imm members fits all = (all.0.1, all.0.2)
mask_fields Short rs1 imm members fits all = (all.0.1, omega (arith, fits))
mask_fields Long rs1 imm members fits all = (all.0.1, all.0.2)

-- a unit whose fields have places in instructions fits, where all else is proper
fits_by : (u : U.Unit) (at : ℕ) → IsProper u at → AreInstrs (instrs_of u at) → Fits u at
fits_by (V.Gate label) at proper all = all.0.1
fits_by (V.Plain instr) at proper all = (all.0, proper)
fits_by (V.Branch op rs1 rs2 target) at proper all = (all.0.0, all.0.1, proper)
fits_by (V.Near op rs1 rs2 target) at proper all = (all.0.0, all.0.1, proper)
fits_by (V.Jump target) at proper all = proper
fits_by V.Stop at proper all = proper
fits_by (V.System op) at proper all = tt
fits_by (V.Guarded numbers) at proper all = proper
fits_by (V.Stores mask rs1 imm members) at proper all =
    let fields = mask_fields mask rs1 imm members proper.1 all in (fields.0, fields.1, proper.0, proper.1)
fits_by (V.Call target) at proper all = proper
fits_by (V.Ijump which rs1 imm label) at proper all = (all.0.1, all.0.2, all.1.1.1.1.1.1.1.1.0.1, proper.0, proper.1)
fits_by (V.Icall rs1 imm label) at proper all = ((all.0.1, all.0.2, all.1.1.1.1.1.1.1.1.0.1, proper.0, proper.1), proper.2)
fits_by V.Return at proper all = proper
fits_by (V.LinkCall target) at proper all = proper
fits_by V.Enter at proper all = proper
fits_by (V.LeanIjump rs1 imm label) at proper all = (all.0.1, all.0.2, all.1.1.1.1.1.1.1.1.0.1, proper.0, proper.1)
fits_by (V.LeanIcall rs1 imm label) at proper all = (all.0.1, all.0.2, all.1.1.1.1.1.1.1.1.0.1, proper.0, proper.1)
fits_by V.LeafReturn at proper all = tt

proper_by : (u : U.Unit) (at : ℕ) → Fits u at → IsProper u at
proper_by (V.Gate label) at f = tt
proper_by (V.Plain instr) at f = f.1
proper_by (V.Branch op rs1 rs2 target) at f = f.2
proper_by (V.Near op rs1 rs2 target) at f = f.2
proper_by (V.Jump target) at f = f
proper_by V.Stop at f = f
proper_by (V.System op) at f = tt
proper_by (V.Guarded numbers) at f = f
proper_by (V.Stores mask rs1 imm members) at f = (f.2, f.3)
proper_by (V.Call target) at f = f
proper_by (V.Ijump which rs1 imm label) at f = (f.3, f.4)
proper_by (V.Icall rs1 imm label) at f = (f.0.3, f.0.4, f.1)
proper_by V.Return at f = f
proper_by (V.LinkCall target) at f = f
proper_by V.Enter at f = f
proper_by (V.LeanIjump rs1 imm label) at f = (f.3, f.4)
proper_by (V.LeanIcall rs1 imm label) at f = (f.3, f.4)
proper_by V.LeafReturn at f = tt

reads_begins : (ws : List ℕ) (at : ℕ) (u : U.Unit) → AreWords ws → ReadsAs ws at u → Begins ws at u
unfolding words_of
reads_begins ws at u small r =
    let c = codes (take (word_count u) ws) (instrs_of u at) (All-take (λ (x : ℕ). x < 2 ^ 32) (word_count u) ws small) r.instrs in
    record { fits = fits_by u at r.proper c.in_range; words_are = c.same; ahead = r.ahead }

begins_reads : (ws : List ℕ) (at : ℕ) (u : U.Unit) → Begins ws at u → ReadsAs ws at u
unfolding words_of
begins_reads ws at u b = record {
  proper = proper_by u at b.fits;
  instrs = ap (map decoded) b.words_are ∙ decoded_codes (instrs_of u at) (unit_instrs u at b.fits);
  ahead = b.ahead;
}

-- so the words are split into the units that they are read as
read_split : (us : List U.Unit) (ws : List ℕ) (at : ℕ) → AreWords ws → AreRead ws at us → IsSplit ws at us
unfolding IsSplit AreRead
read_split [] ws at small r = r
read_split (u ∷ us) ws at small r =
    (reads_begins ws at u small r.0, read_split us (drop (word_count u) ws) (after_unit u at) (All-drop (λ (x : ℕ). x < 2 ^ 32) (word_count u) ws small) r.1)

pub split_read : (us : List U.Unit) (ws : List ℕ) (at : ℕ) → IsSplit ws at us → AreRead ws at us
unfolding IsSplit AreRead
split_read [] ws at s = s
split_read (u ∷ us) ws at s = (begins_reads ws at u s.0, split_read us (drop (word_count u) ws) (after_unit u at) s.1)

-- no other units start than those that are recognised
pub read_units : ReadUnits
read_units p words us are =
    unit_is p are.low are.round words us
    (read_split us (unit_words p words) p.units_from (All-drop (λ (x : ℕ). x < 2 ^ 32) ((p.units_from - CODE_START) / 4) words are.small) are.read)

-- so what stands at each address is the same
pub places_same : (p : Profile) (words : List ℕ) (us : List U.Unit) → ((a : ℕ) → unit_at p words a ≡ unit_in us p.units_from a) → place_at p words ≡ place_in p words us
unfolding place_at
places_same p words us same = λ i a. place_by p words (same a i) a

-- so the runs of a safe pair go along the graph by what is recognised
pub safe_as_recognised : SafeAsRecognised
safe_as_recognised p image graph safe =
    let words = code_words image.code in
    let (us, are, runs) = safe in
    subst (λ (places : ℕ → Option Place). AllRunAlong p image places graph.lines)
    (sym (places_same p words us (read_units p words us are))) runs
