-- The premises of what a unit does are met by a branch unit in a worked memory, so the law says
-- something of it: it is left to the target where its condition is not met, and else passed.
use Rattle.std.proofs.Common.{◌≡◌, ℕ, zero, suc, ◌+◌, ◌*◌, ◌-◌, ◌==◌, ◌^◌, ◌<◌, ◌&&◌, Bool, true, List, [], ◌∷◌, Option, Some, None, length, map, if◌then◌else◌, refl, subst, ◌∙◌, arith, lit<, lit≤}
use Rattle.std.specs.Prelude.{nat_le, nat_lt, slice_get, slice_index}
use Rattle.std.specs.List.{list_all}
use Rattle.std.proofs.lemmas.Bool.{and_parts, cond_both, ltb-true}
use Rattle.rv_image.specs.MemoryMap.{version_1, SHADOW_START}
use Rattle.rv_word.specs.Memory.{Memory, placed, read, zeros}
use Rattle.rv_instr.specs.declared.instr.Instr.{Instr}
use Rattle.rv_instr.specs.declared.instr.BranchOp.TheVariants.{Bne}
use Rattle.rv_code.specs.Decode.{decoded}
use Rattle.rv_code.specs.State.{Hart, Shared, last_exit}
use Rattle.cfi_unit.specs.declared.unit.Unit as U
use Rattle.cfi_unit.specs.declared.unit.Unit.TheVariants as V
use Rattle.cfi_unit.specs.UnitWords.{instrs_of}
use Rattle.cfi_unit.specs.Leaving.{LeftTo, SameScratch}
use Rattle.cfi_unit.specs.EffectLaw.{DoneWithin, Enters, Inside}
use Rattle.cfi_unit.proofs.EffectRows.{unit_effect}

-- `bne x5,x0,.+8` and `jal x0,.+12`
abbrev branch_bytes : List ℕ
branch_bytes = 0x63 ∷ 0x94 ∷ 0x02 ∷ 0 ∷ 0x6f ∷ 0 ∷ 0xc0 ∷ 0 ∷ []

abbrev memory : Memory
memory = placed zeros 0x40000040 branch_bytes

abbrev unit : U.Unit
unit = V.Branch Bne 5 0 0x40000050

abbrev pub is_byte : ℕ → Bool
is_byte b = nat_lt b 256

byte_small : (bytes : List ℕ) (k : ℕ) → list_all is_byte bytes ≡ true → slice_index bytes k < 2 ^ 8
byte_small [] k all = lit< tt
byte_small (b ∷ bytes) zero all = ltb-true b 256 (and_parts (nat_lt b 256) (list_all is_byte bytes) all).0
byte_small (b ∷ bytes) (suc k) all = byte_small bytes k (and_parts (nat_lt b 256) (list_all is_byte bytes) all).1

-- a memory of bytes in which others are placed
pub placed_small : (m : Memory) (at : ℕ) (bytes : List ℕ) → ((k : ℕ) → m k < 2 ^ 8) → list_all is_byte bytes ≡ true → (k : ℕ) → placed m at bytes k < 2 ^ 8
unfolding placed
placed_small m at bytes small all k =
    cond_both (nat_le at k && nat_lt k (at + length bytes)) _ _ (λ (b : ℕ). b < 2 ^ 8) (λ inside. byte_small bytes (k - at) all) (λ outside. small k)

-- the instructions that stand one after the other, as many as a list has
abbrev pub read_from : Memory → ℕ → List Instr → List (Option Instr)
read_from m at [] = []
read_from m at (i ∷ instrs) = decoded (read 4 m at) ∷ read_from m (at + 4) instrs

pub each_read : (m : Memory) (at : ℕ) (instrs : List Instr) → read_from m at instrs ≡ map Some instrs → (k : ℕ) (i : Instr) →
    slice_get instrs k ≡ Some i → decoded (read 4 m (at + 4 * k)) ≡ Some i
each_read m at [] all k i is = absurd (cc)
each_read m at (j ∷ instrs) all zero i is =
    let here : at ≡ at + 4 * 0 = omega arith in
    let first : decoded (read 4 m at) ≡ Some j = cc in
    subst (λ (a : ℕ). decoded (read 4 m a) ≡ Some i) here (first ∙ is)
each_read m at (j ∷ instrs) all (suc k) i is =
    let next : at + 4 + 4 * k ≡ at + 4 * suc k = omega arith in
    let others : read_from m (at + 4) instrs ≡ map Some instrs = cc in
    subst (λ (a : ℕ). decoded (read 4 m a) ≡ Some i) next (each_read m (at + 4) instrs others k i is)

stood : read_from memory 0x40000040 (instrs_of unit 0x40000040) ≡ map Some (instrs_of unit 0x40000040)
unfolding placed decoded
stood = refl

-- x3 is past one pending site, x5 is `v`
abbrev hart : ℕ → Hart
hart v = record { pc = 0x40000040; regs = λ r. if r == 3 then SHADOW_START + 16 else if r == 5 then v else 0 }

abbrev start : Shared
start = record { memory = memory; left = []; output = []; events = [] }

going : last_exit start.events ≡ None
unfolding last_exit
going = refl

held : read 8 memory (SHADOW_START + 8) ≡ 0
unfolding placed
held = refl

enters : (v : ℕ) → Enters version_1 SHADOW_START memory memory unit 0x40000040 (0 ∷ []) (hart v) start
enters v = record {
  own = record { low = lit≤ tt; high = lit≤ tt; aligned = refl; most = lit≤ tt };
  bytes = placed_small zeros 0x40000040 branch_bytes (λ k. lit< tt) refl;
  may_stand = ((lit< tt, lit< tt, refl), (refl, lit< tt));
  some = tt;
  most = lit≤ tt;
  stands = record { round = refl; low = lit≤ tt; high = lit≤ tt; words = each_read memory 0x40000040 (instrs_of unit 0x40000040) stood };
  context = record { going = going; kept = record { code = λ k from to. refl; held = (held, tt); frame = λ k from out. refl } };
  pc = refl;
  pointer = refl;
  asks = tt;
}

not_met : DoneWithin version_1 2 (hart 0) start ([] ∷ [] ∷ []) (Inside (hart 0).regs)
    (λ after. LeftTo SHADOW_START memory memory 0x40000050 (0 ∷ []) (hart 0).regs (λ s'. s' ≡ start) after × SameScratch (instrs_of unit 0x40000040) (hart 0).regs after.hart.regs × Unit {0})
not_met = unit_effect version_1 SHADOW_START memory memory unit 0x40000040 (0 ∷ []) (hart 0) start (enters 0)

met : DoneWithin version_1 2 (hart 7) start ([] ∷ [] ∷ []) (Inside (hart 7).regs)
    (λ after. LeftTo SHADOW_START memory memory 0x40000048 (0 ∷ []) (hart 7).regs (λ s'. s' ≡ start) after × SameScratch (instrs_of unit 0x40000040) (hart 7).regs after.hart.regs × Unit {0})
met = unit_effect version_1 SHADOW_START memory memory unit 0x40000040 (0 ∷ []) (hart 7) start (enters 7)
