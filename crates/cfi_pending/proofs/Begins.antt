-- At its first word what a start has is what the unit law asks.
use Rattle.std.proofs.Common.{◌≡◌, ◌^◌, ◌<◌, ℕ, Bool, true, false, List, [], ◌∷◌, length, refl, ap, arith}
use Rattle.rv_image.specs.MemoryMap.{Profile}
use Rattle.rv_word.specs.Memory.{Memory}
use Rattle.rv_instr.specs.Registers.{Registers}
use Rattle.rv_code.specs.State.{Hart}
use Rattle.cfi_unit.specs.declared.mask.Mask.{Mask}
use Rattle.cfi_unit.specs.declared.mask.Mask.TheVariants.{Shifts, Short, Long}
use Rattle.cfi_unit.specs.declared.place.Place.TheVariants.{Body as body}
use Rattle.cfi_unit.specs.declared.unit.Unit as U
use Rattle.cfi_unit.specs.declared.unit.Unit.TheVariants as V
use Rattle.cfi_unit.specs.InPlace.{InMask, InUnit, only, branch_test, guarded_load, guarded_other, shifts_addi, short_and, long_addi, stores_mask, enter_slli, leaf_jump}
use Rattle.cfi_unit.specs.Shadow.{slot}
use Rattle.cfi_unit.specs.Templates.{Asks, MaskAsks}
use Rattle.cfi_unit.specs.UnitWords.{Fits, STORE_MASK}
use Rattle.cfi_unit.proofs.Changed.{place_begins}
use Rattle.cfi_pending.specs.StartLaw.{AreSites, BodyBegins, stands_in}
use Rattle.cfi_pending.specs.Starts.{Start, StandsBy, fresh, may_stand, saved}
use Rattle.cfi_pending.proofs.StartSteps.{stacked_of}

-- what a unit asks of registers
asks : (masked : Bool) (start : Start) (unit : U.Unit) (r : Registers) → stands_in masked unit ≡ true → may_stand start unit ≡ true →
    (masked ≡ true → r 4 ≡ STORE_MASK) → (start ≡ fresh → r 1 < 2 ^ 64) → Asks unit r
asks masked start (V.Stores Shifts rs1 imm members) r stands may mask link = tt
asks true start (V.Stores Short rs1 imm members) r stands may mask link = mask refl
asks true start (V.Stores Long rs1 imm members) r stands may mask link = mask refl
asks false start (V.Stores Short rs1 imm members) r stands may mask link = absurd cc
asks false start (V.Stores Long rs1 imm members) r stands may mask link = absurd cc
asks masked saved V.Enter r stands may mask link = absurd cc
asks masked fresh V.Enter r stands may mask link = link refl
asks masked start (V.Gate label) r stands may mask link = tt
asks masked start (V.Plain instr) r stands may mask link = tt
asks masked start (V.Branch op rs1 rs2 target) r stands may mask link = tt
asks masked start (V.Near op rs1 rs2 target) r stands may mask link = tt
asks masked start (V.Jump target) r stands may mask link = tt
asks masked start V.Stop r stands may mask link = tt
asks masked start (V.System op) r stands may mask link = tt
asks masked start (V.Guarded numbers) r stands may mask link = tt
asks masked start (V.Call target) r stands may mask link = tt
asks masked start (V.Ijump which rs1 imm label) r stands may mask link = tt
asks masked start (V.Icall rs1 imm label) r stands may mask link = tt
asks masked start V.Return r stands may mask link = tt
asks masked start (V.LinkCall target) r stands may mask link = tt
asks masked start (V.LeanIjump rs1 imm label) r stands may mask link = tt
asks masked start (V.LeanIcall rs1 imm label) r stands may mask link = tt
asks masked start V.LeafReturn r stands may mask link = tt

module _ (p : Profile) (part : ℕ) (image : Memory) (h : Hart) (m : Memory) where
  mask_alone : (mask : Mask) → h.regs 3 ≡ slot part 0 → MaskAsks mask h.regs → InMask mask part h.pc 0 h
  mask_alone Shifts x3 asked = shifts_addi refl x3
  mask_alone Short x3 asked = short_and refl x3 asked
  mask_alone Long x3 asked = long_addi refl x3 asked

  -- where the one pending site stands in x1
  alone : (unit : U.Unit) → may_stand fresh unit ≡ true → h.regs 3 ≡ slot part 0 → Asks unit h.regs → InUnit part image unit h.pc [] h.regs h m
  alone (V.Gate label) may x3 asked = only refl x3
  alone (V.Plain instr) may x3 asked = only refl x3
  alone (V.Branch op rs1 rs2 target) may x3 asked = branch_test refl x3
  alone (V.Near op rs1 rs2 target) may x3 asked = only refl x3
  alone (V.Jump target) may x3 asked = only refl x3
  alone V.Stop may x3 asked = only refl x3
  alone (V.System op) may x3 asked = only refl x3
  alone (V.Guarded []) may x3 asked = guarded_other (omega arith) x3 refl
  alone (V.Guarded (n ∷ ns)) may x3 asked = guarded_load 0 (omega arith) (omega arith) x3 refl refl
  alone (V.Stores mask rs1 imm members) may x3 asked = stores_mask (mask_alone mask x3 asked)
  alone V.Enter may x3 asked = (asked, enter_slli refl x3 refl)
  alone V.LeafReturn may x3 asked = leaf_jump refl x3 refl
  alone (V.Call target) may x3 asked = absurd cc
  alone (V.Ijump which rs1 imm label) may x3 asked = absurd cc
  alone (V.Icall rs1 imm label) may x3 asked = absurd cc
  alone V.Return may x3 asked = absurd cc
  alone (V.LinkCall target) may x3 asked = absurd cc
  alone (V.LeanIjump rs1 imm label) may x3 asked = absurd cc
  alone (V.LeanIcall rs1 imm label) may x3 asked = absurd cc

  begins : (unit : U.Unit) (start : Start) (pending stacked : List ℕ) → Fits unit h.pc → may_stand start unit ≡ true → AreSites pending → 0 < length pending →
      StandsBy start h.regs pending stacked → h.regs 3 ≡ slot part (length stacked) → Asks unit h.regs → InUnit part image unit h.pc stacked h.regs h m
  begins unit start pending (site ∷ rest) fits may are some stands x3 asked =
      place_begins part image h.pc h m p (body unit) (site ∷ rest) (fits, stacked_of start h.regs pending (site ∷ rest) stands are) (x3, asked) refl
  begins unit saved pending [] fits may are some stands x3 asked = let none = ap length stands in absurd (omega arith)
  begins unit fresh pending [] fits may are some stands x3 asked = alone unit may x3 asked

-- the newest site is an address
link_small : (start : Start) (r : Registers) (pending stacked : List ℕ) → AreSites pending → StandsBy start r pending stacked → start ≡ fresh → r 1 < 2 ^ 64
link_small saved r pending stacked are stands is = absurd cc
link_small fresh r [] stacked are stands is = absurd stands
link_small fresh r (site ∷ pending) stacked are stands is = let low = are.0.1 in let link = stands.0 in omega arith

pub body_begins : BodyBegins
body_begins masked p part image base unit start pending h s fits stands may are some at_start few =
    record {
      stacked = at_start.stacked;
      stands = at_start.stands;
      few = few;
      word = begins p part image h s.memory unit start pending at_start.stacked fits may are some at_start.stands at_start.pointer
          (asks masked start unit h.regs stands may at_start.mask (link_small start h.regs pending at_start.stacked are at_start.stands));
      context = at_start.context;
      link = λ is. refl;
      mask = λ is other. at_start.mask is;
    }
