-- What holds of each program: its places are in order, its words are instructions of their kinds that name no register
-- which the units keep, and what it refers to by an index is there.
use Rattle.std.specs.Prelude.{◌≡◌, ℕ, ℤ, pos, neg_ℤ, ◌+◌, ◌^◌, ◌<◌, nat_lt, nat_le, int_le, if◌then◌else◌, Bool, true, false, not, ◌&&◌, Option, Some, None, length, slice_get}
use Rattle.rv_instr.specs.declared.instr.Instr.{Instr}
use Rattle.rv_code.specs.Decode.{decoded}
use Rattle.rv_reloc.specs.Data.{size_of}
use Rattle.obj_input.specs.declared.item_kind.ItemKind.{ItemKind}
use Rattle.obj_input.specs.declared.item_kind.ItemKind.TheVariants as is
use Rattle.obj_program.specs.declared.item.DataReloc.{DataReloc}
use Rattle.obj_program.specs.declared.item.Item.{Item}
use Rattle.obj_program.specs.declared.item.Patch.{Patch}
use Rattle.obj_program.specs.declared.item.Patch.TheVariants as put
use Rattle.obj_program.specs.declared.item.Value.{Value}
use Rattle.obj_program.specs.declared.item.Value.TheVariants.{Number, GateOf}
use Rattle.obj_program.specs.Program.{AreInOrder, Program, count, is_end, item_of}
use Rattle.obj_program.specs.Suits.{names_reserved, stands_on, suits}

-- far from what 128 bits hold
abbrev pub is_small : ℤ → Bool
is_small z = int_le (neg_ℤ (pos (2 ^ 126))) z && int_le z (pos (2 ^ 126))

-- a small number, or the gate of a place that is there
abbrev pub is_value : ℕ → Value → Bool
is_value places (Number z) = is_small z
is_value places (GateOf k) = nat_lt k places

abbrev pub is_high_patch : Patch → Bool
is_high_patch (put.RelativeHigh v) = true
is_high_patch other = false

-- the values and places of a patch are there; the low part of a distance is that of an AUIPC which has the high part
abbrev pub is_patch : Program → Patch → Bool
is_patch program put.Own = true
is_patch program (put.High v) = is_value (count program) v
is_patch program (put.Low v) = is_value (count program) v
is_patch program (put.RelativeHigh v) = is_value (count program) v
is_patch program (put.RelativeLow j) = nat_lt j (count program) && is_high_patch (item_of program j).patch

-- a word is an instruction of a kind with a patch
abbrev pub is_of : ItemKind → Patch → Option Instr → Bool
is_of kind patch None = false
is_of kind patch (Some i) = suits kind i && not (names_reserved i) && stands_on patch kind i

abbrev pub is_own : Patch → Bool
is_own put.Own = true
is_own other = false

abbrev pub is_read : Item → Bool
is_read item = if is_end item.kind then is_own item.patch else is_of item.kind item.patch (decoded item.word)

-- direct transfers, and no others, have a target, which is an instruction
abbrev pub is_direct : ItemKind → Bool
is_direct is.Branch = true
is_direct is.Jump = true
is_direct is.Call = true
is_direct other = false

abbrev pub aims : Program → ItemKind → Option ℕ → Bool
aims program kind None = not (is_direct kind)
aims program kind (Some t) = is_direct kind && nat_lt t (count program) && not (is_end (item_of program t).kind)

-- a relocation lies in so many bytes of data, and its value is there
abbrev pub is_there : ℕ → ℕ → DataReloc → Bool
is_there size places r = nat_le (r.offset + size_of r.patch) size && is_value places r.value

abbrev pub lies : Program → DataReloc → Bool
lies program r = is_there (length program.init) (count program) r

pub record IsSound (program : Program) : Type 0 where
  pub in_order : AreInOrder program.items
  pub few : count program < 2 ^ 62
  pub read : (k : ℕ) → k < count program → is_read (item_of program k) ≡ true
  pub patches : (k : ℕ) → k < count program → is_patch program (item_of program k).patch ≡ true
  pub targets : (k : ℕ) → k < count program → aims program (item_of program k).kind (item_of program k).target ≡ true
  pub relocations : (j : ℕ) (r : DataReloc) → slice_get program.relocations j ≡ Some r → lies program r ≡ true
