-- The mask of stores, which x4 holds at the start of each unit where functions save the sites of their own calls.
use Rattle.std.specs.Prelude.{◌≡◌, Bool, true, false}
use Rattle.rv_instr.specs.Registers.{Registers}
use Rattle.cfi_unit.specs.UnitWords.{STORE_MASK}

abbrev pub HoldsMask : Bool → Registers → Type 0
HoldsMask false r = Unit {0}
HoldsMask true r = r 4 ≡ STORE_MASK
