-- What stands at an address of a hardened image's code: a handler, the opening, the closing, or a
-- unit.
use Rattle.std.specs.Prelude.{◌≡◌, ℕ, ◌+◌, ◌-◌, ◌*◌, ◌<◌, List}
pub use Rattle.cfi_unit.specs.declared.place.Place.{Place}
pub use Rattle.cfi_unit.specs.declared.place.Place.TheVariants.{Handler as handler, Opening as opening, Closing as closing, Body as body}
use Rattle.rv_image.specs.MemoryMap.{Profile}
use Rattle.rv_instr.specs.declared.instr.Instr.{Instr}
use Rattle.cfi_unit.specs.UnitWords.{instrs_of, word_count}
use Rattle.cfi_unit.specs.Prologue.{OPENING, handler_instrs, opening_instrs, closing_instrs}

-- its instructions, at an address
abbrev pub place_instrs : Profile → Place → ℕ → List Instr
place_instrs p handler at = handler_instrs
place_instrs p (opening entry) at = opening_instrs p entry
place_instrs p closing at = closing_instrs
place_instrs p (body unit) at = instrs_of unit at

-- how many bytes it has
abbrev pub place_size : Profile → Place → ℕ
place_size p handler = 4
place_size p (opening entry) = p.closing - OPENING
place_size p closing = 8
place_size p (body unit) = 4 * word_count unit

-- a pc is one of its words
abbrev pub IsWordOf : Profile → Place → ℕ → ℕ → Type 0
IsWordOf p place at pc = (k : ℕ) × (4 * k < place_size p place) × (pc ≡ at + 4 * k)
