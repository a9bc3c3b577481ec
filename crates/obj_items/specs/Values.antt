-- What relocations refer to (RISC-V ELF psABI, "Relocations": the symbol's address and the addend), where code has places
-- in the place of addresses. `places` are the places of the input.
use Rattle.std.specs.Prelude.{ℕ, ℤ, pos, ◌+◌, ◌+ℤ◌, if◌then◌else◌, Option, Some, None, option_and_then, List}
use Rattle.obj_input.specs.declared.parts.Relocation.{Relocation}
use Rattle.obj_input.specs.declared.parts.Definition.{Definition}
use Rattle.obj_input.specs.declared.parts.Definition.TheVariants.{Zero, Absolute, Within, Common, Missing}
use Rattle.obj_input.specs.Input.{InputParts, is_code, section_of}
use Rattle.obj_input.specs.Code.{natural}
use Rattle.obj_input.specs.DataLayout.{block_address, section_address}
use Rattle.obj_program.specs.declared.item.Item.{Item}
use Rattle.obj_program.specs.declared.item.Value.{Value}
use Rattle.obj_program.specs.declared.item.Value.TheVariants.{Number, GateOf}
use Rattle.obj_program.specs.Program.{place_of}

-- the place at a whole number of bytes of a section; an offset has 64 bits
abbrev pub place_at : List Item → ℕ → ℤ → Option ℕ
place_at places k at = option_and_then (λ offset. place_of places k offset) (natural at)

-- an address of code is the gate of a place; an input without a fault names no other
abbrev pub gate_value : Option ℕ → Value
gate_value (Some k) = GateOf k
gate_value None = Number (pos 0)

-- an address in a section
abbrev pub section_value : InputParts → List Item → ℕ → ℕ → ℤ → Value
section_value input places k value addend =
    if is_code (section_of input k) then gate_value (place_at places k (pos value +ℤ addend))
    else Number (pos (section_address input k + value) +ℤ addend)

-- the value of a common symbol is its alignment, and no part of its address; what is defined nowhere is refused before
abbrev pub value_of : InputParts → List Item → Definition → ℤ → Value
value_of input places Zero addend = Number addend
value_of input places (Absolute value) addend = Number (pos value +ℤ addend)
value_of input places (Within k value) addend = section_value input places k value addend
value_of input places (Common c) addend = Number (pos (block_address input c) +ℤ addend)
value_of input places (Missing n) addend = Number (pos 0)

abbrev pub use_value : InputParts → List Item → Relocation → Value
use_value input places u = value_of input places u.definition u.addend
