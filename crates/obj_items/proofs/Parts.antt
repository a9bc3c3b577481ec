-- A program is its parts.
use Rattle.std.proofs.Common.{◌≡◌, List, refl, subst, sym}
use Rattle.obj_items.proofs.Prelude.{Func, InputParts, Named, data_layout_of, DataReloc, Program, Held, AreContents, relocs_of, outline, program_of}

pub program_is : (input : InputParts) (held : Held) (relocs : List DataReloc) (funcs : List Func) (names : List Named) → AreContents input held
    → relocs ≡ relocs_of input (outline input) → funcs ≡ input.funcs → names ≡ input.names
    → record { items = held.items.items; init = held.init; relocations = relocs; data_end = held.data_end; funcs = funcs; names = names } ≡ program_of input
unfolding program_of data_layout_of
program_is input held relocs funcs names of r f m = rw (of.items, of.init, r, of.data_end, f, m) refl

-- what holds of the program holds of its parts
pub parts_hold : (Holds : Program → Type 0) (input : InputParts) (held : Held) (relocs : List DataReloc) (funcs : List Func) (names : List Named) → AreContents input held
    → relocs ≡ relocs_of input (outline input) → funcs ≡ input.funcs → names ≡ input.names → Holds (program_of input)
    → Holds (record { items = held.items.items; init = held.init; relocations = relocs; data_end = held.data_end; funcs = funcs; names = names })
parts_hold Holds input held relocs funcs names of r f m holds = subst Holds (sym (program_is input held relocs funcs names of r f m)) holds
