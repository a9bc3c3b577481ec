-- A fault as it is printed: its name, and its numbers in decimal; and its own number among all refusals.
use Rattle.std.specs.Prelude.{ℕ, List, ◌++◌, codes, Option, Some, None}
use Rattle.std.specs.Fmt.{decimal}
use Rattle.obj_check.specs.declared.fault.ItemFault.{ItemFault}
use Rattle.obj_check.specs.declared.fault.ItemFault.TheVariants.{Undecodable, ReservedRegister, BadTransfer, BadPair, RelocKind, RelocPlace, Undefined, BadCodePointer}

abbrev pub fault_text : ItemFault → List ℕ
fault_text (Undecodable section offset word) = codes "Undecodable " ++ decimal section ++ codes " " ++ decimal offset ++ codes " " ++ decimal word
fault_text (ReservedRegister section offset) = codes "ReservedRegister " ++ decimal section ++ codes " " ++ decimal offset
fault_text (BadTransfer section offset) = codes "BadTransfer " ++ decimal section ++ codes " " ++ decimal offset
fault_text (BadPair section offset) = codes "BadPair " ++ decimal section ++ codes " " ++ decimal offset
fault_text (RelocKind section offset kind) = codes "RelocKind " ++ decimal section ++ codes " " ++ decimal offset ++ codes " " ++ decimal kind
fault_text (RelocPlace section offset) = codes "RelocPlace " ++ decimal section ++ codes " " ++ decimal offset
fault_text (Undefined symbol) = codes "Undefined " ++ decimal symbol
fault_text (BadCodePointer section offset) = codes "BadCodePointer " ++ decimal section ++ codes " " ++ decimal offset

-- the faults of the file as an object have the numbers 1 to 8
abbrev pub fault_number : ItemFault → ℕ
fault_number (Undecodable section offset word) = 9
fault_number (ReservedRegister section offset) = 10
fault_number (BadTransfer section offset) = 11
fault_number (BadPair section offset) = 12
fault_number (RelocKind section offset kind) = 13
fault_number (RelocPlace section offset) = 14
fault_number (Undefined symbol) = 15
fault_number (BadCodePointer section offset) = 16

-- the text of a name, of a section and an offset if there are such, and of one number more if there is one
abbrev pub told : List ℕ → Option (ℕ × ℕ) → Option ℕ → List ℕ
told name (Some place) (Some number) = name ++ codes " " ++ decimal place.0 ++ codes " " ++ decimal place.1 ++ codes " " ++ decimal number
told name (Some place) None = name ++ codes " " ++ decimal place.0 ++ codes " " ++ decimal place.1
told name None (Some number) = name ++ codes " " ++ decimal number
told name None None = name
