-- The refusals, each with its number and what it tells. Numbers are told in decimal.
use Rattle.std.specs.Prelude.{ℕ, List, [], ◌++◌, codes}
use Rattle.std.specs.Fmt.{decimal}
use Rattle.elf_object.specs.FaultText.{fault_number as object_number, fault_text as object_text}
use Rattle.obj_check.specs.FaultText.{fault_number as item_number, fault_text as item_text}
use Rattle.elf_image.specs.RefusalText.{refusal_text as image_text}
use Rattle.text_lines.specs.Reasons.{reason_name}
use Rattle.refusals.specs.declared.map_reason.MapReason.{MapReason}
use Rattle.refusals.specs.declared.map_reason.MapReason.TheVariants.{Text, Place}
use Rattle.refusals.specs.declared.refusal.Refusal.{Refusal}
use Rattle.refusals.specs.declared.refusal.Refusal.TheVariants.{Object, ObjectIn, TooManySections, Duplicate, Items, UndefinedIn, NoEntry, Policy, CodeTooLarge, DataTooLarge, RelocRange, Image, Graph, Map, Script, Harts}

-- an object's faults have the numbers 1 to 8, those of instructions and relocations 9 to 16
abbrev pub refusal_number : Refusal → ℕ
refusal_number (Object fault) = object_number fault
refusal_number (ObjectIn fault k) = object_number fault
refusal_number (Items fault) = item_number fault
refusal_number (UndefinedIn symbol k) = 15
refusal_number NoEntry = 17
refusal_number (Policy line) = 18
refusal_number (CodeTooLarge bytes) = 19
refusal_number (DataTooLarge init last) = 20
refusal_number (RelocRange section offset) = 21
refusal_number (Image refusal) = 22
refusal_number (Graph line reason) = 23
refusal_number (Map line reason) = 24
refusal_number (Script line reason) = 25
refusal_number (Harts count) = 26
refusal_number (Duplicate name) = 27
refusal_number (TooManySections n) = 28

-- why a line of a map is not taken
abbrev pub map_reason : MapReason → List ℕ
map_reason (Text reason) = reason_name reason
map_reason Place = codes "Place"

-- what it tells, behind its number and before a name
abbrev pub refusal_text : Refusal → List ℕ
refusal_text (Object fault) = object_text fault
refusal_text (ObjectIn fault k) = object_text fault ++ codes " in " ++ decimal k
refusal_text (TooManySections n) = codes "TooManySections " ++ decimal n
refusal_text (Duplicate name) = codes "Duplicate "
refusal_text (Items fault) = item_text fault
refusal_text (UndefinedIn symbol k) = codes "Undefined " ++ decimal symbol ++ codes " in " ++ decimal k
refusal_text NoEntry = codes "NoEntry"
refusal_text (Policy line) = codes "Policy " ++ decimal line
refusal_text (CodeTooLarge bytes) = codes "CodeTooLarge " ++ decimal bytes
refusal_text (DataTooLarge init last) = codes "DataTooLarge " ++ decimal init ++ codes " " ++ decimal last
refusal_text (RelocRange section offset) = codes "RelocRange " ++ decimal section ++ codes " " ++ decimal offset
refusal_text (Image refusal) = image_text refusal
refusal_text (Graph line reason) = codes "Graph " ++ decimal line ++ codes " " ++ reason_name reason
refusal_text (Map line reason) = codes "Map " ++ decimal line ++ codes " " ++ map_reason reason
refusal_text (Script line reason) = codes "Script " ++ decimal line ++ codes " " ++ reason_name reason
refusal_text (Harts count) = codes "Harts " ++ decimal count

-- a name that it tells, with the name's bytes as they are
abbrev pub name_told : Refusal → List ℕ
name_told (Duplicate name) = name
name_told other = []

abbrev pub refusal_line : Refusal → List ℕ
refusal_line refusal = codes "refused " ++ decimal (refusal_number refusal) ++ codes " " ++ refusal_text refusal ++ name_told refusal
