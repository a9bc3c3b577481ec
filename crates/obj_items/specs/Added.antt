-- Objects that are added one after another.
use Rattle.std.specs.Prelude.{◌≡◌, ℕ, ◌+◌, ◌^◌, nat_lt, if◌then◌else◌, List, [], ◌∷◌, ◌++◌, length, Option, Some, None, option_map, Result, Ok, Err}
use Rattle.std.specs.List.{sum_by}
use Rattle.std.specs.Option.{option_or}
use Rattle.elf_tables.specs.Header.{e_shnum}
use Rattle.elf_object.specs.Fault.{fault_of as object_fault}
use Rattle.rv_word.specs.declared.end.End.{End}
use Rattle.rv_word.specs.declared.end.End.TheVariants.{Fault, NoMemory}
use Rattle.refusals.specs.declared.refusal.Refusal.{Refusal}
use Rattle.refusals.specs.declared.refusal.Refusal.TheVariants.{ObjectIn, TooManySections}

-- how many sections objects have, number 0 of each among them
abbrev pub section_total : List (List ℕ) → ℕ
section_total objects = sum_by e_shnum objects

-- why an object is not added to others, which have so many sections, as the one with the number k: its fault, or that all would have
-- more than 2 ^ 16 sections
abbrev pub unread : ℕ → ℕ → List ℕ → Option Refusal
unread k sections object =
    option_or (option_map (λ fault. ObjectIn fault k) (object_fault object))
    (if nat_lt (2 ^ 16) (sections + e_shnum object) then Some (TooManySections (sections + e_shnum object)) else None)

-- an object is added, as the one with the next number, exactly where nothing stands against it; else the objects stay those that they were
abbrev pub IsAdded : List (List ℕ) → List ℕ → Result (Unit {0}) (End Refusal) → List (List ℕ) → Type 0
IsAdded before added (Ok _) after = (unread (length before + 1) (section_total before) added ≡ None) × (after ≡ before ++ added ∷ [])
IsAdded before added (Err (Fault refusal)) after = (unread (length before + 1) (section_total before) added ≡ Some refusal) × (after ≡ before)
IsAdded before added (Err NoMemory) after = after ≡ before
