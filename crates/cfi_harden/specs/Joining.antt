-- What adding several objects comes to. Only private contracts cite this.
use Rattle.std.specs.Prelude.{◌≡◌, ℕ, List, Some, None, Result, Ok, Err}
use Rattle.rv_word.specs.declared.end.End.{End}
use Rattle.rv_word.specs.declared.end.End.TheVariants.{Fault, NoMemory}
use Rattle.refusals.specs.declared.refusal.Refusal.{Refusal}
use Rattle.cfi_harden.specs.Given.{first_unread}

-- all objects are added to none, or what stands against the first that is not is told
abbrev pub AddsAll : List (List ℕ) → Result (Unit {0}) (End Refusal) → List (List ℕ) → Type 0
AddsAll objects (Ok _) after = (first_unread 1 0 objects ≡ None) × (after ≡ objects)
AddsAll objects (Err (Fault refusal)) after = first_unread 1 0 objects ≡ Some refusal
AddsAll objects (Err NoMemory) after = Unit {0}
