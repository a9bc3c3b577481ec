-- The order of the tests: what each of them says of the fault of a file.
use Rattle.std.proofs.Common.{◌≡◌, ℕ, ◌≤◌, List, length, Option, Some, None, Err, inl, inr, refl}
use Rattle.std.proofs.lemmas.Bool.{cases_Bool, and_parts, leb-true}
use Rattle.rv_word.specs.End.{IsFaultOf}
use Rattle.rv_word.specs.declared.end.End.{End}
use Rattle.rv_word.specs.declared.end.End.TheVariants.{Fault, NoMemory}
use Rattle.elf_object.specs.declared.fault.ObjectFault.{ObjectFault}
use Rattle.elf_object.specs.declared.fault.ObjectFault.TheVariants.{NotElf}
use Rattle.elf_object.specs.Header.{is_elf}
use Rattle.elf_object.specs.Fault.{Answers, header_fault, truncated, section_fault, fault_of}

-- a file with a right ELF header has room for it
pub header_room : (bytes : List ℕ) → header_fault bytes ≡ None → 64 ≤ length bytes
unfolding header_fault
header_room bytes none = elim (cases_Bool (is_elf bytes)) [
  | inl elf ↦ leb-true 64 (length bytes) (and_parts _ _ elf).0
  | inr other ↦ let no : Some NotElf ≡ None = rw other at none in absurd (cc)
]

module _ (bytes : List ℕ) where
  pub fault_in_header : (fault : ObjectFault) → header_fault bytes ≡ Some fault → fault_of bytes ≡ Some fault
  unfolding fault_of
  fault_in_header fault e = rw e refl

  pub fault_in_places : (end : End ObjectFault) → header_fault bytes ≡ None → IsFaultOf (truncated bytes) end → Answers bytes (Err end)
  unfolding fault_of
  fault_in_places (Fault fault) h e = rw (h, e) refl
  fault_in_places NoMemory h e = absurd e

  pub fault_in_sections : (found : Option ObjectFault) → header_fault bytes ≡ None → truncated bytes ≡ None → section_fault bytes ≡ found → fault_of bytes ≡ found
  unfolding fault_of
  fault_in_sections found h t e = rw (h, t) e
