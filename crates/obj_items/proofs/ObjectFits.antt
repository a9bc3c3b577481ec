-- The code of an object without a fault is fit.
use Rattle.std.proofs.Common.{◌≡◌, ℕ, ◌<◌, ◌==◌, true, false, None, List, inl, inr, sym, subst, arith}
use Rattle.std.specs.List.{All}
use Rattle.std.proofs.lemmas.Bool.{cases_Bool}
use Rattle.std.proofs.lemmas.List.Elements.{All-from_get_or}
use Rattle.obj_items.proofs.Prelude.{SectionHeader, e_shnum, section_header, is_executable, is_kept, fault_of, is_code_sort, own, own_input, said_of, kept_sort, section_said_in, sections_said, sort_of, symbols_said, HasFitCode, input_of}
use Rattle.elf_object.proofs.Right.{kept_right}
use Rattle.obj_join.proofs.Listing.{length-listed, listed_at}
use Rattle.obj_link.proofs.Whole.{few_sections}
use Rattle.obj_items.proofs.SaidFits.{IsWhole, said_fits}

-- code is kept and executable
code_executable : (h : SectionHeader) → is_code_sort (kept_sort h) ≡ true → is_executable h ≡ true
code_executable h code = elim (cases_Bool (is_executable h)) [
  | inl executable ↦ executable
  | inr other ↦ elim (cases_Bool (h.kind == 8)) [
    | inl zeros ↦ let no : false ≡ true = rw (other, zeros) at code in absurd (cc)
    | inr with_bytes ↦ let no : false ≡ true = rw (other, with_bytes) at code in absurd (cc)
  ]
]

code_is_kept : (bytes : List ℕ) (k : ℕ) → is_code_sort (sort_of bytes k) ≡ true → (is_kept bytes k ≡ true) × (is_executable (section_header bytes k) ≡ true)
code_is_kept bytes k code = elim (cases_Bool (is_kept bytes k)) [
  | inl kept ↦ (kept, code_executable (section_header bytes k) (rw kept at code))
  | inr dropped ↦ let no : false ≡ true = rw dropped at code in absurd (cc)
]

object_word : (bytes : List ℕ) → fault_of bytes ≡ None → (k : ℕ) → k < e_shnum bytes → IsWhole (section_said_in bytes k)
object_word bytes none k below = λ code.
    let both = code_is_kept bytes k code in
    (kept_right bytes k none below both.0).code_whole both.1

pub object_whole : (bytes : List ℕ) → fault_of bytes ≡ None → All IsWhole (sections_said bytes)
object_whole bytes none =
    let count = length-listed (section_said_in bytes) (e_shnum bytes) in
    All-from_get_or IsWhole (sections_said bytes) (section_said_in bytes 0) (λ k less.
    let below : k < e_shnum bytes = omega (arith, less, count) in
    subst IsWhole (sym (listed_at (section_said_in bytes) (e_shnum bytes) k (section_said_in bytes 0) below)) (object_word bytes none k below))

pub object_fits : (bytes : List ℕ) → fault_of bytes ≡ None → HasFitCode (input_of bytes)
unfolding input_of own_input said_of
object_fits bytes none =
    let few = few_sections bytes none in
    let count = length-listed (section_said_in bytes) (e_shnum bytes) in
    said_fits (own (symbols_said bytes)) (λ n. true) (said_of bytes) (object_whole bytes none) (omega arith)
