-- A file without a fault, taken apart: what each of the tests says.
use Rattle.std.proofs.Common.{◌≡◌, ℕ, zero, suc, ◌+◌, ◌≤◌, nat_lt, List, [], ◌∷◌, length, false, Some, None, inl, inr, refl, arith}
use Rattle.std.specs.List.{slice_get}
use Rattle.std.proofs.lemmas.Bool.{cases_lt}
use borrow.Author.Tests.{lt-ltb, le-ltb}
use Rattle.rv_image.specs.declared.version.ImageVersion.{ImageVersion}
use Rattle.rv_image.specs.declared.version.ImageVersion.TheVariants.{OneHart, EightHarts}
use Rattle.rv_word.proofs.Cases.{neither, unmapped}
use Rattle.rv_image.specs.MemoryMap.{profile_of}
use Rattle.rv_image.specs.Image.{IsImageSize}
use Rattle.elf_bytes.specs.Fields.{number_at}
use Rattle.elf_bytes.specs.declared.places.TheConstants as offsets
use Rattle.elf_image.specs.declared.field.Field.{Field}
use Rattle.elf_image.specs.declared.refusal.ImageRefusal.TheVariants.{Short, Long}
use Rattle.elf_image.specs.Header.{code_header, data_header, shadow_header, headers_size, fields_of, data_start, code_length, data_length, long, elf_header, program_header}
use Rattle.elf_image.specs.Fault.{first_wrong, first_nonzero, version_in, code_of, init_of, length_fault, fault_with, fault_of}
use Rattle.elf_image.proofs.Rows.{Hold, hold}

-- what there is to say of a file of this version and these lengths that has no fault
pub record IsSound (bytes : List ℕ) (version : ImageVersion) (code init : ℕ) : Type 0 where
  pub long : headers_size ≤ length bytes
  pub fields : first_wrong bytes (fields_of version code init) ≡ None
  pub end : length bytes ≡ data_start code + init
  pub after_headers : first_nonzero bytes headers_size 0x1000 ≡ None
  pub after_code : first_nonzero bytes (0x1000 + code) (data_start code) ≡ None

right_length : (bytes : List ℕ) (code init : ℕ) → length_fault bytes code init ≡ None → length bytes ≡ data_start code + init
right_length bytes code init e = elim (cases_lt (length bytes) (data_start code + init)) [
  | inl short ↦ let no : Some (Short (length bytes)) ≡ None = rw (lt-ltb _ _ short) at e in cc
  | inr enough ↦ elim (cases_lt (data_start code + init) (length bytes)) [
    | inl more ↦ let no : Some (Long (length bytes)) ≡ None = rw (le-ltb _ _ enough, lt-ltb _ _ more) at e in cc
    | inr most ↦ omega arith
  ]
]

pub sound : (bytes : List ℕ) → fault_of bytes ≡ None → IsSound bytes (version_in bytes) (code_of bytes) (init_of bytes)
unfolding fault_of
sound bytes e = elim (cases_lt (length bytes) headers_size) [
  | inl short ↦ let no : Some (Short (length bytes)) ≡ None = rw (lt-ltb _ _ short) at e in absurd cc
  | inr enough ↦
      let rest : fault_with bytes (version_in bytes) (code_of bytes) (init_of bytes) ≡ None = rw (le-ltb _ _ enough) at e in
      let parts = neither _ _ rest in
      let more = neither _ _ parts.1 in
      let padding = neither _ _ (unmapped _ _ more.1) in
      record {
        long = enough;
        fields = unmapped _ _ parts.0;
        end = right_length bytes _ _ more.0;
        after_headers = padding.0;
        after_code = padding.1;
      }
]

pub no_fault : (bytes : List ℕ) → IsSound bytes (version_in bytes) (code_of bytes) (init_of bytes) → fault_of bytes ≡ None
unfolding fault_of
no_fault bytes s =
    let end = data_start (code_of bytes) + init_of bytes in
    let not_short : nat_lt (length bytes) end ≡ false = le-ltb _ _ (omega arith) in
    let not_long : nat_lt end (length bytes) ≡ false = le-ltb _ _ (omega arith) in
    rw (le-ltb _ _ s.long, s.fields, not_short, not_long, s.after_headers, s.after_code) refl

-- a field of the list has its value
value_at : (bytes : List ℕ) (fs : List Field) (i : ℕ) (f : Field) → slice_get fs i ≡ Some f → Hold bytes fs
    → number_at bytes f.at f.size ≡ f.value
value_at bytes [] i f e h = cc
value_at bytes (g ∷ fs) zero f e h = let same : g ≡ f = cc in rw (← same) h.0
value_at bytes (g ∷ fs) (suc i) f e h = value_at bytes fs i f e h.1

-- the lengths that right headers name
pub code_named : (bytes : List ℕ) (version : ImageVersion) (code init : ℕ) → Hold bytes (fields_of version code init) → code_of bytes ≡ code_length code
unfolding elf_header program_header
code_named bytes version code init h = value_at bytes (fields_of version code init) 27 (long (code_header + offsets.P_FILESZ) (code_length code)) refl h

pub init_named : (bytes : List ℕ) (version : ImageVersion) (code init : ℕ) → Hold bytes (fields_of version code init) → init_of bytes ≡ data_length init
unfolding elf_header program_header
init_named bytes version code init h = value_at bytes (fields_of version code init) 19 (long (data_header + offsets.P_FILESZ) (data_length init)) refl h

-- and the version
shadow_named : (bytes : List ℕ) (version : ImageVersion) (code init : ℕ) → Hold bytes (fields_of version code init)
    → number_at bytes (shadow_header + offsets.P_MEMSZ) 8 ≡ (profile_of version).shadow_size
unfolding elf_header program_header
shadow_named bytes version code init h =
    value_at bytes (fields_of version code init) 36 (long (shadow_header + offsets.P_MEMSZ) (profile_of version).shadow_size) refl h

named_by : (bytes : List ℕ) (version : ImageVersion) → number_at bytes (shadow_header + offsets.P_MEMSZ) 8 ≡ (profile_of version).shadow_size
    → version_in bytes ≡ version
named_by bytes OneHart e = rw e refl
named_by bytes EightHarts e = rw e refl

pub version_named : (bytes : List ℕ) (version : ImageVersion) (code init : ℕ) → Hold bytes (fields_of version code init)
    → version_in bytes ≡ version
version_named bytes version code init h = named_by bytes version (shadow_named bytes version code init h)

-- are lengths that an image may have
pub right_sizes : (bytes : List ℕ) → IsSound bytes (version_in bytes) (code_of bytes) (init_of bytes) → IsImageSize (code_of bytes) (init_of bytes)
right_sizes bytes s =
    let values = hold bytes _ s.fields in
    let code = code_named bytes _ _ _ values in
    let init = init_named bytes _ _ _ values in
    record { some = omega arith; most = omega arith; words = omega arith; data_most = omega arith }
