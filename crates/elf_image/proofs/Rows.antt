-- Fields that stand one after the other, and the bytes that they are.
use Rattle.std.proofs.Common.{◌≡◌, ◌==◌, ◌&&◌, nat_lt, ℕ, ◌+◌, ◌^◌, ◌<◌, ◌≤◌, List, [], ◌∷◌, ◌++◌, length, take, drop, Bool, true, false, Some, None, inl, inr, refl, sym, ap, subst, ◌∙◌, arith, eq-eqb, length-append}
use Rattle.std.specs.List.{flat_map, list_all}
use Rattle.std.proofs.Math.Seq.{take-add}
use Rattle.std.proofs.lemmas.Bool.{eqb-true}
use Rattle.std.proofs.lemmas.Bool.Decides.{eqb_tells}
use Rattle.std.proofs.lemmas.List.{drop_at, drop-drop, length-drop, append_assoc}
use borrow.Author.Tests.{ltb-true}
use Rattle.byteorder.specs.Endian.{little_number}
use Rattle.byteorder.specs.Numbers.{little_number-reads_back, length-bytes_low_first}
use Rattle.elf_bytes.specs.Fields.{number_at}
use Rattle.elf_image.specs.declared.field.Field.{Field}
use Rattle.elf_image.specs.Spelling.{field_bytes}
use Rattle.elf_image.specs.Fault.{first_wrong}
use Rattle.elf_image.proofs.Numbers.{AreBytes, bytes-drop, take_of_number}

-- how many bytes the fields have
abbrev pub total : List Field → ℕ
total [] = 0
total (f ∷ fs) = f.size + total fs

-- each field stands where the one before it ends
abbrev pub in_a_row : ℕ → List Field → Bool
in_a_row at [] = true
in_a_row at (f ∷ fs) = f.at == at && in_a_row (at + f.size) fs

-- each field has its value in a file
abbrev pub Hold : List ℕ → List Field → Type 0
Hold bytes [] = Unit {0}
Hold bytes (f ∷ fs) = (number_at bytes f.at f.size ≡ f.value) × Hold bytes fs

-- each value has room in its field
abbrev pub Fit : List Field → Type 0
Fit [] = Unit {0}
Fit (f ∷ fs) = (f.value < 256 ^ f.size) × Fit fs

both : (a b : Bool) → (a && b) ≡ true → (a ≡ true) × (b ≡ true)
both true b e = (refl, e)
both false b e = cc

-- which is tested
pub small_fit : (fs : List Field) → list_all (λ f. nat_lt f.value (256 ^ f.size)) fs ≡ true → Fit fs
small_fit [] e = tt
small_fit (f ∷ fs) e = (ltb-true _ _ (both _ _ e).0, small_fit fs (both _ _ e).1)

pub fit-append : (fs gs : List Field) → Fit fs → Fit gs → Fit (fs ++ gs)
fit-append [] gs p q = q
fit-append (f ∷ fs) gs p q = (p.0, fit-append fs gs p.1 q)

-- no field is wrong where each has its value
pub hold : (bytes : List ℕ) (fs : List Field) → first_wrong bytes fs ≡ None → Hold bytes fs
unfolding first_wrong
hold bytes [] e = tt
hold bytes (f ∷ fs) e = elim (eqb_tells (number_at bytes f.at f.size) f.value) [
  | inl same ↦ (same.1, hold bytes fs (rw same.0 at e))
  | inr other ↦ let no : Some f.at ≡ None = rw other.0 at e in cc
]

pub none_wrong : (bytes : List ℕ) (fs : List Field) → Hold bytes fs → first_wrong bytes fs ≡ None
unfolding first_wrong
none_wrong bytes [] h = refl
none_wrong bytes (f ∷ fs) h = rw (eq-eqb _ _ h.0) (none_wrong bytes fs h.1)

-- fields in a row that have their values are these bytes of the file
pub row_bytes : (bytes : List ℕ) (at : ℕ) (fs : List Field) → AreBytes bytes → in_a_row at fs ≡ true → Hold bytes fs
    → at + total fs ≤ length bytes → take (total fs) (drop at bytes) ≡ flat_map field_bytes fs
unfolding number_at
row_bytes bytes at [] are row h long = refl
row_bytes bytes at (f ∷ fs) are row h long =
    let place : f.at ≡ at = eqb-true _ _ (both _ _ row).0 in
    let value : little_number f.size (drop at bytes) ≡ f.value = rw place at h.0 in
    let room : f.size ≤ length (drop at bytes) = omega (arith, length-drop at bytes) in
    let first = take_of_number f.size (drop at bytes) f.value (bytes-drop at bytes are) room value in
    let next : drop f.size (drop at bytes) ≡ drop (at + f.size) bytes = drop-drop f.size at bytes in
    let rest = row_bytes bytes (at + f.size) fs are (both _ _ row).1 h.1 (omega arith) in
    take-add f.size (total fs) (drop at bytes) ∙ ap (λ xs. xs ++ take (total fs) (drop f.size (drop at bytes))) first
    ∙ ap (λ xs. field_bytes f ++ take (total fs) xs) next ∙ ap (λ xs. field_bytes f ++ xs) rest

-- fields in a row are read as they were written
pub row_reads : (front : List ℕ) (fs : List Field) (rest : List ℕ) → in_a_row (length front) fs ≡ true → Fit fs
    → Hold (front ++ (flat_map field_bytes fs ++ rest)) fs
unfolding number_at
row_reads front [] rest row fit = tt
row_reads front (f ∷ fs) rest row fit =
    let place : f.at ≡ length front = eqb-true _ _ (both _ _ row).0 in
    let more = flat_map field_bytes fs in
    let parts : (field_bytes f ++ more) ++ rest ≡ field_bytes f ++ (more ++ rest) = append_assoc (field_bytes f) more rest in
    let reached : drop f.at (front ++ ((field_bytes f ++ more) ++ rest)) ≡ field_bytes f ++ (more ++ rest) =
    ap (λ n. drop n (front ++ ((field_bytes f ++ more) ++ rest))) place ∙ drop_at front _ (length front) refl ∙ parts in
    let whole : front ++ ((field_bytes f ++ more) ++ rest) ≡ (front ++ field_bytes f) ++ (more ++ rest) =
    ap (λ xs. front ++ xs) parts ∙ sym (append_assoc front (field_bytes f) (more ++ rest)) in
    let longer : length front + f.size ≡ length (front ++ field_bytes f) =
    sym (length-append front (field_bytes f) ∙ ap (λ n. length front + n) (length-bytes_low_first 0 f.size f.value)) in
    let next = row_reads (front ++ field_bytes f) fs rest (rw (← longer) (both _ _ row).1) fit.1 in (
      ap (little_number f.size) reached ∙ little_number-reads_back f.size f.value (more ++ rest) fit.0,
      (let held : List ℕ → Type 0 = λ xs. Hold xs fs in subst held (sym whole) next),
    )
