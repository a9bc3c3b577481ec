-- The spelling of an image has no fault, and is read as that image.
use Rattle.std.proofs.Common.{◌≡◌, ℕ, ◌+◌, ◌-◌, ◌^◌, ◌<◌, ◌≤◌, List, [], ◌++◌, length, take, drop, None, refl, sym, ap, subst, ◌∙◌, arith, lit<, length-append}
use Rattle.std.proofs.lemmas.List.{append_assoc, take_at, drop_at, length-replicate}
use Rattle.rv_image.specs.declared.version.ImageVersion.{ImageVersion}
use Rattle.rv_image.specs.MemoryMap.{Profile, IsProfile, profile_of}
use Rattle.rv_image.specs.Image.{IsImageSize}
use Rattle.rv_image.proofs.Profiles.{laid_out, is_profile}
use Rattle.elf_image.specs.declared.field.Segment.{Segment}
use Rattle.elf_image.specs.Header.{data_header, code_header, shadow_header, headers_size, data_segment, code_segment, shadow_segment, fields_of, data_start, code_length, data_length, elf_header, program_header}
use Rattle.elf_image.specs.Spelling.{headers, zeros, spelling}
use Rattle.elf_image.specs.Fault.{version_in, code_of, init_of, fault_of}
use Rattle.elf_image.proofs.Rows.{Hold, Fit, small_fit, fit-append, row_reads, none_wrong}
use Rattle.elf_image.proofs.Zeros.{none_in_zeros}
use Rattle.elf_image.proofs.Sound.{IsSound, no_fault, version_named, code_named, init_named}

-- the values of a program header have room in their fields
segment_fits : (at : ℕ) (s : Segment) → s.flags < 256 ^ 4 → s.offset < 256 ^ 8 → s.address < 256 ^ 8 → s.file_size < 256 ^ 8
    → s.memory_size < 256 ^ 8 → Fit (program_header at s)
unfolding program_header
segment_fits at s flags offset address file memory =
    (lit< tt, (flags, (offset, (address, (address, (file, (memory, (lit< tt, tt))))))))

-- as the size of the shadow stack has in every version
shadow_fits : (p : Profile) → IsProfile p → p.shadow_size < 256 ^ 8
shadow_fits p is = let laid = laid_out p is in omega arith

-- and so those of all headers
all_fit : (v : ImageVersion) (n d : ℕ) → n ≤ 2 ^ 20 → Fit (fields_of v n d)
unfolding elf_header
all_fit v n d small =
    let start : data_start n < 256 ^ 8 = omega arith in
    let code : code_length n < 256 ^ 8 = omega arith in
    let init : data_length d < 256 ^ 8 = omega arith in
    let first = segment_fits data_header (data_segment n d) (lit< tt) start (lit< tt) init (lit< tt) in
    let second = segment_fits code_header (code_segment n) (lit< tt) (lit< tt) (lit< tt) code (lit< tt) in
    let third = segment_fits shadow_header (shadow_segment v) (lit< tt) (lit< tt) (lit< tt) (lit< tt) (shadow_fits (profile_of v) (is_profile v)) in
    let one = fit-append elf_header (program_header data_header (data_segment n d)) (small_fit elf_header refl) first in
    let two = fit-append (elf_header ++ program_header data_header (data_segment n d)) (program_header code_header (code_segment n)) one second in
    fit-append (elf_header ++ program_header data_header (data_segment n d) ++ program_header code_header (code_segment n)) (program_header shadow_header (shadow_segment v)) two third

-- how many bytes of headers there are
pub length-headers : (v : ImageVersion) (n d : ℕ) → length (headers v n d) ≡ headers_size
unfolding headers elf_header program_header
length-headers v n d = refl

pub length-zeros : (n : ℕ) → length (zeros n) ≡ n
unfolding zeros
length-zeros n = length-replicate n 0

-- the headers are read as they were written
headers_hold : (v : ImageVersion) (n d : ℕ) (rest : List ℕ) → n ≤ 2 ^ 20 → Hold (headers v n d ++ rest) (fields_of v n d)
unfolding headers elf_header program_header
headers_hold v n d rest small = row_reads [] (fields_of v n d) rest refl (all_fit v n d small)

-- a part of a list, by the places where it begins and ends
cut : (xs front part rest : List ℕ) (n m : ℕ) → xs ≡ front ++ (part ++ rest) → length front ≡ n → length part ≡ m
    → take m (drop n xs) ≡ part
cut xs front part rest n m e p q =
    ap (λ ys. take m (drop n ys)) e ∙ ap (take m) (drop_at front (part ++ rest) n p) ∙ take_at part rest m q

-- the five parts of a spelling
five : (h z c y d : List ℕ) → (((h ++ z) ++ c) ++ y) ++ d ≡ h ++ (z ++ (c ++ (y ++ d)))
five h z c y d = simp append_assoc

length-five : (h z c y d : List ℕ) → length (((h ++ z) ++ c ++ y) ++ d) ≡ length h + length z + length c + length y + length d
length-five h z c y d = simp (length-append, append_assoc) (omega arith)

-- what is read of a spelling
pub record IsReadAs (bytes : List ℕ) (version : ImageVersion) (code init : List ℕ) : Type 0 where
  pub sound : IsSound bytes version (length code) (length init)
  pub version_named : version_in bytes ≡ version
  pub code_named : code_of bytes ≡ length code
  pub init_named : init_of bytes ≡ length init
  pub code_there : take (length code) (drop 0x1000 bytes) ≡ code
  pub init_there : drop (data_start (length code)) bytes ≡ init

pub read_as : (v : ImageVersion) (code init : List ℕ) → IsImageSize (length code) (length init) → IsReadAs (spelling v code init) v code init
unfolding spelling
read_as v code init size =
    let n = length code in
    let d = length init in
    let h = headers v n d in
    let z = zeros (0x1000 - headers_size) in
    let y = zeros (data_start n - 0x1000 - n) in
    let bytes = spelling v code init in
    let whole = five h z code y init in
    let long_h = length-headers v n d in
    let long_z = length-zeros (0x1000 - headers_size) in
    let long_y = length-zeros (data_start n - 0x1000 - n) in
    let long = length-five h z code y init in
    let gap : data_start n - 0x1000 - n ≡ data_start n - (0x1000 + n) = omega arith in
    let held : Hold bytes (fields_of v n d) =
    let values : List ℕ → Type 0 = λ xs. Hold xs (fields_of v n d) in
    subst values (sym whole) (headers_hold v n d (z ++ (code ++ (y ++ init))) size.most) in
    let second = cut bytes h z (code ++ (y ++ init)) headers_size (0x1000 - headers_size) whole long_h long_z in
    let to_code : length (h ++ z) ≡ 0x1000 = length-append h z ∙ omega arith in
    let third = cut bytes (h ++ z) code (y ++ init) 0x1000 n (simp append_assoc) to_code refl in
    let to_gap : length (h ++ z ++ code) ≡ 0x1000 + n = length-append (h ++ z) code ∙ omega arith in
    let fourth = cut bytes (h ++ z ++ code) y init (0x1000 + n) (data_start n - (0x1000 + n)) (simp append_assoc) to_gap (long_y ∙ gap) in
    let to_data : length (h ++ z ++ code ++ y) ≡ data_start n = length-append (h ++ z ++ code) y ∙ omega arith in
    record {
      sound = record {
        long = omega arith;
        fields = none_wrong bytes _ held;
        end = omega arith;
        after_headers = none_in_zeros bytes headers_size 0x1000 second;
        after_code = none_in_zeros bytes (0x1000 + n) (data_start n) (fourth ∙ ap zeros gap);
      };
      version_named = version_named bytes v n d held;
      code_named = code_named bytes v n d held ∙ omega arith;
      init_named = init_named bytes v n d held ∙ omega arith;
      code_there = third;
      init_there = drop_at (h ++ z ++ code ++ y) init _ to_data;
    }

pub reads_none : (bytes : List ℕ) (v : ImageVersion) (code init : List ℕ) → IsImageSize (length code) (length init) → bytes ≡ spelling v code init
    → fault_of bytes ≡ None
reads_none bytes v code init size e =
    let r = read_as v code init size in
    let file = spelling v code init in
    let whole : IsSound file (version_in file) (code_of file) (init_of file) =
    let sound_as : ImageVersion → Type 0 = λ k. IsSound file k (code_of file) (init_of file) in
    subst sound_as (sym r.version_named) (rw (r.code_named, r.init_named) r.sound) in
    rw e (no_fault _ whole)
