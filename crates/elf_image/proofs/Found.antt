-- A file without a fault is spelled as an image.
use Rattle.std.proofs.Common.{◌≡◌, ℕ, ◌+◌, ◌-◌, List, ◌++◌, length, take, drop, None, refl, sym, ap, ◌∙◌, arith}
use Rattle.std.proofs.Math.Seq.{take-add}
use Rattle.std.proofs.lemmas.List.{take-append-drop, length-take-le, length-drop}
use Rattle.rv_image.specs.declared.version.ImageVersion.{ImageVersion}
use Rattle.elf_image.specs.Header.{headers_size, fields_of, data_start, elf_header, program_header}
use Rattle.elf_image.specs.Spelling.{headers, zeros, spelling}
use Rattle.elf_image.specs.Fault.{version_in, code_of, init_of, fault_of}
use Rattle.elf_image.proofs.Numbers.{AreBytes}
use Rattle.elf_image.proofs.Rows.{hold, row_bytes}
use Rattle.elf_image.proofs.Zeros.{zeros_there}
use Rattle.elf_image.proofs.Sound.{IsSound, sound}

-- a list, cut at four places
five_parts : (xs : List ℕ) (a b c d : ℕ)
    → xs ≡ take a xs ++ take b (drop a xs) ++ take c (drop (a + b) xs) ++ take d (drop (a + b + c) xs) ++ drop (a + b + c + d) xs
five_parts xs a b c d =
    let whole = sym (take-append-drop (a + b + c + d) xs) in
    let four = take-add (a + b + c) d xs in
    let three = take-add (a + b) c xs in
    let two = take-add a b xs in
    cc

-- the parts of a file of this version with these lengths
placed : (bytes code init : List ℕ) (v : ImageVersion) (n d : ℕ) → IsSound bytes v n d
    → code ≡ take n (drop 0x1000 bytes) → init ≡ drop (data_start n) bytes
    → take headers_size bytes ≡ headers v n d → take (0x1000 - headers_size) (drop headers_size bytes) ≡ zeros (0x1000 - headers_size)
    → take (data_start n - 0x1000 - n) (drop (0x1000 + n) bytes) ≡ zeros (data_start n - 0x1000 - n)
    → length code ≡ n → length init ≡ d → bytes ≡ spelling v code init
unfolding spelling
placed bytes code init v n d s p q first second fourth long_code long_init =
    let whole = five_parts bytes headers_size (0x1000 - headers_size) n (data_start n - 0x1000 - n) in
    let last : 0x1000 + n + (data_start n - 0x1000 - n) ≡ data_start n = omega arith in
    rw (last, first, second, ← p, fourth, ← q, ← long_code, ← long_init) at whole

-- the code and the data that a file without a fault has are those of its spelling
pub found : (bytes code init : List ℕ) → AreBytes bytes → fault_of bytes ≡ None
    → code ≡ take (code_of bytes) (drop 0x1000 bytes) → init ≡ drop (data_start (code_of bytes)) bytes
    → bytes ≡ spelling (version_in bytes) code init
unfolding headers elf_header program_header
found bytes code init are e p q =
    let s = sound bytes e in
    let first = row_bytes bytes 0 (fields_of (version_in bytes) (code_of bytes) (init_of bytes)) are refl (hold bytes _ s.fields) s.long in
    let second = zeros_there bytes headers_size 0x1000 (omega arith) (omega arith) s.after_headers in
    let fourth = zeros_there bytes (0x1000 + code_of bytes) (data_start (code_of bytes)) (omega arith) (omega arith) s.after_code in
    let long_code : length code ≡ code_of bytes = ap length p ∙ length-take-le _ _ (omega (arith, length-drop 0x1000 bytes)) in
    let long_init : length init ≡ init_of bytes = ap length q ∙ length-drop _ bytes ∙ omega arith in
    let gap : data_start (code_of bytes) - (0x1000 + code_of bytes) ≡ data_start (code_of bytes) - 0x1000 - code_of bytes = omega arith in
    placed bytes code init _ _ _ s p q first second (rw gap at fourth) long_code long_init
