-- The parts that a reader takes of a file without a fault, by the places where code ends and data begin.
use Rattle.std.proofs.Common.{◌≡◌, ℕ, ◌+◌, ◌-◌, List, length, take, drop, None, ap, ◌∙◌, arith}
use Rattle.std.proofs.lemmas.List.{length-take-le, length-drop, take_rest}
use Rattle.rv_image.specs.declared.version.ImageVersion.{ImageVersion}
use Rattle.rv_image.specs.Image.{IsImageSize}
use Rattle.elf_image.specs.Header.{data_start}
use Rattle.elf_image.specs.Spelling.{spelling}
use Rattle.elf_image.specs.Fault.{version_in, code_of, init_of, fault_of}
use Rattle.elf_image.proofs.Numbers.{AreBytes}
use Rattle.elf_image.proofs.Sound.{sound, right_sizes}
use Rattle.elf_image.proofs.Found.{found}
use Rattle.elf_image.proofs.Only.{read_as}

module _ (bytes : List ℕ) (version : ImageVersion) (end start : ℕ) (no_fault : fault_of bytes ≡ None)
    (version_is : version ≡ version_in bytes) (end_is : end ≡ 0x1000 + code_of bytes) (start_is : start ≡ data_start (code_of bytes)) where
  code_part : take (end - 0x1000) (drop 0x1000 bytes) ≡ take (code_of bytes) (drop 0x1000 bytes)
  code_part = let n : end - 0x1000 ≡ code_of bytes = omega arith in ap (λ k. take k (drop 0x1000 bytes)) n

  init_part : take (length bytes - start) (drop start bytes) ≡ drop (data_start (code_of bytes)) bytes
  init_part = take_rest bytes start ∙ ap (λ k. drop k bytes) start_is

  pub taken_sizes : IsImageSize (length (take (end - 0x1000) (drop 0x1000 bytes))) (length (take (length bytes - start) (drop start bytes)))
  taken_sizes =
      let s = sound bytes no_fault in
      let code : length (take (end - 0x1000) (drop 0x1000 bytes)) ≡ code_of bytes =
      ap length code_part ∙ length-take-le _ _ (omega (arith, length-drop 0x1000 bytes)) in
      let init : length (take (length bytes - start) (drop start bytes)) ≡ init_of bytes =
      ap length init_part ∙ length-drop _ bytes ∙ omega arith in
      rw (code, init) (right_sizes bytes s)

  pub taken_spelled : AreBytes bytes → bytes ≡ spelling version (take (end - 0x1000) (drop 0x1000 bytes)) (take (length bytes - start) (drop start bytes))
  taken_spelled are = rw version_is (found bytes _ _ are no_fault code_part init_part)

  pub taken_back : (v : ImageVersion) (code init : List ℕ) → IsImageSize (length code) (length init) → bytes ≡ spelling v code init
      → (version ≡ v) × (take (end - 0x1000) (drop 0x1000 bytes) ≡ code) × (take (length bytes - start) (drop start bytes) ≡ init)
  taken_back v code init size e =
      let r = read_as v code init size in
      let n : code_of bytes ≡ length code = ap code_of e ∙ r.code_named in (
        version_is ∙ ap version_in e ∙ r.version_named,
        code_part ∙ ap (λ k. take k (drop 0x1000 bytes)) n ∙ ap (λ xs. take (length code) (drop 0x1000 xs)) e ∙ r.code_there,
        init_part ∙ ap (λ k. drop (data_start k) bytes) n ∙ ap (λ xs. drop (data_start (length code)) xs) e ∙ r.init_there,
      )
