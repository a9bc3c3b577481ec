-- What the laws of objects without a fault give here: code and data have all their bytes, and relocations name symbols that are there.
use Rattle.std.proofs.Common.{◌≡◌, ◌⊎◌, ℕ, ◌<◌, ◌≤◌, ◌^◌, nat_le, ◌==◌, ◌&&◌, ◌||◌, not, true, false, List, [], ◌∷◌, None, arith, length, inl, inr, refl, ap, sym, subst, ◌∙◌}
use Rattle.std.specs.List.{sum_by}
use Rattle.std.proofs.lemmas.Bool.{cases_Bool, eqb-true, leb-false, or_parts}
use Rattle.obj_link.proofs.Prelude.{SectionHeader, Reloc, e_shentsize, e_shnum, e_shoff, e_shstrndx, content, is_in_file, section_header, is_executable, is_kept, symbol_count, relocation_bytes, relocation_count, relocation_in, fault_of, IsRightKept, has_wrong_header, is_string_table, has_bytes, kept_sort, sort_of}
use Rattle.elf_object.proofs.Sound.{sound}
use Rattle.elf_object.proofs.Right.{kept_right, relocations_named, sections_whole, not_zeros}

program : (h : SectionHeader) → h.kind ≡ 1 → is_in_file h ≡ true
program h e = rw e refl

in_file : (h : SectionHeader) → IsRightKept h → has_bytes (kept_sort h) ≡ true → is_in_file h ≡ true
in_file h right has = elim (cases_Bool (is_executable h)) [
  | inl code ↦ program h (right.code_in_file code)
  | inr other ↦ elim (cases_Bool (h.kind == 8)) [
    | inl zeros ↦ let no : false ≡ true = rw (other, zeros) at has in absurd (cc)
    | inr with_bytes ↦ program h (not_zeros h.kind right.sort with_bytes)
  ]
]

pub whole : (bytes : List ℕ) (k : ℕ) → fault_of bytes ≡ None → k < e_shnum bytes → has_bytes (sort_of bytes k) ≡ true
    → length (content bytes (section_header bytes k)) ≡ (section_header bytes k).size
whole bytes k e below has = elim (cases_Bool (is_kept bytes k)) [
  | inl kept ↦
      let sort : has_bytes (kept_sort (section_header bytes k)) ≡ true = rw kept at has in
      sections_whole bytes k e below (in_file (section_header bytes k) (kept_right bytes k e below kept) sort)
  | inr dropped ↦ let no : false ≡ true = rw dropped at has in absurd (cc)
]

pub symbol_there : (bytes table : List ℕ) (k j count : ℕ) (reloc : Reloc) → fault_of bytes ≡ None → k < e_shnum bytes
    → table ≡ relocation_bytes bytes k → count ≡ relocation_count table → j < count → reloc ≡ relocation_in table j
    → reloc.symbol < symbol_count bytes
symbol_there bytes table k j count reloc e below same counted less is =
    let index = subst (λ (t : List ℕ). j < relocation_count t) same (subst (λ n. j < n) counted less) in
    let one = ap (λ (r : Reloc). r.symbol) is ∙ ap (λ (t : List ℕ). (relocation_in t j).symbol) same in
    subst (λ n. n < symbol_count bytes) (sym one) (relocations_named bytes k j e below index)

-- an object has few sections
pub few_sections : (bytes : List ℕ) → fault_of bytes ≡ None → e_shnum bytes < 0xff00
few_sections bytes none =
    let start = or_parts (e_shnum bytes == 0 && not (e_shoff bytes == 0)) (not (e_shnum bytes == 0) && has_wrong_header bytes) (sound bytes none).start in
    elim (cases_Bool (e_shnum bytes == 0)) [
      | inl none ↦ let number = eqb-true (e_shnum bytes) 0 none in omega arith
      | inr some ↦
          let right : has_wrong_header bytes ≡ false = rw some at start.1 in
          let two = or_parts (not (e_shentsize bytes == 64) || nat_le 0xff00 (e_shnum bytes)) (not (is_string_table bytes (e_shstrndx bytes))) right in
          let few = or_parts (not (e_shentsize bytes == 64)) (nat_le 0xff00 (e_shnum bytes)) two.0 in
          leb-false 0xff00 (e_shnum bytes) few.1
    ]

pub few_alone : (bytes : List ℕ) → fault_of bytes ≡ None → sum_by e_shnum (bytes ∷ []) ≤ 2 ^ 16
few_alone bytes none = let few = few_sections bytes none in omega arith
