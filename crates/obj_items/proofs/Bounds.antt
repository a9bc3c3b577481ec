-- How large the addresses of an input's data are, and what relocations refer to.
use Rattle.std.proofs.Common.{◌≡◌, ℕ, ℤ, pos, negsuc, zero, suc, ◌+◌, ◌-◌, ◌*◌, ◌^◌, ◌<◌, ◌≤◌, ◌+ℤ◌, Bool, true, false, List, length, FitsSigned, inl, inr, refl, sym, ap, subst, ◌∙◌, arith}
use Rattle.std.specs.Prelude.{max}
use Rattle.std.specs.Int.{w64}
use Rattle.std.proofs.Math.Nat.{div-mul-le_self}
use Rattle.std.proofs.lemmas.Bool.{cases_Bool, cases_lt, le-leb, lt-ltb}
use Rattle.std.proofs.lemmas.Int.{ints}
use Rattle.std.proofs.lemmas.List.{get_or_past}
use Rattle.std.proofs.lemmas.List.Elements.{All-get_or, All-nil}
use Rattle.std.proofs.lemmas.List.Quantifiers.{position-Some}
use Rattle.obj_items.proofs.Prelude.{DATA_START, Block, Definition, Zero, Absolute, Within, Common, Missing, Sort, Data, Zeros, Dropped, natural, InputParts, SectionParts, is_code, is_data_sort, is_zeros_sort, no_section, section_count, section_of, address_by, after, after_if, aligned, block, block_address, blocks_reach, init_end, no_block, reach, section_address, zeros_end, Item, Number, is_spot, no_item, place_of, is_value, HasSmall, IsBlock, IsInput, IsSection, IsSmallUse, gate_value, place_at, value_of}
use Rattle.rv_word.proofs.Cases.{cases_Option}
use Rattle.obj_items.proofs.Addresses.{after_none}
use Rattle.obj_items.proofs.NoFault.{past_sections}

aligned_bound : (at align : ℕ) → align < 2 ^ 64 → aligned at align < at + 2 ^ 64
aligned_bound at align small =
    let most = div-mul-le_self (at + (max align 1 - 1)) (max align 1) in
    let width : max align 1 - 1 < 2 ^ 64 = omega arith in
    omega (arith, most)

after_bound : (at size align : ℕ) → size < 2 ^ 64 → align < 2 ^ 64 → after at size align ≤ at + 2 ^ 65
after_bound at size align small few = let low = aligned_bound at align few in omega arith

after_if_bound : (counts : Bool) (at size align : ℕ) → size < 2 ^ 64 → align < 2 ^ 64 → after_if counts at size align ≤ at + 2 ^ 65
after_if_bound true at size align small few = after_bound at size align small few
after_if_bound false at size align small few = omega arith

no_section_small : IsSection no_section
no_section_small = record { size = omega arith; align = omega arith; whole = λ e. refl; uses = All-nil IsSmallUse }

pub each_section : (input : InputParts) → IsInput input → (k : ℕ) → IsSection (section_of input k)
each_section input is k = elim (cases_lt k (section_count input)) [
  | inl below ↦ is.sections k below
  | inr past ↦ subst (λ (s : SectionParts). IsSection s) (sym (past_sections input k past)) no_section_small
]

module _ (input : InputParts) (is : IsInput input) where
  reach_bound : (wanted : Sort → Bool) (start n : ℕ) → reach input wanted start n ≤ start + n * 2 ^ 65
  unfolding reach
  reach_bound wanted start zero = omega arith
  reach_bound wanted start (suc n) =
      let s = each_section input is n in
      let so_far = reach_bound wanted start n in
      let next = after_if_bound (wanted (section_of input n).sort) (reach input wanted start n) (section_of input n).size (section_of input n).align s.size s.align in
      omega arith

  init_bound : init_end input ≤ 2 ^ 98
  unfolding init_end
  init_bound = let few = is.few.sections_few in let far = reach_bound is_data_sort DATA_START (section_count input) in omega arith

  zeros_bound : zeros_end input ≤ 2 ^ 99
  unfolding zeros_end
  zeros_bound =
      let few = is.few.sections_few in
      let before = init_bound in
      let far = reach_bound is_zeros_sort (init_end input) (section_count input) in
      omega arith

  blocks_bound : (c : ℕ) → c ≤ length input.blocks → blocks_reach input c ≤ 2 ^ 99 + c * 2 ^ 65
  unfolding blocks_reach
  blocks_bound zero below = let before = zeros_bound in omega arith
  blocks_bound (suc c) below =
      let b = All-get_or IsBlock input.blocks c no_block (omega arith) is.blocks in
      let so_far = blocks_bound c (omega arith) in
      let next = after_bound (blocks_reach input c) (block input c).size (block input c).align b.size b.align in
      omega arith

  -- past the blocks nothing is added
  more_blocks : (c : ℕ) → blocks_reach input (length input.blocks + c) ≡ blocks_reach input (length input.blocks)
  unfolding blocks_reach
  more_blocks zero = ap (blocks_reach input) (omega arith)
  more_blocks (suc c) =
      let next : length input.blocks + suc c ≡ suc (length input.blocks + c) = omega arith in
      let none : block input (length input.blocks + c) ≡ no_block = get_or_past input.blocks (length input.blocks + c) no_block (omega arith) in
      ap (blocks_reach input) next
      ∙ ap (λ (b : Block). after (blocks_reach input (length input.blocks + c)) b.size b.align) none
      ∙ after_none (blocks_reach input (length input.blocks + c))
      ∙ more_blocks c

  all_blocks : (c : ℕ) → blocks_reach input c ≤ 2 ^ 125 + 2 ^ 99
  all_blocks c =
      let few = is.few.blocks_few in
      elim (cases_lt c (length input.blocks)) [
        | inl below ↦ let far = blocks_bound c (omega arith) in omega arith
        | inr past ↦
            let whole : length input.blocks + (c - length input.blocks) ≡ c = omega arith in
            let same : blocks_reach input c ≡ blocks_reach input (length input.blocks) = ap (blocks_reach input) (sym whole) ∙ more_blocks (c - length input.blocks) in
            let far = blocks_bound (length input.blocks) (omega arith) in
            omega arith
      ]

  each_block : (c : ℕ) → (block input c).align < 2 ^ 64
  each_block c = elim (cases_lt c (length input.blocks)) [
    | inl below ↦ (All-get_or IsBlock input.blocks c no_block below is.blocks).align
    | inr past ↦ subst (λ (b : Block). b.align < 2 ^ 64) (sym (get_or_past input.blocks c no_block past)) (omega arith)
  ]

  pub block_address_bound : (c : ℕ) → block_address input c < 2 ^ 125 + 2 ^ 100
  unfolding block_address
  block_address_bound c =
      let far = all_blocks c in
      let low = aligned_bound (blocks_reach input c) (block input c).align (each_block c) in
      omega arith

  address_by_bound : (sort : Sort) (init rest align : ℕ) → init ≤ 2 ^ 99 → rest ≤ 2 ^ 99 → align < 2 ^ 64 → address_by sort init rest align < 2 ^ 100
  address_by_bound Data init rest align low high small = let near = aligned_bound init align small in omega arith
  address_by_bound Zeros init rest align low high small = let near = aligned_bound rest align small in omega arith
  address_by_bound other init rest align low high small = omega arith

  -- what is not there has no address
  none_there : (k : ℕ) (sort : Sort) (init rest align : ℕ) → sort ≡ Dropped → address_by sort init rest align ≡ 0
  none_there k sort init rest align e = ap (λ one. address_by one init rest align) e

  pub section_address_bound : (k : ℕ) → section_address input k < 2 ^ 100
  unfolding section_address
  section_address_bound k =
      let s = each_section input is k in
      let few = is.few.sections_few in
      elim (cases_lt k (section_count input)) [
        | inl below ↦
            let low = reach_bound is_data_sort DATA_START k in
            let before = init_bound in
            let high = reach_bound is_zeros_sort (init_end input) k in
            address_by_bound (section_of input k).sort (reach input is_data_sort DATA_START k) (reach input is_zeros_sort (init_end input) k) (section_of input k).align
            (omega arith) (omega arith) s.align
        | inr past ↦
            let none = none_there k (section_of input k).sort (reach input is_data_sort DATA_START k) (reach input is_zeros_sort (init_end input) k) (section_of input k).align
            (ap (λ (t : SectionParts). t.sort) (past_sections input k past)) in
            omega (arith, none)
      ]

-- numbers within 2 ^ 126
not_below : (n places : ℕ) → n ≤ 2 ^ 126 → is_value places (Number (pos n)) ≡ true
not_below n places small = le-leb n (2 ^ 126) small

below_zero : (n places : ℕ) → n < 2 ^ 126 → is_value places (Number (negsuc n)) ≡ true
below_zero n places small = rw (le-leb n (2 ^ 126 - 1) (omega arith)) refl

sum_small : (m places : ℕ) (z : ℤ) → m ≤ 2 ^ 125 + 2 ^ 101 → FitsSigned w64 z → is_value places (Number (pos m +ℤ z)) ≡ true
sum_small m places (pos n) small fits = let few = fits.sfits in not_below (m + n) places (omega arith)
sum_small m places (negsuc n) small fits =
    let few = fits.sfits in
    elim (cases_lt n m) [
      | inl less ↦
          let same : pos m +ℤ negsuc n ≡ pos (m - n - 1) = omega (arith, ints) in
          ap (λ z. is_value places (Number z)) same ∙ not_below (m - n - 1) places (omega arith)
      | inr more ↦
          let same : pos m +ℤ negsuc n ≡ negsuc (n - m) = omega (arith, ints) in
          ap (λ z. is_value places (Number z)) same ∙ below_zero (n - m) places (omega arith)
    ]

gate_at : (places : List Item) (count : ℕ) → length places ≡ count → (k n : ℕ) → is_value count (gate_value (place_of places k n)) ≡ true
gate_at places count size k n = elim (cases_Option (place_of places k n)) [
  | inl none ↦ rw none (not_below 0 count (omega arith))
  | inr (j, some) ↦
      let there = position-Some (is_spot k n) places j no_item some in
      rw some (lt-ltb j count (let below = there.0 in omega arith))
]

gate_there : (places : List Item) (count : ℕ) → length places ≡ count → (k : ℕ) (z : ℤ) → is_value count (gate_value (place_at places k z)) ≡ true
gate_there places count size k z = elim (cases_Option (natural z)) [
  | inl none ↦ rw none (not_below 0 count (omega arith))
  | inr (n, some) ↦ rw some (gate_at places count size k n)
]

-- what relocations refer to is far from what 128 bits hold, or a place that is there
pub value_right : (input : InputParts) → IsInput input → (places : List Item) (count : ℕ) → length places ≡ count → (d : Definition) (z : ℤ)
    → HasSmall d → FitsSigned w64 z → is_value count (value_of input places d z) ≡ true
value_right input is places count size Zero z small fits =
    let same : pos 0 +ℤ z ≡ z = omega (arith, ints) in
    ap (λ one. is_value count (Number one)) (sym same) ∙ sum_small 0 count z (omega arith) fits
value_right input is places count size (Absolute n) z small fits = sum_small n count z (omega arith) fits
value_right input is places count size (Within k n) z small fits = elim (cases_Bool (is_code (section_of input k))) [
  | inl code ↦ rw code (gate_there places count size k (pos n +ℤ z))
  | inr other ↦ rw other (let far = section_address_bound input is k in sum_small (section_address input k + n) count z (omega arith) fits)
]
value_right input is places count size (Common c) z small fits = let far = block_address_bound input is c in sum_small (block_address input c) count z (omega arith) fits
value_right input is places count size (Missing n) z small fits = not_below 0 count (omega arith)
