-- The initialised data end where the layout of data says.
use Rattle.std.proofs.Common.{◌≡◌, ℕ, zero, suc, ◌+◌, ◌-◌, ◌%◌, ◌<◌, ◌≤◌, true, List, ◌++◌, length, replicate, inl, inr, refl, ap, ◌∙◌, arith}
use Rattle.std.specs.Prelude.{max}
use Rattle.std.proofs.Math.Nat.{mod-eq-sub-div-mul, mod-lt}
use Rattle.std.proofs.lemmas.Bool.{cases_Bool}
use Rattle.std.proofs.lemmas.List.{length-append, length-replicate}
use Rattle.obj_items.proofs.Prelude.{DATA_START, Sort, Data, InputParts, has_bytes, is_data_sort, is_zeros_sort, section_count, section_of, address_by, aligned, init_end, reach, section_address, init_below, placed, InitReachesEnd, program_of, IsInput}
use Rattle.obj_items.proofs.Bounds.{each_section}

-- the next multiple is not below
aligned_above : (at align : ℕ) → at ≤ aligned at align
aligned_above at align =
    let rest = mod-eq-sub-div-mul (at + (max align 1 - 1)) (max align 1) in
    let some : 0 < max align 1 = omega arith in
    let small : (at + (max align 1 - 1)) % max align 1 < max align 1 = mod-lt (at + (max align 1 - 1)) some in
    omega (arith, rest, small)

-- bytes that are placed end as many bytes past their address as they are
placed_ends : (so_far bytes : List ℕ) (address : ℕ) → DATA_START + length so_far ≤ address → DATA_START + length (placed so_far address bytes) ≡ address + length bytes
placed_ends so_far bytes address behind =
    let gap : List ℕ = replicate (address - (DATA_START + length so_far)) 0 in
    let outer = length-append (so_far ++ gap) bytes in
    let inner = length-append so_far gap in
    let zeros : length gap ≡ address - (DATA_START + length so_far) = length-replicate (address - (DATA_START + length so_far)) 0 in
    omega arith

data_sort : (sort : Sort) (init rest align : ℕ) → is_data_sort sort ≡ true → (has_bytes sort ≡ true) × (address_by sort init rest align ≡ aligned init align)
data_sort Data init rest align is = (refl, refl)
data_sort other init rest align is = absurd (cc)

module _ (input : InputParts) (is : IsInput input) where
  reached : (k : ℕ) → DATA_START + length (init_below input k) ≡ reach input is_data_sort DATA_START k
  unfolding init_below reach section_address
  reached zero = refl
  reached (suc k) =
      let before = reached k in
      elim (cases_Bool (is_data_sort (section_of input k).sort)) [
        | inl data_here ↦
            let from = reach input is_data_sort DATA_START k in
            let sort = data_sort (section_of input k).sort from (reach input is_zeros_sort (init_end input) k) (section_of input k).align data_here in
            let whole = (each_section input is k).whole sort.0 in
            let above = aligned_above from (section_of input k).align in
            let ends = placed_ends (init_below input k) (section_of input k).content (aligned from (section_of input k).align) (omega arith) in
            rw data_here (rw sort.1 (ends ∙ ap (λ n. aligned from (section_of input k).align + n) whole))
        | inr other ↦ rw other before
      ]

pub init_reaches_end : InitReachesEnd
unfolding program_of init_end
init_reaches_end input is = reached input is (section_count input)
