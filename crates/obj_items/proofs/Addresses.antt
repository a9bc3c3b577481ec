-- The addresses of a layout by their index, also past those that are there.
use Rattle.std.proofs.Common.{◌≡◌, ℕ, ℤ, pos, ◌+ℤ◌, false, zero, suc, ◌+◌, ◌≤◌, get_or, List, length, inl, inr, refl, sym, ap, ◌∙◌, arith}
use Rattle.std.proofs.lemmas.Bool.{cases_lt}
use Rattle.std.proofs.lemmas.List.{get_or_past}
use Rattle.obj_items.proofs.Prelude.{Definition, Common, InputParts, is_code, no_section, section_count, section_of, listed, DataLayoutParts, after, aligned, block_address, blocks_reach, data_end, data_layout_of, no_block, section_address, Item, Value, Number, section_value, value_of}
use Rattle.obj_items.proofs.Steps.{listed_count, listed_read}

no_address : (input : InputParts) (k : ℕ) → section_of input k ≡ no_section → 0 ≡ section_address input k
unfolding section_address
no_address input k e = rw e refl

pub section_read : (input : InputParts) (l : DataLayoutParts) (k : ℕ) → l ≡ data_layout_of input → get_or l.sections k 0 ≡ section_address input k
unfolding data_layout_of
section_read input l k e =
    let all : l.sections ≡ listed (section_address input) (section_count input) = ap (λ (p : DataLayoutParts). p.sections) e in
    elim (cases_lt k (section_count input)) [
      | inl below ↦ listed_read (section_address input) l.sections (section_count input) k 0 all below
      | inr past ↦
          let count = listed_count (section_address input) l.sections (section_count input) all in
          get_or_past l.sections k 0 (omega arith) ∙ no_address input k (get_or_past input.sections k no_section past)
    ]

aligned_none : (x : ℕ) → aligned x 0 ≡ x
aligned_none x = omega arith

pub after_none : (x : ℕ) → after x 0 0 ≡ x
after_none x = omega arith

-- an absent block is empty, and stands where all data end
module _ (input : InputParts) where
  step_past : (c : ℕ) → length input.blocks ≤ c → blocks_reach input (suc c) ≡ blocks_reach input c
  unfolding blocks_reach
  step_past c past = rw (get_or_past input.blocks c no_block past) (after_none (blocks_reach input c))

  reach_past : (c : ℕ) → length input.blocks ≤ c → blocks_reach input c ≡ data_end input
  reach_past zero past = let none : 0 ≡ length input.blocks = omega arith in ap (blocks_reach input) none
  reach_past (suc c) past = elim (cases_lt c (length input.blocks)) [
    | inl below ↦ let last : suc c ≡ length input.blocks = omega arith in ap (blocks_reach input) last
    | inr more ↦ step_past c more ∙ reach_past c more
  ]

  block_past : (c : ℕ) → length input.blocks ≤ c → data_end input ≡ block_address input c
  unfolding block_address
  block_past c past = rw (get_or_past input.blocks c no_block past) (sym (aligned_none (blocks_reach input c) ∙ reach_past c past))

pub block_read : (input : InputParts) (l : DataLayoutParts) (c : ℕ) → l ≡ data_layout_of input → get_or l.blocks c l.data_end ≡ block_address input c
unfolding data_layout_of
block_read input l c e =
    let all : l.blocks ≡ listed (block_address input) (length input.blocks) = ap (λ (p : DataLayoutParts). p.blocks) e in
    elim (cases_lt c (length input.blocks)) [
      | inl below ↦ listed_read (block_address input) l.blocks (length input.blocks) c l.data_end all below
      | inr past ↦
          let count = listed_count (block_address input) l.blocks (length input.blocks) all in
          get_or_past l.blocks c l.data_end (omega arith) ∙ ap (λ (p : DataLayoutParts). p.data_end) e ∙ block_past input c past
    ]

-- an address with an addend is what an offset in data, or a common block, refers to
module _ (input : InputParts) (places : List Item) (address : ℕ) (addend z : ℤ) (r : Value) (same : z ≡ addend) where
  pub section_sum : (k value n : ℕ) → r ≡ Number (pos (address + n) +ℤ z) → n ≡ value → address ≡ section_address input k
      → false ≡ is_code (section_of input k) → r ≡ section_value input places k value addend
  section_sum k value n e is here other = rw (← other, ← here, ← is, ← same) e

  pub block_sum : (c : ℕ) (d : Definition) → r ≡ Number (pos address +ℤ z) → address ≡ block_address input c → d ≡ Common c
      → r ≡ value_of input places d addend
  block_sum c d e here is = rw (is, ← here, ← same) e
