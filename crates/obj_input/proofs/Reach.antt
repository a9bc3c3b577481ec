-- How far data reach, one section or one block further, and their addresses by index.
use Rattle.std.proofs.lemmas.List.{get_or_default}
use Rattle.std.proofs.lemmas.List.Elements.{All-push}
use Rattle.std.proofs.Common.{◌≡◌, ℕ, ◌+◌, ◌<◌, ◌^◌, get_or, Bool, List, [], ◌∷◌, ◌++◌, length, refl, ap, sym, subst, ◌∙◌, add-one, arith}
use Rattle.obj_input.specs.declared.parts.Sort.{Sort}
use Rattle.obj_input.specs.declared.parts.Block.{Block}
use Rattle.obj_input.specs.Input.{InputParts, SectionParts, section_of, is_data_sort, is_zeros_sort}
use Rattle.obj_input.specs.Listed.{listed}
use Rattle.obj_input.specs.InOrder.{AreSmall}
use Rattle.obj_input.specs.DataLayout.{address_by, after, after_if, aligned, block, block_address, blocks_reach, init_end, no_block, reach, section_address, zeros_end}
use Rattle.rv_image.specs.MemoryMap.{DATA_START}

pub reach_begins : (input : InputParts) (wanted : Sort → Bool) (start : ℕ) → start ≡ reach input wanted start 0
unfolding reach
reach_begins input wanted start = refl

pub reach_next : (input : InputParts) (wanted : Sort → Bool) (start k at : ℕ) (counts : Bool) (section : SectionParts) (next : ℕ)
    → at ≡ reach input wanted start k → section ≡ section_of input k → counts ≡ wanted section.sort
    → next ≡ after_if counts at section.size section.align → next ≡ reach input wanted start (k + 1)
unfolding reach
reach_next input wanted start k at counts section next here is counted e = rw (add-one, ← here, ← is, ← counted) e

pub blocks_begin : (input : InputParts) → zeros_end input ≡ blocks_reach input 0
unfolding blocks_reach
blocks_begin input = refl

pub blocks_next : (input : InputParts) (c at : ℕ) (b : Block) (next : ℕ) → at ≡ blocks_reach input c → b ≡ block input c
    → next ≡ after at b.size b.align → next ≡ blocks_reach input (c + 1)
unfolding blocks_reach
blocks_next input c at b next here is e = rw (add-one, ← here, ← is) e

pub listed_begins : {A : Type 0} (given : ℕ → A) → [] ≡ listed given 0
unfolding listed
listed_begins given = refl

pub listed_next : {A : Type 0} (given : ℕ → A) (k : ℕ) (so_far next : List A) (x : A) → so_far ≡ listed given k → x ≡ given k
    → next ≡ so_far ++ x ∷ [] → next ≡ listed given (k + 1)
unfolding listed
listed_next given k so_far next x here is e = rw (add-one, ← here, ← is) e

pub section_address_is : (input : InputParts) (k init rest address : ℕ) (section : SectionParts)
    → init ≡ reach input is_data_sort DATA_START k → rest ≡ reach input is_zeros_sort (init_end input) k → section ≡ section_of input k
    → address ≡ address_by section.sort init rest section.align → address ≡ section_address input k
unfolding section_address
section_address_is input k init rest address section d z is e = rw (← d, ← z, ← is) e

pub block_address_is : (input : InputParts) (c at address : ℕ) (b : Block) → at ≡ blocks_reach input c → b ≡ block input c
    → address ≡ aligned at b.align → address ≡ block_address input c
unfolding block_address
block_address_is input c at address b here is e = rw (← here, ← is) e

pub block_read : (input : InputParts) (blocks : List Block) (c : ℕ) (d : Block) → blocks ≡ input.blocks → c < length blocks
    → get_or blocks c d ≡ block input c
block_read input blocks c d same below = get_or_default blocks c d no_block below ∙ ap (λ (bs : List Block). get_or bs c no_block) same

pub none_small : (none : List ℕ) → none ≡ [] → AreSmall none
none_small none e = rw e (λ k d below. absurd (omega arith))

pub small_next : (so_far next : List ℕ) (a : ℕ) → AreSmall so_far → a < 2 ^ 126 → next ≡ so_far ++ a ∷ [] → AreSmall next
small_next so_far next a small below e = subst (λ (xs : List ℕ). AreSmall xs) (sym e) (All-push (λ (n : ℕ). n < 2 ^ 126) so_far a small below)
