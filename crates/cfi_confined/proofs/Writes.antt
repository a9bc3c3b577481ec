-- What an executed instruction writes, from what is known of its word: data, or a slot of the own part of the shadow stack, or
-- nothing. Where callees save sites, the slot is that of the newest site, and that site is what is written.
use Rattle.std.proofs.Common.{◌≡◌, ℕ, ◌+◌, ◌^◌, ◌<◌, ◌≤◌, ◌⊎◌, inl, inr, Bool, true, false, List, [], ◌∷◌, length, refl, ap, subst, ◌∙◌, arith}
use Rattle.std.proofs.lemmas.Bool.{cond_both}
use Rattle.cfi_confined.proofs.Prelude.{DATA_END, PART_SIZE, Profile, can_load, can_store, Memory, read, write, Registers, get_reg, Instr, Upper, Branch, Load, Store, Ecall, StoreOp, Lui, Auipc, branch_taken, load_size, store_size, After, Hart, Shared, address, exec, store_at, Place, slot, MOST_PENDING, StandsBy, fresh, Writes, WritesData, WritesOwn}
use Rattle.rv_code.proofs.Calls.{AfterCall, after_call, answered, ended}
use Rattle.rv_code.proofs.Frames.{read_same, read_write, write_outside}
use Rattle.cfi_unit.specs.declared.place.Place.TheVariants.{Body as body}
use Rattle.cfi_unit.specs.declared.unit.Unit.TheVariants as V
use Rattle.cfi_unit.proofs.Regions.{store_size-small}
use Rattle.cfi_confined.proofs.Words.{Fact, SavesLink, StoreFact}

-- nothing past data is written, so no slot is
quiet_writes : (callee_saves : Bool) (part : ℕ) (pending : List ℕ) (m m' : Memory) → DATA_END ≤ part → WritesData m m' → Writes callee_saves part pending m m'
quiet_writes false part pending m m' high same = λ k above out. same k above
quiet_writes true part [] m m' high same = same
quiet_writes true part (site ∷ older) m m' high same = ((λ k above out. same k above), inl (read_same 8 m m' (slot part (length older)) (λ k from to. same k (omega arith))))

-- what lies below a hart's part is written in data alone
pub below_part : (callee_saves : Bool) (part : ℕ) (pending : List ℕ) (m m' : Memory) → Writes callee_saves part pending m m' → (k : ℕ) → DATA_END ≤ k → k < part → m' k ≡ m k
below_part false part pending m m' writes k above below = writes k above (inl (omega arith))
below_part true part [] m m' writes k above below = writes k above
below_part true part (site ∷ older) m m' writes k above below = writes.0 k above (inl (omega arith))

-- of the pending sites all stand on the shadow stack where callers save them; at an enter all but the newest, which is in x1
module _ (p : Profile) (part : ℕ) (high : DATA_END ≤ part) (image : Memory) (at : ℕ) (pending stacked : List ℕ) (r : Registers) (h : Hart) (s : Shared) (place : Place)
    (full : p.callee_saves ≡ false → stacked ≡ pending) (lean : place ≡ body V.Enter → StandsBy fresh r pending stacked × (r 1 < 2 ^ 64)) where
  pub record Written (a : After) : Type 0 where
    pub here : Writes p.callee_saves part pending s.memory a.shared.memory

  abbrev Quiet : After → Type 0
  Quiet a = WritesData s.memory a.shared.memory

  quietly : (a : After) → Quiet a → Written a
  quietly a quiet = record { here = quiet_writes p.callee_saves part pending s.memory a.shared.memory high quiet }

  call_quiet : (a : After) → AfterCall h s a → Quiet a
  call_quiet a (answered t pc regs going same) k above = same k (omega arith)
  call_quiet a (ended status t same) k above = ap (λ (m : Memory). m k) same

  -- what is beside the slot is beside what is stored there
  abbrev Beside : ℕ → ℕ → Type 0
  Beside k n = (k < slot part n) ⊎ ((slot part n + 8 ≤ k) ⊎ (part + PART_SIZE ≤ k))

  apart : (a n k : ℕ) → n ≤ 8 → a ≡ slot part (length stacked) → length stacked < MOST_PENDING → Beside k (length stacked) → (k < a) ⊎ (a + n ≤ k)
  apart a n k few to room (inl below) = inl (omega arith)
  apart a n k few to room (inr (inl above)) = inr (omega arith)
  apart a n k few to room (inr (inr past)) = inr (omega arith)

  -- what a store to the shadow stack leaves
  abbrev stored : StoreOp → ℕ → ℕ → Memory
  stored op rs2 a = write (store_size op) s.memory a (get_reg h.regs rs2)

  slot_writes : (op : StoreOp) (rs2 a : ℕ) (callee_saves : Bool) (sites : List ℕ) → SavesLink p part image at stacked r h callee_saves place op rs2 →
      (callee_saves ≡ false → stacked ≡ sites) → (place ≡ body V.Enter → StandsBy fresh r sites stacked × (r 1 < 2 ^ 64)) → a ≡ slot part (length stacked) →
      WritesOwn part (length stacked) s.memory (stored op rs2 a) → Writes callee_saves part sites s.memory (stored op rs2 a)
  slot_writes op rs2 a false sites link all stands to own = subst (λ (l : List ℕ). WritesOwn part (length l) s.memory (stored op rs2 a)) (all refl) own
  slot_writes op rs2 a true [] link all stands to own = absurd (stands link.0).0
  slot_writes op rs2 a true (site ∷ older) link all stands to own =
      let here = stands link.0 in
      let newest : h.regs 1 ≡ site = link.3 ∙ here.0.0 in
      let there : a ≡ slot part (length older) = to ∙ ap (λ (l : List ℕ). slot part (length l)) here.0.1 in
      let whole : read 8 (write 8 s.memory (slot part (length older)) (h.regs 1)) (slot part (length older)) ≡ h.regs 1 =
      read_write 8 s.memory (slot part (length older)) (h.regs 1) (let low = here.1 in let same = link.3 in omega arith) in
      let stored_is : read 8 (stored op rs2 a) (slot part (length older)) ≡ h.regs 1 =
      ap (λ (o : StoreOp). read 8 (write (store_size o) s.memory a (get_reg h.regs rs2)) (slot part (length older))) link.1
      ∙ ap (λ n. read 8 (write 8 s.memory a (get_reg h.regs n)) (slot part (length older))) link.2
      ∙ ap (λ b. read 8 (write 8 s.memory b (h.regs 1)) (slot part (length older))) there
      ∙ whole in
      (subst (λ (l : List ℕ). WritesOwn part (length l) s.memory (stored op rs2 a)) here.0.1 own, inr (stored_is ∙ newest))

  store_writes : (op : StoreOp) (rs2 a : ℕ) → StoreFact p part image at stacked r h place op rs2 a → Written (store_at p op (get_reg h.regs rs2) h s a)
  store_writes op rs2 a (inr low) =
      cond_both (can_store p a (store_size op)) _ _ Written
      (λ can. quietly _ (λ k above. write_outside (store_size op) s.memory a (get_reg h.regs rs2) k (let few = store_size-small op in inr (omega arith))))
      (λ cannot. quietly _ (λ k above. refl))
  store_writes op rs2 a (inl (to, room, link)) =
      cond_both (can_store p a (store_size op)) _ _ Written
      (λ can. record {
        here = slot_writes op rs2 a p.callee_saves pending link full lean to
            (λ k above out. write_outside (store_size op) s.memory a (get_reg h.regs rs2) k (apart a (store_size op) k (store_size-small op) to room out));
      })
      (λ cannot. quietly _ (λ k above. refl))

  pub writes : (k : ℕ) (i : Instr) → Fact p part image at stacked r h place k i → Written (exec p i h s)
  writes k (Branch op rs1 rs2 imm) fact =
      cond_both (branch_taken op (get_reg h.regs rs1) (get_reg h.regs rs2)) _ _ Written (λ taken. quietly _ (λ a above. refl)) (λ not_taken. quietly _ (λ a above. refl))
  writes k (Load op rd rs1 imm) fact =
      cond_both (can_load p (address h rs1 imm) (load_size op)) _ _ Written (λ can. quietly _ (λ a above. refl)) (λ cannot. quietly _ (λ a above. refl))
  writes k (Store op rs1 rs2 imm) fact = store_writes op rs2 (address h rs1 imm) fact.1
  writes k Ecall fact = quietly (exec p Ecall h s) (call_quiet (exec p Ecall h s) (after_call h s))
  writes k (Upper Lui rd imm) fact = quietly _ (λ a above. refl)
  writes k (Upper Auipc rd imm) fact = quietly _ (λ a above. refl)
  writes k other fact = quietly _ (λ a above. refl)
