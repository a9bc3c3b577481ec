-- The stores of a group, made one after the other, are one step of its unit.
use Rattle.std.proofs.Common.{◌≡◌, ℕ, zero, suc, ◌+◌, ◌^◌, ◌<◌, ◌≤◌, inl, inr, true, refl, sym, ap, subst, ◌∙◌, arith}
use Rattle.std.proofs.lemmas.Bool.Decides.{nat_tests}
use Rattle.cfi_runs.proofs.Prelude.{wrap, Profile, can_store, write, Registers, get_reg, Store, StoreOp, Sb, Sh, Sw, Sd, store_size, Shared, offset, Ran, Member, sum_of, stored_at, with_memory, IsPast, StoresRun, TellsLow, members_from, own_store, Own, OwnAfter, executes, stored_all, touched}
use Rattle.cfi_runs.specs.GroupLaws as law

some_size : (op : StoreOp) → 1 ≤ store_size op
some_size Sb = omega arith
some_size Sh = omega arith
some_size Sw = omega arith
some_size Sd = omega arith

can_store_window : (p : Profile) (a n : ℕ) → a + n ≤ 2 ^ 28 → can_store p a n ≡ true
can_store_window p a n low = grind (arith, nat_tests)

-- a state after a store
abbrev after_store : Own → ℕ → Shared → OwnAfter
after_store o past s = record { state = record o { pc = past; shared = s }; turn = Ran }

-- a store in the window of data is made
store_made : (p : Profile) (o : Own) (op : StoreOp) (rs1 rs2 imm past : ℕ) → touched (Store op rs1 rs2 imm) o.regs ≤ 2 ^ 28 →
    executes p o (Store op rs1 rs2 imm) o.regs past
    ≡ after_store o past (with_memory o.shared (write (store_size op) o.shared.memory (sum_of o.regs rs1 imm) (get_reg o.regs rs2)))
store_made p o op rs1 rs2 imm past low = rw (can_store_window p (sum_of o.regs rs1 imm) (store_size op) low) refl

-- where the address that is masked lies in the window, a distance past it is no further than that
address_is : (r : Registers) (rs1 mask imm distance : ℕ) → IsPast mask imm distance → sum_of r rs1 mask < 2 ^ 28 →
    sum_of r rs1 imm ≡ sum_of r rs1 mask + distance
address_is r rs1 mask imm distance past low =
    let small = past.low in
    let one : wrap (sum_of r rs1 mask + distance) ≡ sum_of r rs1 mask + distance = omega arith in
    past.sums (get_reg r rs1) ∙ one

no_offset : (y : ℕ) → y < 2 ^ 28 → wrap (y + offset 12 0) < 2 ^ 28
no_offset y low = omega arith

module _ (p : Profile) (rs1 mask : ℕ) (member : ℕ → Member) (imm gate : ℕ → ℕ) where
  -- what a group's store leaves is what its member leaves
  member_made : (k : ℕ) (o : Own) (past : ℕ) → IsPast mask (imm k) (member k).distance → sum_of o.regs rs1 mask < 2 ^ 28 →
      touched (own_store rs1 member imm k) o.regs ≤ 2 ^ 28 →
      executes p o (own_store rs1 member imm k) o.regs past ≡ after_store o past (stored_at (sum_of o.regs rs1 mask) o.regs (member k) o.shared)
  member_made k o past is low window =
      store_made p o (member k).op rs1 (member k).value (imm k) past window
      ∙ ap
      (λ (a : ℕ). after_store o past (with_memory o.shared (write (store_size (member k).op) o.shared.memory a (get_reg o.regs (member k).value))))
      (address_is o.regs rs1 mask (imm k) (member k).distance is low)

  -- no store of a group writes a register, so each touches what it would at the group's start
  windows : (n k : ℕ) (o last : Own) (i : ℕ) → i < n → StoresRun p rs1 member imm gate k n o last →
      touched (own_store rs1 member imm (k + i)) o.regs ≤ 2 ^ 28
  windows zero k o last i inside run = absurd (omega arith)
  windows (suc n) k o last zero inside run =
      let e : k ≡ k + 0 = omega arith in
      subst (λ (j : ℕ). touched (own_store rs1 member imm j) o.regs ≤ 2 ^ 28) e run.0
  windows (suc n) k o last (suc i) inside run =
      let e : k + 1 + i ≡ k + suc i = omega arith in
      let made = store_made p o (member k).op rs1 (member k).value (imm k) (gate (k + 1)) run.0 in
      let next = executes p o (own_store rs1 member imm k) o.regs (gate (k + 1)) in
      let there = windows n (k + 1) next.state last i (omega arith) run.1 in
      subst (λ (j : ℕ). touched (own_store rs1 member imm j) o.regs ≤ 2 ^ 28) e
      (subst (λ (after : OwnAfter). touched (own_store rs1 member imm (k + 1 + i)) after.state.regs ≤ 2 ^ 28) made there)

  -- all of them leave what the members leave
  all_made : (n k : ℕ) (o last : Own) → sum_of o.regs rs1 mask < 2 ^ 28 →
      ((i : ℕ) → i < n → IsPast mask (imm (k + i)) (member (k + i)).distance) → (n ≡ 0 → o.pc ≡ gate k) → StoresRun p rs1 member imm gate k n o last →
      last ≡ record o { pc = gate (k + n); shared = stored_all (sum_of o.regs rs1 mask) o.regs (members_from member k n) o.shared }
  all_made zero k o last low past here run =
      let e : k ≡ k + 0 = omega arith in
      run ∙ ap (λ (pc : ℕ). record o { pc = pc }) (here refl ∙ ap gate e)
  all_made (suc n) k o last low past here run =
      let e : k ≡ k + 0 = omega arith in
      let first = subst (λ (j : ℕ). IsPast mask (imm j) (member j).distance) (sym e) (past 0 (omega arith)) in
      let stored = stored_at (sum_of o.regs rs1 mask) o.regs (member k) o.shared in
      let next : Own = record o { pc = gate (k + 1); shared = stored } in
      let made = member_made k o (gate (k + 1)) first low run.0 in
      let others = λ (i : ℕ) (below : i < n). (
      let f : k + suc i ≡ k + 1 + i = omega arith in
      subst (λ (j : ℕ). IsPast mask (imm j) (member j).distance) f (past (suc i) (omega arith))) in
      let behind : k + 1 + n ≡ k + suc n = omega arith in
      all_made n (k + 1) next last low others (λ none. refl)
      (subst (λ (after : OwnAfter). StoresRun p rs1 member imm gate (k + 1) n after.state last) made run.1)
      ∙ ap
      (λ (j : ℕ). record o { pc = gate j; shared = stored_all (sum_of o.regs rs1 mask) o.regs (members_from member (k + 1) n) stored })
      behind

  -- a store at distance 0 has the address that is masked in the window
  base_low : (k n index : ℕ) (o last : Own) → index < n → IsPast mask (imm (k + index)) (member (k + index)).distance →
      (member (k + index)).distance ≡ 0 → StoresRun p rs1 member imm gate k n o last → sum_of o.regs rs1 mask < 2 ^ 28
  base_low k n index o last inside past none run =
      let window = windows n k o last index inside run in
      let same = past.sums (get_reg o.regs rs1) in
      let size = some_size (member (k + index)).op in
      omega arith

  -- so has the base register, if it is all that is masked
  alone_low : (r : Registers) → mask ≡ 0 → get_reg r rs1 < 2 ^ 28 → sum_of r rs1 mask < 2 ^ 28
  alone_low r none low = subst (λ (m : ℕ). sum_of r rs1 m < 2 ^ 28) (sym none) (no_offset (get_reg r rs1) low)

  either_low : (k n : ℕ) (o last : Own) → ((i : ℕ) → i < n → IsPast mask (imm (k + i)) (member (k + i)).distance) →
      TellsLow rs1 mask member k n o.regs → StoresRun p rs1 member imm gate k n o last → sum_of o.regs rs1 mask < 2 ^ 28
  either_low k n o last past (inl (index, inside, none)) run = base_low k n index o last inside (past index inside) none run
  either_low k n o last past (inr (none, low)) run = alone_low o.regs none low

pub group_is_one_step : law.GroupIsOneStep
group_is_one_step p how rs1 mask member imm gate k n o last at some past tells ends run =
    let low = either_low p rs1 mask member imm gate k n o last past tells run in
    let made = all_made p rs1 mask member imm gate n k o last low past (λ empty. absurd (omega arith)) run in
    let shared = stored_all (sum_of o.regs rs1 mask) o.regs (members_from member k n) o.shared in
    (low, ap (λ (pc : ℕ). after_store o pc shared) (sym ends) ∙ ap (λ (x : Own). record { state = x; turn = Ran }) (sym made))
