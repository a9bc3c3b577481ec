-- The word at which a hart is, of what stands at an address: its instruction, where that leads, and what it
-- stores.
use Rattle.std.proofs.Common.{◌≡◌, ℕ, suc, ◌+◌, ◌-◌, ◌*◌, ◌/◌, ◌^◌, ◌<◌, ◌≤◌, ◌⊎◌, inl, inr, true, List, [], ◌∷◌, ◌++◌, length, refl, sym, ap, subst, ◌∙◌, Some, arith, lit<, lit≤, Bool, false, zero}
use Rattle.std.specs.Prelude.{map, slice_get}
use Rattle.std.specs.List.{list_all}
use Rattle.std.proofs.lemmas.Bool.{and_parts}
use Rattle.std.proofs.lemmas.Option.{same_Some, slice_get_cases, slice_get_within}
use Rattle.cfi_confined.proofs.Prelude.{wrap, IsFullProfile, Profile, Memory, Registers, Instr, Jal, Jalr, Branch, Store, Immediate, Ecall, Ebreak, Addi, BranchOp, Beq, StoreOp, Sd, Hart, address, offset, Place, Member, Mask, Shifts, Short, Long, TargetWord, First, Third, Sites, flow_of, InWord, only, InBranch, branch_test, branch_jump, InGuarded, guarded_load, guarded_test, guarded_other, guarded_call, InStores, stores_mask, stores_store, shifts_addi, shifts_slli, shifts_srli, short_and, long_addi, long_and, InPush, push_slli, push_bne, push_deep, push_auipc, push_addi, push_store, push_grow, InCall, call_push, call_jump, InCheck, check_addi, check_andi, check_lui, check_sub, check_srli, check_region, check_outside, check_lw, check_label, check_opcode, check_word, check_other, InIjump, ijump_check, ijump_jump, InIcall, icall_check, icall_push, icall_jump, InLean, lean_check, lean_upper, lean_lower, lean_jump, InEnter, enter_slli, enter_bne, enter_deep, enter_store, enter_grow, InLeafReturn, leaf_jump, InReturn, return_ld, return_addi, return_beq, return_other, return_jump, InOpening, opening_lone, opening_own, opening_call, InClosing, closing_number, closing_ecall, InUnit, HasLabel, destination, member_instr, place_instrs, place_size, OPENING, call_at, set_up, slot, MOST_PENDING, is_lean, BAD_TARGET, BAD_RETURN, DEEP, CheckFits, Fits, Reaches, check, is_plain, jump, jump_offset, mask_made, near_offset, push, skip_offset, InLone, InOwn, InSetUp, stands_in, edge_of, IsHandler, LeadsOver}
use Rattle.rv_image.proofs.Profiles.{full_saves, laid_out}
use Rattle.cfi_unit.specs.declared.place.Place.TheVariants.{Handler as handler, Opening as opening, Closing as closing, Body as body}
use Rattle.cfi_unit.specs.declared.unit.SystemOp.TheVariants as S
use Rattle.cfi_unit.specs.declared.unit.Unit as U
use Rattle.cfi_unit.specs.declared.unit.Unit.TheVariants as V
use Rattle.cfi_unit.specs.Flow as F
use Rattle.cfi_unit.specs.Flow.{Exit}
use Rattle.cfi_unit.proofs.ComputedUnits.{arrives}
use Rattle.cfi_unit.proofs.Context.{slice_get-back, slice_get-front}
use Rattle.cfi_unit.proofs.GuardedWords.{test_leads, unit_call, unit_jump, unit_load, unit_test}
use Rattle.cfi_unit.proofs.MemberWords.{member_at}
use Rattle.cfi_unit.proofs.PlaceWords.{lone_word, own_word}
use Rattle.cfi_unit.proofs.Parts.{call_site, opening_parts, set_up_length}
use Rattle.cfi_unit.proofs.StoreUnit.{member_address}
use Rattle.cfi_unit.proofs.LeanUnits.{arrives_beyond}
use Rattle.cfi_pending.specs.Opening as lean
use Rattle.cfi_rules.proofs.LeanOpening.{IsLeanOpening}

-- no site is put on top or taken off
abbrev pub keeps_by : Sites → Exit → Bool
keeps_by F.keeps F.linked = false
keeps_by F.keeps exit = true
keeps_by F.saves exit = true
keeps_by other exit = false

abbrev pub Keeps : Place → Type 0
Keeps handler = Unit {0}
Keeps (opening entry) = ⊥
Keeps closing = Unit {0}
Keeps (body unit) = keeps_by (flow_of unit).sites (flow_of unit).exit ≡ true

-- so where word `k` of a place is led to: it is inside, or the place keeps the sites
abbrev pub Kept : Profile → Place → ℕ → Type 0
Kept p place k = (4 * k < place_size p place) ⊎ Keeps place

-- x1 and x31 are the newest site
abbrev pub AreNewest : List ℕ → ℕ → ℕ → Type 0
AreNewest [] x1 x31 = ⊥
AreNewest (site ∷ stacked) x1 x31 = (x1 ≡ site) × (x31 ≡ site)

-- where a unit stands that stands in no lean code, callers save sites
pub caller_saves : (callee_saves : Bool) (unit : U.Unit) → is_lean unit ≡ false → stands_in callee_saves unit ≡ true → callee_saves ≡ false
caller_saves false unit full stands = refl
caller_saves true unit full stands = absurd (cc)

-- no branch, no jump and no store
abbrev is_quiet : Instr → Bool
is_quiet (Branch op rs1 rs2 imm) = false
is_quiet (Jal rd imm) = false
is_quiet (Jalr rd rs1 imm) = false
is_quiet (Store op rs1 rs2 imm) = false
is_quiet other = true

plain_quiet : (i : Instr) → is_plain i ≡ true → is_quiet i ≡ true
plain_quiet (Branch op rs1 rs2 imm) plain = absurd (cc)
plain_quiet (Jal rd imm) plain = absurd (cc)
plain_quiet (Jalr rd rs1 imm) plain = absurd (cc)
plain_quiet (Store op rs1 rs2 imm) plain = absurd (cc)
plain_quiet other plain = refl

halted : (a to : ℕ) → a ≡ to → IsHandler to → IsHandler a
halted a to e is = subst IsHandler (sym e) is

-- of the pending sites the shadow stack holds some, at whose end x3 points
module _ (p : Profile) (part : ℕ) (image : Memory) (at : ℕ) (stacked : List ℕ) (r : Registers) (h : Hart) where
  -- an `ecall` of the place, to which word `k` leads
  pub record ToEcall (place : Place) (k to : ℕ) : Type 0 where
    pub word : ℕ
    pub low : k < word
    pub high : word ≤ k + 16
    pub is : slice_get (place_instrs p place at) word ≡ Some Ecall
    pub here : to ≡ at + 4 * word

  abbrev pub BranchFact : Place → ℕ → ℕ → Type 0
  BranchFact place k to =
      Kept p place (k + 1)
      × (((to ≡ at + 4 * (k + 2)) × Kept p place (k + 2)) ⊎ ((ToEcall place k to ⊎ ((k ≡ 0) × (edge_of place ≡ Some to))) × Keeps place))

  -- a jump is the first word of a place, or the second, behind a branch over it
  abbrev pub JumpFact : Place → ℕ → ℕ → Type 0
  JumpFact place k to =
      IsHandler to ⊎ (((k ≡ 0) ⊎ ((k ≡ 1) × (i : Instr) × (slice_get (place_instrs p place at) 0 ≡ Some i) × LeadsOver (Some i))) × (edge_of place ≡ Some to) × Keeps place)

  abbrev pub CallFact : Place → ℕ → ℕ → Type 0
  CallFact (opening entry) k to = (entry ≡ to) × (at + 4 * k ≡ p.opening_call)
  CallFact (body (V.Call target)) k to = (target ≡ to) × (k ≡ 7)
  CallFact (body (V.LinkCall target)) k to = (target ≡ to) × (k ≡ 0)
  CallFact other k to = ⊥

  abbrev pub ComputedFact : Place → ℕ → ℕ → ℕ → Type 0
  ComputedFact (body (V.Ijump which rs1 imm label)) k rd to =
      (rd ≡ 0) × (k ≡ 12) × HasLabel image which label (destination r rs1 imm) × (to ≡ destination r rs1 imm)
  ComputedFact (body (V.Icall rs1 imm label)) k rd to =
      (rd ≡ 1) × (k ≡ 19) × HasLabel image First label (destination r rs1 imm) × (to ≡ destination r rs1 imm)
  ComputedFact (body (V.LeanIjump rs1 imm label)) k rd to =
      (rd ≡ 0) × (k ≡ 14) × HasLabel image First label (destination r rs1 imm) × (to ≡ destination r rs1 imm)
  ComputedFact (body (V.LeanIcall rs1 imm label)) k rd to =
      (rd ≡ 1) × (k ≡ 14) × HasLabel image Third label (destination r rs1 imm) × (to ≡ destination r rs1 imm + 8)
  ComputedFact (body V.Return) k rd to = (rd ≡ 0) × (k ≡ 4) × (to ≡ address h 31 0 / 2 * 2) × AreNewest stacked (r 1) (h.regs 31)
  ComputedFact (body V.LeafReturn) k rd to = (rd ≡ 0) × (k ≡ 0) × (to ≡ address h 1 0 / 2 * 2) × (h.regs 1 ≡ r 1)
  ComputedFact other k rd to = ⊥

  -- where callees save sites, an enter alone stores to the shadow stack: what x1 was at its start
  abbrev pub SavesLink : Bool → Place → StoreOp → ℕ → Type 0
  SavesLink false place op rs2 = Unit {0}
  SavesLink true place op rs2 = (place ≡ body V.Enter) × (op ≡ Sd) × (rs2 ≡ 1) × (h.regs 1 ≡ r 1)

  full_link : (callee_saves : Bool) (place : Place) (op : StoreOp) (rs2 : ℕ) → callee_saves ≡ false → SavesLink callee_saves place op rs2
  full_link false place op rs2 full = tt
  full_link true place op rs2 full = absurd (cc)

  enter_link : (callee_saves : Bool) → h.regs 1 ≡ r 1 → SavesLink callee_saves (body V.Enter) Sd 1
  enter_link false x1 = tt
  enter_link true x1 = (refl, refl, refl, x1)

  -- a store writes the next slot, or data
  abbrev pub StoreFact : Place → StoreOp → ℕ → ℕ → Type 0
  StoreFact place op rs2 a =
      ((a ≡ slot part (length stacked)) × (length stacked < MOST_PENDING) × SavesLink p.callee_saves place op rs2) ⊎ (a < 2 ^ 28 + 2 ^ 11)

  -- what is known of the instruction that is word `k`
  abbrev pub Fact : Place → ℕ → Instr → Type 0
  Fact place k (Branch op rs1 rs2 imm) = BranchFact place k (wrap (at + 4 * k + offset 13 (imm * 2)))
  Fact place k (Jal rd imm) =
      ((rd ≡ 0) × JumpFact place k (wrap (at + 4 * k + offset 21 (imm * 2))))
      ⊎ ((rd ≡ 1) × CallFact place k (wrap (at + 4 * k + offset 21 (imm * 2))))
  Fact place k (Jalr rd rs1 imm) = ComputedFact place k rd (address h rs1 imm / 2 * 2)
  Fact place k (Store op rs1 rs2 imm) = Kept p place (k + 1) × StoreFact place op rs2 (address h rs1 imm)
  Fact place k other = Kept p place (k + 1)

  quiet_fact : (place : Place) (k : ℕ) (i : Instr) → is_quiet i ≡ true → Kept p place (k + 1) → Fact place k i
  quiet_fact place k (Branch op rs1 rs2 imm) quiet kept = absurd (cc)
  quiet_fact place k (Jal rd imm) quiet kept = absurd (cc)
  quiet_fact place k (Jalr rd rs1 imm) quiet kept = absurd (cc)
  quiet_fact place k (Store op rs1 rs2 imm) quiet kept = absurd (cc)
  quiet_fact place k other quiet kept = kept

  pub record Here (place : Place) : Type 0 where
    pub word : ℕ
    pub instr : Instr
    pub is : slice_get (place_instrs p place at) word ≡ Some instr
    pub pc : h.pc ≡ at + 4 * word
    pub fact : Fact place word instr

  here : (place : Place) (k : ℕ) (i : Instr) → slice_get (place_instrs p place at) k ≡ Some i → h.pc ≡ at + 4 * k → Fact place k i → Here place
  here place k i is e fact = record { word = k; instr = i; is = is; pc = e; fact = fact }

  module _ (small : at < 2 ^ 32) (low : part < 2 ^ 32) where
    -- the words of a check, with which a place begins
    module _ (place : Place) (rs1 imm label : ℕ) (which : TargetWord) (fits : CheckFits at rs1 imm label) (room : 48 < place_size p place)
        (front : (k : ℕ) (i : Instr) → slice_get (check at rs1 imm label which) k ≡ Some i → slice_get (place_instrs p place at) k ≡ Some i) where
      check_here : {sum v n : ℕ} → InCheck part image which at rs1 imm label sum v n h → Here place
      check_here (check_addi e x3 is) = here place 0 _ (front 0 _ refl) (omega arith) (inl (omega arith))
      check_here (check_andi e x3 x31) = here place 1 _ (front 1 _ refl) e (inl (omega arith))
      check_here (check_lui e x3 x31) = here place 2 _ (front 2 _ refl) e (inl (omega arith))
      check_here (check_sub e x3 x31 x30) = here place 3 _ (front 3 _ refl) e (inl (omega arith))
      check_here (check_srli e x3 x31 x30) = here place 4 _ (front 4 _ refl) e (inl (omega arith))
      check_here (check_region e x3 x31 x30) = here place 5 _ (front 5 _ refl) e (inl (omega arith), inl (omega arith, inl (omega arith)))
      check_here (check_outside e x3 out) = here place 6 _ (front 6 _ refl) e (inl (refl, inl (halted _ BAD_TARGET fits.3 (lit≤ tt, lit< tt))))
      check_here (check_lw e x3 x31 code) = here place 7 _ (front 7 _ refl) e (inl (omega arith))
      check_here (check_label e x3 x31 code x30) = here place 8 _ (front 8 _ refl) e (inl (omega arith))
      check_here (check_opcode e x3 x31 code x30 x4) = here place 9 _ (front 9 _ refl) e (inl (omega arith))
      check_here (check_word e x3 x31 code x30 x4) = here place 10 _ (front 10 _ refl) e (inl (omega arith), inl (omega arith, inl (omega arith)))
      check_here (check_other e x3 out) = here place 11 _ (front 11 _ refl) e (inl (refl, inl (halted _ BAD_TARGET fits.4 (lit≤ tt, lit< tt))))

    -- the words of a push, after some others and before one
    module _ (saves : p.callee_saves ≡ false) (place : Place) (front : List Instr) (last : Instr) (from : ℕ) (whole : place_instrs p place at ≡ front ++ (push from ++ last ∷ []))
        (base : from ≡ at + 4 * length front) (few : length front < 20) (room : 4 * (length front + 7) < place_size p place) (deep : Reaches (from + 8) DEEP) where
      get : (k : ℕ) (i : Instr) → slice_get (push from ++ last ∷ []) k ≡ Some i → slice_get (place_instrs p place at) (length front + k) ≡ Some i
      get k i is = ap (λ l. slice_get l (length front + k)) whole ∙ slice_get-back front (push from ++ last ∷ []) k ∙ is

      push_here : {v : ℕ} {m : Memory} → InPush part from v (length stacked) h m → Here place
      push_here (push_slli e x31 x3) = here place (length front + 0) _ (get 0 _ refl) (omega arith) (inl (omega arith))
      push_here (push_bne e x31 x3 x30) =
          here place (length front + 1) _ (get 1 _ refl) (omega arith) (inl (omega arith), inl (omega arith, inl (omega arith)))
      push_here (push_deep e x31 x3 full) =
          let jumps : wrap (at + 4 * (length front + 2) + offset 21 (jump_offset (from + 8) DEEP * 2)) ≡ DEEP =
          ap (λ a. wrap (a + offset 21 (jump_offset (from + 8) DEEP * 2))) (let z : at + 4 * (length front + 2) ≡ from + 8 = omega arith in z) ∙ deep in
          here place (length front + 2) _ (get 2 _ refl) (omega arith) (inl (refl, inl (halted _ DEEP jumps (lit≤ tt, lit< tt))))
      push_here (push_auipc e x31 x3 some) = here place (length front + 3) _ (get 3 _ refl) (omega arith) (inl (omega arith))
      push_here (push_addi e x31 x3 some x30) = here place (length front + 4) _ (get 4 _ refl) (omega arith) (inl (omega arith))
      push_here (push_store e x31 x3 some x30) =
          let to : address h 3 0 ≡ slot part (length stacked) = omega arith in
          here place (length front + 5) _ (get 5 _ refl) (omega arith) (inl (omega arith), inl (to, some, full_link p.callee_saves place Sd 30 saves))
      push_here (push_grow e x31 x3 some stored) = here place (length front + 6) _ (get 6 _ refl) (omega arith) (inl (omega arith))

    branch_here : (op : BranchOp) (rs1 rs2 target : ℕ) {n : ℕ} → Fits (V.Branch op rs1 rs2 target) at → InBranch part at n h → Here (body (V.Branch op rs1 rs2 target))
    branch_here op rs1 rs2 target fits (branch_test e x3) =
        here (body (V.Branch op rs1 rs2 target)) 0 _ refl (omega arith) (inr refl, inl (omega arith, inr refl))
    branch_here op rs1 rs2 target fits (branch_jump e x3) =
        here (body (V.Branch op rs1 rs2 target)) 1 _ refl e (inl (refl, inr (inr (refl, Branch op rs1 rs2 skip_offset, refl, refl), ap Some (sym fits.2), refl)))

    guarded_here : (ns : List ℕ) {x n : ℕ} → Fits (V.Guarded ns) at → InGuarded part at ns x n h → Here (body (V.Guarded ns))
    guarded_here ns fits (guarded_load k below e x3 x17 none) =
        let (n, (few, (is, there))) = unit_load ns at k fits.0.each below in
        here (body (V.Guarded ns)) (2 * k) (Immediate Addi 31 0 n) there e (inr refl)
    guarded_here ns fits (guarded_test k number is e x3 x17 none x31) =
        let below = slice_get_within ns k number is in
        let most = fits.0.most in
        let to = test_leads (at + 4 * (2 * k + 1)) (at + 4 * (2 * k + 1)) (length ns - k) refl (omega arith) (omega arith) in
        here (body (V.Guarded ns)) (2 * k + 1) (Branch Beq 31 17 (4 * (length ns - k))) (unit_test ns at k below) e
        (inr refl, inr (inl (record { word = 2 * length ns + 1; low = omega arith; high = omega arith; is = unit_call ns at; here = to ∙ omega arith }), refl))
    guarded_here ns fits (guarded_other e x3 none) =
        let jumps : wrap (at + 4 * (2 * length ns) + offset 21 (jump_offset (at + 8 * length ns) BAD_TARGET * 2)) ≡ BAD_TARGET =
        ap (λ a. wrap (a + offset 21 (jump_offset (at + 8 * length ns) BAD_TARGET * 2))) (let z : at + 4 * (2 * length ns) ≡ at + 8 * length ns = omega arith in z) ∙ fits.1 in
        here (body (V.Guarded ns)) (2 * length ns) (jump (at + 8 * length ns) BAD_TARGET) (unit_jump ns at) e (inl (refl, inl (halted _ BAD_TARGET jumps (lit≤ tt, lit< tt))))
    guarded_here ns fits (guarded_call e x3 x17 listed) = here (body (V.Guarded ns)) (2 * length ns + 1) Ecall (unit_call ns at) e (inr refl)

    member_here : (mask : Mask) (rs1 imm : ℕ) (members : List Member) (k word : ℕ) → Fits (V.Stores mask rs1 imm members) at → k < length members →
        ((m : Member) → slice_get (map member_instr members) k ≡ Some (member_instr m) →
        slice_get (place_instrs p (body (V.Stores mask rs1 imm members)) at) word ≡ Some (member_instr m)) →
        h.pc ≡ at + 4 * word → h.regs 31 < 2 ^ 28 → Here (body (V.Stores mask rs1 imm members))
    member_here mask rs1 imm members k word fits below behind e masked =
        let (m, (is, there)) = member_at members k fits.2.each below in
        let near = is.1 in
        let to : address h 31 m.distance ≡ h.regs 31 + m.distance = member_address (h.regs 31) (h.regs 31) m.distance refl masked near in
        here (body (V.Stores mask rs1 imm members)) word (member_instr m) (behind m there) e (inr refl, inr (omega arith))

    shifts_here : (rs1 imm : ℕ) (members : List Member) {n : ℕ} → Fits (V.Stores Shifts rs1 imm members) at → InStores Shifts part at (length members) n h →
        Here (body (V.Stores Shifts rs1 imm members))
    shifts_here rs1 imm members fits (stores_mask (shifts_addi e x3)) = here (body (V.Stores Shifts rs1 imm members)) 0 _ refl (omega arith) (inr refl)
    shifts_here rs1 imm members fits (stores_mask (shifts_slli e x3)) = here (body (V.Stores Shifts rs1 imm members)) 1 _ refl e (inr refl)
    shifts_here rs1 imm members fits (stores_mask (shifts_srli e x3 masked)) = here (body (V.Stores Shifts rs1 imm members)) 2 _ refl e (inr refl)
    shifts_here rs1 imm members fits (stores_store k below e x3 masked) = member_here Shifts rs1 imm members k (suc (suc (suc k))) fits below (λ m is. is) (omega arith) masked

    short_here : (rs1 imm : ℕ) (members : List Member) {n : ℕ} → Fits (V.Stores Short rs1 imm members) at → InStores Short part at (length members) n h →
        Here (body (V.Stores Short rs1 imm members))
    short_here rs1 imm members fits (stores_mask (short_and e x3 x4)) = here (body (V.Stores Short rs1 imm members)) 0 _ refl (omega arith) (inr refl)
    short_here rs1 imm members fits (stores_store k below e x3 masked) = member_here Short rs1 imm members k (suc k) fits below (λ m is. is) (omega arith) masked

    long_here : (rs1 imm : ℕ) (members : List Member) {n : ℕ} → Fits (V.Stores Long rs1 imm members) at → InStores Long part at (length members) n h →
        Here (body (V.Stores Long rs1 imm members))
    long_here rs1 imm members fits (stores_mask (long_addi e x3 x4)) = here (body (V.Stores Long rs1 imm members)) 0 _ refl (omega arith) (inr refl)
    long_here rs1 imm members fits (stores_mask (long_and e x3 x4)) = here (body (V.Stores Long rs1 imm members)) 1 _ refl e (inr refl)
    long_here rs1 imm members fits (stores_store k below e x3 masked) = member_here Long rs1 imm members k (suc (suc k)) fits below (λ m is. is) (omega arith) masked

    return_here : {site n : ℕ} (older : List ℕ) → stacked ≡ site ∷ older → Fits V.Return at → InReturn part at (r 1) site n h → Here (body V.Return)
    return_here older new fits (return_ld e x3 x1) = here (body V.Return) 0 _ refl (omega arith) (inl (omega arith))
    return_here older new fits (return_addi e x3 x1 x31) = here (body V.Return) 1 _ refl e (inl (omega arith))
    return_here older new fits (return_beq e x3 x1 x31) = here (body V.Return) 2 _ refl e (inl (omega arith), inl (omega arith, inl (omega arith)))
    return_here older new fits (return_other e x3 apart) = here (body V.Return) 3 _ refl e (inl (refl, inl (halted _ BAD_RETURN fits (lit≤ tt, lit< tt))))
    return_here older new fits (return_jump e x3 same x31) =
        here (body V.Return) 4 _ refl e (refl, refl, refl, subst (λ (l : List ℕ). AreNewest l (r 1) (h.regs 31)) (sym new) (same, x31))

    call_here : (target : ℕ) {v : ℕ} {m : Memory} → p.callee_saves ≡ false → Fits (V.Call target) at → InCall part at v (length stacked) h m → Here (body (V.Call target))
    call_here target saves fits (call_push i) =
        push_here saves (body (V.Call target)) [] (Jal 1 (jump_offset (at + 28) target)) at refl (omega arith) (omega arith) (omega arith) fits.0 i
    call_here target saves fits (call_jump e pushed) = here (body (V.Call target)) 7 _ refl e (inr (refl, (sym fits.1, refl)))

    ijump_here : (which : TargetWord) (rs1 imm label : ℕ) {n : ℕ} → Fits (V.Ijump which rs1 imm label) at → {sum : ℕ} →
        InIjump part image which at rs1 imm label sum (destination r rs1 imm) n h → Here (body (V.Ijump which rs1 imm label))
    ijump_here which rs1 imm label fits (ijump_check i) =
        check_here (body (V.Ijump which rs1 imm label)) rs1 imm label which fits (omega arith)
        (λ k j is. slice_get-front (check at rs1 imm label which) (Jalr 0 31 0 ∷ []) k j is) i
    ijump_here which rs1 imm label fits (ijump_jump e checked) =
        here (body (V.Ijump which rs1 imm label)) 12 _ refl e
        (refl, refl, checked.legal, arrives h (destination r rs1 imm) checked.destination_is checked.legal)

    icall_here : (rs1 imm label : ℕ) {m : Memory} → p.callee_saves ≡ false → Fits (V.Icall rs1 imm label) at → {sum : ℕ} →
        InIcall part image at rs1 imm label sum (destination r rs1 imm) (length stacked) h m → Here (body (V.Icall rs1 imm label))
    icall_here rs1 imm label saves fits (icall_check i) =
        check_here (body (V.Icall rs1 imm label)) rs1 imm label First fits.0 (omega arith)
        (λ k j is. slice_get-front (check at rs1 imm label First) (push (at + 48) ++ Jalr 1 31 0 ∷ []) k j is) i
    icall_here rs1 imm label saves fits (icall_push legal i) =
        let next : at + 56 ≡ at + 48 + 8 = omega arith in
        push_here saves (body (V.Icall rs1 imm label)) (check at rs1 imm label First) (Jalr 1 31 0) (at + 48) refl refl (omega arith) (omega arith)
        (subst (λ a. Reaches a DEEP) next fits.1) i
    icall_here rs1 imm label saves fits (icall_jump e legal pushed) =
        here (body (V.Icall rs1 imm label)) 19 _ refl e (refl, refl, legal, arrives h (destination r rs1 imm) pushed.kept legal)

    lean_ijump_here : (rs1 imm label : ℕ) {n : ℕ} → Fits (V.LeanIjump rs1 imm label) at → {sum : ℕ} →
        InLean part image First at rs1 imm label sum (destination r rs1 imm) n h → Here (body (V.LeanIjump rs1 imm label))
    lean_ijump_here rs1 imm label fits (lean_check i) =
        check_here (body (V.LeanIjump rs1 imm label)) rs1 imm label First fits (omega arith)
        (λ k j is. slice_get-front (check at rs1 imm label First) (mask_made ++ Jalr 0 31 0 ∷ []) k j is) i
    lean_ijump_here rs1 imm label fits (lean_upper e checked) = here (body (V.LeanIjump rs1 imm label)) 12 _ refl e (inr refl)
    lean_ijump_here rs1 imm label fits (lean_lower e checked x4) = here (body (V.LeanIjump rs1 imm label)) 13 _ refl e (inr refl)
    lean_ijump_here rs1 imm label fits (lean_jump e checked x4) =
        here (body (V.LeanIjump rs1 imm label)) 14 _ refl e
        (refl, refl, checked.legal, arrives h (destination r rs1 imm) checked.destination_is checked.legal)

    lean_icall_here : (rs1 imm label : ℕ) {n : ℕ} → Fits (V.LeanIcall rs1 imm label) at → {sum : ℕ} →
        InLean part image Third at rs1 imm label sum (destination r rs1 imm) n h → Here (body (V.LeanIcall rs1 imm label))
    lean_icall_here rs1 imm label fits (lean_check i) =
        check_here (body (V.LeanIcall rs1 imm label)) rs1 imm label Third fits (omega arith)
        (λ k j is. slice_get-front (check at rs1 imm label Third) (mask_made ++ Jalr 1 31 8 ∷ []) k j is) i
    lean_icall_here rs1 imm label fits (lean_upper e checked) = here (body (V.LeanIcall rs1 imm label)) 12 _ refl e (inl (omega arith))
    lean_icall_here rs1 imm label fits (lean_lower e checked x4) = here (body (V.LeanIcall rs1 imm label)) 13 _ refl e (inl (omega arith))
    lean_icall_here rs1 imm label fits (lean_jump e checked x4) =
        here (body (V.LeanIcall rs1 imm label)) 14 _ refl e
        (refl, refl, checked.legal, arrives_beyond h (destination r rs1 imm) checked.destination_is checked.legal)

    enter_here : {m : Memory} → Fits V.Enter at → InEnter part at (r 1) (length stacked) h m → Here (body V.Enter)
    enter_here fits (enter_slli e x3 x1) = here (body V.Enter) 0 _ refl (omega arith) (inr refl)
    enter_here fits (enter_bne e x3 x1 x30) = here (body V.Enter) 1 _ refl e (inr refl, inl (omega arith, inr refl))
    enter_here fits (enter_deep e x3 full) = here (body V.Enter) 2 _ refl e (inl (refl, inl (halted _ DEEP fits (lit≤ tt, lit< tt))))
    enter_here fits (enter_store e x3 x1 some) =
        let to : address h 3 0 ≡ slot part (length stacked) = omega arith in
        here (body V.Enter) 3 _ refl e (inr refl, inl (to, some, enter_link p.callee_saves x1))
    enter_here fits (enter_grow e x3 some stored) = here (body V.Enter) 4 _ refl e (inr refl)

    leaf_here : {n : ℕ} → InLeafReturn part at (r 1) n h → Here (body V.LeafReturn)
    leaf_here (leaf_jump e x3 x1) = here (body V.LeafReturn) 0 _ refl (omega arith) (refl, refl, refl, x1)

    first : (bits imm to : ℕ) → wrap (at + offset bits imm) ≡ to → wrap (at + 4 * 0 + offset bits imm) ≡ to
    first bits imm to e = ap (λ a. wrap (a + offset bits imm)) (let z : at + 4 * 0 ≡ at = omega arith in z) ∙ e

    word_here : (unit : U.Unit) (i : Instr) {n : ℕ} → slice_get (place_instrs p (body unit) at) 0 ≡ Some i → Fact (body unit) 0 i → InWord part at n h → Here (body unit)
    word_here unit i is fact (only e x3) = here (body unit) 0 i is (omega arith) fact

    any_return_here : (m : Memory) (sites : List ℕ) → stacked ≡ sites → Fits V.Return at → InUnit part image V.Return at sites r h m → Here (body V.Return)
    any_return_here m [] none fits i = absurd i
    any_return_here m (site ∷ older) new fits i = return_here older new fits i

    pub unit_here : (unit : U.Unit) (m : Memory) → stands_in p.callee_saves unit ≡ true → Fits unit at → InUnit part image unit at stacked r h m → Here (body unit)
    unit_here (V.Gate label) m stands fits i = word_here (V.Gate label) _ refl (inr refl) i
    unit_here (V.Plain instr) m stands fits i = word_here (V.Plain instr) instr refl (quiet_fact (body (V.Plain instr)) 0 instr (plain_quiet instr fits.1) (inr refl)) i
    unit_here (V.Branch op rs1 rs2 target) m stands fits i = branch_here op rs1 rs2 target fits i
    unit_here (V.Near op rs1 rs2 target) m stands fits i =
        word_here (V.Near op rs1 rs2 target) _ refl (inr refl, inr (inr (refl, ap Some (sym (first 13 (near_offset at target * 2) target fits.2))), refl)) i
    unit_here (V.Jump target) m stands fits i =
        word_here (V.Jump target) _ refl (inl (refl, inr (inl refl, ap Some (sym (first 21 (jump_offset at target * 2) target fits.1)), refl))) i
    unit_here V.Stop m stands fits i =
        word_here V.Stop _ refl (inl (refl, inl (halted _ BAD_TARGET (first 21 (jump_offset at BAD_TARGET * 2) BAD_TARGET fits) (lit≤ tt, lit< tt)))) i
    unit_here (V.System S.Ecall) m stands fits i = word_here (V.System S.Ecall) _ refl (inr refl) i
    unit_here (V.System S.Ebreak) m stands fits i = word_here (V.System S.Ebreak) _ refl (inr refl) i
    unit_here (V.Guarded ns) m stands fits i = guarded_here ns fits i
    unit_here (V.Stores Shifts rs1 imm members) m stands fits i = shifts_here rs1 imm members fits i
    unit_here (V.Stores Short rs1 imm members) m stands fits i = short_here rs1 imm members fits i
    unit_here (V.Stores Long rs1 imm members) m stands fits i = long_here rs1 imm members fits i
    unit_here (V.Call target) m stands fits i = call_here target (caller_saves p.callee_saves (V.Call target) refl stands) fits i
    unit_here (V.Ijump which rs1 imm label) m stands fits i = ijump_here which rs1 imm label fits i
    unit_here (V.Icall rs1 imm label) m stands fits i = icall_here rs1 imm label (caller_saves p.callee_saves (V.Icall rs1 imm label) refl stands) fits i
    unit_here V.Return m stands fits i = any_return_here m stacked refl fits i
    unit_here (V.LinkCall target) m stands fits i =
        word_here (V.LinkCall target) _ refl (inr (refl, (sym (first 21 (jump_offset at target * 2) target fits), refl))) i
    unit_here V.Enter m stands fits i = enter_here fits i.1
    unit_here (V.LeanIjump rs1 imm label) m stands fits i = lean_ijump_here rs1 imm label fits i
    unit_here (V.LeanIcall rs1 imm label) m stands fits i = lean_icall_here rs1 imm label fits i
    unit_here V.LeafReturn m stands fits i = leaf_here i

    pub closing_here : InClosing at h → Here closing
    closing_here (closing_number e) = here closing 0 _ refl (omega arith) (inr tt)
    closing_here (closing_ecall e x17) = here closing 1 _ refl e (inr tt)

    pub handler_here : h.pc ≡ at → Here handler
    handler_here e = here handler 0 Ebreak refl (omega arith) (inr tt)

-- the words of an opening's set-up lead to the next one
set_up_quiet : (p : Profile) → IsFullProfile p → list_all is_quiet (set_up p) ≡ true
set_up_quiet p (inl e) = subst (λ (q : Profile). list_all is_quiet (set_up q) ≡ true) (sym e) refl
set_up_quiet p (inr e) = subst (λ (q : Profile). list_all is_quiet (set_up q) ≡ true) (sym e) refl

one_quiet : (instrs : List Instr) (k : ℕ) (i : Instr) → list_all is_quiet instrs ≡ true → slice_get instrs k ≡ Some i → is_quiet i ≡ true
one_quiet [] k i all is = absurd (cc)
one_quiet (j ∷ instrs) zero i all is = ap is_quiet (sym (same_Some j i is)) ∙ (and_parts _ _ all).0
one_quiet (j ∷ instrs) (suc k) i all is = one_quiet instrs k i (and_parts _ _ all).1 is

-- the opening's words, where callers save sites
module _ (p : Profile) (is : IsFullProfile p) (part : ℕ) (low : part < 2 ^ 32) (image : Memory) (r : Registers) (h : Hart) (entry : ℕ) (fits : Fits (V.Call entry) (call_at p)) where
  abbrev OpeningHere : Type 0
  OpeningHere = Here p part image OPENING [] r h (opening entry)

  get_whole : (k : ℕ) (i : Instr) → slice_get (set_up p ++ (push (call_at p) ++ Jal 1 (jump_offset (call_at p + 28) entry) ∷ [])) k ≡ Some i →
      slice_get (place_instrs p (opening entry) OPENING) k ≡ Some i
  get_whole k i found = ap (λ l. slice_get l k) (opening_parts p is entry) ∙ found

  set_up_here : (k : ℕ) → k < length (set_up p) → h.pc ≡ OPENING + 4 * k → OpeningHere
  set_up_here k below e =
      let site = call_site p is in let set = set_up_length p is in
      elim (slice_get_cases (set_up p) k).1 [
        | inl (i, within, found, same) ↦
            here p part image OPENING [] r h (opening entry) k i (get_whole k i (slice_get-front (set_up p) _ k i found)) e
            (quiet_fact p part image OPENING [] r h (opening entry) k i (one_quiet (set_up p) k i (set_up_quiet p is) found) (inl (omega arith)))
        | inr past ↦ let beyond = past.0 in absurd (omega arith)
      ]

  calling_here : {v : ℕ} {m : Memory} → InCall part (call_at p) v 0 h m → OpeningHere
  calling_here (call_push i) =
      let site = call_site p is in let set = set_up_length p is in let layout = laid_out p (inl is) in
      push_here p part image OPENING [] r h (lit< tt) low (full_saves p is) (opening entry) (set_up p) (Jal 1 (jump_offset (call_at p + 28) entry)) (call_at p)
      (opening_parts p is entry) (sym set) (omega arith) (omega arith) fits.0 i
  calling_here (call_jump e pushed) =
      let site = call_site p is in let set = set_up_length p is in let layout = laid_out p (inl is) in
      let to : OPENING + 4 * (length (set_up p) + 7) ≡ call_at p + 28 = omega arith in
      let leads : wrap (OPENING + 4 * (length (set_up p) + 7) + offset 21 (jump_offset (call_at p + 28) entry * 2)) ≡ entry =
      ap (λ a. wrap (a + offset 21 (jump_offset (call_at p + 28) entry * 2))) to ∙ fits.1 in
      here p part image OPENING [] r h (opening entry) (length (set_up p) + 7) (Jal 1 (jump_offset (call_at p + 28) entry))
      (get_whole (length (set_up p) + 7) _ (slice_get-back (set_up p) (push (call_at p) ++ Jal 1 (jump_offset (call_at p + 28) entry) ∷ []) 7)) (omega arith)
      (inr (refl, (sym leads, omega arith)))

  pub opening_here : {m : Memory} → InOpening p part h m → OpeningHere
  opening_here (opening_lone version i) =
      let (k, below, e) = lone_word i in let call = ap call_at version in let set = set_up_length p is in set_up_here k (omega arith) e
  opening_here (opening_own version i) =
      let (k, below, e) = own_word i in let call = ap call_at version in let set = set_up_length p is in set_up_here k (omega arith) e
  opening_here (opening_call v i) = calling_here i

-- and where callees do
module _ (p : Profile) (several : Bool) (this : IsLeanOpening p several) (part : ℕ) (image : Memory) (r : Registers) (h : Hart) (entry : ℕ) where
  abbrev LeanHere : Type 0
  LeanHere = Here p part image OPENING [] r h (opening entry)

  lean_whole : (k : ℕ) (i : Instr) → slice_get (lean.opening_instrs several entry) k ≡ Some i → slice_get (place_instrs p (opening entry) OPENING) k ≡ Some i
  lean_whole k i found = ap (λ l. slice_get l k) (this.instrs entry) ∙ found

  lean_set_up : (k : ℕ) (i : Instr) → slice_get (lean.opening_instrs several entry) k ≡ Some i → is_quiet i ≡ true → OPENING + 4 * (k + 1) < lean.site_of several →
      h.pc ≡ OPENING + 4 * k → LeanHere
  lean_set_up k i found quiet below e =
      let site = this.site in
      here p part image OPENING [] r h (opening entry) k i (lean_whole k i found) e (quiet_fact p part image OPENING [] r h (opening entry) k i quiet (inl (omega arith)))

  lean_calling : (k : ℕ) → OPENING + 4 * k ≡ lean.call_at several →
      slice_get (lean.opening_instrs several entry) k ≡ Some (Jal 1 (jump_offset (lean.call_at several) entry)) → Fits (V.LinkCall entry) (lean.call_at several) →
      h.pc ≡ OPENING + 4 * k → LeanHere
  lean_calling k at found fits e =
      let leads : wrap (OPENING + 4 * k + offset 21 (jump_offset (lean.call_at several) entry * 2)) ≡ entry =
      ap (λ a. wrap (a + offset 21 (jump_offset (lean.call_at several) entry * 2))) at ∙ fits in
      here p part image OPENING [] r h (opening entry) k _ (lean_whole k _ found) e (inr (refl, (sym leads, at ∙ sym this.call)))

module _ (p : Profile) (part : ℕ) (image : Memory) (r : Registers) (h : Hart) (entry : ℕ) where
  lone_here : (this : IsLeanOpening p false) → Fits (V.LinkCall entry) (lean.call_at false) → InLone part h → LeanHere p false this part image r h entry
  lone_here this fits (lean.lone_stack e mine) = lean_set_up p false this part image r h entry 0 _ refl refl (omega arith) e
  lone_here this fits (lean.lone_mask e mine) = lean_set_up p false this part image r h entry 1 _ refl refl (omega arith) e
  lone_here this fits (lean.lone_less e mine x4) = lean_set_up p false this part image r h entry 2 _ refl refl (omega arith) e
  lone_here this fits (lean.lone_shadow e mine x4) = lean_set_up p false this part image r h entry 3 _ refl refl (omega arith) e
  lone_here this fits (lean.lone_slot e mine x4 x3) = lean_set_up p false this part image r h entry 4 _ refl refl (omega arith) e
  lone_here this fits (lean.lone_call e x4 x3) = lean_calling p false this part image r h entry 5 refl refl fits e

  own_here : (this : IsLeanOpening p true) → Fits (V.LinkCall entry) (lean.call_at true) → InOwn part h → LeanHere p true this part image r h entry
  own_here this fits (lean.own_stack e mine) = lean_set_up p true this part image r h entry 0 _ refl refl (omega arith) e
  own_here this fits (lean.own_mask e mine) = lean_set_up p true this part image r h entry 1 _ refl refl (omega arith) e
  own_here this fits (lean.own_less e mine x4) = lean_set_up p true this part image r h entry 2 _ refl refl (omega arith) e
  own_here this fits (lean.own_offset e mine x4) = lean_set_up p true this part image r h entry 3 _ refl refl (omega arith) e
  own_here this fits (lean.own_end e mine x4) = lean_set_up p true this part image r h entry 4 _ refl refl (omega arith) e
  own_here this fits (lean.own_shadow e mine x4) = lean_set_up p true this part image r h entry 5 _ refl refl (omega arith) e
  own_here this fits (lean.own_part_offset e mine x4 x3) = lean_set_up p true this part image r h entry 6 _ refl refl (omega arith) e
  own_here this fits (lean.own_part e mine x4 x3) = lean_set_up p true this part image r h entry 7 _ refl refl (omega arith) e
  own_here this fits (lean.own_slot e x3 x4) = lean_set_up p true this part image r h entry 8 _ refl refl (omega arith) e
  own_here this fits (lean.own_call e x4 x3) = lean_calling p true this part image r h entry 9 refl refl fits e

  pub lean_opening_here : (several : Bool) (this : IsLeanOpening p several) → Fits (V.LinkCall entry) (lean.call_at several) → InSetUp several part h →
      LeanHere p several this part image r h entry
  lean_opening_here true this fits i = own_here this fits i
  lean_opening_here false this fits i = lone_here this fits i
