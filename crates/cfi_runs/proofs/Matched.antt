-- A unit's flow, seen from the program: what the unit is left with matches what the program's own step leaves.
use Rattle.std.proofs.Common.{◌≡◌, ◌≢◌, ℕ, zero, suc, ◌+◌, ◌-◌, ◌*◌, ◌/◌, ◌^◌, ◌==◌, ◌≤◌, ◌<◌, ◌||◌, Bool, true, false, List, [], ◌∷◌, length, inl, inr, if◌then◌else◌, refl, sym, ap, subst, ◌∙◌, arith}
use Rattle.std.specs.List.{AllByRecursion, list_any}
use Rattle.std.proofs.lemmas.Bool.{cases_Bool, eqb-true, false≢true}
use Rattle.cfi_runs.proofs.Prelude.{Profile, SHADOW_START, Memory, write, is_listed, Registers, get_reg, set_reg, is_reserved, Instr, Ecall, Ebreak, BranchOp, branch_taken, store_size, Hart, Shared, After, exec, step, Ran, Member, TargetWord, First, Third, Act, Flow, flow_of, Fits, after_unit, instrs_of, word_count, MOST_PENDING, slot, Unchanged, ReturnsTo, HasLabel, sum_of, destination, CallsAt, SameRegisters, SameScratch, LeftTo, Executes, StoresEach, masked, pushed, stored_at, with_memory, ActDoes, CallDoes, EnterDoes, ExitDoes, FlowDoes, ReturnDoes, UnitDoes, Enters, MakesMask, UnitIsDone, is_lean, SameData, Matches, MatchesAfter, HoldsMask, Own, OwnAfter, calls, computed, executes, goes, links, own_act, own_exit, own_step, returns, saves, stored_all, SitesFit, ActTame, ExitTame, IsTame, NamesNoReserved, ReturnTame, TestTame, act_names, exit_names}
use Rattle.rv_word.proofs.Booleans.{is_self}
use Rattle.rv_code.proofs.Frames.{write_outside}
use Rattle.cfi_unit.specs.declared.unit.Unit as U
use Rattle.cfi_unit.specs.declared.unit.Unit.TheVariants as V
use Rattle.cfi_unit.specs.declared.unit.SystemOp.TheVariants as S
use Rattle.cfi_unit.specs.Flow as F
use Rattle.cfi_unit.specs.Flow.{Exit}
use Rattle.cfi_unit.proofs.Counts.{some_word}
use Rattle.cfi_unit.proofs.EffectSteps.{same_link}
use Rattle.cfi_unit.proofs.MaskKept.{unit_spares}
use Rattle.cfi_unit.proofs.Flows.{ActFits, Suits, act_fits, entered, is_single, is_untested, linked_back, linking_call, linking_computed_call, single_word, suits, untested, direct_call, guarded_call, computed_jump, computed_call, turned_back}
use Rattle.cfi_unit.proofs.PrologueEffect.{same_trans}
use Rattle.cfi_runs.specs.MatchLaws as law
use Rattle.cfi_runs.proofs.Alike.{AlikeAfter, sum_same, or_first, or_second, plain_alike, break_alike}
use Rattle.cfi_runs.proofs.AlikeCalls.{call_alike}
use Rattle.cfi_runs.proofs.Calmly.{within_weaker}
use Rattle.cfi_runs.proofs.Same.{get_same, write_alike, data_written}
use Rattle.cfi_runs.proofs.UnitRuns.{unit_runs}

-- the operands of a branch
first_free : (rs1 rs2 : ℕ) → ((k : ℕ) → (rs1 == k || rs2 == k) ≡ true → is_reserved k ≡ false) → is_reserved rs1 ≡ false
first_free rs1 rs2 free = free rs1 (or_first (rs1 == rs1) (rs2 == rs1) (is_self rs1))

second_free : (rs1 rs2 : ℕ) → ((k : ℕ) → (rs1 == k || rs2 == k) ≡ true → is_reserved k ≡ false) → is_reserved rs2 ≡ false
second_free rs1 rs2 free = free rs2 (or_second (rs1 == rs2) (rs2 == rs2) (is_self rs2))

-- the base of stores, and what they store
base_free : (rs1 : ℕ) (members : List Member) →
    ((k : ℕ) → (rs1 == k || list_any (λ (m : Member). m.value == k) members) ≡ true → is_reserved k ≡ false) → is_reserved rs1 ≡ false
base_free rs1 members free = free rs1 (or_first (rs1 == rs1) (list_any (λ (m : Member). m.value == rs1) members) (is_self rs1))

abbrev StoreFree : List Member → Type 0
StoreFree members = AllByRecursion (λ (m : Member). is_reserved m.value ≡ false) members

values_free : (members : List Member) → ((k : ℕ) → list_any (λ (m : Member). m.value == k) members ≡ true → is_reserved k ≡ false) →
    StoreFree members
values_free [] free = tt
values_free (m ∷ members) free = (
  free m.value (or_first (m.value == m.value) (list_any (λ (n : Member). n.value == m.value) members) (is_self m.value)),
  values_free members (λ k named. free k (or_second (m.value == k) (list_any (λ (n : Member). n.value == k) members) named)),
)

stores_free : (rs1 : ℕ) (members : List Member) →
    ((k : ℕ) → (rs1 == k || list_any (λ (m : Member). m.value == k) members) ≡ true → is_reserved k ≡ false) → StoreFree members
stores_free rs1 members free =
    values_free members (λ k named. free k (or_second (rs1 == k) (list_any (λ (m : Member). m.value == k) members) named))

not_scratch : (k : ℕ) → is_reserved k ≡ false → k ≢ 31
not_scratch k free e = let is : is_reserved k ≡ true = ap is_reserved e in cc

none_scratch : (members : List Member) → StoreFree members → AllByRecursion (λ (m : Member). m.value ≢ 31) members
none_scratch [] free = tt
none_scratch (m ∷ members) free = (not_scratch m.value free.0, none_scratch members free.1)

-- stores of the program's registers, on data that are the same
all_alike : (a : ℕ) (r regs : Registers) (members : List Member) (t s : Shared) → SameRegisters r regs → StoreFree members → SameData t s →
    SameData (stored_all a r members t) (stored_all a regs members s)
all_alike a r regs [] t s same free alike = alike
all_alike a r regs (m ∷ members) t s same free alike =
    let n = store_size m.op in
    all_alike a r regs members (stored_at a r m t) (stored_at a regs m s) same free.1
    (data_written t s _ _ alike
    (λ k low.
    ap (λ (v : ℕ). write n s.memory (a + m.distance) v k) (get_same r regs m.value free.0 same)
    ∙ write_alike n t.memory s.memory (a + m.distance) (get_reg r m.value) alike.memory k low))

-- x31 alone is written
other_same : (r : Registers) (v k : ℕ) → k ≢ 31 → get_reg (set_reg r 31 v) k ≡ get_reg r k
other_same r v zero other = refl
other_same r v (suc k) other =
    elim (cases_Bool (suc k == 31)) [ inl here ↦ absurd (other (eqb-true (suc k) 31 here)) | inr no_31 ↦ rw no_31 refl ]

-- where nothing happens between them, and none stores x31
each_stored : (a v : ℕ) (r : Registers) (members : List Member) (s s' : Shared) → AllByRecursion (λ (m : Member). m.value ≢ 31) members →
    StoresEach Unchanged a (set_reg r 31 v) members s s' → s' ≡ stored_all a r members s
each_stored a v r [] s s' none each = each
each_stored a v r (m ∷ members) s s' none each =
    let (seen, t, others) = each in
    let first : stored_at a (set_reg r 31 v) m seen ≡ stored_at a r m s =
    ap (λ (x : Shared). stored_at a (set_reg r 31 v) m x) t
    ∙ ap (λ (y : ℕ). with_memory s (write (store_size m.op) s.memory (a + m.distance) y)) (other_same r v m.value none.0) in
    each_stored a v r members (stored_at a (set_reg r 31 v) m seen) s' none.1 others ∙ ap (λ (x : Shared). stored_all a r members x) first

-- but for the mask of stores
module _ (part : ℕ) (image base : Memory) where
  -- a unit that is left to an address
  left_matches : (o : Own) (next : ℕ) (regs : Registers) (s : Shared) → next ≡ o.pc → SameRegisters o.regs regs → SameData o.shared s →
      (after : After) → LeftTo part image base next o.pending regs (Unchanged s) after →
      MatchesAfter false part image base (record { state = o; turn = Ran }) after
  left_matches o next regs s e same alike after left =
      let shared = subst (λ (x : Shared). SameData o.shared x) (sym left.shared) alike in
      record {
        turn = left.turn;
        shared = shared;
        going = λ ran. record {
          pc = left.pc ∙ e;
          regs = same_trans o.regs regs after.hart.regs same left.regs;
          shared = shared;
          pointer = left.pointer;
          mask = tt;
          context = left.context;
        };
      }

  -- a unit that is one instruction of the program's
  executed_matches : (p : Profile) (instr : Instr) (o : Own) (past : ℕ) (h : Hart) (s : Shared) → past ≡ h.pc + 4 →
      h.regs 3 ≡ slot part (length o.pending) → AlikeAfter (exec p instr (record { pc = o.pc; regs = o.regs }) o.shared) (exec p instr h s) →
      (after : After) → Executes p part image base instr o.pending h (Unchanged s) after →
      MatchesAfter false part image base (executes p o instr o.regs past) after
  executed_matches p instr o past h s next x3 alike after does =
      let own = exec p instr (record { pc = o.pc; regs = o.regs }) o.shared in
      let e : after ≡ exec p instr h s = does.executed ∙ ap (exec p instr h) does.may_see in
      let turn : after.turn ≡ own.turn = ap (λ (a : After). a.turn) e ∙ alike.turn in
      let shared = subst (λ (a : After). SameData own.shared a.shared) (sym e) alike.shared in
      record {
        turn = turn;
        shared = shared;
        going = λ ran. record {
          pc = does.pc (turn ∙ ran) ∙ sym next;
          regs = subst (λ (a : After). SameRegisters own.hart.regs a.hart.regs) (sym e) alike.regs;
          shared = shared;
          pointer = does.pointer ∙ x3;
          mask = tt;
          context = does.context (turn ∙ ran);
        };
      }

module _ (p : Profile) (callee : Bool) (part : ℕ) (image base : Memory) (o : Own) (h : Hart) (s : Shared) (low : SHADOW_START ≤ part) (m : Matches callee part image base o h s) where
  same : SameRegisters o.regs h.regs
  same = m.regs

  alike : SameData o.shared s
  alike = m.shared

  sum_here : (rs1 imm : ℕ) → is_reserved rs1 ≡ false → sum_of h.regs rs1 imm ≡ sum_of o.regs rs1 imm
  sum_here rs1 imm free = sum_same o.regs h.regs rs1 imm free same

  -- a target's address is a multiple of 4
  computed_here : (which : TargetWord) (rs1 imm label : ℕ) → is_reserved rs1 ≡ false → HasLabel image which label (computed o.regs rs1 imm) →
      destination h.regs rs1 imm ≡ computed o.regs rs1 imm
  computed_here which rs1 imm label free has = let e = sum_here rs1 imm free in let round = has.round in omega arith

  bears : (which : TargetWord) (rs1 imm label : ℕ) → is_reserved rs1 ≡ false → HasLabel image which label (computed o.regs rs1 imm) →
      HasLabel image which label (destination h.regs rs1 imm)
  bears which rs1 imm label free has = subst (HasLabel image which label) (sym (computed_here which rs1 imm label free has)) has

  taken_here : (op : BranchOp) (rs1 rs2 : ℕ) → is_reserved rs1 ≡ false → is_reserved rs2 ≡ false →
      branch_taken op (get_reg h.regs rs1) (get_reg h.regs rs2) ≡ branch_taken op (get_reg o.regs rs1) (get_reg o.regs rs2)
  taken_here op rs1 rs2 free1 free2 =
      ap (λ (x : ℕ). branch_taken op x (get_reg h.regs rs2)) (get_same o.regs h.regs rs1 free1 same)
      ∙ ap (branch_taken op (get_reg o.regs rs1)) (get_same o.regs h.regs rs2 free2 same)

  -- what is shared after the program's own stores
  abbrev stored : ℕ → ℕ → List Member → Shared
  stored rs1 imm members = stored_all (sum_of o.regs rs1 imm) o.regs members o.shared

  stored_here : (rs1 imm : ℕ) (members : List Member) → is_reserved rs1 ≡ false → StoreFree members →
      SameData (stored rs1 imm members) (stored_all (sum_of h.regs rs1 imm) h.regs members s)
  stored_here rs1 imm members base free =
      subst (λ (a : ℕ). SameData (stored rs1 imm members) (stored_all a h.regs members s)) (sym (sum_here rs1 imm base))
      (all_alike (sum_of o.regs rs1 imm) o.regs h.regs members o.shared s same free alike)

  only_stored : (rs1 imm : ℕ) (members : List Member) → is_reserved rs1 ≡ false → StoreFree members → sum_of o.regs rs1 imm < 2 ^ 28 → (past : ℕ) (after : After) →
      ActDoes p part image base Unchanged h s (F.stores rs1 imm members) F.on F.keeps past o.pending after →
      LeftTo part image base past o.pending h.regs (Unchanged (stored_all (sum_of h.regs rs1 imm) h.regs members s)) after
  only_stored rs1 imm members base_is values below past after does = record {
    turn = does.turn;
    pc = does.pc;
    regs = does.regs;
    pointer = does.pointer;
    shared =
        let e = sum_here rs1 imm base_is in
        let low : masked h.regs rs1 imm ≡ sum_of h.regs rs1 imm = omega arith in
        each_stored (masked h.regs rs1 imm) (masked h.regs rs1 imm) h.regs members s after.shared (none_scratch members values) does.shared
        ∙ ap (λ (a : ℕ). stored_all a h.regs members s) low;
    context = does.context;
  }

  pushed_here : (site : ℕ) → SameData o.shared (pushed part (length o.pending) site s)
  pushed_here site = record {
    memory = λ a below. write_outside 8 s.memory (slot part (length o.pending)) site a (inl (omega arith)) ∙ alike.memory a below;
    left = alike.left;
    output = alike.output;
    events = alike.events;
  }

  -- the instruction at the unit's address, where AUIPC is executed
  at_here : (instr : Instr) → AlikeAfter (exec p instr (record { pc = h.pc; regs = o.regs }) o.shared) (exec p instr h s) →
      AlikeAfter (exec p instr (record { pc = o.pc; regs = o.regs }) o.shared) (exec p instr h s)
  at_here instr = subst (λ (x : ℕ). AlikeAfter (exec p instr (record { pc = x; regs = o.regs }) o.shared) (exec p instr h s)) m.pc

  goes_so : (next next' : ℕ) → next' ≡ next → (after : After) → LeftTo part image base next' o.pending h.regs (Unchanged s) after →
      MatchesAfter false part image base (goes p o next) after
  goes_so next next' e = left_matches part image base (record o { pc = next }) next' h.regs s e same alike

  called : (target target' site : ℕ) → target' ≡ target → length o.pending < MOST_PENDING → (after : After) →
      CallDoes p part image base Unchanged h s target' site o.pending after → MatchesAfter false part image base (calls p o target site) after
  called target target' site e room after (inl does) =
      left_matches part image base (record o { pc = target; regs = set_reg o.regs 1 site; pending = site ∷ o.pending }) target' _ _ e
      (same_link o.regs h.regs site site refl same) (pushed_here site) after does.1
  called target target' site e room after (inr full) = let none = full.0 in absurd (omega arith)

  -- where the callee saves sites
  linked : (target target' site : ℕ) → target' ≡ target → (after : After) →
      LeftTo part image base target' o.pending (set_reg h.regs 1 site) (Unchanged s) after → MatchesAfter false part image base (links p o target site) after
  linked target target' site e =
      left_matches part image base (record o { pc = target; regs = set_reg o.regs 1 site }) target' (set_reg h.regs 1 site) s e
      (same_link o.regs h.regs site site refl same) alike

  saved : (next : ℕ) → length o.pending < MOST_PENDING → (after : After) → EnterDoes p part image base Unchanged h s next o.pending after →
      MatchesAfter false part image base (saves p o next) after
  saved next room after (inl does) =
      let here = subst (λ (site : ℕ). LeftTo part image base next (site ∷ o.pending) h.regs (Unchanged (pushed part (length o.pending) site s)) after) (same.same 1 refl) does.1 in
      left_matches part image base (record o { pc = next; pending = o.regs 1 ∷ o.pending }) next h.regs _ refl same (pushed_here (o.regs 1)) after here
  saved next room after (inr full) = let none = full.0 in absurd (omega arith)

  returned : (sites : List ℕ) → ReturnTame sites o.regs → (after : After) → ReturnDoes p part image base Unchanged h s sites after →
      MatchesAfter false part image base (returns p o sites) after
  returned [] tame after does = absurd tame
  returned (site ∷ sites) tame after (inl does) =
      left_matches part image base (record o { pc = site; pending = sites }) site h.regs s refl same alike after does.1
  returned (site ∷ sites) tame after (inr halts) = absurd (halts.0 (same.same 1 refl ∙ tame))

  exit_matches : (exit : Exit) (past : ℕ) → is_untested exit ≡ true → ((k : ℕ) → exit_names exit k ≡ true → is_reserved k ≡ false) →
      ExitTame exit F.keeps o.pending o.regs → (after : After) → ExitDoes p part image base Unchanged h s exit F.keeps past o.pending after →
      MatchesAfter false part image base (own_exit p o exit F.keeps past) after
  exit_matches (F.either op rs1 rs2 true target) past is free tame after does =
      goes_so _ _ (ap (λ (b : Bool). if b then target else past) (taken_here op rs1 rs2 (first_free rs1 rs2 free) (second_free rs1 rs2 free))) after does
  exit_matches (F.either op rs1 rs2 false target) past is free tame after does =
      goes_so _ _ (ap (λ (b : Bool). if b then past else target) (taken_here op rs1 rs2 (first_free rs1 rs2 free) (second_free rs1 rs2 free))) after does
  exit_matches (F.halts stop) past is free tame after does = absurd tame
  exit_matches (F.computed rs1 imm) past is free tame after does = absurd (cc)
  exit_matches F.back past is free tame after does = absurd (cc)
  exit_matches (F.beyond rs1 imm) past is free tame after does = absurd (cc)
  exit_matches F.linked past is free tame after does = absurd (cc)
  exit_matches other past is free tame after does = goes_so _ _ refl after does

  made : (past : ℕ) → 4 ≤ past → (after : After) → CallsAt p part image base (past - 4) o.pending h.regs (Unchanged s) after →
      MatchesAfter false part image base (executes p o Ecall o.regs past) after
  made past some after does =
      let here = does.here in
      executed_matches part image base p Ecall o past does.hart s (omega arith) does.pointer
      (call_alike o.regs o.pc does.hart (same_trans o.regs h.regs does.hart.regs same does.same) o.shared s alike) after does.executes

  act_matches : (act : Act) (exit : Exit) (past : ℕ) → is_untested exit ≡ true → ActFits act → (is_single act ≡ true → past ≡ h.pc + 4) → 4 ≤ past →
      ((k : ℕ) → act_names act exit k ≡ true → is_reserved k ≡ false) → ActTame act exit F.keeps o.pending o.regs → (after : After) →
      ActDoes p part image base Unchanged h s act exit F.keeps past o.pending after → MatchesAfter false part image base (own_act p o act exit F.keeps past) after
  act_matches F.none exit past is fits single some free tame after does = exit_matches exit past is free tame after does
  act_matches (F.does instr) exit past is fits single some free tame after does =
      executed_matches part image base p instr o past h s (single refl) m.pointer
      (at_here instr (plain_alike p o.regs o.shared h s same alike instr fits free tame)) after does
  act_matches (F.system S.Ecall) exit past is fits single some free tame after does =
      executed_matches part image base p Ecall o past h s (single refl) m.pointer (call_alike o.regs o.pc h same o.shared s alike) after does
  act_matches (F.system S.Ebreak) exit past is fits single some free tame after does =
      executed_matches part image base p Ebreak o past h s (single refl) m.pointer
      (at_here Ebreak (break_alike p o.regs o.shared h s same alike)) after does
  act_matches F.calls exit past is fits single some free tame after does = made past some after does
  act_matches (F.stores rs1 imm members) exit past is fits single some free tame after does =
      let base_is = base_free rs1 members free in
      let values = stores_free rs1 members free in
      left_matches part image base (record o { pc = past; shared = stored rs1 imm members }) past h.regs _ refl same
      (stored_here rs1 imm members base_is values) after (only_stored rs1 imm members base_is values tame past after does)

  flow_matches : (f : Flow) → Suits f → (past : ℕ) → ActFits f.act → (is_single f.act ≡ true → past ≡ h.pc + 4) → 4 ≤ past →
      ((k : ℕ) → act_names f.act f.exit k ≡ true → is_reserved k ≡ false) → TestTame image f.test f o.pending o.regs → (after : After) →
      FlowDoes p part image base Unchanged h s f past o.pending after → MatchesAfter false part image base (own_act p o f.act f.exit f.sites past) after
  flow_matches f (untested exit act is) past fits single some free tame after does = act_matches act exit past is fits single some free tame after does
  flow_matches f (direct_call target) past fits single some free tame after does = called _ _ _ refl tame after does
  flow_matches f (guarded_call numbers) past fits single some free tame after (inl does) = made past some after does.1
  flow_matches f (guarded_call numbers) past fits single some free tame after (inr halts) =
      absurd (false≢true (sym halts.0 ∙ ap (λ (x : ℕ). is_listed x numbers) (same.same 17 refl) ∙ tame))
  flow_matches f (computed_jump which rs1 imm label) past fits single some free tame after (inl does) =
      goes_so _ _ (computed_here which rs1 imm label (free rs1 (is_self rs1)) tame) after does.1
  flow_matches f (computed_jump which rs1 imm label) past fits single some free tame after (inr halts) =
      absurd (halts.0 (bears which rs1 imm label (free rs1 (is_self rs1)) tame))
  flow_matches f (computed_call rs1 imm label) past fits single some free tame after (inl does) =
      called _ _ _ (computed_here First rs1 imm label (free rs1 (is_self rs1)) tame.0) tame.1 after does.1
  flow_matches f (computed_call rs1 imm label) past fits single some free tame after (inr halts) =
      absurd (halts.0 (bears First rs1 imm label (free rs1 (is_self rs1)) tame.0))
  flow_matches f turned_back past fits single some free tame after does = returned o.pending tame after does
  flow_matches f (linking_call target) past fits single some free tame after does = linked _ _ _ refl after does
  flow_matches f entered past fits single some free tame after does = saved past tame.0 after does
  flow_matches f (linking_computed_call rs1 imm label) past fits single some free tame after (inl does) =
      linked _ _ _ (ap (λ (v : ℕ). v + 8) (computed_here Third rs1 imm label (free rs1 (is_self rs1)) tame)) after does.1
  flow_matches f (linking_computed_call rs1 imm label) past fits single some free tame after (inr halts) =
      absurd (halts.0 (bears Third rs1 imm label (free rs1 (is_self rs1)) tame))
  flow_matches f linked_back past fits single some free tame after does =
      goes_so _ _ (ap (λ (v : ℕ). v / 2 * 2) (sum_here 1 0 refl)) after does

  unit_matches : (unit : U.Unit) → Fits unit o.pc → NamesNoReserved unit → IsTame image unit o.pending o.regs → (after : After) →
      UnitDoes p part image base Unchanged h s unit o.pc o.pending after → MatchesAfter false part image base (own_step p o unit) after
  unit_matches unit fits free tame =
      let e = m.pc in let some = some_word unit in
      flow_matches (flow_of unit) (suits unit) (after_unit unit o.pc) (act_fits unit o.pc fits) (λ single. let one = single_word unit single in omega arith) (omega arith) free tame

  -- where x4 holds the mask of stores, it does so behind the unit: that is one that does not write it, or makes it again
  mask_kept : (lean_code : Bool) (unit : U.Unit) → Fits unit o.pc → NamesNoReserved unit → IsTame image unit o.pending o.regs → (lean_code ≡ true → is_lean unit ≡ true) →
      HoldsMask lean_code h.regs → (after : After) → SameScratch (instrs_of unit o.pc) h.regs after.hart.regs → MakesMask image h.regs unit after →
      HoldsMask lean_code after.hart.regs
  mask_kept false unit fits free tame lean held after scratch makes = tt
  mask_kept true (V.Ijump which rs1 imm label) fits free tame lean held after scratch makes = absurd (false≢true (lean refl))
  mask_kept true (V.Icall rs1 imm label) fits free tame lean held after scratch makes = absurd (false≢true (lean refl))
  mask_kept true (V.LeanIjump rs1 imm label) fits free tame lean held after scratch makes =
      makes (bears First rs1 imm label (free rs1 (is_self rs1)) tame)
  mask_kept true (V.LeanIcall rs1 imm label) fits free tame lean held after scratch makes =
      makes (bears Third rs1 imm label (free rs1 (is_self rs1)) tame)
  mask_kept true other fits free tame lean held after scratch makes = scratch.x4 (unit_spares other o.pc fits refl) ∙ held

-- what matches but for the mask, matches where that is held
with_mask : (callee : Bool) (part : ℕ) (image base : Memory) (own : OwnAfter) (after : After) → HoldsMask callee after.hart.regs →
    MatchesAfter false part image base own after → MatchesAfter callee part image base own after
with_mask callee part image base own after held matches = record {
  turn = matches.turn;
  shared = matches.shared;
  going = λ ran.
      let here = matches.going ran in
      record { pc = here.pc; regs = here.regs; shared = here.shared; pointer = here.pointer; mask = held; context = here.context };
}

-- the newest site is an instruction's address
returns_to : (pending : List ℕ) → SitesFit pending → ReturnsTo pending
returns_to [] fit = tt
returns_to (site ∷ pending) fit = fit.each.0

pub unit_keeps_match : law.UnitKeepsMatch
unit_keeps_match p part image base unit o h s own bytes fit step_is m =
    let i : Enters p part image base unit o.pc o.pending h s = record {
      own = own;
      bytes = bytes;
      may_stand = (step_is.fits, returns_to o.pending fit);
      some = step_is.some;
      most = fit.most;
      stands = step_is.stands;
      context = m.context;
      pc = m.pc;
      pointer = m.pointer;
      asks = step_is.asks h.regs m.regs m.mask;
    } in
    within_weaker p (UnitIsDone p part image base Unchanged h s unit o.pc o.pending) (MatchesAfter p.callee_saves part image base (own_step p o unit))
    (λ after done.
    with_mask p.callee_saves part image base (own_step p o unit) after
    (mask_kept p p.callee_saves part image base o h s own.low m p.callee_saves unit step_is.fits step_is.free step_is.tame step_is.leaves m.mask after done.1 done.2)
    (unit_matches p p.callee_saves part image base o h s own.low m unit step_is.fits step_is.free step_is.tame after done.0))
    (word_count unit - 1) (step p h s) (unit_runs p part image base unit o.pc o.pending h s i)
