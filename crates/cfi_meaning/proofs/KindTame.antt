-- A step against which no reason stands is one that its unit keeps.
use Rattle.std.proofs.Common.{◌≡◌, ℕ, suc, ◌^◌, ◌<◌, ◌≤◌, ◌==◌, Bool, true, false, List, [], ◌∷◌, length, Option, Some, None, refl, sym, ap, subst, arith}
use Rattle.std.specs.Prelude.{nat_le, not, ◌&&◌, if◌then◌else◌}
use Rattle.std.proofs.lemmas.Bool.{eqb-true, leb-false, leb-true, not-false, or_parts}
use Rattle.cfi_meaning.proofs.Prelude.{Contents, loaded, GraphVersion, OneLabel, TwoLabels, CalleeSaves, Registers, get_reg, Instr, ItemKind, is_end, item_of, suits, has_leaves, SiteKind, class_reaches, site_kind, ProgramAtMap, gate, is_short, is_store, Source, MOST_CALLS, WINDOW, computed, is_off_base, is_off_graph, is_off_window, is_too_deep, is_unlisted, is_wrong_return, return_address, TargetWord, First, HasLabel, MOST_PENDING, IsTame, ReturnTame, touched, jump_word, word_asked, Group, call_unit, lean_unit_of, unit_by, unit_of, saved_by, sites_of, base_value, makes_call}
use Rattle.rv_instr.specs.declared.instr.Instr.TheVariants as I
use Rattle.obj_input.specs.declared.item_kind.ItemKind.TheVariants as is
use Rattle.cfi_graph.specs.declared.line.SiteKind.TheVariants as kinds
use Rattle.cfi_map.specs.Untame.{base_of, is_outside}
use Rattle.cfi_map.specs.declared.reason.Reason.TheVariants as why
use Rattle.cfi_meaning.proofs.Found.{place_found, some_found}

-- no reason stands
pub record NoReason (g : ProgramAtMap) (k : ℕ) (kind : ItemKind) (i : Instr) (st : Source) : Type 0 where
  pub graph : is_off_graph g k kind i st ≡ false
  pub return : is_wrong_return g kind st ≡ false
  pub window : is_off_window g k kind i st ≡ false
  pub deep : is_too_deep kind st ≡ false
  pub no_end : is_end kind ≡ false
  pub listed : is_unlisted g kind i st ≡ false

pub all_false : (a b c d e f : Bool) →
    (if a then Some why.Graph else if b then Some why.Return else if c then Some why.Window else if d then Some why.Deep else if e then Some why.End
    else if f then Some why.Call else None) ≡ None →
    (a ≡ false) × (b ≡ false) × (c ≡ false) × (d ≡ false) × (e ≡ false) × (f ≡ false)
all_false false false false false false false none = (refl, refl, refl, refl, refl, refl)
all_false true b c d e f none = absurd (cc)
all_false false true c d e f none = absurd (cc)
all_false false false true d e f none = absurd (cc)
all_false false false false true e f none = absurd (cc)
all_false false false false false true f none = absurd (cc)
all_false false false false false false true none = absurd (cc)

pub sites_counted : (g : ProgramAtMap) (pending : List ℕ) → length (sites_of g pending) ≡ suc (length pending)
sites_counted g [] = refl
sites_counted g (k ∷ pending) = ap suc (sites_counted g pending)

last_false : (a b c : Bool) → (a && (b && c)) ≡ false → a ≡ true → b ≡ true → c ≡ false
last_false true true c none first second = none
last_false true false c none first second = absurd (cc)
last_false false b c none first second = absurd (cc)

base_same : (i : Instr) (r : Registers) → base_of i r ≡ base_value i r
base_same (I.Store op rs1 rs2 imm) r = refl
base_same other r = refl

-- what a transfer of a kind may go to bears its label, at the word that its check reads
abbrev pub AreBorne : Contents → ProgramAtMap → ℕ → ℕ → SiteKind → Type 0
AreBorne image g k label kind = (t : ℕ) → class_reaches g.closed k t ≡ true → HasLabel (loaded image) (word_asked g.closed.version kind) label (gate g t)

-- kinds whose units are the same whoever saves the sites of calls
abbrev is_alike : ItemKind → Bool
is_alike is.Gate = true
is_alike is.Plain = true
is_alike is.System = true
is_alike is.Branch = true
is_alike is.Jump = true
is_alike other = false

module _ (g : ProgramAtMap) (k : ℕ) (st : Source) where
  abbrev sites : List ℕ
  sites = sites_of g st.pending

  returns_tame : (pending : List ℕ) → (get_reg st.regs 1 == return_address g pending) ≡ true → ReturnTame (sites_of g pending) st.regs
  returns_tame [] e = eqb-true (get_reg st.regs 1) g.profile.closing e
  returns_tame (k' ∷ pending) e = eqb-true (get_reg st.regs 1) (gate g k') e

  -- a return goes to the newest site
  pub back_of_kind : (kind : ItemKind) (i : Instr) → NoReason g k kind i st → kind ≡ is.Return → ReturnTame sites st.regs
  back_of_kind is.Return i no_reason same = returns_tame st.pending (not-false _ no_reason.return)
  back_of_kind kind i no_reason same = absurd (cc)

  room : nat_le MOST_CALLS (length st.pending) ≡ false → length sites < MOST_PENDING
  room few = let counted = sites_counted g st.pending in let less = leb-false MOST_CALLS (length st.pending) few in omega arith

  -- a call has room for its site
  pub room_of_kind : (kind : ItemKind) (i : Instr) → NoReason g k kind i st → makes_call kind ≡ true → length sites < MOST_PENDING
  room_of_kind is.Call i no_reason makes = room no_reason.deep
  room_of_kind is.Icall i no_reason makes = room no_reason.deep
  room_of_kind kind i no_reason makes = absurd (cc)

  -- a store stays in the window, and its base does where a register alone may mask it
  pub inside_of_kind : (kind : ItemKind) (i : Instr) → NoReason g k kind i st → is_store kind ≡ true → touched i st.regs ≤ 2 ^ 28
  inside_of_kind is.Store i no_reason store =
      leb-true (touched i st.regs) WINDOW (not-false _ (or_parts (not (nat_le (touched i st.regs) WINDOW)) (is_off_base g k i st) no_reason.window).0)
  inside_of_kind kind i no_reason store = absurd (cc)

  base_inside : (i : Instr) → is_off_base g k i st ≡ false → has_leaves g.closed.version ≡ true → is_short (item_of g.program k) ≡ true →
      base_value i st.regs < 2 ^ 28
  base_inside i none leaves short =
      let less =
      leb-false WINDOW (base_of i st.regs)
      (last_false (has_leaves g.closed.version) (is_short (item_of g.program k)) (nat_le WINDOW (base_of i st.regs)) none leaves short) in
      subst (λ (b : ℕ). b < 2 ^ 28) (base_same i st.regs) less

  pub base_of_kind : (kind : ItemKind) (i : Instr) → NoReason g k kind i st → is_store kind ≡ true → has_leaves g.closed.version ≡ true →
      is_short (item_of g.program k) ≡ true → base_value i st.regs < 2 ^ 28
  base_of_kind is.Store i no_reason store leaves short =
      base_inside i (or_parts (not (nat_le (touched i st.regs) WINDOW)) (is_off_base g k i st) no_reason.window).1 leaves short
  base_of_kind kind i no_reason store leaves short = absurd (cc)

  module _ (image : Contents) (label : ℕ) where
    -- where a computed transfer goes bears its label
    abbrev Goes : Instr → TargetWord → Type 0
    Goes i which = HasLabel (loaded image) which label (computed i st.regs)

    goes_to_gate : (kind : SiteKind) (i : Instr) → AreBorne image g k label kind → is_off_graph g k is.Ijump i st ≡ false → Goes i (word_asked g.closed.version kind)
    goes_to_gate kind i bears on =
        let (t, some) = some_found g k i st.regs on in
        let found = place_found g k i st.regs t some in
        subst (HasLabel (loaded image) (word_asked g.closed.version kind) label) found.gate_is (bears t found.reaches)

    goes_of_kind : (kind : ItemKind) (i : Instr) (site : SiteKind) → NoReason g k kind i st → site_kind kind ≡ Some site → AreBorne image g k label site →
        Goes i (word_asked g.closed.version site)
    goes_of_kind is.Ijump i site no_reason of bears = goes_to_gate site i bears no_reason.graph
    goes_of_kind is.Icall i site no_reason of bears = goes_to_gate site i bears no_reason.graph
    goes_of_kind kind i site no_reason of bears = absurd (cc)

    -- a system call is one of the list, where there is one
    call_tame : (calls : Option (List ℕ)) (saved : List ℕ) → is_outside calls (get_reg st.regs 17) ≡ false → IsTame (loaded image) (call_unit calls) saved st.regs
    call_tame None saved listed = tt
    call_tame (Some numbers) saved listed = not-false _ listed

    tame_alike : (kind : ItemKind) (i : Instr) (whole : Bool) (target : ℕ) (which : TargetWord) (group : Group) (saved : List ℕ) → is_alike kind ≡ true →
        suits kind i ≡ true → NoReason g k kind i st → IsTame (loaded image) (unit_of g.closed.calls kind i whole target which label group) saved st.regs
    tame_alike is.Gate (I.Upper op rd imm) whole target which group saved alike suit no_reason = tt
    tame_alike is.Plain i whole target which group saved alike suit no_reason = leb-true _ _ (not-false _ no_reason.window)
    tame_alike is.System I.Ecall whole target which group saved alike suit no_reason = call_tame g.closed.calls saved no_reason.listed
    tame_alike is.System I.Ebreak whole target which group saved alike suit no_reason = tt
    tame_alike is.Branch (I.Branch op rs1 rs2 imm) true target which group saved alike suit no_reason = tt
    tame_alike is.Branch (I.Branch op rs1 rs2 imm) false target which group saved alike suit no_reason = tt
    tame_alike is.Jump i whole target which group saved alike suit no_reason = tt
    tame_alike kind i whole target which group saved alike suit no_reason = absurd (cc)

    -- where callers save sites
    tame_full : (kind : ItemKind) (i : Instr) (whole : Bool) (target : ℕ) (which : TargetWord) (group : Group) → (kind ≡ is.Ijump → Goes i which) →
        (kind ≡ is.Icall → Goes i First) → suits kind i ≡ true → NoReason g k kind i st → is_store kind ≡ false →
        IsTame (loaded image) (unit_of g.closed.calls kind i whole target which label group) sites st.regs
    tame_full is.Call i whole target which group jumps calls suit no_reason other = room no_reason.deep
    tame_full is.Return i whole target which group jumps calls suit no_reason other = back_of_kind is.Return i no_reason refl
    tame_full is.Ijump (I.Jalr rd rs1 imm) whole target which group jumps calls suit no_reason other = jumps refl
    tame_full is.Icall (I.Jalr rd rs1 imm) whole target which group jumps calls suit no_reason other = (calls refl, room no_reason.deep)
    tame_full is.Gate i whole target which group jumps calls suit no_reason other = tame_alike is.Gate i whole target which group sites refl suit no_reason
    tame_full is.Plain i whole target which group jumps calls suit no_reason other = tame_alike is.Plain i whole target which group sites refl suit no_reason
    tame_full is.System i whole target which group jumps calls suit no_reason other = tame_alike is.System i whole target which group sites refl suit no_reason
    tame_full is.Branch i whole target which group jumps calls suit no_reason other = tame_alike is.Branch i whole target which group sites refl suit no_reason
    tame_full is.Jump i whole target which group jumps calls suit no_reason other = tame_alike is.Jump i whole target which group sites refl suit no_reason
    tame_full kind i whole target which group jumps calls suit no_reason other = let some = no_reason.no_end in absurd (cc)

    -- where callees do, and in leaves none
    tame_lean : (inside : Bool) (kind : ItemKind) (i : Instr) (whole : Bool) (target : ℕ) (group : Group) (saved : List ℕ) → (inside ≡ false → saved ≡ sites) →
        (kind ≡ is.Ijump → Goes i (word_asked CalleeSaves kinds.Jump)) → (kind ≡ is.Icall → Goes i (word_asked CalleeSaves kinds.Call)) →
        suits kind i ≡ true → NoReason g k kind i st → is_store kind ≡ false →
        IsTame (loaded image) (lean_unit_of g.closed.calls inside kind i whole target label group) saved st.regs
    tame_lean inside is.Call i whole target group saved all jumps calls suit no_reason other = tt
    tame_lean true is.Return i whole target group saved all jumps calls suit no_reason other = tt
    tame_lean false is.Return i whole target group saved all jumps calls suit no_reason other =
        subst (λ (pending : List ℕ). ReturnTame pending st.regs) (sym (all refl)) (back_of_kind is.Return i no_reason refl)
    tame_lean inside is.Ijump (I.Jalr rd rs1 imm) whole target group saved all jumps calls suit no_reason other = jumps refl
    tame_lean inside is.Icall (I.Jalr rd rs1 imm) whole target group saved all jumps calls suit no_reason other = calls refl
    tame_lean inside is.Gate i whole target group saved all jumps calls suit no_reason other =
        tame_alike is.Gate i whole target (jump_word CalleeSaves) group saved refl suit no_reason
    tame_lean inside is.Plain i whole target group saved all jumps calls suit no_reason other =
        tame_alike is.Plain i whole target (jump_word CalleeSaves) group saved refl suit no_reason
    tame_lean inside is.System i whole target group saved all jumps calls suit no_reason other =
        tame_alike is.System i whole target (jump_word CalleeSaves) group saved refl suit no_reason
    tame_lean inside is.Branch i whole target group saved all jumps calls suit no_reason other =
        tame_alike is.Branch i whole target (jump_word CalleeSaves) group saved refl suit no_reason
    tame_lean inside is.Jump i whole target group saved all jumps calls suit no_reason other =
        tame_alike is.Jump i whole target (jump_word CalleeSaves) group saved refl suit no_reason
    tame_lean inside kind i whole target group saved all jumps calls suit no_reason other = let some = no_reason.no_end in absurd (cc)

    all_saved : (inside : Bool) → inside ≡ false → saved_by CalleeSaves inside sites ≡ sites
    all_saved false outside = refl
    all_saved true outside = absurd (cc)

    tame_by : (version : GraphVersion) (inside : Bool) (kind : ItemKind) (i : Instr) (whole : Bool) (target : ℕ) (group : Group) →
        (kind ≡ is.Ijump → Goes i (word_asked version kinds.Jump)) → (kind ≡ is.Icall → Goes i (word_asked version kinds.Call)) → suits kind i ≡ true →
        NoReason g k kind i st → is_store kind ≡ false →
        IsTame (loaded image) (unit_by version g.closed.calls inside kind i whole target label group) (saved_by version inside sites) st.regs
    tame_by OneLabel inside kind i whole target group jumps calls = tame_full kind i whole target (jump_word OneLabel) group jumps calls
    tame_by TwoLabels inside kind i whole target group jumps calls = tame_full kind i whole target (jump_word TwoLabels) group jumps calls
    tame_by CalleeSaves inside kind i whole target group jumps calls =
        tame_lean inside kind i whole target group (saved_by CalleeSaves inside sites) (all_saved inside) jumps calls

    pub tame_of_kind : (inside : Bool) (kind : ItemKind) (i : Instr) (whole : Bool) (target : ℕ) (group : Group) →
        ((site : SiteKind) → site_kind kind ≡ Some site → AreBorne image g k label site) → suits kind i ≡ true → NoReason g k kind i st → is_store kind ≡ false →
        IsTame (loaded image) (unit_by g.closed.version g.closed.calls inside kind i whole target label group) (saved_by g.closed.version inside sites) st.regs
    tame_of_kind inside kind i whole target group bears suit no_reason other =
        let goes = λ (site : SiteKind) (of : site_kind kind ≡ Some site). goes_of_kind kind i site no_reason of (bears site of) in
        tame_by g.closed.version inside kind i whole target group (λ same. goes kinds.Jump (ap site_kind same)) (λ same. goes kinds.Call (ap site_kind same)) suit
        no_reason other
