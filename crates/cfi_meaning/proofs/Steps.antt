-- One step of the source machine, seen from the image: it has ended, it is untame, it is the own step
-- of its place, or the closing's.
use Rattle.std.proofs.Common.{◌≡◌, ℕ, ◌≤◌, inl, inr, true, List, Option, Some, None, refl, sym, ap, subst, ◌∙◌, arith, unwrap_or}
use Rattle.std.proofs.lemmas.Bool.{cases_lt}
use Rattle.std.proofs.lemmas.List.{get_or_past}
use Rattle.cfi_meaning.proofs.Prelude.{Contents, Registers, Shared, last_exit, Item, count, is_end, item_of, no_item, is_direct, suits, in_leaf, ProgramAtMap, aim_of, entered_in, gate, gate_to, word, words_at, site_label, whole_at, Choice, group_at, instr_of, IsImageOf, IsPlace, TamePlace, place_step, own_of, Reason, Source, instr_here, SourceAfter, acts, closes, exits, source_step, step_at, unless, unless_ended, untame, is_off_graph, is_off_window, is_too_deep, is_unlisted, is_wrong_return, reason}
use Rattle.rv_word.proofs.Cases.{cases_Option}
use Rattle.obj_program.proofs.Kept.{kept}
use Rattle.cfi_writer.proofs.Leading.{direct}
use Rattle.cfi_writer.proofs.Standing.{gate_lies, instr_is, word_is}
use Rattle.cfi_meaning.proofs.Targets.{target_bears}
use Rattle.cfi_meaning.proofs.KindActs.{IsOwn, own_acts}
use Rattle.cfi_meaning.proofs.KindFits.{Fits, GoesFit, acts_fit, call_outside}
use Rattle.cfi_meaning.proofs.KindTame.{NoReason, all_false, back_of_kind, base_of_kind, inside_of_kind, room_of_kind, sites_counted, tame_of_kind}

module _ (m : Choice) (image : Contents) (of : IsImageOf m image) (k : ℕ) where
  abbrev g : ProgramAtMap
  g = m.layout

  abbrev item : Item
  item = item_of m.layout.program k

  module _ (r : Registers) (t : Shared) (pending : List ℕ) where
    abbrev here : Source
    here = record { place = Some k; regs = r; shared = t; pending = pending }

    module _ (none : reason g k item.kind (instr_here g k) here ≡ None) where
      no_reason : NoReason g k item.kind (instr_here g k) here
      no_reason =
          let all = all_false (is_off_graph g k item.kind (instr_here g k) here) (is_wrong_return g item.kind here) (is_off_window g k item.kind (instr_here g k) here)
          (is_too_deep item.kind here) (is_end item.kind) (is_unlisted g item.kind (instr_here g k) here) none in
          record { graph = all.0; return = all.1; window = all.2; deep = all.3; no_end = all.4; listed = all.5 }

      place : IsPlace m k
      place = record {
        below = elim (cases_lt k (count m.layout.program)) [
          | inl less ↦ less
          | inr past ↦
              let last : is_end item.kind ≡ true = ap (λ (x : Item). is_end x.kind) (get_or_past m.layout.program.items k no_item past) in
              let some = no_reason.no_end in
              absurd (cc)
        ];
        no_end = no_reason.no_end;
      }

      suit : suits item.kind (instr_of m k) ≡ true
      suit =
          (kept m.layout.program m.layout.gates (words_at m.layout) k (instr_of m k) of.accepted.sound place.below place.no_end
          (instr_is m of.accepted k place.below place.no_end)).0

      aim : is_direct item.kind ≡ true → gate_to g item.target ≡ gate g (unwrap_or item.target 0)
      aim leads =
          let (to, some, below) = direct m of.accepted k place.below leads in
          ap (gate_to g) some ∙ sym (ap (λ (o : Option ℕ). gate g (unwrap_or o 0)) some)

      tame_here : TamePlace m image k (own_of g here)
      tame_here = record {
        place = place;
        at = refl;
        some = let counted = sites_counted g pending in omega arith;
        inside = inside_of_kind g k here item.kind (instr_of m k) no_reason;
        base = base_of_kind g k here item.kind (instr_of m k) no_reason;
        back = back_of_kind g k here item.kind (instr_of m k) no_reason;
        room = room_of_kind g k here item.kind (instr_of m k) no_reason;
        tame = tame_of_kind g k here image (site_label m.labels g.closed.sides k) (in_leaf (entered_in g) k) item.kind (instr_of m k) (whole_at m.whole k)
            (aim_of g item) (group_at m k) (λ site some t' reaches. target_bears m image k t' site of place.below some reaches) suit no_reason;
      }

      past : g.profile.units_from ≤ word g k
      past =
          let lies = gate_lies m of.accepted k place.below in
          let from = lies.0 in
          let behind = word_is m of.accepted k in
          omega arith

      own_here : IsOwn g (place_step m k (own_of g here)) (acts g k item.kind (instr_here g k) (unwrap_or item.target 0) here).turn
          (acts g k item.kind (instr_here g k) (unwrap_or item.target 0) here).state
      own_here = own_acts g k past r t pending item.kind (instr_of m k) item.target suit no_reason aim

      fits_here : Fits g here → GoesFit g item.kind (acts g k item.kind (instr_here g k) (unwrap_or item.target 0) here).state
      fits_here fits =
          acts_fit g k here fits.room fits.outside item.kind (instr_of m k) (unwrap_or item.target 0) no_reason (call_outside g k place.below)

-- what a step is
pub data Stepped (m : Choice) (image : Contents) (st : Source) : Type 0 where
  has_ended : (status : ℕ) → last_exit st.shared.events ≡ Some status → source_step m.layout st ≡ record { state = st; turn = exits status } → Stepped m image st
  is_untame : (why : Reason) (k : ℕ) → (source_step m.layout st).turn ≡ untame why k → Stepped m image st
  at_place : (k : ℕ) → st.place ≡ Some k → TamePlace m image k (own_of m.layout st) →
      IsOwn m.layout (place_step m k (own_of m.layout st)) (source_step m.layout st).turn (source_step m.layout st).state →
      (Fits m.layout st → GoesFit m.layout (item_of m.layout.program k).kind (source_step m.layout st).state) → Stepped m image st
  at_closing : st.place ≡ None → source_step m.layout st ≡ closes m.layout st → Stepped m image st

module _ (m : Choice) (image : Contents) (of : IsImageOf m image) (st : Source) where
  goes_on : last_exit st.shared.events ≡ None → source_step m.layout st ≡ step_at m.layout st.place st
  unfolding source_step
  goes_on none = ap (λ (o : Option ℕ). unless_ended o st (step_at m.layout st.place st)) none

  answers_again : (status : ℕ) → last_exit st.shared.events ≡ Some status → source_step m.layout st ≡ record { state = st; turn = exits status }
  unfolding source_step
  answers_again status some = ap (λ (o : Option ℕ). unless_ended o st (step_at m.layout st.place st)) some

  placed : (k : ℕ) → st.place ≡ Some k → source_step m.layout st ≡ step_at m.layout (Some k) st → Stepped m image st
  placed k at is =
      let i = instr_here m.layout k in
      let item = item_of m.layout.program k in
      elim (cases_Option (reason m.layout k item.kind i st)) [
        | inr (why, some) ↦
            is_untame why k
            (ap (λ (a : SourceAfter). a.turn) is
            ∙ ap (λ (o : Option Reason). (unless o k st (acts m.layout k item.kind i (unwrap_or item.target 0) st)).turn) some)
        | inl none ↦
            let q : record st { place = Some k } ≡ st = ap (λ (p : Option ℕ). record st { place = p }) (sym at) in
            let acted : source_step m.layout st ≡ acts m.layout k item.kind i (unwrap_or item.target 0) st =
            is ∙ ap (λ (o : Option Reason). unless o k st (acts m.layout k item.kind i (unwrap_or item.target 0) st)) none in
            let none' = subst (λ (x : Source). reason m.layout k item.kind i x ≡ None) (sym q) none in
            at_place k at
            (subst (λ (x : Source). TamePlace m image k (own_of m.layout x)) q (tame_here m image of k st.regs st.shared st.pending none'))
            (subst (λ (a : SourceAfter). IsOwn m.layout (place_step m k (own_of m.layout st)) a.turn a.state) (sym acted)
            (subst (λ (x : Source). IsOwn m.layout (place_step m k (own_of m.layout x)) (acts m.layout k item.kind i (unwrap_or item.target 0) x).turn (acts m.layout k item.kind i (unwrap_or item.target 0) x).state) q
            (own_here m image of k st.regs st.shared st.pending none')))
            (subst (λ (a : SourceAfter). Fits m.layout st → GoesFit m.layout item.kind a.state) (sym acted)
            (subst (λ (x : Source). Fits m.layout x → GoesFit m.layout item.kind (acts m.layout k item.kind i (unwrap_or item.target 0) x).state) q
            (fits_here m image of k st.regs st.shared st.pending none')))
      ]

  pub stepped : Stepped m image st
  stepped = elim (cases_Option (last_exit st.shared.events)) [
    | inr (status, some) ↦ has_ended status some (answers_again status some)
    | inl none ↦ elim (cases_Option st.place) [
      | inl nowhere ↦ at_closing nowhere (goes_on none ∙ ap (λ (p : Option ℕ). step_at m.layout p st) nowhere)
      | inr (k, at) ↦ placed k at (goes_on none ∙ ap (λ (p : Option ℕ). step_at m.layout p st) at)
    ]
  ]
