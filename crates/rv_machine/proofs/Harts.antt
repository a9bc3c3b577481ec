-- Harts that rest and the one in the processor, when another is brought there.
use Rattle.std.proofs.Common.{◌≡◌, ℕ, ◌+◌, ◌≤◌, ◌<◌, ◌==◌, inl, inr, List, [], ◌∷◌, ◌++◌, length, set, get_or, Result, Ok, Err, IfOk, refl, sym, ap, ◌∙◌, subst, arith, length-append}
use Rattle.std.proofs.lemmas.Bool.{cases_Bool, cases_eq, cases_lt, eq-eqb, ne_eqb}
use Rattle.std.proofs.lemmas.Grind.{get_or-set_at}
use Rattle.std.proofs.lemmas.List.{get_or-set_other, length-set}
use Rattle.std.proofs.lemmas.Option.{slice_get-get_or, slice_get_past, slice_get_read}
use Rattle.std.proofs.Math.ListN.{get_or-append}
use Rattle.std.proofs.Math.Path.{fun_ext}
use Rattle.std.proofs.Math.Seq.{get_or-append_seam}
use Rattle.rv_image.specs.MemoryMap.{profile_of}
use Rattle.rv_mem.specs.Cells.{Cells}
use Rattle.rv_sys.specs.Calls.{Calls, shared_of}
use Rattle.rv_code.specs.Run.{RunAfter, stepped}
use Rattle.rv_code.specs.State.{After, Hart, Harts, Shared, start_hart, with_hart}
use Rattle.rv_code.specs.Step.{step}
use Rattle.rv_code.specs.declared.turn.Turn.{Turn}
use Rattle.rv_machine.specs.Harts.{HartParts, MachineParts, harts_in, harts_share, rest_of, rest_or, resting_at, run_after}
use Rattle.rv_machine.specs.Parts.{MayTakeMemory, Parts, after_step, hart_in, shared_in}
use Rattle.rv_machine.specs.Room.{LacksRoomAtPc}

-- of two harts that are put at one place the last stays
pub twice : (harts : Harts) (k : ℕ) (a b : Hart) → with_hart (with_hart harts k a) k b ≡ with_hart harts k b
twice harts k a b = fun_ext (λ j. elim (cases_Bool (j == k)) [
  | inl same ↦ rw same refl
  | inr other ↦ rw other refl
])

pub as_it_is : (harts : Harts) (k : ℕ) (h : Hart) → h ≡ harts k → with_hart harts k h ≡ harts
as_it_is harts k h is = fun_ext (λ j. elim (cases_eq j k) [
  | inl same ↦ rw (eq-eqb j k same) (is ∙ ap harts (sym same))
  | inr other ↦ rw (ne_eqb j k other) refl
])

pub with_same : (harts : Harts) (k : ℕ) (h : Hart) → with_hart harts k h k ≡ h
with_same harts k h = rw (eq-eqb k k refl) refl

rests : (resting : List HartParts) (j : ℕ) (d : HartParts) → j < length resting → resting_at resting j ≡ rest_of (get_or resting j d)
rests resting j d low = ap (λ o. rest_or o (start_hart j)) (slice_get-get_or resting j d low)

none_rests : (resting : List HartParts) (j : ℕ) → length resting ≤ j → resting_at resting j ≡ start_hart j
none_rests resting j past = ap (λ o. rest_or o (start_hart j)) (slice_get_past resting j past)

pub resting_set : (resting : List HartParts) (k : ℕ) (parts : HartParts) → k < length resting → resting_at (set resting k parts) ≡ with_hart (resting_at resting) k (rest_of parts)
resting_set resting k parts low =
    let long : length (set resting k parts) ≡ length resting = length-set resting k parts in
    fun_ext (λ j. elim (cases_eq j k) [
      | inl same ↦
          rw (eq-eqb j k same) (rests (set resting k parts) j parts (omega arith) ∙ ap rest_of (get_or-set_at resting k j parts parts same low))
      | inr other ↦ rw (ne_eqb j k other) (elim (cases_lt j (length resting)) [
        | inl inside ↦
            rests (set resting k parts) j parts (omega arith) ∙ ap rest_of (get_or-set_other resting k j parts parts other)
            ∙ sym (rests resting j parts inside)
        | inr past ↦ none_rests (set resting k parts) j (omega arith) ∙ sym (none_rests resting j past)
      ])
    ])

-- one more hart, as before a run
pub resting_more : (resting : List HartParts) (parts : HartParts) → resting_at resting ≡ start_hart → rest_of parts ≡ start_hart (length resting) → resting_at (resting ++ parts ∷ []) ≡ start_hart
resting_more resting parts before is =
    let long : length (resting ++ parts ∷ []) ≡ length resting + 1 = length-append resting (parts ∷ []) in
    fun_ext (λ j. elim (cases_lt j (length resting)) [
      | inl inside ↦
          rests (resting ++ parts ∷ []) j parts (omega arith) ∙ ap rest_of (get_or-append resting (parts ∷ []) parts j inside)
          ∙ sym (rests resting j parts inside) ∙ ap (λ (harts : Harts). harts j) before
      | inr past ↦ elim (cases_eq j (length resting)) [
        | inl same ↦
            rests (resting ++ parts ∷ []) j parts (omega arith)
            ∙ ap (λ i. rest_of (get_or (resting ++ parts ∷ []) i parts)) same
            ∙ ap rest_of (get_or-append_seam resting parts [] parts) ∙ is ∙ ap start_hart (sym same)
        | inr other ↦ none_rests (resting ++ parts ∷ []) j (omega arith)
      ]
    ])

-- the hart in the processor rests at its place, and another is brought there
pub exchanged : (resting : List HartParts) (current k : ℕ) (rested taken left : HartParts) (own : Hart) → current < length resting → k < length resting → rest_of rested ≡ own →
    taken ≡ get_or (set resting current rested) k taken →
    with_hart (resting_at (set (set resting current rested) k left)) k (rest_of taken) ≡ with_hart (resting_at resting) current own
exchanged resting current k rested taken left own low inside is there =
    let at_rest = set resting current rested in
    let long : length at_rest ≡ length resting = length-set resting current rested in
    ap (λ harts. with_hart harts k (rest_of taken)) (resting_set at_rest k left (omega arith))
    ∙ twice (resting_at at_rest) k (rest_of left) (rest_of taken)
    ∙ as_it_is (resting_at at_rest) k (rest_of taken) (sym (ap (λ o. rest_or o (start_hart k)) (slice_get_read at_rest (length at_rest) k taken refl (omega arith) there)))
    ∙ resting_set resting current rested low
    ∙ ap (λ h. with_hart (resting_at resting) current h) is

-- a hart is in the processor, and all is as it was
pub record IsSelected (old new : MachineParts) (hart : ℕ) : Type 0 where
  pub current : new.current ≡ hart
  pub harts : harts_in new ≡ harts_in old
  pub memory : new.processor.memory ≡ old.processor.memory
  pub calls : new.processor.calls ≡ old.processor.calls

module _ (old new : MachineParts) (hart : ℕ) (is : IsSelected old new hart) where
  -- the hart in the processor is the one with its number
  pub own_hart : hart_in new.processor ≡ harts_in old hart
  own_hart =
      sym (with_same (resting_at new.resting) new.current (hart_in new.processor))
      ∙ ap (harts_in new) is.current ∙ ap (λ (harts : Harts). harts hart) is.harts

  pub same_share : harts_share new ≡ harts_share old
  same_share = ap (λ (cells : Cells). shared_of cells new.processor.calls) is.memory ∙ ap (λ (calls : Calls). shared_of old.processor.memory calls) is.calls

  -- a step of the processor is one of its hart
  pub own_step : (after : Parts) (turn : Turn) → after_step after turn ≡ step (profile_of new.processor.memory.version) (hart_in new.processor) (shared_in new.processor) →
      run_after (record new { processor = after }) turn ≡ stepped (profile_of old.processor.memory.version) (harts_in old) (harts_share old) (record { hart = hart; changes = [] })
  own_step after turn stepped_so =
      ap (λ (a : After). put (resting_at new.resting) new.current a) stepped_so
      ∙ ap (λ (k : ℕ). put (resting_at new.resting) k (one new.processor.memory (hart_in new.processor) (shared_in new.processor))) is.current
      ∙ again (one new.processor.memory (hart_in new.processor) (shared_in new.processor))
      ∙ ap (λ (cells : Cells). put (harts_in old) hart (one cells (hart_in new.processor) (shared_in new.processor))) is.memory
      ∙ ap (λ (h : Hart). put (harts_in old) hart (one old.processor.memory h (shared_in new.processor))) own_hart
      ∙ ap (λ (s : Shared). put (harts_in old) hart (one old.processor.memory (harts_in old hart) s)) same_share
    where
      put : Harts → ℕ → After → RunAfter
      put harts k a = record { harts = with_hart harts k a.hart; shared = a.shared; turn = a.turn }

      one : Cells → Hart → Shared → After
      one cells h s = step (profile_of cells.version) h s

      again : (a : After) → put (resting_at new.resting) hart a ≡ put (harts_in old) hart a
      again a =
          ap (λ (harts : Harts). record { harts = harts; shared = a.shared; turn = a.turn })
          (sym (twice (resting_at new.resting) hart (hart_in new.processor) a.hart)
          ∙ ap (λ (k : ℕ). with_hart (with_hart (resting_at new.resting) k (hart_in new.processor)) hart a.hart) (sym is.current)
          ∙ ap (λ (harts : Harts). with_hart harts hart a.hart) is.harts)

  -- what may take memory, or lacks room, for the hart in the processor does so for the hart
  pub own_wants : MayTakeMemory (profile_of new.processor.memory.version) (hart_in new.processor) (shared_in new.processor) →
      MayTakeMemory (profile_of old.processor.memory.version) (harts_in old hart) (harts_share old)
  own_wants wants =
      subst (λ (s : Shared). MayTakeMemory (profile_of old.processor.memory.version) (harts_in old hart) s) same_share
      (subst (λ (h : Hart). MayTakeMemory (profile_of old.processor.memory.version) h (shared_in new.processor)) own_hart
      (subst (λ (cells : Cells). MayTakeMemory (profile_of cells.version) (hart_in new.processor) (shared_in new.processor)) is.memory wants))

  pub own_room : LacksRoomAtPc new.processor.memory (hart_in new.processor) → LacksRoomAtPc old.processor.memory (harts_in old hart)
  own_room lacks =
      subst (λ (h : Hart). LacksRoomAtPc old.processor.memory h) own_hart
      (subst (λ (cells : Cells). LacksRoomAtPc cells (hart_in new.processor)) is.memory lacks)

pub if_ok_then : {A E : Type 0} {P Q : A → Type 0} (r : Result A E) → ((a : A) → P a → Q a) → IfOk r P → IfOk r Q
if_ok_then (Ok a) then_so p = then_so a p
if_ok_then (Err e) then_so p = tt
