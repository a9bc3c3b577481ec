-- Steps from stores: each goes on to the next place and tells nothing to the world.
use Rattle.std.proofs.Common.{◌≡◌, ℕ, ◌+◌, ◌⊎◌, inl, inr, true, Option, Some, None, refl, sym, ap, subst, ◌∙◌}
use Rattle.cfi_meaning.proofs.Prelude.{Contents, Instr, last_exit, Turn, Ran, Exit, Break, ItemKind, item_of, ProgramAtMap, gate, gate_to, word, is_store, Source, SourceAfter, StepTurn, acts, breaks, exits, place_after, ran, source_step, step_at, turn_at, unless, unless_ended, untame, Reason, Own, OwnAfter, IsAccepted, Choice, instr_of, TamePlace, at_word, holds_store, place_step}
use Rattle.obj_input.specs.declared.item_kind.ItemKind.TheVariants as is
use Rattle.cfi_writer.proofs.GroupUnit.{store_at}
use Rattle.cfi_meaning.proofs.KindActs.{IsOwn}
use Rattle.cfi_meaning.proofs.KindStep.{store_step, stores_on}

-- the step of a store's place
pub record StoreGoes (m : Choice) (k : ℕ) (o : Own) : Type 0 where
  pub turn : (place_step m k o).turn ≡ Ran
  pub events : (place_step m k o).state.shared.events ≡ o.shared.events

pub store_goes : (m : Choice) (image : Contents) (k : ℕ) (o : Own) → IsAccepted m → TamePlace m image k o → holds_store m k ≡ true → StoreGoes m k o
store_goes m image k o ok now store =
    let does =
    store_step m.layout.profile (item_of m.layout.program k).kind (instr_of m k) (gate_to m.layout (item_of m.layout.program k).target)
    (gate m.layout (k + 1)) (at_word m k o) store in
    let on = stores_on m.layout.profile (instr_of m k) (gate m.layout (k + 1)) (at_word m k o) (store_at m ok k now.place.below store) (now.inside store) in
    record {
      turn = ap (λ (a : OwnAfter). a.turn) does ∙ on.turn;
      events = ap (λ (a : OwnAfter). a.state.shared.events) does ∙ on.events;
    }

-- an own step that goes on is one of the source machine that does, or is untame
pub goes_or_untame : (g : ProgramAtMap) (o : OwnAfter) (turn : StepTurn) (next : Source) → IsOwn g o turn next → o.turn ≡ Ran →
    (turn ≡ ran) ⊎ ((why : Reason) × (k : ℕ) × (turn ≡ untame why k))
goes_or_untame g o ran next own going = inl refl
goes_or_untame g o (exits status) next own going = let wrong : Ran ≡ Exit status = sym going ∙ own.0 in absurd (cc)
goes_or_untame g o (breaks k) next own going = let wrong : Ran ≡ Break (word g k) = sym going ∙ own.0 in absurd (cc)
goes_or_untame g o (untame why k) next own going = inr (why, k, refl)

-- behind a store the next place is next
next_place : (k : ℕ) (turn : Turn) → turn_at k turn ≡ ran → place_after k turn ≡ Some (k + 1)
next_place k Ran going = refl
next_place k (Exit status) going = absurd (cc)
next_place k (Break pc) going = absurd (cc)
next_place k other going = absurd (cc)

acts_next : (layout : ProgramAtMap) (k : ℕ) (kind : ItemKind) (i : Instr) (target : ℕ) (st : Source) → is_store kind ≡ true →
    (acts layout k kind i target st).turn ≡ ran → (acts layout k kind i target st).state.place ≡ Some (k + 1)
acts_next layout k is.Store i target st store going = next_place k _ going
acts_next layout k other i target st store going = absurd (cc)

unless_next : (why : Option Reason) (k : ℕ) (st : Source) (after : SourceAfter) (place : Option ℕ) → (after.turn ≡ ran → after.state.place ≡ place) →
    (unless why k st after).turn ≡ ran → (unless why k st after).state.place ≡ place
unless_next None k st after place next going = next going
unless_next (Some because) k st after place next going = absurd (cc)

ended_next : (o : Option ℕ) (st : Source) (after : SourceAfter) (place : Option ℕ) → (after.turn ≡ ran → after.state.place ≡ place) →
    (unless_ended o st after).turn ≡ ran → (unless_ended o st after).state.place ≡ place
ended_next None st after place next going = next going
ended_next (Some status) st after place next going = absurd (cc)

pub store_next : (layout : ProgramAtMap) (st : Source) (k : ℕ) → st.place ≡ Some k → is_store (item_of layout.program k).kind ≡ true →
    (source_step layout st).turn ≡ ran → (source_step layout st).state.place ≡ Some (k + 1)
unfolding source_step
store_next layout st k at store going =
    ended_next (last_exit st.shared.events) st (step_at layout st.place st) (Some (k + 1))
    (subst (λ (place : Option ℕ). (step_at layout place st).turn ≡ ran → (step_at layout place st).state.place ≡ Some (k + 1)) (sym at)
    (unless_next _ k st _ (Some (k + 1)) (acts_next layout k (item_of layout.program k).kind _ _ st store))) going
