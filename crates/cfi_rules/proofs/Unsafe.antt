-- The small pairs with a fault are not safe: their undisturbed runs leave what stands where the walk is,
-- or stop where they may not.
use Rattle.std.proofs.Common.{◌≡◌, ℕ, zero, suc, ◌+◌, ◌≤◌, inl, List, [], ◌∷◌, refl, ap, subst, Some, arith, lit≤}
use Rattle.std.specs.Prelude.{slice_get}
use Rattle.std.specs.List.{AllByRecursion}
use Rattle.rv_image.specs.Image.{Contents, loaded}
use Rattle.rv_image.specs.MemoryMap.{version_1}
use Rattle.rv_image.proofs.Profiles.{laid_out}
use Rattle.rv_word.specs.Memory.{placed, write}
use Rattle.rv_code.specs.Decode.{decoded}
use Rattle.rv_code.specs.Encode.{code_of}
use Rattle.rv_code.specs.State.{start_hart, start_shared, last_exit}
use Rattle.rv_code.specs.Step.{step}
use Rattle.rv_code.specs.declared.turn.Turn.TheVariants.{Ran, Exit, Break, LoadFault, StoreFault, Illegal}
use Rattle.rv_code.proofs.Runs.{calm}
use Rattle.cfi_graph.specs.Graph.{GraphParts}
use Rattle.cfi_unit.specs.declared.unit.Unit.TheVariants as V
use Rattle.cfi_unit.specs.declared.place.Place.{Place}
use Rattle.cfi_unit.specs.declared.place.Place.TheVariants.{Handler as handler, Opening as opening, Closing as closing, Body as body}
use Rattle.cfi_unit.specs.Place.{place_size}
use Rattle.cfi_unit.specs.Recognise.{read_each, recognised}
use Rattle.cfi_unit.specs.UnitWords.{words_of}
use Rattle.cfi_rules.specs.Along.{IsSafe, MayEnd}
use Rattle.cfi_rules.specs.Split.{code_words, starts, is_start, unit_at, place_at}
use Rattle.cfi_rules.specs.Taken.{steps_taken}
use Rattle.cfi_rules.specs.Trails.{Begin, trail_of, IsInPlace}
use Rattle.cfi_rules.specs.Unsafe.{middle, middle_graph, bare_store, bare_store_graph, moved_pointer, moved_pointer_graph, exiting_handler, loading_handler, storing_handler, illegal_handler, handler_graph, breaking_closing, breaking_closing_graph, MiddleIsUnsafe, BareStoreIsUnsafe, MovedPointerIsUnsafe, WrongStopsAreUnsafe}
use Rattle.cfi_rules.proofs.OneHart.{safe_stays_alone}
use Rattle.cfi_rules.proofs.Taken.{AreDataChanges, steps_of}

pub calm_is_data : (n : ℕ) → AreDataChanges (calm n)
calm_is_data zero = tt
calm_is_data (suc n) = (tt, calm_is_data n)

each : {A : Type 0} (P : A → Type 0) (xs : List A) (k : ℕ) (x : A) → AllByRecursion P xs → slice_get xs k ≡ Some x → P x
each P [] k x all e = absurd (cc)
each {A} P (y ∷ ys) zero x all e = let same : y ≡ x = cc in subst P same all.0
each P (y ∷ ys) (suc k) x all e = each P ys k x all.1 e

-- the begun instructions of the undisturbed run without an input
abbrev calm_trail : Contents → ℕ → List Begin
calm_trail image n = trail_of version_1 (code_words image.code) 0 0 (steps_taken version_1 start_hart (start_shared image []) (steps_of 0 (calm n)))

begins_in_place : (image : Contents) (graph : GraphParts) (n k : ℕ) (b : Begin) →
    slice_get (calm_trail image n) k ≡ Some b → IsSafe version_1 image graph → IsInPlace version_1 (code_words image.code) b
begins_in_place image graph n k b here safe =
    each (IsInPlace version_1 (code_words image.code)) (calm_trail image n) k b (safe_stays_alone version_1 image graph [] (calm n) (laid_out version_1 (inl (inl refl))) safe (calm_is_data n)) here

-- an instruction past what stands at the newest address of the walk refutes safety
refuted : (image : Contents) (graph : GraphParts) (n k : ℕ) (b : Begin) (place : Place) →
    slice_get (calm_trail image n) k ≡ Some b →
    place_at version_1 (code_words image.code) b.newest ≡ Some place → b.newest + place_size version_1 place ≤ b.pc → IsSafe version_1 image graph → ⊥
refuted image graph n k b place here is past safe =
    let i = begins_in_place image graph n k b here safe in
    let same : i.0 ≡ place = let other = i.1 in cc in
    let word = i.2 in
    let size : place_size version_1 i.0 ≡ place_size version_1 place = ap (place_size version_1) same in
    let below = word.1 in let at = word.2 in
    omega arith

-- and so does one that ends as it may not where it stands
refuted_by_end : (image : Contents) (graph : GraphParts) (n k : ℕ) (b : Begin) (place : Place) →
    slice_get (calm_trail image n) k ≡ Some b →
    place_at version_1 (code_words image.code) b.newest ≡ Some place → (MayEnd place b.pc b.turn → ⊥) → IsSafe version_1 image graph → ⊥
refuted_by_end image graph n k b place here is never safe =
    let i = begins_in_place image graph n k b here safe in
    let same : i.0 ≡ place = let other = i.1 in cc in
    never (subst (λ p. MayEnd p b.pc b.turn) same i.3)

pub middle_unsafe : MiddleIsUnsafe
unfolding loaded placed decoded code_of step write last_exit code_words read_each recognised words_of starts is_start unit_at place_at steps_taken trail_of
middle_unsafe =
    refuted middle middle_graph 12 11 (record { newest = 0x40000040; pc = 0x40000048; turn = Ran }) (body (V.Jump 0x40000048)) refl refl (lit≤ tt)

pub bare_store_unsafe : BareStoreIsUnsafe
unfolding loaded placed decoded code_of step write last_exit code_words read_each recognised words_of starts is_start unit_at place_at steps_taken trail_of
bare_store_unsafe =
    refuted bare_store bare_store_graph 11 10 (record { newest = 0x4000000c; pc = 0x40000040; turn = Ran }) (opening 0x40000040) refl refl (lit≤ tt)

pub moved_pointer_unsafe : MovedPointerIsUnsafe
unfolding loaded placed decoded code_of step write last_exit code_words read_each recognised words_of starts is_start unit_at place_at steps_taken trail_of
moved_pointer_unsafe =
    refuted moved_pointer moved_pointer_graph 11 10 (record { newest = 0x4000000c; pc = 0x40000040; turn = Ran }) (opening 0x40000040) refl refl (lit≤ tt)

exit_unsafe : IsSafe version_1 exiting_handler handler_graph → ⊥
unfolding loaded placed decoded code_of step write last_exit code_words read_each recognised words_of starts is_start unit_at place_at steps_taken trail_of
exit_unsafe =
    refuted_by_end exiting_handler handler_graph 13 12 (record { newest = 0x40000000; pc = 0x40000000; turn = Exit 0 }) handler refl refl (λ e. e)

load_fault_unsafe : IsSafe version_1 loading_handler handler_graph → ⊥
unfolding loaded placed decoded code_of step write last_exit code_words read_each recognised words_of starts is_start unit_at place_at steps_taken trail_of
load_fault_unsafe =
    refuted_by_end loading_handler handler_graph 13 12 (record { newest = 0x40000000; pc = 0x40000000; turn = LoadFault 0x40000000 0x20000000 }) handler refl refl (λ e. e.1)

store_fault_unsafe : IsSafe version_1 storing_handler handler_graph → ⊥
unfolding loaded placed decoded code_of step write last_exit code_words read_each recognised words_of starts is_start unit_at place_at steps_taken trail_of
store_fault_unsafe =
    refuted_by_end storing_handler handler_graph 13 12 (record { newest = 0x40000000; pc = 0x40000000; turn = StoreFault 0x40000000 0x40000038 }) handler refl refl (λ e. e)

illegal_unsafe : IsSafe version_1 illegal_handler handler_graph → ⊥
unfolding loaded placed decoded code_of step write last_exit code_words read_each recognised words_of starts is_start unit_at place_at steps_taken trail_of
illegal_unsafe =
    refuted_by_end illegal_handler handler_graph 13 12 (record { newest = 0x40000000; pc = 0x40000000; turn = Illegal 0x40000000 }) handler refl refl (λ e. e)

break_unsafe : IsSafe version_1 breaking_closing breaking_closing_graph → ⊥
unfolding loaded placed decoded code_of step write last_exit code_words read_each recognised words_of starts is_start unit_at place_at steps_taken trail_of
break_unsafe =
    refuted_by_end breaking_closing breaking_closing_graph 16 15 (record { newest = 0x40000038; pc = 0x4000003c; turn = Break 0x4000003c }) closing refl refl (λ e. e.1)

pub wrong_stops_unsafe : WrongStopsAreUnsafe
wrong_stops_unsafe = record {
  exit = exit_unsafe;
  load_fault = load_fault_unsafe;
  store_fault = store_fault_unsafe;
  illegal = illegal_unsafe;
  break = break_unsafe;
}
