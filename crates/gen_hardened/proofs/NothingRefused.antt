-- A generated object without a fault, whose code has room, is not refused.
use Rattle.std.proofs.Common.{◌≡◌, ℕ, ◌≤◌, Some, None, inl, inr, List, codes, length, refl, sym, ap, subst, ◌∙◌, arith}
use Rattle.std.proofs.lemmas.List.{length-map}
use Rattle.gen_hardened.proofs.Prelude.{CODE_SIZE, graph_version, object_bytes, Holds, Form, Plain, InputParts, fault_of, Program, out_of_range, input_of, program_of, ClosedGraph, Side, sorts_of, entry_place, Function, demo_parts, parts_with, functions_from, IsGenerated, Refusal, Object, Items, NoEntry, Policy, CodeTooLarge, DataTooLarge, RelocRange, RefusesGiven, alone, HasDataRoom, IsPreparedOf, PreparedParts, RefusesProgram, program_request, entered_at, ProgramAtMap, words_at, whole_size, DemoIsNeverRefused, IsNeverRefused, entered}
use Rattle.gen_hardened.proofs.Reading.{generated_is}
use Rattle.cfi_gen.proofs.Right.{demo_holds}
use Rattle.cfi_gen.proofs.Writing.{length-functions}
use Rattle.gen_hardened.proofs.NoFault.{no_fault}
use Rattle.gen_hardened.proofs.AllInRange.{all_in_range}
use Rattle.gen_hardened.proofs.DataRoom.{data_room}
use Rattle.gen_hardened.proofs.EnteredAtMain.{entered_at_main}
use Rattle.gen_hardened.proofs.NoPolicy.{no_wrong_line}
use Rattle.gen_hardened.proofs.Room.{IsBare, code_has_room}
use Rattle.gen_hardened.proofs.Small.{AreSmall, small_functions}

-- its code has room, whatever its graph of version 1 without a list of system calls, and wherever it is entered
abbrev pub HasCodeRoom : List ℕ → Type 0
HasCodeRoom object = (closed : ClosedGraph) (entry : ℕ) → IsBare closed → whole_size Plain (entered_at (program_of (input_of object)) closed entry) ≤ CODE_SIZE

module _ (fs : List Function) (small : AreSmall fs) (object : List ℕ) (holds : Holds (parts_with fs) object)
    (sound : fault_of (input_of object) ≡ None) (room : HasCodeRoom object) where
  is_generated : IsGenerated fs (input_of object)
  is_generated = generated_is fs object holds

  main_there : entry_place (program_of (input_of object)) (codes "main") ≡ Some 0
  main_there = entered_at_main is_generated

  -- graphs of version 1 have one side, and without a policy there is no list of system calls
  bare : (p : PreparedParts) → IsPreparedOf (program_request (entered object)) p → IsBare p.closed
  bare p is =
      let (raw, drawn, closes) = is.closed.drawn in
      record {
        version = closes.version_is ∙ ap graph_version is.form;
        calls = closes.calls ∙ drawn.calls;
        sides =
            sym (length-map p.closed.sides (λ (s : Side). s.sort)) ∙ ap length closes.sorts ∙ ap (λ (form : Form). length (sorts_of (graph_version form))) is.form;
      }

  code_room : (p : PreparedParts) → IsPreparedOf (program_request (entered object)) p → whole_size p.form (entered_at p.program p.closed p.entry) ≤ CODE_SIZE
  code_room p is = subst (λ (form : Form). whole_size form (entered_at p.program p.closed p.entry) ≤ CODE_SIZE) (sym is.form)
      (subst (λ (x : Program). whole_size Plain (entered_at x p.closed p.entry) ≤ CODE_SIZE) (sym is.program)
      (room p.closed p.entry (bare p is)))

  room_there : (p : PreparedParts) → IsPreparedOf (program_request (entered object)) p → HasDataRoom p.program
  room_there p is = subst HasDataRoom (sym is.program) (data_room is_generated)

  none_astray : (p : PreparedParts) → IsPreparedOf (program_request (entered object)) p → (gates words : List ℕ)
      → out_of_range p.program gates words ≡ None
  none_astray p is gates words =
      ap (λ (x : Program). out_of_range x gates words) is.program ∙ all_in_range is_generated small sound gates words

  -- it is a program
  object_taken : (refusal : Refusal) → RefusesGiven (alone object) refusal → ⊥
  object_taken (Object fault) stands = let none = holds.sound in cc
  object_taken (Items fault) stands = let some = stands.1 in cc
  object_taken other stands = absurd stands

  -- which is not refused
  program_taken : (refusal : Refusal) → RefusesProgram (program_request (entered object)) refusal → ⊥
  program_taken NoEntry none = let some = main_there in cc
  program_taken (Policy n) stands = no_wrong_line (program_of (input_of object)) n stands.1
  program_taken (CodeTooLarge bytes) (p, is, refused) =
      let fits = code_room p is in
      let bytes_are = refused.0 in
      let more = refused.1 in
      omega arith
  program_taken (DataTooLarge init end) (p, is, refused) = refused.3 (room_there p is)
  program_taken (RelocRange section offset) (p, is, refused) =
      let layout = refused.0.layout in
      let none = subst (λ (x : Program). out_of_range x layout.gates (words_at layout) ≡ None) (sym (ap (λ (l : ProgramAtMap). l.program) refused.1.of))
      (none_astray p is layout.gates (words_at layout)) in
      let some = refused.3 in
      absurd (cc)
  program_taken other stands = absurd stands

  pub nothing_refused : IsNeverRefused (entered object)
  nothing_refused refusal (inl stands) = object_taken refusal stands
  nothing_refused refusal (inr (given, stands)) = program_taken refusal stands

-- the object of each number, where it holds its parts, has no fault, and its code has room
pub demo_never_refused : ((number : ℕ) → Holds (demo_parts number) (object_bytes (demo_parts number)))
    → ((number : ℕ) (input : InputParts) → IsGenerated (functions_from 2000 0 number) input → fault_of input ≡ None)
    → ((number : ℕ) (input : InputParts) (closed : ClosedGraph) (entry : ℕ) → IsBare closed → IsGenerated (functions_from 2000 0 number) input
    → whole_size Plain (entered_at (program_of input) closed entry) ≤ CODE_SIZE)
    → DemoIsNeverRefused
demo_never_refused holds sound room number =
    let fs = functions_from 2000 0 number in
    let object = object_bytes (demo_parts number) in
    let is = generated_is fs object (holds number) in
    nothing_refused fs (small_functions 2000 0 number (omega arith)) object (holds number) (sound number (input_of object) is)
    (λ closed entry bare. room number (input_of object) closed entry bare is)

pub never_refused : DemoIsNeverRefused
never_refused =
    demo_never_refused (λ number. demo_holds number (object_bytes (demo_parts number)) refl) no_fault
    (λ number input closed entry bare is. code_has_room (functions_from 2000 0 number) input closed entry bare (length-functions 2000 0 number) is)
