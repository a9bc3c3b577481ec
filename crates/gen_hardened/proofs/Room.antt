-- The hardened code of a generated object fits into the region of code.
use Rattle.std.proofs.Common.{◌≡◌, ℕ, ◌+◌, ◌*◌, ◌≤◌, Bool, true, false, Option, Some, None, List, [], ◌∷◌, length, map, inl, inr, refl, arith}
use Rattle.std.specs.Prelude.{sum}
use Rattle.std.specs.List.{sum_by}
use Rattle.std.proofs.lemmas.Bool.{cases_Bool}
use Rattle.std.proofs.lemmas.List.Sums.{sum_by-cons}
use Rattle.gen_hardened.proofs.Prelude.{CODE_SIZE, Plain, OneLabel, ItemKind, InputParts, Item, is_end, outline, item_with, program_of, ClosedGraph, is_target, Entered, entered_at, lead_size, is_ecall, kind_size, size_of, whole_at, part_sizes, whole_size, Function, IsGenerated}
use Rattle.obj_input.specs.declared.item_kind.ItemKind.TheVariants as is
use Rattle.gen_hardened.proofs.Weights.{kind_weight}
use Rattle.gen_hardened.proofs.PlaceWeights.{item_weight, outline_weighs}

-- without a list of system calls a part has no more bytes than its place weighs
unit_weighs : (calls : Option (List ℕ)) (kind : ItemKind) (ecall whole : Bool) → calls ≡ None → 4 + kind_size calls kind ecall whole ≤ kind_weight kind
unit_weighs (Some numbers) kind ecall whole none = absurd (cc)
unit_weighs None is.Store ecall true none = omega arith
unit_weighs None is.Store ecall false none = omega arith
unit_weighs None is.System true whole none = omega arith
unit_weighs None is.System false whole none = omega arith
unit_weighs None is.Branch ecall true none = omega arith
unit_weighs None is.Branch ecall false none = omega arith
unit_weighs None is.Call ecall whole none = omega arith
unit_weighs None is.Return ecall whole none = omega arith
unit_weighs None is.Ijump ecall whole none = omega arith
unit_weighs None is.Icall ecall whole none = omega arith
unit_weighs None other ecall whole none = omega arith

-- a closed graph of version 1 without a list of system calls
pub record IsBare (closed : ClosedGraph) : Type 0 where
  pub version : closed.version ≡ OneLabel
  pub calls : closed.calls ≡ None
  pub sides : length closed.sides ≡ 1

module _ (of : Entered) (bare : IsBare of.closed) where
  lead_weighs : (k : ℕ) → lead_size of k ≤ 4
  lead_weighs k =
      let one = bare.sides in
      rw bare.version
      (elim (cases_Bool (is_target of.closed.sides k)) [ inl target ↦ rw target (omega arith) | inr other ↦ rw other (omega arith) ])

  unit_is : (k : ℕ) (item : Item) (whole : Bool) → size_of of k item whole ≡ kind_size of.closed.calls item.kind (is_ecall item) whole
  unit_is k item whole = rw bare.version refl

  parts_weigh : (whole : List Bool) (k : ℕ) (items : List Item) → sum (part_sizes of whole k items) ≤ sum_by item_weight items
  unfolding part_sizes
  parts_weigh whole k [] = omega arith
  parts_weigh whole k (item ∷ items) =
      let size = lead_size of k + size_of of k item (whole_at whole k) in
      omega (
        arith,
        unit_weighs of.closed.calls item.kind (is_ecall item) (whole_at whole k) bare.calls,
        unit_is k item (whole_at whole k),
        lead_weighs k,
        parts_weigh whole (k + 1) items,
        sum_by-cons (λ (x : ℕ). x) size (part_sizes of whole (k + 1) items),
        sum_by-cons item_weight item items,
      )

-- relocations change no kind
linked_weighs : (input : InputParts) (places items : List Item)
    → sum_by item_weight (map (item_with input places) items) ≡ sum_by item_weight items
linked_weighs input places [] = refl
linked_weighs input places (item ∷ items) =
    let same : item_weight (item_with input places item) ≡ item_weight item =
    elim (cases_Bool (is_end item.kind)) [ inl last ↦ rw last refl | inr other ↦ rw other refl ] in
    omega (
      arith,
      same,
      linked_weighs input places items,
      sum_by-cons item_weight item items,
      sum_by-cons item_weight (item_with input places item) (map (item_with input places) items),
    )

-- the prologue has 64 bytes
pub size_within : (fs : List Function) (input : InputParts) (closed : ClosedGraph) (entry : ℕ) → IsBare closed → IsGenerated fs input
    → whole_size Plain (entered_at (program_of input) closed entry) ≤ 64 + (17 * 84 + 332 * length fs + 8)
unfolding program_of
size_within fs input closed entry bare g =
    let places = outline input in
    omega (
      arith,
      parts_weigh (entered_at (program_of input) closed entry) bare [] 0 (map (item_with input places) places),
      linked_weighs input places places,
      outline_weighs fs input g,
    )

-- the code of 2,000 functions has room, whatever its graph of version 1 without a list of system calls, and wherever it is entered
pub code_has_room : (fs : List Function) (input : InputParts) (closed : ClosedGraph) (entry : ℕ) → IsBare closed → length fs ≡ 2000 → IsGenerated fs input
    → whole_size Plain (entered_at (program_of input) closed entry) ≤ CODE_SIZE
code_has_room fs input closed entry bare many g = omega (arith, many, size_within fs input closed entry bare g)
