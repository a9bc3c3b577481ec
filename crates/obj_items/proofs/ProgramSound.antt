-- The program of an input without a fault is sound.
use Rattle.std.proofs.Common.{◌≡◌, ℕ, ◌*◌, ◌^◌, ◌<◌, get_or, true, Some, length, inl, inr, refl, sym, ap, subst, ◌∙◌, arith}
use Rattle.std.specs.Prelude.{slice_get}
use Rattle.std.proofs.lemmas.List.{get_or-map, length-map}
use Rattle.std.proofs.lemmas.List.Elements.{All-get_or}
use Rattle.std.proofs.lemmas.Option.{get_or_from_slice_get, slice_get_within}
use Rattle.obj_items.proofs.Prelude.{InputParts, section_of, DataReloc, Item, Program, count, item_of, no_item, IsSound, aims, is_patch, is_read, lies, relocs_of, ProgramsAreSound, item_with, end_at, outline, program_of, program_with, IsInput}
use Rattle.obj_items.proofs.DataLies.{relocs_lie}
use Rattle.obj_items.proofs.InOrder.{linked_in_order, outline_in_order}
use Rattle.obj_items.proofs.LastEnds.{last_ends}
use Rattle.obj_items.proofs.LookUp.{IsOfOutline, outline_right}
use Rattle.obj_items.proofs.MapFit.{program_fits}
use Rattle.obj_items.proofs.NoFault.{IsRight, right}
use Rattle.obj_items.proofs.Patches.{start_patch}
use Rattle.obj_items.proofs.Starts.{linked_at, linked_is, start_read}
use Rattle.obj_items.proofs.Targets.{start_aims}

-- what holds of a place of the program
record IsSoundItem (p : Program) (x : Item) : Type 0 where
  read : is_read x ≡ true
  patch : is_patch p x.patch ≡ true
  target : aims p x.kind x.target ≡ true

module _ (input : InputParts) (is : IsInput input) (right : IsRight input) where
  end_sound : (k : ℕ) → IsSoundItem (program_with input (outline input)) (item_with input (outline input) (end_at (section_of input k) k))
  end_sound k = record { read = refl; patch = refl; target = refl }

  item_sound : (x : Item) → IsOfOutline input x → IsSoundItem (program_with input (outline input)) (item_with input (outline input) x)
  item_sound x placed = elim placed.either [
    | inl (i, starts, e) ↦
        let k = x.section in
        let (kind, kind_is, going, read) = start_read input right (outline input) k i placed.code starts in
        let same : item_with input (outline input) x ≡ linked_at input (outline input) k i kind =
        ap (item_with input (outline input)) e ∙ linked_is input (outline input) k i kind kind_is going in
        let sound : IsSoundItem (program_with input (outline input)) (linked_at input (outline input) k i kind) = record {
          read = read;
          patch = start_patch input is right k (4 * i) placed.code;
          target = start_aims input is right k i kind placed.code starts kind_is;
        } in
        subst (λ (y : Item). IsSoundItem (program_with input (outline input)) y) (sym same) sound
    | inr e ↦
        let same : item_with input (outline input) x ≡ item_with input (outline input) (end_at (section_of input x.section) x.section) = ap (item_with input (outline input)) e in
        subst (λ (y : Item). IsSoundItem (program_with input (outline input)) y) (sym same) (end_sound x.section)
  ]

  item_at : (k : ℕ) → k < count (program_with input (outline input)) → IsSoundItem (program_with input (outline input)) (item_of (program_with input (outline input)) k)
  item_at k below =
      let size = length-map (outline input) (item_with input (outline input)) in
      let inside : k < length (outline input) = omega arith in
      let at = get_or-map (item_with input (outline input)) (outline input) k no_item no_item inside in
      let one = All-get_or (IsOfOutline input) (outline input) k no_item inside (outline_right input) in
      subst (λ (y : Item). IsSoundItem (program_with input (outline input)) y) (sym at) (item_sound (get_or (outline input) k no_item) one)

  relocs_at : (j : ℕ) (r : DataReloc) → slice_get (relocs_of input (outline input)) j ≡ Some r → lies (program_with input (outline input)) r ≡ true
  relocs_at j r e =
      let inside = slice_get_within (relocs_of input (outline input)) j r e in
      let at = get_or_from_slice_get (relocs_of input (outline input)) j r r e in
      let one = All-get_or (λ q. lies (program_with input (outline input)) q ≡ true) (relocs_of input (outline input)) j r inside (relocs_lie input is right) in
      subst (λ (q : DataReloc). lies (program_with input (outline input)) q ≡ true) at one

  sound : length (outline input) < 2 ^ 62 → IsSound (program_with input (outline input))
  sound few = record {
    in_order = linked_in_order input (outline input) (outline input) (outline_in_order input);
    few = let size = length-map (outline input) (item_with input (outline input)) in omega arith;
    read = λ k below. (item_at k below).read;
    patches = λ k below. (item_at k below).patch;
    targets = λ k below. (item_at k below).target;
    relocations = relocs_at;
  }

pub program_sound : ProgramsAreSound
unfolding program_of
program_sound input is fit few none =
    (sound input is (right input none) few, record { last = last_ends input; fits = program_fits input fit })
