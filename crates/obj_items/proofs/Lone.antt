-- No place of a sound program has both a patch and a target.
use Rattle.std.proofs.Common.{◌≡◌, ℕ, ◌<◌, true, false, not, ◌&&◌, nat_lt, if◌then◌else◌, Option, Some, None, List, get_or, length, refl, sym, ap, subst, ◌∙◌, arith}
use Rattle.std.proofs.lemmas.Bool.{and_parts, or_left, or_right}
use Rattle.std.proofs.lemmas.List.{get_or-map, length-map}
use Rattle.obj_items.proofs.Prelude.{decoded, Instr, ItemKind, InputParts, Item, Patch, is_lone, may_be_together, Program, count, is_end, item_of, no_item, IsSound, aims, is_direct, is_of, is_own, is_read, has_lower, is_upper, may_be_patched, names_reserved, stands_on, suits, AreLinkedTo, item_with, outline, program_of}
use Rattle.obj_input.specs.declared.item_kind.ItemKind.TheVariants as is
use Rattle.obj_program.specs.declared.item.Patch.TheVariants as put
use Rattle.obj_items.proofs.Linking.{item_same}

-- a direct transfer is no end, and no relocation gives it an immediate
direct : (kind : ItemKind) → is_direct kind ≡ true → (is_end kind ≡ false) × (may_be_patched kind ≡ false)
direct is.Branch e = (refl, refl)
direct is.Jump e = (refl, refl)
direct is.Call e = (refl, refl)
direct is.Gate e = absurd (cc)
direct is.Plain e = absurd (cc)
direct is.Store e = absurd (cc)
direct is.System e = absurd (cc)
direct is.Return e = absurd (cc)
direct is.Ijump e = absurd (cc)
direct is.Icall e = absurd (cc)
direct is.End e = absurd (cc)

own : (kind : ItemKind) (patch : Patch) (i : Instr) → may_be_patched kind ≡ false → stands_on patch kind i ≡ true → is_own patch ≡ true
own kind put.Own i bare e = refl
own kind (put.High v) i bare e = let may = (and_parts (may_be_patched kind) (is_upper i) e).0 in absurd (cc)
own kind (put.RelativeHigh v) i bare e = let may = (and_parts (may_be_patched kind) (is_upper i) e).0 in absurd (cc)
own kind (put.Low v) i bare e = let may = (and_parts (may_be_patched kind) (has_lower i) e).0 in absurd (cc)
own kind (put.RelativeLow j) i bare e = let may = (and_parts (may_be_patched kind) (has_lower i) e).0 in absurd (cc)

own_of : (kind : ItemKind) (patch : Patch) (i : Option Instr) → may_be_patched kind ≡ false → is_of kind patch i ≡ true → is_own patch ≡ true
own_of kind patch None bare e = absurd (cc)
own_of kind patch (Some i) bare e = own kind patch i bare (and_parts (suits kind i && not (names_reserved i)) (stands_on patch kind i) e).1

lone_by : (p : Program) (kind : ItemKind) (patch : Patch) (target : Option ℕ) (i : Option Instr)
    → (if is_end kind then is_own patch else is_of kind patch i) ≡ true → aims p kind target ≡ true → may_be_together patch target ≡ true
lone_by p kind patch None i read at = or_right (is_own patch) true refl
lone_by p kind patch (Some t) i read at =
    let goes = (and_parts (is_direct kind) (nat_lt t (count p)) (and_parts (is_direct kind && nat_lt t (count p)) (not (is_end (item_of p t).kind)) at).0).0 in
    let both = direct kind goes in
    or_left (is_own patch) false (own_of kind patch i both.1 (rw both.0 at read))

pub lone : (p : Program) (x : Item) → is_read x ≡ true → aims p x.kind x.target ≡ true → is_lone x ≡ true
lone p x read at = lone_by p x.kind x.patch x.target (decoded x.word) read at

-- a place that is given its links
pub lone_linked : (input : InputParts) (places : List Item) (j : ℕ) (x : Item) → IsSound (program_of input) → AreLinkedTo input (outline input) places j
    → j < length places → x ≡ get_or places j no_item → is_lone (item_with input places x) ≡ true
unfolding program_of
lone_linked input places j x sound h below is =
    let all = outline input in
    let size = h.size in
    let many = length-map all (item_with input all) in
    let value : item_with input places x ≡ item_with input all (get_or all j no_item) =
    item_same input places all h.found x ∙ ap (item_with input all) (is ∙ h.left j (omega arith)) in
    let at = get_or-map (item_with input all) all j no_item no_item (omega arith) in
    let inside : j < count (program_of input) = omega arith in
    subst (λ (y : Item). is_lone y ≡ true) (at ∙ sym value)
    (lone (program_of input) (item_of (program_of input) j) (sound.read j inside) (sound.targets j inside))
