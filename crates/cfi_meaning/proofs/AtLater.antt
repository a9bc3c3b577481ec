-- The gates of a program at a map tell which of its stores are later ones.
use Rattle.std.proofs.Common.{◌≡◌, ℕ, ◌+◌, ◌≤◌, ◌==◌, inl, inr, Bool, true, false, not, Option, Some, None, refl, sym, ap, ◌∙◌, arith}
use Rattle.std.specs.Prelude.{◌&&◌}
use Rattle.std.proofs.lemmas.Bool.{cases_Bool, cases_lt, eq-eqb, ne_eqb}
use Rattle.std.proofs.lemmas.List.{get_or_past}
use Rattle.cfi_meaning.proofs.Prelude.{Item, count, item_of, no_item, entered_in, gate, word, is_store, size_of, whole_at, IsAccepted, Choice, is_later_at, mask_at, is_at_later, Linked, holds_store}
use Rattle.cfi_unit.proofs.RegisterLaw.{mask_some}
use Rattle.cfi_writer.proofs.Plain.{size_first, size_later}
use Rattle.cfi_writer.proofs.Standing.{next_gate}
use Rattle.cfi_meaning.proofs.Names.{store_is_place}
use Rattle.cfi_meaning.proofs.Places.{place_behind}

-- a store with a mask has more than a word
sized : (m : Choice) (k : ℕ) → holds_store m k ≡ true →
    (gate m.layout (k + 1) ≡ word m.layout k + size_of (entered_in m.layout) k (item_of m.layout.program k) (whole_at m.whole k)) →
    (gate m.layout (k + 1) == word m.layout k + 4) ≡ not (whole_at m.whole k)
sized m k store next =
    elim (cases_Bool (whole_at m.whole k)) [
      | inl whole ↦
          let size = size_first (entered_in m.layout) k (item_of m.layout.program k) (whole_at m.whole k) store whole in
          let some = mask_some (mask_at m k) in
          ne_eqb (gate m.layout (k + 1)) (word m.layout k + 4) (λ same. absurd (omega arith)) ∙ sym (ap not whole)
      | inr later ↦
          let size = size_later (entered_in m.layout) k (item_of m.layout.program k) (whole_at m.whole k) store later in
          eq-eqb (gate m.layout (k + 1)) (word m.layout k + 4) (omega arith) ∙ sym (ap not later)
    ]

pub at_later_is : (m : Choice) (k : ℕ) → IsAccepted m → is_at_later m.layout (Some k) ≡ is_later_at m k
at_later_is m k ok =
    elim (cases_Bool (holds_store m k)) [
      | inr other ↦
          ap (λ (b : Bool). b && gate m.layout (k + 1) == word m.layout k + 4) other ∙ sym (ap (λ (b : Bool). b && not (whole_at m.whole k)) other)
      | inl store ↦
          elim (cases_lt k (count m.layout.program)) [
            | inl below ↦
                let next = place_behind m k ok (store_is_place m k below store) in
                ap (λ (b : Bool). holds_store m k && b) (sized m k store (next_gate m ok k next))
            | inr past ↦
                let none = get_or_past m.layout.program.items k no_item past in
                let wrong : false ≡ true = sym (ap (λ (i : Item). is_store i.kind) none) ∙ store in
                absurd (cc)
          ]
    ]

pub free_place : (m : Choice) (place : Option ℕ) → IsAccepted m → is_at_later m.layout place ≡ false → Linked m None place
free_place m None ok free = tt
free_place m (Some k) ok free = sym (at_later_is m k ok) ∙ free

pub at_no_later : (m : Choice) (place : Option ℕ) → IsAccepted m → ((j : ℕ) → place ≡ Some j → is_later_at m j ≡ false) → is_at_later m.layout place ≡ false
at_no_later m None ok each = refl
at_no_later m (Some k) ok each = at_later_is m k ok ∙ each k refl
