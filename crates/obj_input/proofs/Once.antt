-- A table that is in order is what is sorted by offset.
use Rattle.std.proofs.Common.{◌≡◌, ◌==◌, ℕ, ◌+◌, ◌<◌, ◌≤◌, suc, Bool, true, false, List, [], ◌∷◌, length, get_or, inl, inr, refl, sym, ap, ◌∙◌, arith}
use Rattle.std.proofs.lemmas.Bool.{cases_Bool, cases_lt}
use Rattle.std.proofs.lemmas.List.{get_or_default}
use Rattle.obj_input.specs.declared.parts.Relocation.{Relocation}
use Rattle.obj_input.specs.Relocation.{is_acting}
use Rattle.obj_input.specs.Input.{acting_among}
use Rattle.obj_input.specs.InOrder.{AreFirst, IsFoundIn, by_offset, standing_at}

all_act : (uses : List Relocation) → ((a : ℕ) (d : Relocation) → a < length uses → is_acting (get_or uses a d) ≡ true) → (at : ℕ)
    → standing_at at uses ≡ acting_among uses at
all_act [] acts at = refl
all_act (u ∷ uses) acts at =
    let here : is_acting u ≡ true = acts 0 u (omega arith) in
    let rest = all_act uses (λ a d below. acts (suc a) d (omega arith)) at in
    elim (cases_Bool (u.offset == at)) [
      | inl stands ↦ rw (here, stands) (ap (λ (us : List Relocation). u ∷ us) rest)
      | inr other ↦ rw (here, other) rest
    ]

pub first_none : (uses : List Relocation) → AreFirst uses 0 0
first_none uses = record {
  acts = λ a d below. absurd (omega arith);
  rising = λ a b d order below. absurd (omega arith);
  most = λ a d below. absurd (omega arith);
}

pub first_more : (uses : List Relocation) (i last : ℕ) (u : Relocation) → i < length uses → u ≡ get_or uses i u → is_acting u ≡ true → last ≤ u.offset
    → AreFirst uses i last → AreFirst uses (i + 1) u.offset
first_more uses i last u inside is acts on h =
    let here : (a : ℕ) (d : Relocation) → a ≡ i → get_or uses a d ≡ u =
    λ a d same. ap (λ (n : ℕ). get_or uses n d) same ∙ get_or_default uses i d u inside ∙ sym is in
    record {
      acts = λ a d below. elim (cases_lt a i) [
        | inl less ↦ h.acts a d less
        | inr more ↦ ap is_acting (here a d (omega arith)) ∙ acts
      ];
      rising = λ a b d order below. elim (cases_lt b i) [
        | inl less ↦ h.rising a b d order less
        | inr more ↦
            let last_is = ap (λ (x : Relocation). x.offset) (here b d (omega arith)) in
            elim (cases_lt a i) [
              | inl before ↦ let most = h.most a d before in omega arith
              | inr also ↦ let first_is = ap (λ (x : Relocation). x.offset) (here a d (omega arith)) in omega arith
            ]
      ];
      most = λ a d below. elim (cases_lt a i) [
        | inl less ↦ let most = h.most a d less in omega arith
        | inr more ↦ let is_last = ap (λ (x : Relocation). x.offset) (here a d (omega arith)) in omega arith
      ];
    }

pub first_all : (uses : List Relocation) (i last : ℕ) → length uses ≤ i → AreFirst uses i last → IsFoundIn uses uses
first_all uses i last whole h = record {
  in_order = λ a b d order below. h.rising a b d order (omega arith);
  found = all_act uses (λ a d below. h.acts a d (omega arith));
}

pub found_by : (in_order : Bool) (uses acting : List Relocation) → (in_order ≡ true → IsFoundIn uses uses) → (in_order ≡ false → IsFoundIn uses acting)
    → IsFoundIn uses (by_offset in_order uses acting)
found_by true uses acting table sorted = table refl
found_by false uses acting table sorted = sorted refl
