-- The members of a group: how many they are, each of them, and that a unit of them fits and names no register that units keep.
use Rattle.std.proofs.Common.{◌≡◌, ℕ, zero, suc, ◌+◌, ◌^◌, ◌==◌, ◌≤◌, ◌<◌, inl, inr, true, false, Some, length, slice_get, refl, sym, ap, subst, ◌∙◌, arith}
use Rattle.std.specs.List.{AllByRecursion, list_any}
use Rattle.std.proofs.lemmas.Bool.{cases_Bool, eqb-true}
use Rattle.cfi_runs.proofs.Prelude.{is_reserved, Mask, Member, IsMember, MOST_MEMBERS, Fits, MaskFits, members_from, NamesNoReserved}
use Rattle.cfi_unit.specs.declared.unit.Unit.TheVariants as V

module _ (member : ℕ → Member) where
  pub count_members : (k n : ℕ) → length (members_from member k n) ≡ n
  count_members k zero = refl
  count_members k (suc n) = ap (λ (j : ℕ). suc j) (count_members (k + 1) n)

  pub member_here : (k n i : ℕ) → i < n → slice_get (members_from member k n) i ≡ Some (member (k + i))
  member_here k zero i below = absurd (omega arith)
  member_here k (suc n) zero below = let e : k ≡ k + 0 = omega arith in ap (λ (j : ℕ). Some (member j)) e
  member_here k (suc n) (suc i) below =
      let e : k + 1 + i ≡ k + suc i = omega arith in member_here (k + 1) n i (omega arith) ∙ ap (λ (j : ℕ). Some (member j)) e

  pub each_member : (Holds : Member → Type 0) (k n : ℕ) → ((i : ℕ) → i < n → Holds (member (k + i))) → AllByRecursion Holds (members_from member k n)
  each_member Holds k zero all = tt
  each_member Holds k (suc n) all =
      let e : k + 0 ≡ k = omega arith in (
        subst (λ (j : ℕ). Holds (member j)) e (all 0 (omega arith)),
        each_member Holds (k + 1) n
            (λ i below.
            let f : k + suc i ≡ k + 1 + i = omega arith in subst (λ (j : ℕ). Holds (member j)) f (all (suc i) (omega arith))),
      )

  pub stores_fit : (how : Mask) (rs1 mask k n at : ℕ) → rs1 < 32 → mask < 2 ^ 12 → 1 ≤ n → n ≤ MOST_MEMBERS →
      ((i : ℕ) → i < n → IsMember (member (k + i))) → MaskFits how mask → Fits (V.Stores how rs1 mask (members_from member k n)) at
  stores_fit how rs1 mask k n at base small some most each fits =
      let counted = count_members k n in
      (base, small, record { some = omega arith; most = subst (λ (j : ℕ). j ≤ MOST_MEMBERS) (sym counted) most; each = each_member IsMember k n each }, fits)

  -- a register that a member stores
  stored_free : (k n r : ℕ) → ((i : ℕ) → i < n → is_reserved (member (k + i)).value ≡ false) →
      list_any (λ (m : Member). m.value == r) (members_from member k n) ≡ true → is_reserved r ≡ false
  stored_free k zero r free named = absurd (cc)
  stored_free k (suc n) r free named =
      let e : k + 0 ≡ k = omega arith in
      elim (cases_Bool ((member k).value == r)) [
        | inl is ↦
            ap is_reserved (sym (eqb-true (member k).value r is)) ∙ subst (λ (j : ℕ). is_reserved (member j).value ≡ false) e (free 0 (omega arith))
        | inr other ↦
            stored_free (k + 1) n r
            (λ i below.
            let f : k + suc i ≡ k + 1 + i = omega arith in
            subst (λ (j : ℕ). is_reserved (member j).value ≡ false) f (free (suc i) (omega arith)))
            (rw other at named)
      ]

  pub stores_free : (how : Mask) (rs1 mask k n : ℕ) → is_reserved rs1 ≡ false → ((i : ℕ) → i < n → is_reserved (member (k + i)).value ≡ false) →
      NamesNoReserved (V.Stores how rs1 mask (members_from member k n))
  stores_free how rs1 mask k n base free r named =
      elim (cases_Bool (rs1 == r)) [
        | inl is ↦ ap is_reserved (sym (eqb-true rs1 r is)) ∙ base
        | inr other ↦ stored_free k n r free (rw other at named)
      ]
