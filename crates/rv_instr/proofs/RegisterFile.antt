-- A list of numbers as registers: reads, writes, and zeros.
use Rattle.std.proofs.Common.{◌≡◌, ℕ, zero, suc, ◌<◌, refl, sym, inl, inr, List, length, if◌then◌else◌, ◌==◌, slice_set, get_or-set_same, get_or-set_other}
use Rattle.std.proofs.lemmas.Bool.{cases_Bool, eqb-true, eqb-false}
use Rattle.std.proofs.Math.ListN.{replicate}
use Rattle.std.proofs.Math.Path.{fun_ext}
use Rattle.std.specs.Prelude.{slice_index}
use Rattle.rv_instr.specs.Registers.{cleared, get_reg, regs_of, set_reg}

-- x0 holds zero because its place in the list does
pub get_reg-regs_of : (values : List ℕ) (reg : ℕ) → slice_index values 0 ≡ 0 → get_reg (regs_of values) reg ≡ slice_index values reg
unfolding regs_of
get_reg-regs_of values zero none = sym none
get_reg-regs_of values (suc reg) none = refl

pub index-zeros : (n k : ℕ) → slice_index (replicate n 0) k ≡ 0
index-zeros zero k = refl
index-zeros (suc n) zero = refl
index-zeros (suc n) (suc k) = index-zeros n k

pub regs_of-zeros : (n : ℕ) → regs_of (replicate n 0) ≡ cleared
unfolding regs_of
regs_of-zeros n = fun_ext (λ k. index-zeros n k)

set_at : (values : List ℕ) (reg v k : ℕ) → reg < length values →
    slice_index (slice_set values reg v) k ≡ (if k == reg then v else slice_index values k)
set_at values reg v k inside =
    elim (cases_Bool (k == reg)) [
      | inl same ↦ rw (same, eqb-true _ _ same) (get_or-set_same values reg v 0 inside)
      | inr other ↦ rw other (get_or-set_other values reg k v 0 (eqb-false _ _ other))
    ]

pub regs_of-set : (values : List ℕ) (reg v : ℕ) → (reg ≡ 0 → ⊥) → reg < length values →
    regs_of (slice_set values reg v) ≡ set_reg (regs_of values) reg v
unfolding regs_of
regs_of-set values zero v some inside = absurd (some refl)
regs_of-set values (suc reg) v some inside = fun_ext (λ k. set_at values (suc reg) v k inside)
