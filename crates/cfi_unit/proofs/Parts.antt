-- The parts of the shadow stack that belong to harts, and where the prologue's parts stand.
use Rattle.std.proofs.Common.{◌≡◌, ℕ, ◌+◌, ◌*◌, ◌%◌, ◌<◌, ◌≤◌, ◌++◌, inl, inr, length, refl, sym, ap, subst, arith}
use Rattle.rv_image.specs.MemoryMap.{SHADOW_START, IsFullProfile, IsProfile, Profile, part_of, version_1}
use Rattle.rv_image.proofs.Profiles.{full_low, full_saves, laid_out}
use Rattle.cfi_unit.specs.declared.unit.Unit.TheVariants as V
use Rattle.cfi_unit.specs.Prologue.{OPENING, call_at, opening_by, opening_instrs, set_up}
use Rattle.cfi_unit.specs.Shadow.{IsPart}
use Rattle.cfi_unit.specs.UnitWords.{instrs_of}

-- the own part of a hart that a run may have
pub own_is_part : (p : Profile) → IsProfile p → (hart : ℕ) → hart < p.harts → IsPart p (part_of hart)
own_is_part p is hart below =
    let laid = laid_out p is in
    let parts = laid.parts in
    let most = laid.most in
    record { low = omega arith; high = omega arith; aligned = omega arith; most = omega arith }

-- a lone hart has the whole shadow stack
pub lone_part : (part : ℕ) → IsPart version_1 part → part ≡ SHADOW_START
lone_part part own =
    let low = own.low in
    let high = own.high in
    omega arith

-- the closing comes right after the opening
pub opening_length : (p : Profile) → IsProfile p → (entry : ℕ) → OPENING + 4 * length (opening_instrs p entry) ≡ p.closing
opening_length p (inl (inl e)) entry = subst (λ (x : Profile). OPENING + 4 * length (opening_instrs x entry) ≡ x.closing) (sym e) refl
opening_length p (inl (inr e)) entry = subst (λ (x : Profile). OPENING + 4 * length (opening_instrs x entry) ≡ x.closing) (sym e) refl
opening_length p (inr (inl e)) entry = subst (λ (x : Profile). OPENING + 4 * length (opening_instrs x entry) ≡ x.closing) (sym e) refl
opening_length p (inr (inr e)) entry = subst (λ (x : Profile). OPENING + 4 * length (opening_instrs x entry) ≡ x.closing) (sym e) refl

-- where callers save sites, the opening sets up both stacks and calls as they do
pub opening_parts : (p : Profile) → IsFullProfile p → (entry : ℕ) → opening_instrs p entry ≡ set_up p ++ instrs_of (V.Call entry) (call_at p)
opening_parts p is entry = ap (λ callee. opening_by callee p entry) (full_saves p is)

module _ (p : Profile) (is : IsFullProfile p) where
  -- the opening's call comes right after both stacks are set up
  pub set_up_length : OPENING + 4 * length (set_up p) ≡ call_at p
  set_up_length = elim is [
    | inl e ↦ subst (λ (x : Profile). OPENING + 4 * length (set_up x) ≡ call_at x) (sym e) refl
    | inr e ↦ subst (λ (x : Profile). OPENING + 4 * length (set_up x) ≡ call_at x) (sym e) refl
  ]

  -- so the closing is the site of the opening's call
  pub call_site : (call_at p + 32 ≡ p.closing) × (OPENING + 12 ≤ call_at p) × (call_at p % 4 ≡ 0)
  call_site =
      let laid = laid_out p (inl is) in
      let call = laid.call in
      let first_unit = laid.closing in
      let low = full_low p is in
      let round = laid.round in
      (omega arith, omega arith, omega arith)
