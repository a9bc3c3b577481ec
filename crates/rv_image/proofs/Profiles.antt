-- What all profiles have: the facts about their addresses that proofs about any of them need.
use Rattle.std.proofs.Common.{◌≡◌, ◌+◌, ◌*◌, ◌%◌, ◌≤◌, inl, inr, refl, sym, subst, arith, true, false}
use Rattle.rv_image.specs.declared.version.ImageVersion.{ImageVersion}
use Rattle.rv_image.specs.declared.version.ImageVersion.TheVariants.{OneHart, EightHarts}
use Rattle.rv_image.specs.declared.version.GraphVersion.{GraphVersion}
use Rattle.rv_image.specs.declared.version.GraphVersion.TheVariants.{OneLabel, TwoLabels, CalleeSaves}
use Rattle.rv_image.specs.Form.{graph_version, image_version, profile_for}
use Rattle.rv_image.specs.declared.form.Form.{Form}
use Rattle.rv_image.specs.MemoryMap.{CODE_START, PART_SIZE, Profile, IsFullProfile, IsLeanProfile, IsProfile, lean_profile_of, lean_version_1, lean_version_2, profile_of, profile_under, version_1, version_2}

pub record LaidOut (p : Profile) : Type 0 where
  pub call : p.opening_call + 4 ≡ p.closing
  pub closing : p.closing + 8 ≡ p.units_from
  pub low : CODE_START + 44 ≤ p.units_from
  pub high : p.units_from ≤ CODE_START + 80
  pub round : p.units_from % 4 ≡ 0
  pub some : 1 ≤ p.harts
  pub most : p.harts ≤ 8
  pub parts : p.shadow_size ≡ PART_SIZE * p.harts

laid_out_1 : LaidOut version_1
laid_out_1 = record {
  call = refl;
  closing = refl;
  low = omega arith;
  high = omega arith;
  round = refl;
  some = omega arith;
  most = omega arith;
  parts = refl;
}

laid_out_2 : LaidOut version_2
laid_out_2 = record {
  call = refl;
  closing = refl;
  low = omega arith;
  high = omega arith;
  round = refl;
  some = omega arith;
  most = omega arith;
  parts = refl;
}

laid_out_lean_1 : LaidOut lean_version_1
laid_out_lean_1 = record {
  call = refl;
  closing = refl;
  low = omega arith;
  high = omega arith;
  round = refl;
  some = omega arith;
  most = omega arith;
  parts = refl;
}

laid_out_lean_2 : LaidOut lean_version_2
laid_out_lean_2 = record {
  call = refl;
  closing = refl;
  low = omega arith;
  high = omega arith;
  round = refl;
  some = omega arith;
  most = omega arith;
  parts = refl;
}

pub laid_out : (p : Profile) → IsProfile p → LaidOut p
laid_out p (inl (inl e)) = subst (λ (q : Profile). LaidOut q) (sym e) laid_out_1
laid_out p (inl (inr e)) = subst (λ (q : Profile). LaidOut q) (sym e) laid_out_2
laid_out p (inr (inl e)) = subst (λ (q : Profile). LaidOut q) (sym e) laid_out_lean_1
laid_out p (inr (inr e)) = subst (λ (q : Profile). LaidOut q) (sym e) laid_out_lean_2

-- where callers save sites, units begin behind a longer prologue
pub full_low : (p : Profile) → IsFullProfile p → CODE_START + 64 ≤ p.units_from
full_low p (inl e) = subst (λ (q : Profile). CODE_START + 64 ≤ q.units_from) (sym e) (omega arith)
full_low p (inr e) = subst (λ (q : Profile). CODE_START + 64 ≤ q.units_from) (sym e) (omega arith)

-- a profile tells who saves sites
pub full_saves : (p : Profile) → IsFullProfile p → p.callee_saves ≡ false
full_saves p (inl e) = subst (λ (q : Profile). q.callee_saves ≡ false) (sym e) refl
full_saves p (inr e) = subst (λ (q : Profile). q.callee_saves ≡ false) (sym e) refl

pub lean_saves : (p : Profile) → IsLeanProfile p → p.callee_saves ≡ true
lean_saves p (inl e) = subst (λ (q : Profile). q.callee_saves ≡ true) (sym e) refl
lean_saves p (inr e) = subst (λ (q : Profile). q.callee_saves ≡ true) (sym e) refl

-- each version has a profile
pub is_full : (version : ImageVersion) → IsFullProfile (profile_of version)
is_full OneHart = inl refl
is_full EightHarts = inr refl

pub is_lean : (version : ImageVersion) → IsLeanProfile (lean_profile_of version)
is_lean OneHart = inl refl
is_lean EightHarts = inr refl

pub is_profile : (version : ImageVersion) → IsProfile (profile_of version)
is_profile version = inl (is_full version)

pub is_pair_profile : (graph : GraphVersion) (image : ImageVersion) → IsProfile (profile_under graph image)
is_pair_profile OneLabel image = is_profile image
is_pair_profile TwoLabels image = is_profile image
is_pair_profile CalleeSaves image = inr (is_lean image)

pub is_form_profile : (form : Form) → IsProfile (profile_for form)
is_form_profile form = is_pair_profile (graph_version form) (image_version form)
