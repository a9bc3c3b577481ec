-- What a step of a run comes to, from what its parts come to.
use Rattle.std.proofs.Common.{◌≡◌, ℕ, List, [], Ok, Err, refl, subst}
use Rattle.std.specs.Prelude.{IfOk, OnOk, Result}
use Rattle.rv_image.specs.MemoryMap.{Profile}
use Rattle.rv_code.specs.Run.{disturbed, stepped}
use Rattle.rv_code.specs.State.{Harts, Shared}
use Rattle.cfi_script.specs.Plan.{changes_of, step_of}
use Rattle.cfi_step.specs.Running.{AreNoted}
use Rattle.cfi_step.specs.Trail.{TrailParts}

-- what follows from two facts of a call that came to something
pub ok_both : {T E : Type 0} (P Q R : T → Type 0) (result : Result T E) → IfOk result P → IfOk result Q → ((x : T) → P x → Q x → R x) → IfOk result R
ok_both P Q R (Ok x) first second follows = follows x first second
ok_both P Q R (Err e) first second follows = tt

pub ok_so : {T E P Q : Type 0} (result : Result T E) → OnOk result P → (P → Q) → OnOk result Q
ok_so (Ok x) holds follows = follows holds
ok_so (Err e) holds follows = tt

-- changes are made, and then a hart steps
pub stepped_so : (q p : Profile) (before harts : Harts) (changed s : Shared) (hart h : ℕ) (cs : List (ℕ × ℕ)) → q ≡ p → before ≡ harts → changed ≡ disturbed s (changes_of cs) → hart ≡ h
    → stepped q before changed (record { hart = hart; changes = [] }) ≡ stepped p harts s (step_of (h, cs))
stepped_so q p before harts changed s hart h cs profile same made own = rw (profile, same, made, own) refl

pub noted_so : (p : Profile) (words : List ℕ) (hart h : ℕ) (before harts : Harts) (trails first after : List TrailParts) → hart ≡ h → before ≡ harts → trails ≡ first
    → AreNoted p words hart (before hart).pc trails after → AreNoted p words h (harts h).pc first after
noted_so p words hart h before harts trails first after own same kept noted =
    subst (λ (x : List TrailParts). AreNoted p words h (harts h).pc x after) kept
    (subst (λ (hs : Harts). AreNoted p words h (hs h).pc trails after) same
    (subst (λ (k : ℕ). AreNoted p words k (before k).pc trails after) own noted))
