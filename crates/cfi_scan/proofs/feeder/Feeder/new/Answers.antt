use Rattle.std.proofs.Common.{ℕ, List, [], refl, sym, subst, arith}
use Rattle.rv_image.specs.declared.version.Versions.{Versions}
use Rattle.rv_image.specs.MemoryMap.{profile_with}
use Rattle.cfi_scan.specs.Carry.{Taken}
use Rattle.cfi_scan.specs.Pieces.{HasSeen, ends}
use Rattle.cfi_scan.proofs.Pieces.{KeepsUnder, seen_from, sight}
use Rattle.cfi_scan.proofs.feeder.Feeder.new.Goals as goal

pub returns-clause-seen : goal.returns-clause-seen
returns-clause-seen c =
    let k = c.in_ok-new.field-0 in
    subst (λ (t : Taken). HasSeen (profile_with c.args.versions) (sight (profile_with k.units.front) k t) []) (sym c.new-2.ensures)
    (subst (λ (v : Versions). HasSeen (profile_with c.args.versions) (sight (profile_with v) k (record { left = []; fed = 0 })) []) (sym c.in_ok-new.ensures.versions)
    (seen_from (profile_with c.args.versions) k (record { left = []; fed = 0 }) [] [] (ends [] (omega arith)) refl
    (subst (λ (calls : List ℕ). KeepsUnder (profile_with c.args.versions) calls k []) (sym c.in_ok-new.ensures.calls) c.in_ok-new.ensures.keeps)))
