use Rattle.std.proofs.Common.{ℕ, List, [], ◌∷◌, ◌++◌, ◌/◌, sym, subst, ap, ◌∙◌}
use Rattle.rv_image.specs.declared.version.Versions.{Versions}
use Rattle.rv_image.specs.MemoryMap.{Profile, profile_with}
use Rattle.cfi_scan.specs.Pieces.{HasSeen, Sight}
use Rattle.cfi_scan.proofs.Pieces.{seen_byte, seen_word, sight}
use Rattle.cfi_scan.proofs.feeder.Feeder.byte.Goals as goal

-- the word is read
pub returns-in-Some-clause-seen : goal.returns-in-Some-clause-seen
returns-in-Some-clause-seen g c bytes seen =
    let k = c.self.inside.kept in
    let next = c.take.new.self in
    let p : Profile = profile_with k.units.front in
    let after : List ℕ = bytes ++ c.args.byte ∷ [] in
    let own = subst (λ (s : Sight). HasSeen (profile_with s.versions) s bytes) (sym c.self.view_is) seen in
    subst (λ (v : Versions). HasSeen (profile_with v) (sight (profile_with next.units.front) next c.push.new.self) after) (ap (λ (s : Sight). s.versions) c.self.view_is)
    (subst (λ (v : Versions). HasSeen p (sight (profile_with v) next c.push.new.self) after) (sym c.take.ensures.front)
    (seen_word p k next c.self.inside.carry c.push.new.self c.args.byte c.in-Some.word
    c.in-Some.ensures.word c.push.ensures.after
    c.take.ensures.calls
    (λ words count. c.take.ensures.keeps words (count ∙ ap (λ (n : ℕ). n / 4) (sym c.fed.ensures)))
    bytes own))

pub returns-in_default-clause-seen : goal.returns-in_default-clause-seen
returns-in_default-clause-seen g c bytes seen =
    let k = c.self.inside.kept in
    let p : Profile = profile_with k.units.front in
    let own = subst (λ (s : Sight). HasSeen (profile_with s.versions) s bytes) (sym c.self.view_is) seen in
    subst (λ (v : Versions). HasSeen (profile_with v) (sight p k c.push.new.self) (bytes ++ c.args.byte ∷ [])) (ap (λ (s : Sight). s.versions) c.self.view_is)
    (seen_byte p k c.self.inside.carry c.push.new.self c.args.byte
    c.in_default.ensures.word c.push.ensures.after
    bytes own)
