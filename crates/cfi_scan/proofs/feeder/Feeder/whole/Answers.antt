use Rattle.std.proofs.Common.{ℕ, List, ◌++◌, ◌/◌, ◌%◌, sym, subst, ap, ◌∙◌}
use Rattle.rv_image.specs.declared.version.Versions.{Versions}
use Rattle.rv_image.specs.MemoryMap.{Profile, profile_with}
use Rattle.cfi_scan.specs.Pieces.{HasSeen, Sight}
use Rattle.cfi_scan.proofs.Pieces.{seen_words, sight}
use Rattle.cfi_scan.proofs.feeder.Feeder.whole.Goals as goal

pub returns-clause-seen : goal.returns-clause-seen
returns-clause-seen g c bytes seen =
    let k = c.self.inside.kept in
    let next = c.take_words.new.self in
    let p : Profile = profile_with k.units.front in
    let after : List ℕ = bytes ++ c.args.piece.now in
    let own = subst (λ (s : Sight). HasSeen (profile_with s.versions) s bytes) (sym c.self.view_is) seen in
    subst (λ (v : Versions). HasSeen (profile_with v) (sight (profile_with next.units.front) next c.pass_words.new.self) after) (ap (λ (s : Sight). s.versions) c.self.view_is)
    (subst (λ (v : Versions). HasSeen p (sight (profile_with v) next c.pass_words.new.self) after) (sym c.take_words.ensures.front)
    (seen_words p k next c.self.inside.carry c.pass_words.new.self c.args.piece.now
    (ap (λ (s : Sight). s.fed % 4) c.self.view_is ∙ c.requires.whole)
    c.requires.cut
    c.pass_words.ensures
    c.take_words.ensures.calls
    (λ words more count. c.take_words.ensures.keeps words more (count ∙ ap (λ (n : ℕ). n / 4) (sym c.fed.ensures)))
    bytes own))
