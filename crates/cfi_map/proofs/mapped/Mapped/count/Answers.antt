use Rattle.std.proofs.Common.{◌≡◌, length, subst}
use Rattle.rv_image.proofs.Profiles.{is_form_profile}
use Rattle.cfi_map.proofs.Prelude.{IsProfile, count, ProgramAtMap, words_at}
use Rattle.cfi_map.proofs.Placing.{words_kept}
use Rattle.cfi_map.proofs.mapped.Mapped.count.Goals as goal

pub returns-clause-words : goal.returns-clause-words
returns-clause-words c = subst (λ (l : ProgramAtMap). length (words_at l) ≡ count l.program) c.self.view_is (words_kept _ _ _ c.self.invariant)

pub returns-clause-profile : goal.returns-clause-profile
returns-clause-profile c = subst (λ (l : ProgramAtMap). IsProfile l.profile) c.self.view_is (is_form_profile c.self.inside.form)
