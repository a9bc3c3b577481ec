use Rattle.std.proofs.Common.{◌∙◌, ap, sym}
use Rattle.cfi_verify.proofs.Prelude.{Versions, profile_with, pair_profile, Pair, code_words, entry_of}
use Rattle.cfi_starts.proofs.Laid.{laid_under}
use Rattle.cfi_verify.proofs.Told.{entry_told}
use Rattle.cfi_verify.proofs.verifier.Checked.entry.Goals as goal

pub returns : goal.returns
returns c =
    c.entry.ensures ∙ ap (λ (v : Versions). entry_of (profile_with v) c.self.inside.starts.listing.prologue) c.self.invariant.versions
    ∙ sym (entry_told _ (laid_under c.self.inside.starts.graph.version c.self.inside.image.now.version) _ _ _ c.self.invariant.told)
    ∙ ap (λ (q : Pair). entry_of (pair_profile q.image q.graph) (code_words q.image.code)) c.self.view_is
