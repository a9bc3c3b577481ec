use Rattle.std.proofs.Common.{◌∙◌, ap, arith, sym}
use Rattle.std.specs.Prelude.{is_some}
use Rattle.cfi_verify.proofs.Prelude.{Versions, profile_with, starts_at, pair_profile, Pair, code_words, place_at}
use Rattle.cfi_starts.proofs.Laid.{laid_under}
use Rattle.cfi_verify.proofs.IsPlace.{place_below}
use Rattle.cfi_verify.proofs.Told.{place_told, start_told}
use Rattle.cfi_verify.proofs.verifier.Checked.is_place.Goals as goal

pub returns-then-address-start : goal.returns-then-address-start
returns-then-address-start c =
    let laid = laid_under c.self.inside.starts.graph.version c.self.inside.image.now.version in
    let from = c.units_from-start.ensures ∙ ap (λ (q : Pair). (pair_profile q.image q.graph).units_from) (sym c.self.view_is) in
    c.is_start.ensures ∙ ap (λ (v : Versions). starts_at (profile_with v) c.self.inside.starts.listing c.args.address) c.self.invariant.versions
    ∙ sym (start_told _ laid _ _ _ c.self.invariant.told c.args.address)
    ∙ place_told _ laid _ _ _ c.self.invariant.told c.args.address (omega (arith, from, c.if-address-start.true))
    ∙ ap (λ (q : Pair). is_some (place_at (pair_profile q.image q.graph) (code_words q.image.code) c.args.address)) c.self.view_is

pub returns : goal.returns
returns c =
    c.is_prologue.ensures
    ∙ place_below _ (laid_under c.args.self.now.graph.version c.args.self.now.image.version) _ c.args.address (omega (arith, c.units_from-start.ensures, c.if-address-start.false))
