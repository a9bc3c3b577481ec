use Rattle.std.proofs.Common.{◌-◌, ◌/◌, ◌∙◌, ap, arith, drop, sym}
use Rattle.cfi_verify.proofs.Prelude.{Versions, CODE_START, profile_with, recognised, starts_at, pair_profile, Pair, code_words, unit_at}
use Rattle.cfi_rules.proofs.Bytes.{length-code_words}
use Rattle.cfi_starts.proofs.Laid.{laid_under}
use Rattle.cfi_verify.proofs.InUnits.{start_within}
use Rattle.cfi_verify.proofs.Told.{start_told, unit_told, unit_untold}
use Rattle.cfi_verify.proofs.verifier.Checked.unit_at.Goals as goal

pub unit_of-requires-clause-low : goal.unit_of-requires-clause-low
unit_of-requires-clause-low c =
    let laid = laid_under c.self.inside.starts.graph.version c.self.inside.image.now.version in
    let answer = ap (λ (v : Versions). starts_at (profile_with v) c.self.inside.starts.listing c.args.address) (sym c.self.invariant.versions) ∙ sym c.is_start.ensures in
    let within = start_within _ laid _ c.args.address (start_told _ laid _ _ _ c.self.invariant.told c.args.address ∙ answer ∙ c.if-is_start.true) in
    let low = within.low in omega (arith, low, laid.low)

pub unit_of-requires-clause-high : goal.unit_of-requires-clause-high
unit_of-requires-clause-high c =
    let laid = laid_under c.self.inside.starts.graph.version c.self.inside.image.now.version in
    let answer = ap (λ (v : Versions). starts_at (profile_with v) c.self.inside.starts.listing c.args.address) (sym c.self.invariant.versions) ∙ sym c.is_start.ensures in
    let within = start_within _ laid _ c.args.address (start_told _ laid _ _ _ c.self.invariant.told c.args.address ∙ answer ∙ c.if-is_start.true) in
    let end = within.end in
    let words = length-code_words _ c.code.ensures.size.words in
    let most = c.code.ensures.size.most in
    omega arith

pub returns-then-is_start : goal.returns-then-is_start
returns-then-is_start c =
    let laid = laid_under c.self.inside.starts.graph.version c.self.inside.image.now.version in
    let answer = ap (λ (v : Versions). starts_at (profile_with v) c.self.inside.starts.listing c.args.address) (sym c.self.invariant.versions) ∙ sym c.is_start.ensures in
    c.unit_of.ensures
    ∙ ap (λ bytes. recognised (drop ((c.args.address - CODE_START) / 4) (code_words bytes)) c.args.address) c.code.ensures.value
    ∙ sym (unit_told _ laid _ _ _ c.self.invariant.told c.args.address (answer ∙ c.if-is_start.true))
    ∙ ap (λ (q : Pair). unit_at (pair_profile q.image q.graph) (code_words q.image.code) c.args.address) c.self.view_is

pub returns-else-is_start : goal.returns-else-is_start
returns-else-is_start c =
    let laid = laid_under c.self.inside.starts.graph.version c.self.inside.image.now.version in
    let answer = ap (λ (v : Versions). starts_at (profile_with v) c.self.inside.starts.listing c.args.address) (sym c.self.invariant.versions) ∙ sym c.is_start.ensures in
    sym (unit_untold _ laid _ _ _ c.self.invariant.told c.args.address (answer ∙ c.if-is_start.false))
    ∙ ap (λ (q : Pair). unit_at (pair_profile q.image q.graph) (code_words q.image.code) c.args.address) c.self.view_is
