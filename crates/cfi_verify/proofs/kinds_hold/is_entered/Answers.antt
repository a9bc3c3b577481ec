use Rattle.std.proofs.Common.{ap, inl, inr, sym, ◌∙◌}
use Rattle.std.specs.Prelude.{is_some}
use Rattle.std.proofs.lemmas.Bool.{eqb-true}
use Rattle.cfi_starts.specs.Entries.{gate_in, goes_on}
use Rattle.cfi_starts.proofs.Laid.{laid_with}
use Rattle.cfi_verify.proofs.KindPass.{entered_alone, entered_behind}
use Rattle.cfi_verify.proofs.kinds_hold.is_entered.Goals as goal

pub returns-then-not-goes_on : goal.returns-then-not-goes_on
returns-then-not-goes_on c = λ held.
    entered_behind _ (laid_with c.args.starts.now.listing.versions) c.args.starts.now.listing c.args.index c.in-Some.k c.in-Some.ensures.some
    (inl (ap goes_on (sym c.word.ensures) ∙ sym c.goes_on.ensures ∙ c.if-not-goes_on.true))

pub returns-then-is_some : goal.returns-then-is_some
returns-then-is_some c = λ held.
    entered_behind _ (laid_with c.args.starts.now.listing.versions) c.args.starts.now.listing c.args.index c.in-Some.k c.in-Some.ensures.some
    (inr (ap (λ e. is_some (gate_in e)) (sym c.word-else-not-goes_on.ensures) ∙ ap is_some (sym c.gate_in.ensures) ∙ sym c.is_some.ensures ∙ c.if-is_some.true, eqb-true _ _ held))

pub returns-in-None : goal.returns-in-None
returns-in-None c = λ held. entered_alone _ (laid_with c.args.starts.now.listing.versions) c.args.starts.now.listing c.args.index c.in-None.ensures.none
