use Rattle.std.proofs.Common.{ap, ◌∙◌, List, ℕ, true}
use Rattle.obj_link.proofs.Prelude.{SymbolSaid, input_by, own, own_input, by, said_by}
use Rattle.obj_join.proofs.Resolves.{by_own}
use Rattle.obj_link.proofs.input.own_input_by.Goals as goal

pub returns : goal.returns
unfolding own_input
returns c =
    let defined = c.deref-2.ensures.value ∙ c.in_ok-definitions.ensures in
    let named = c.in_ok-names-2.ensures ∙ c.in_ok-names.ensures (by c.args.numbers.now) defined in
    c.in_ok-input.ensures (λ n. true) named
    ∙ ap (λ (r : ℕ → ℕ). input_by r (λ n. true) (said_by c.args.objects.now)) (by_own c.args.symbols.now c.args.numbers.now c.requires.numbers)
    ∙ ap (λ (ss : List SymbolSaid). input_by (own ss) (λ n. true) (said_by c.args.objects.now)) c.requires.symbols
