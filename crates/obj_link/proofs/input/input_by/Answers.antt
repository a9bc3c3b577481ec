use Rattle.std.proofs.Common.{ap, sym, ◌∙◌, List, ℕ, length}
use Rattle.obj_link.proofs.Prelude.{listed, SymbolSaid, definition, input_by, names_by, resolved, is_found, shared_input, by, said_by}
use Rattle.obj_join.proofs.Resolves.{by_resolved}
use Rattle.obj_link.proofs.input.input_by.Goals as goal

pub returns : goal.returns
unfolding shared_input
returns c =
    let defined = c.deref-2.ensures.value ∙ c.in_ok-definitions.ensures
    ∙ ap (λ (ss : List SymbolSaid). listed (definition (by c.args.numbers.now) ss) (length ss)) (sym c.requires.definers) in
    let named = c.in_ok-names-2.ensures ∙ c.in_ok-names.ensures (by c.args.numbers.now) defined
    ∙ ap (λ (ss : List SymbolSaid). names_by (by c.args.numbers.now) (is_found ss) ss) c.requires.definers in
    c.in_ok-input.ensures (is_found c.args.symbols.now) named
    ∙ ap (λ (r : ℕ → ℕ). input_by r (is_found c.args.symbols.now) (said_by c.args.objects.now)) (by_resolved c.args.symbols.now c.args.numbers.now c.requires.numbers)
    ∙ ap (λ (ss : List SymbolSaid). input_by (resolved ss) (is_found ss) (said_by c.args.objects.now)) c.requires.symbols
