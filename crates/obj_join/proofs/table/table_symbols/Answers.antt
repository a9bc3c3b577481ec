use Rattle.std.proofs.Common.{◌*◌, ap, sym, ◌∙◌, List, ℕ}
use Rattle.std.specs.Prelude.{filter, map}
use Rattle.obj_join.specs.declared.table.TableUse.{TableUse}
use Rattle.obj_join.specs.Uses.{standing, symbols_at}
use Rattle.obj_join.proofs.ByWords.{is_at_word, walk}
use Rattle.obj_join.proofs.Sorting.{joined_same, map_joined}
use Rattle.obj_join.proofs.table.table_symbols.Goals as goal

symbols_of : List TableUse → List ℕ
symbols_of uses = map (λ (u : TableUse). u.symbol) uses

pub returns : goal.returns
unfolding symbols_of
returns c =
    c.in_ok-symbols.ensures
    ∙ ap (λ (us : List TableUse). symbols_of (filter (λ (u : TableUse). is_at_word c.args.words u.offset) us)) c.deref.ensures.value
    ∙ ap symbols_of (sym (walk (λ (u : TableUse). u.offset) c.args.words c.in_ok-uses.uses.items c.in_ok-uses.ensures.order))
    ∙ map_joined (λ (u : TableUse). u.symbol) (λ (w : ℕ). standing (4 * w) c.in_ok-uses.uses.items) c.args.words
    ∙ joined_same _ (symbols_at c.args.uses.now) c.args.words (λ w below. ap symbols_of (c.in_ok-uses.ensures.found (4 * w)))
