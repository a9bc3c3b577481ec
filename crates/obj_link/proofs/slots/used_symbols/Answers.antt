use Rattle.std.proofs.Common.{ap, ◌∙◌, ◌/◌, List}
use Rattle.obj_link.proofs.Prelude.{joined, SectionHeader, TableUse, section_behind, table_symbols_at, by, symbols_at, section_said_in}
use Rattle.obj_join.proofs.Sectioned.{narrowed}
use Rattle.obj_link.proofs.slots.used_symbols.Goals as goal

pub returns : goal.returns
returns c =
    rw c.requires.code
    (c.in_ok-used.ensures
    ∙ ap (λ (us : List TableUse). joined (symbols_at us) (c.header-words.result.size / 4)) (c.deref.ensures.value ∙ c.in_ok-uses.ensures)
    ∙ narrowed (by c.args.numbers.now) (section_behind c.args.symbols (section_said_in c.args.object.now c.args.k)) (c.header-words.result.size / 4)
    ∙ ap (λ (h : SectionHeader). joined (table_symbols_at (by c.args.numbers.now) (section_behind c.args.symbols (section_said_in c.args.object.now c.args.k))) (h.size / 4)) c.header-words.ensures)
