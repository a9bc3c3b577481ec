use Rattle.std.proofs.Common.{ap, ◌∙◌, ◌++◌, ◌∷◌, [], List, ℕ, map}
use Rattle.obj_link.proofs.Prelude.{listed, Reloc, relocation_in, TableUse, use_behind, by, table_uses, use_said, use_said_at}
use Rattle.obj_link.proofs.Slotted.{uses_more, uses_none}
use Rattle.obj_link.proofs.slots.table_uses.Goals as goal

pub loop-j-init : goal.loop-j-init
loop-j-init c = c.new-uses.ensures.items ∙ uses_none (by c.args.numbers.now) (use_behind c.args.symbols) (use_said_at c.args.object.now c.args.k)

pub loop-j-preserved : goal.loop-j-preserved
loop-j-preserved c =
    c.in_ok-push_use.ensures
    ∙ ap (λ (us : List TableUse). us ++ table_uses (by c.args.numbers.now) (use_behind c.args.symbols (use_said c.get-reloc.result) ∷ [])) c.loop-j.invariant
    ∙ ap
    (λ (r : Reloc). table_uses (by c.args.numbers.now) (map (use_behind c.args.symbols) (listed (use_said_at c.args.object.now c.args.k) c.loop-j.j)) ++ table_uses (by c.args.numbers.now) (use_behind c.args.symbols (use_said r) ∷ []))
    (c.get-reloc.ensures ∙ ap (λ (t : List ℕ). relocation_in t c.loop-j.j) c.relocs-relocs.ensures)
    ∙ uses_more (by c.args.numbers.now) (use_behind c.args.symbols) (use_said_at c.args.object.now c.args.k) c.loop-j.j
