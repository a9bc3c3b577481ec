use Rattle.std.proofs.Common.{ap, ◌∙◌, arith, ℕ, List}
use Rattle.obj_link.proofs.Prelude.{Reloc, relocation_in, use_behind, use_of, by, use_said, use_said_at, said_by}
use Rattle.obj_link.proofs.Sectioned.{made_more, made_none}
use Rattle.obj_link.proofs.Whole.{symbol_there}
use Rattle.obj_link.proofs.resolution.Resolution.uses.Goals as goal

pub loop-j-init : goal.loop-j-init
loop-j-init c =
    c.new-uses.ensures.items
    ∙ made_none (use_of (by c.args.self.now.numbers) (said_by c.args.self.now.objects)) (use_behind c.args.symbols) (use_said_at c.args.object.now c.args.k)

pub use_of-requires : goal.use_of-requires
use_of-requires c =
    let there = symbol_there c.args.object.now c.relocs-relocs.result c.args.k c.loop-j.j c.count-j-end.result c.get-reloc.result c.sections-count.ensures.sound
    c.requires.there c.relocs-relocs.ensures c.count-j-end.ensures c.loop-j-test.true c.get-reloc.ensures in
    omega (arith, there, c.requires.symbols)

pub loop-j-preserved : goal.loop-j-preserved
loop-j-preserved c =
    made_more (use_of (by c.args.self.now.numbers) (said_by c.args.self.now.objects)) (use_behind c.args.symbols) (use_said_at c.args.object.now c.args.k) c.loop-j.j _ _ _
    c.loop-j.invariant
    (c.in_ok-use_of.ensures
    ∙ ap (λ (r : Reloc). use_of (by c.args.self.now.numbers) (said_by c.args.self.now.objects) (use_behind c.args.symbols (use_said r)))
    (c.get-reloc.ensures ∙ ap (λ (t : List ℕ). relocation_in t c.loop-j.j) c.relocs-relocs.ensures))
    c.in_ok-push.ensures.items
