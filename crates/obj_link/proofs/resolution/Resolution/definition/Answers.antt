use Rattle.std.proofs.Common.{◌≡◌, ◌+◌, length, ap, ◌∙◌, arith, ℕ, List}
use Rattle.obj_link.proofs.Prelude.{Definition, definition, by, ResolutionParts, said_by}
use Rattle.obj_join.proofs.Listing.{length-listed}
use Rattle.obj_link.proofs.resolution.Resolution.definition.Goals as goal

pub definition_at-requires : goal.definition_at-requires
definition_at-requires c =
    let count : length c.self.inside.definitions.now ≡ length (said_by c.self.inside.objects.now).symbols =
    ap (λ (ds : List Definition). length ds) c.self.invariant.stands
    ∙ length-listed (definition (by c.self.inside.numbers.now) (said_by c.self.inside.objects.now).symbols) (length (said_by c.self.inside.objects.now).symbols) in
    let same : length (said_by c.self.inside.objects.now).symbols ≡ length (said_by c.args.self.now.objects).symbols =
    ap (λ (p : ResolutionParts). length (said_by p.objects).symbols) c.self.view_is in
    omega (arith, count, same, c.requires, c.from.ensures)

pub returns : goal.returns
returns c =
    c.definition_at.ensures (definition (by c.self.inside.numbers.now) (said_by c.self.inside.objects.now).symbols) _ c.self.invariant.stands
    ∙ ap (λ (p : ResolutionParts). definition (by p.numbers) (said_by p.objects).symbols (c.args.symbols + c.from.result)) c.self.view_is
    ∙ ap (λ (n : ℕ). definition (by c.args.self.now.numbers) (said_by c.args.self.now.objects).symbols (c.args.symbols + n)) c.from.ensures
