use Rattle.std.proofs.Common.{subst, sym}
use Rattle.obj_link.proofs.Prelude.{AreApart, AreNumbers, names_of, said_by}
use Rattle.obj_link.proofs.names.name_numbers.Goals as goal

pub returns : goal.returns
returns c =
    let names = names_of (said_by c.args.objects.now).symbols in
    subst (λ ns. AreApart names ns) c.deref.ensures.value
    (c.tells_apart.ensures names (subst (λ ns. AreNumbers c.numbers_of.new.texts ns names) (sym c.deref.ensures.value) c.in_ok-numbers.ensures))
