use Rattle.std.proofs.Common.{◌++◌, ◌∙◌, drop, map, subst}
use Rattle.obj_link.proofs.Prelude.{spelled, AreNumbers}
use Rattle.obj_link.proofs.Named.{names_spelled}
use Rattle.obj_link.proofs.names.push_names.Goals as goal

pub returns : goal.returns
returns c = λ names are.
    subst (λ ns. AreNumbers c.push_numbers.new.texts c.push_numbers.new.numbers.items (names ++ ns))
    (names_spelled c.args.object.now c.sections-sections.ensures.sound c.deref.result.now (c.deref.ensures.value ∙ c.in_ok-starts.ensures))
    (subst (λ table. AreNumbers c.push_numbers.new.texts c.push_numbers.new.numbers.items (names ++ map (λ at. spelled (drop at table)) c.deref.result.now))
    c.symbol_names.ensures (c.in_ok-push_numbers.ensures names are))
