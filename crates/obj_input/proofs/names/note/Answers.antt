use Rattle.std.proofs.Common.{◌≡◌, false, Option, Some, None, is_some, refl, sym, ◌∙◌, List, ℕ}
use Rattle.std.proofs.lemmas.Map.Text.{hash_map_updates_str}
use Rattle.obj_input.specs.declared.parts.Definition.{Definition}
use Rattle.obj_input.specs.Indexed.{looked_up}
use Rattle.obj_input.proofs.Called.{added, short_name}
use Rattle.obj_input.proofs.names.note.Goals as goal

not_there : (found : Option Definition) → is_some found ≡ false → found ≡ None
not_there None none = refl
not_there (Some d) none = absurd (cc)

pub returns : goal.returns
returns c = λ called few.
    hash_map_updates_str c.in-Some.bytes.now c.args.index.now c.insert.new.self _ c.in_ok-insert.ensures.updates called
    ∙ added c.args.name.now (λ (ds : List ℕ). looked_up ds c.args.index.now) c.in-Some.bytes.now called c.definition.result
    (short_name c.args.name.now c.in-Some.bytes.now c.in-Some.ensures) c.definition.ensures
    (sym c.look_up.ensures ∙ not_there c.look_up.result (sym c.is_some.ensures ∙ c.if-is_some.false))
