use Rattle.std.proofs.Common.{◌∙◌}
use Rattle.obj_items.proofs.Prelude.{FitsMaps, IsSound}
use Rattle.obj_items.proofs.Parts.{parts_hold, program_is}
use Rattle.obj_items.proofs.program.program_of.Goals as goal

pub of-requires-clause-sound : goal.of-requires-clause-sound
of-requires-clause-sound c =
    parts_hold IsSound c.args.input c.in_ok-contents.contents _ _ _ c.in_ok-contents.ensures.contents (c.in_ok-relocations.ensures c.args.input c.in_ok-bare.ensures c.into_parts-sections.ensures.sections (rw c.deref.ensures.value c.in_ok-contents.ensures.contents.found))
    c.into_parts-sections.ensures.funcs c.into_parts-sections.ensures.names c.in_ok-contents.ensures.sound

pub of-requires-clause-fits : goal.of-requires-clause-fits
of-requires-clause-fits c =
    parts_hold FitsMaps c.args.input c.in_ok-contents.contents _ _ _ c.in_ok-contents.ensures.contents (c.in_ok-relocations.ensures c.args.input c.in_ok-bare.ensures c.into_parts-sections.ensures.sections (rw c.deref.ensures.value c.in_ok-contents.ensures.contents.found))
    c.into_parts-sections.ensures.funcs c.into_parts-sections.ensures.names c.in_ok-contents.ensures.fits

pub returns : goal.returns
returns c =
    c.of.ensures
    ∙ program_is c.args.input c.in_ok-contents.contents _ _ _ c.in_ok-contents.ensures.contents (c.in_ok-relocations.ensures c.args.input c.in_ok-bare.ensures c.into_parts-sections.ensures.sections (rw c.deref.ensures.value c.in_ok-contents.ensures.contents.found))
    c.into_parts-sections.ensures.funcs c.into_parts-sections.ensures.names
