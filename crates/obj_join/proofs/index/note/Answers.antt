use Rattle.std.proofs.Common.{◌≡◌, sym, ◌∙◌, ℕ}
use Rattle.rv_word.proofs.Cases.{none_of}
use Rattle.obj_join.specs.Ranked.{looked_up}
use Rattle.obj_join.proofs.Noted.{added}
use Rattle.obj_join.proofs.index.note.Goals as goal

pub returns : goal.returns
returns c = λ other.
    c.in_ok-insert.ensures.updates.0 other
    ∙ added c.args.rank c.args.symbol.now c.args.number c.args.name (λ (name : ℕ). looked_up name c.args.index.now) other
    (sym c.has_rank.ensures ∙ c.if-not-has_rank.false) (sym c.look_up.ensures ∙ none_of c.look_up.result (sym c.is_some.ensures ∙ c.if-is_some.false))
