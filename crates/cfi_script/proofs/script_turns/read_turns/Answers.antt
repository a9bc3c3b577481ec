use Rattle.std.proofs.Common.{arith, sym, ◌∙◌}
use Rattle.text_lines.specs.Lines.{lines_of}
use Rattle.cfi_script.proofs.ScriptTurns.{is_allowed, no_more, not_allowed, out_of_range, turn_more}
use Rattle.cfi_script.proofs.script_turns.read_turns.Goals as goal

pub returns-in_default-clause-read : goal.returns-in_default-clause-read
returns-in_default-clause-read c =
    no_more c.args.harts c.loop-turn.number c.loop-turn.turns.items (lines_of c.loop-turn.rest.now) _ c.loop-turn.invariant.whole (sym (rw c.in_default.is at c.first_turn.ensures.turn))

pub returns-in_default-allowed-clause-read : goal.returns-in_default-allowed-clause-read
returns-in_default-allowed-clause-read c =
    out_of_range c.args.harts c.loop-turn.number c.loop-turn.turns.items (lines_of c.loop-turn.rest.now) _ c.loop-turn.invariant.whole c.in-Some.turn (lines_of c.in-Some.next.now) (sym c.in-Some.ensures.turn)
    (not_allowed _ c.in-Some.turn (sym c.allowed.ensures ∙ c.in_default-allowed.is))

pub loop-turn-preserved : goal.loop-turn-preserved
loop-turn-preserved c =
    let given = is_allowed _ c.in-Some.turn c.in-Some-allowed.turn (sym c.allowed.ensures ∙ c.in-Some-allowed.is) in
    record {
      whole = turn_more c.args.harts c.loop-turn.number c.loop-turn.turns.items (lines_of c.loop-turn.rest.now) _ c.loop-turn.invariant.whole c.push.new.self.items c.in-Some.turn (lines_of c.in-Some.next.now) (sym c.in-Some.ensures.turn) given.0 (rw given.1 at c.in_ok-push.ensures.items);
      lines = omega (arith, c.loop-turn.invariant.lines, c.in-Some.ensures.shorter);
    }
