use Rattle.std.proofs.Common.{◌+◌, ◌<◌, ◌≡◌, ap, arith, get_or, length}
use Rattle.cfi_script.proofs.ScriptDigits.{within_data}
use Rattle.cfi_script.proofs.ScriptDigits.{next_change, no_change}
use Rattle.cfi_script.proofs.script_form.push_line.Goals.{in-Some, in_default}
use Rattle.cfi_script.proofs.script_form.push_line.Goals as goal

pub loop-byte-preserved : goal.loop-byte-preserved
loop-byte-preserved c =
    let line = c.args.line.now in
    let i = c.loop-byte.byte-index in
    let len = ap length c.as_slice-byte-items.ensures in
    let here : i < length line.bytes = omega (arith, len) in
    let byte = ap (λ bs. get_or bs i 0) c.as_slice-byte-items.ensures in
    let next = next_change c.loop-byte.changes.items _ line.step c.loop-byte.address i line.bytes here c.loop-byte.invariant.whole in
    let along : c.loop-byte.address + 1 ≡ line.address + (i + 1) = omega (arith, c.loop-byte.invariant.at) in
    elim c.match-new.branch [
      | in-Some w ↦
          let value = rw w.in-Some.is at c.new.ensures.value in
          record {
            whole = rw (w.changes-is, w.push_reserved.ensures.items, value, byte) next;
            at = along;
            room = rw w.changes-is (omega (arith, w.push_reserved.ensures.len, w.push_reserved.ensures.capacity, c.loop-byte.invariant.room));
          }
      | in_default w ↦
          let inside = within_data line c.requires in
          let some = c.new.ensures.some.1 (omega (arith, inside, here, c.loop-byte.invariant.at)) in
          absurd (cc (rw w.in_default.is at some))
    ]

pub returns-clause-pushed : goal.returns-clause-pushed
returns-clause-pushed c =
    let line = c.args.line.now in
    let len = ap length c.as_slice-byte-items.ensures in
    no_change c.loop-byte.changes.items _ line.step c.loop-byte.address c.loop-byte.byte-index line.bytes (omega (arith, len, c.loop-byte-test.false)) (rw c.reserve.ensures.items at c.loop-byte.invariant.whole)
