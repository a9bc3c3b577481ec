use Rattle.std.proofs.Common.{◌≡◌, ◌+◌, ◌≤◌, ◌++◌, drop, length, vec_capacity, vec_len}
use Rattle.cfi_script.specs.ScriptText.{changes_from}
use Rattle.cfi_script.proofs.script_form.push_line.Given as goal

-- there is room for the bytes that are left
abbrev pub invariant-loop-byte : goal.invariant-loop-byte
invariant-loop-byte l = record {
  whole : l.changes.items ++ changes_from l.line.step l.address (drop l.byte-index l.line.bytes) ≡ l.initial.changes.items ++ changes_from l.line.step l.line.address l.line.bytes;
  at : l.address ≡ l.line.address + l.byte-index;
  room : vec_len l.changes + length l.line.bytes ≤ vec_capacity l.changes + l.byte-index;
}
