use Rattle.std.proofs.Common.{◌≡◌, ◌++◌, ◌*◌, length, drop}
use Rattle.std.specs.Prelude.{map}
use Rattle.rv_code.specs.Encode.{code_of}
use Rattle.cfi_unit.specs.Guarded.{guards}
use Rattle.cfi_emit.proofs.template.put_guards.Given as goal

abbrev pub invariant-loop-index : goal.invariant-loop-index
invariant-loop-index l = record {
  put : l.code ++ map code_of (guards (drop l.index l.numbers)) ≡ map code_of (guards l.numbers);
  counted : length l.code ≡ 2 * l.index;
}
