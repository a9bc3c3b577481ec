use Rattle.std.proofs.Common.{◌≡◌, ◌++◌, map, drop, length}
use Rattle.std.specs.List.{AllByRecursion}
use Rattle.rv_code.specs.Run.{IsDataChange, disturbed}
use Rattle.rv_machine.specs.Harts.{harts_in, harts_share}
use Rattle.cfi_script.specs.Plan.{changes_of}
use Rattle.cfi_step.proofs.running.Running.change.Given as goal

-- the changes that are left lead to where all lead from the start
abbrev pub invariant-loop-change : goal.invariant-loop-change
invariant-loop-change l = record {
  harts : harts_in l.self.machine ≡ harts_in l.initial.self.machine;
  shared : disturbed (harts_share l.self.machine) (changes_of (drop l.change-index l.changes)) ≡ disturbed (harts_share l.initial.self.machine) (changes_of l.changes);
  made : l.self.made ++ map (λ c. (l.step, c)) (drop l.change-index l.changes) ≡ l.initial.self.made ++ map (λ c. (l.step, c)) l.changes;
  allowed : AllByRecursion IsDataChange (changes_of (drop l.change-index l.changes)) → AllByRecursion IsDataChange (changes_of l.changes);
  count : length l.self.machine.resting ≡ length l.initial.self.machine.resting;
  version : l.self.machine.processor.memory.version ≡ l.initial.self.machine.processor.memory.version;
  taken : l.self.taken ≡ l.initial.self.taken;
  trails : l.self.trails ≡ l.initial.self.trails;
}
