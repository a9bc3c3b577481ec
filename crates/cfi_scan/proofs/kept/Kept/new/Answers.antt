use Rattle.std.proofs.Common.{ℕ, [], arith}
use Rattle.std.proofs.lemmas.List.{drop_all}
use Rattle.rv_image.specs.MemoryMap.{profile_with}
use Rattle.cfi_scan.specs.Pieces.{prologue_count}
use Rattle.cfi_scan.proofs.Pieces.{keeps_none, splits_none}
use Rattle.cfi_scan.proofs.kept.Kept.new.Goals as goal

pub returns-clause-keeps : goal.returns-clause-keeps
returns-clause-keeps c =
    let s = c.in_ok-new.field-0 in
    let e = c.in_ok-new.ensures.empty in
    let most : ℕ = prologue_count (profile_with c.args.versions) in
    record {
      prologue_is = keeps_none most _;
      split = λ room.
          rw (e.0, e.1, e.2, e.3, drop_all {X = ℕ} most [] (omega arith)) (splits_none c.args.calls (profile_with c.args.versions).units_from c.saturating_sub-room.result);
    }
