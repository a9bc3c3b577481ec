-- Completeness: what the status is where no fault is counted and there is memory. Nothing is refused, rejected or left undone without
-- a cause in the files.
use Rattle.std.specs.Prelude.{◌≡◌, ◌⊎◌, ◌≤◌, ℕ}
use Rattle.tool_common.specs.Reads.{Content}
use Rattle.tool_objects.specs.Complete.{CompareIsComplete, RewriteIsComplete}
use Rattle.tool_images.specs.Complete.{RunIsComplete, VerifyIsComplete}
use Rattle.cfi_tool.specs.Request.{Request, compare, demo, rewrite, run, verify}

abbrev pub IsComplete : Content → Request → ℕ → Type 0
IsComplete content (rewrite words) status = RewriteIsComplete content words status
IsComplete content (verify words) status = VerifyIsComplete content words status
IsComplete content (run words) status = RunIsComplete content words status
IsComplete content (compare words) status = CompareIsComplete content words status
IsComplete content (demo number) status = (status ≡ 0) ⊎ (10 ≤ status)
