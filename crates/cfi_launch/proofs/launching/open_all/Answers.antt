use Rattle.std.proofs.Common.{◌∙◌, ◌<◌, ℕ, option_map, subst, sym}
use Rattle.cfi_pair.proofs.OneImage.{spelled_image, version_told}
use Rattle.cfi_launch.proofs.ScriptHarts.{for_one_alone, given_counts, may_run}
use Rattle.cfi_launch.proofs.launching.open_all.Goals as goal

pub returns-then-lacks_harts-clause-refused : goal.returns-then-lacks_harts-clause-refused
returns-then-lacks_harts-clause-refused c =
    let pair = c.in-Ok.pair in
    let script = c.in-Ok-script_of.script in
    let both = for_one_alone pair.image.version script.harts (sym c.lacks_harts.ensures ∙ c.if-lacks_harts.true) in
    let told = version_told c.args.image.now pair.image (spelled_image c.args.image.now c.args.graph.now pair.image pair.graph c.in-Ok.ensures.spelled) in (
      (pair.graph, c.in-Ok.ensures.read),
      (script, c.in-Ok-script_of.ensures, sym c.harts.ensures),
      subst (λ (n : ℕ). 1 < n) (sym c.harts.ensures) both.1,
      told ∙ both.0,
    )

pub returns-clause-may_run : goal.returns-clause-may_run
returns-clause-may_run c =
    let script = c.in-Ok-script_of.script in
    may_run c.in-Ok.pair.image.version script.harts (given_counts script (option_map (λ t. t.now) c.args.script) c.in-Ok-script_of.ensures)
    (sym c.lacks_harts.ensures ∙ c.if-lacks_harts.false)
