use Rattle.std.proofs.Common.{rules}
use Rattle.rv_image.proofs.Profiles.{is_pair_profile}
use Rattle.cfi_rules.specs.Rules.{IsWellFormed, pair_profile}
use Rattle.cfi_rules.proofs.Safety.{well_formed_is_safe}
use Rattle.cfi_verify.proofs.verifier.verify.Goals as goal

pub returns-in-Ok-clause-confined : goal.returns-in-Ok-clause-confined
returns-in-Ok-clause-confined c =
    let formed : IsWellFormed (pair_profile c.args.image.now c.args.graph.now) c.args.image.now c.args.graph.now = search rules in
    c.well_formed_is_confined.ensures _ c.args.image.now c.args.graph.now (is_pair_profile c.args.graph.now.version c.args.image.now.version) c.are_bytes.ensures c.code-length.ensures.allowed formed

pub returns-in-Ok-clause-safe : goal.returns-in-Ok-clause-safe
returns-in-Ok-clause-safe c =
    let formed : IsWellFormed (pair_profile c.args.image.now c.args.graph.now) c.args.image.now c.args.graph.now = search rules in
    well_formed_is_safe _ c.args.image.now c.args.graph.now (is_pair_profile c.args.graph.now.version c.args.image.now.version) c.are_bytes.ensures formed

pub returns-in-Ok-clause-listed : goal.returns-in-Ok-clause-listed
returns-in-Ok-clause-listed c =
    let formed : IsWellFormed (pair_profile c.args.image.now c.args.graph.now) c.args.image.now c.args.graph.now = search rules in
    λ calls list_is. c.well_formed_is_listed.ensures _ c.args.image.now c.args.graph.now calls (is_pair_profile c.args.graph.now.version c.args.image.now.version) c.are_bytes.ensures formed list_is
