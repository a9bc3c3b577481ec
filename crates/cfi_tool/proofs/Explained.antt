-- The files of an outcome that is explained.
use Rattle.std.proofs.Common.{◌≡◌, ◌∙◌, [], ap, refl, sym}
use Rattle.cfi_tool.proofs.Prelude.{IsSpelledOut, RewriteWords, AreNamedApart, outputs_of, ExplainsRequest, outcome_outputs, Content, AreApart, OutputParts, HardenedParts, Rewritten, Outcome, Rewrite, Verify, Run, Compare, Demo}
use Rattle.cfi_tool.specs.Request.{Request, WritesNone, asks, compare as compares, demo as demos, rewrite as rewrites, run as runs, verify as verifies}
use Rattle.tool_objects.specs.declared.rewrite.RewriteOutcome.TheVariants as outcome

written_apart : (words : RewriteWords) (hardened : HardenedParts) (written : Rewritten) → AreNamedApart words → IsSpelledOut words hardened written
    → AreApart (outputs_of written)
written_apart words hardened written apart is =
    let image : written.image.name ≡ words.image = ap (λ (o : OutputParts). o.name) is.image in
    let graph : written.graph.name ≡ words.graph = ap (λ (o : OutputParts). o.name) is.graph in
    let map : written.map.name ≡ words.map = ap (λ (o : OutputParts). o.name) is.map in (
      (λ e. apart.image_graph (sym image ∙ (e ∙ graph)), (λ e. apart.image_map (sym image ∙ (e ∙ map)), tt)),
      ((λ e. apart.graph_map (sym graph ∙ (e ∙ map)), tt), (tt, tt)),
    )

-- no two files of an explained outcome have one name
pub explained_apart : (content : Content) (request : Request) (given : Outcome) → ExplainsRequest content request given → AreApart (outcome_outputs given)
explained_apart content (rewrites words) (Rewrite (outcome.Refused refusal)) is = tt
explained_apart content (rewrites words) (Rewrite (outcome.Rewritten written)) is =
    let (hardened, hardens, spelled) = is.rewrite_is in
    written_apart words hardened written is.apart spelled
explained_apart content (verifies words) (Verify verdict) is = tt
explained_apart content (runs words) (Run given) is = tt
explained_apart content (compares words) (Compare given) is = tt
explained_apart content (demos number) (Demo given) is = tt
explained_apart content request other is = absurd is

-- a request that asks for no file to be written comes to no file
pub explained_unwritten : (content : Content) (request : Request) (given : Outcome) → ExplainsRequest content request given → WritesNone (asks request)
    → outcome_outputs given ≡ []
explained_unwritten content (verifies words) (Verify verdict) is none = refl
explained_unwritten content (runs words) (Run given) is none = refl
explained_unwritten content (compares words) (Compare given) is none = refl
explained_unwritten content (demos number) (Demo given) is none = refl
explained_unwritten content (rewrites words) given is none = absurd none
explained_unwritten content request other is none = absurd is
