-- What `rewrite`, `harden` and `link` write is read back: `verify` reads its image and its graph, which meet every rule, and
-- `compare` reads its map, which is legal.
use Rattle.std.specs.Prelude.{◌≡◌}
use Rattle.rv_image.specs.Form.{image_version}
use Rattle.rv_image.specs.Image.{Contents}
use Rattle.cfi_rules.specs.Rules.{IsWellFormed, pair_profile}
use Rattle.cfi_writer.specs.Hardened.{HardenedParts}
use Rattle.cfi_harden.specs.Prepared.{IsPrepared, PreparedParts}
use Rattle.cfi_harden.specs.Request as asks
use Rattle.cfi_pair.specs.Spelled.{Spell}
use Rattle.tool_objects.specs.Compare.{IsMapOf, map_form}
use Rattle.tool_objects.specs.Rewrite.{IsMade, IsSpelledOut, RewriteWords}
use Rattle.tool_objects.specs.declared.rewrite.Rewritten.{Rewritten}

-- the files spell an image of the form's version and a graph that meet every rule, and a legal map of the request's program in its form
pub record IsReadBack (request : asks.Request) (written : Rewritten) : Type 0 where
  pub hardened : HardenedParts
  pub image : Contents
  pub program : PreparedParts
  pub spelled : Spell written.image.bytes written.graph.bytes image hardened.graph
  pub well_formed : IsWellFormed (pair_profile image hardened.graph) image hardened.graph
  pub version : image.version ≡ image_version request.form
  pub prepared : IsPrepared request program
  pub form : map_form written.map.bytes ≡ request.form
  pub map_is : IsMapOf program written.map.bytes hardened.map

abbrev pub WrittenIsRead : Type 0
WrittenIsRead =
    (words : RewriteWords) (request : asks.Request) (hardened : HardenedParts) (written : Rewritten)
    → IsMade request hardened → IsSpelledOut words hardened written → IsReadBack request written
