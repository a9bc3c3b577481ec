-- What holds of hardened programs.
use Rattle.std.specs.Prelude.{ℕ, List}
use Rattle.cfi_graph.specs.Graph.{IsGraph}
use Rattle.cfi_map_text.specs.Map.{IsMap}
use Rattle.cfi_writer.specs.Accepted.{IsAccepted}
use Rattle.cfi_harden.specs.Fitting.{IsFitting}
use Rattle.cfi_writer.specs.Hardened.{HardenedParts, IsWritten, chosen}
use Rattle.cfi_map.specs.Placing.{Spaced}
use Rattle.cfi_harden.specs.Hardened.{IsWrittenOf}
use Rattle.cfi_harden.specs.Prepared.{IsPreparedOf, PreparedParts}
use Rattle.cfi_harden.specs.Request.{ProgramRequest}

-- what is written of a prepared request at a placement that fits is an accepted choice
abbrev pub WrittenIsAccepted : Type 0
WrittenIsAccepted =
    (request : ProgramRequest) (p : PreparedParts) (s : Spaced) (labels code init : List ℕ) (h : HardenedParts) → IsPreparedOf request p →
    IsFitting p s → IsWritten p.form s labels code init h → IsAccepted (chosen s labels)

-- graph and map of what is written of a prepared request are ones that texts spell, so what is written of them is read back
abbrev pub HardenedIsRight : Type 0
HardenedIsRight =
    (request : ProgramRequest) (p : PreparedParts) (h : HardenedParts) → IsPreparedOf request p → IsWrittenOf p h → IsGraph h.graph × IsMap h.map
