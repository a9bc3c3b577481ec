-- The hardened program of a request: its image, its graph and its map.
use Rattle.std.specs.Prelude.{◌≡◌, ℕ, List, None}
use Rattle.cfi_map.specs.Placing.{IsPlacementOf, Spaced}
use Rattle.cfi_map.specs.Source.{first_astray}
use Rattle.cfi_writer.specs.Hardened.{HardenedParts, IsWritten}
use Rattle.cfi_harden.specs.Given.{IsGiven}
use Rattle.cfi_harden.specs.Prepared.{IsPreparedOf, PreparedParts}
use Rattle.cfi_harden.specs.Request.{ProgramRequest, Request, program_request}
use Rattle.cfi_harden.specs.Room.{HasDataRoom}

-- a prepared program is written at some placement that fits
abbrev pub IsWrittenOf : PreparedParts → HardenedParts → Type 0
IsWrittenOf p h =
    (s : Spaced) × (labels : List ℕ) × (code : List ℕ) × (init : List ℕ)
    × IsPlacementOf p.form p.program p.closed p.entry s × HasDataRoom p.program × (first_astray s.layout ≡ None)
    × IsWritten p.form s labels code init h

-- the hardened program of a request: it is placed with as many short branches as can be, its data have room, no value leaves its
-- range, and it is written
abbrev pub IsHardenedOf : ProgramRequest → HardenedParts → Type 0
IsHardenedOf request h = (p : PreparedParts) × IsPreparedOf request p × IsWrittenOf p h

-- that of a request whose program is given
abbrev pub IsHardened : Request → HardenedParts → Type 0
IsHardened request h = IsGiven request.given × IsHardenedOf (program_request request) h
