-- A request is prepared, hardened and refused in one way.
use Rattle.std.specs.Prelude.{◌≡◌}
use Rattle.refusals.specs.declared.refusal.Refusal.{Refusal}
use Rattle.cfi_writer.specs.Hardened.{HardenedParts}
use Rattle.cfi_harden.specs.Given.{IsGiven, RefusesGiven}
use Rattle.cfi_harden.specs.Hardened.{IsHardened, IsHardenedOf}
use Rattle.cfi_harden.specs.Prepared.{IsPrepared, IsPreparedOf, PreparedParts}
use Rattle.cfi_harden.specs.Refused.{Refuses, RefusesProgram}
use Rattle.cfi_harden.specs.Request.{ProgramRequest, Request}

-- whatever is prepared for a request is the same program, with the same closed graph and entry
abbrev pub PreparedInOneWay : Type 0
PreparedInOneWay = (request : ProgramRequest) (p q : PreparedParts) → IsPreparedOf request p → IsPreparedOf request q → p ≡ q

-- whatever is hardened for it is the same image, with the same graph and map
abbrev pub HardenedInOneWay : Type 0
HardenedInOneWay = (request : ProgramRequest) (h g : HardenedParts) → IsHardenedOf request h → IsHardenedOf request g → h ≡ g

-- what is hardened is refused by nothing
abbrev pub HardenedIsNotRefused : Type 0
HardenedIsNotRefused =
    (request : ProgramRequest) (h : HardenedParts) (refusal : Refusal) → IsHardenedOf request h → RefusesProgram request refusal → ⊥

-- and a request has one first refusal
abbrev pub RefusedInOneWay : Type 0
RefusedInOneWay = (request : ProgramRequest) (first other : Refusal) → RefusesProgram request first → RefusesProgram request other → first ≡ other

-- the same of a request whose program is given, as an object or as several; by itself, what is given is refused by nothing
pub record GivenInOneWay : Type 0 where
  pub given : (request : Request) (refusal : Refusal) → IsGiven request.given → RefusesGiven request.given refusal → ⊥
  pub prepared : (request : Request) (p q : PreparedParts) → IsPrepared request p → IsPrepared request q → p ≡ q
  pub hardened : (request : Request) (h g : HardenedParts) → IsHardened request h → IsHardened request g → h ≡ g
  pub not_refused : (request : Request) (h : HardenedParts) (refusal : Refusal) → IsHardened request h → Refuses request refusal → ⊥
  pub refused : (request : Request) (first other : Refusal) → Refuses request first → Refuses request other → first ≡ other
