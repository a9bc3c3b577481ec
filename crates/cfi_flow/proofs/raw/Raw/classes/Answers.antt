use Rattle.std.proofs.Common.{ℕ, ◌<◌, length, subst, sym}
use Rattle.std.specs.List.{All}
use Rattle.cfi_flow.specs.Closing.{AreClasses, sets_of}
use Rattle.cfi_flow.specs.Joins.{JoinAs}
use Rattle.cfi_flow.specs.Kept.{sites_of}
use Rattle.cfi_flow.specs.Raw.{RawGraph}
use Rattle.cfi_flow.proofs.Classing.{classes_of, members_there}
use Rattle.cfi_flow.proofs.Keeping.{there}
use Rattle.cfi_flow.proofs.raw.Raw.classes.Goals as goal

are : (c : goal.After-drop-lists-2) → AreClasses (sets_of (sites_of c.self.inside.drawing)) c.in_ok-found.found.items
are c =
    let found = c.in_ok-found.found.items in
    classes_of (sets_of (sites_of c.self.inside.drawing)) c.as_slice.result.now found
    (subst (JoinAs (sets_of (sites_of c.self.inside.drawing))) (sym c.as_slice.ensures.value) c.in_ok-lists.ensures)
    record {
      joined = c.in_ok-found.ensures.joined;
      members = c.in_ok-found.ensures.members;
      apart = c.in_ok-found.ensures.apart;
      rising = c.in_ok-found.ensures.rising;
      some = c.in_ok-found.ensures.some;
      in_order = c.in_ok-found.ensures.in_order;
    }

pub returns-clause-are : goal.returns-clause-are
returns-clause-are c = subst (λ (r : RawGraph). AreClasses (sets_of r.sites) c.in_ok-found.found.items) c.self.view_is (are c)

pub returns-clause-there : goal.returns-clause-there
returns-clause-there c =
    let found = c.in_ok-found.found.items in
    let drawing = c.self.inside.drawing in
    subst (λ (r : RawGraph). All (All (λ (t : ℕ). t < length r.taken)) found) c.self.view_is
    (members_there (record { sites = sites_of drawing; taken = drawing.taken.items; calls = c.self.inside.calls }) (there drawing c.self.inside.calls c.self.invariant) found (λ a h. ((are c).members a).0 h))
