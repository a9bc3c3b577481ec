use Rattle.std.proofs.Common.{List, ℕ, subst}
use Rattle.tool_objects.proofs.Prelude.{HardenedParts, entered, IsComparedAt, IsAnswerAt}
use Rattle.tool_objects.proofs.Demonstrated.{compared_at, never_told}
use Rattle.tool_objects.proofs.demo.after_exit.Goals as goal

pub told-requires : goal.told-requires
told-requires c = λ difference.
    let p = c.args.prepared.now in
    let image = c.args.image.now in
    let answer = c.in_ok-compared.compared in
    let is = subst (λ (h : HardenedParts). IsAnswerAt p h.map image answer) c.hardened.view_is c.in_ok-compared.ensures in
    never_told p c.args.hardened.now.map image answer is c.requires.version c.requires.same difference

pub returns : goal.returns
returns c = λ number object run exits.
    let p = c.args.prepared.now in
    let map = c.args.hardened.now.map in
    let image = c.args.image.now in
    let answer = c.in_ok-compared.compared in
    let is = subst (λ (h : HardenedParts). IsAnswerAt p h.map image answer) c.hardened.view_is c.in_ok-compared.ensures in
    c.told.ensures number object (record {
      run_is = run;
      exits = exits;
      compared = subst (λ (o : List ℕ). IsComparedAt (entered o) map image answer) object
          (compared_at p map image answer is (entered c.args.object.now) c.requires.ready.prepared c.requires.fits);
    })
