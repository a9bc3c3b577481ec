use Rattle.std.proofs.Common.{◌∙◌, List, [], ℕ, ap, rules, subst, sym}
use Rattle.tool_objects.proofs.Prelude.{image_version, Contents, IsWellFormed, pair_profile, HardenedParts, program_request, entered, IsSafeRun, undisturbed_script, STEP_LIMIT, IsImageIn, IsMade}
use Rattle.tool_objects.proofs.Demonstrated.{can_run, form_of_map, is_well_formed, none_differs}
use Rattle.tool_objects.proofs.demo.of_hardened.Goals as goal

pub run_accepted-requires : goal.run_accepted-requires
run_accepted-requires c =
    let request = program_request (entered c.args.object.now) in
    let h = c.args.hardened.now in
    let image : Contents = c.image_in-image.result in
    let is : IsImageIn h.image image = search rules in
    subst (λ (x : HardenedParts). IsWellFormed (pair_profile image x.graph) image x.graph) (sym c.hardened.view_is)
    (is_well_formed request c.args.prepared.now c.requires.ready.prepared.1 h c.requires.written image is)

pub after_run-requires : goal.after_run-requires
after_run-requires c =
    let request = program_request (entered c.args.object.now) in
    let p = c.args.prepared.now in
    let h = c.args.hardened.now in
    let image : Contents = c.image_in-image.result in
    let is : IsImageIn h.image image = search rules in
    let prepared = c.requires.ready.prepared.1 in
    record {
      ready = c.requires.ready;
      version = c.image_in-image.ensures.version ∙ sym (ap image_version (form_of_map request p prepared h c.requires.written));
      fits = can_run request p prepared h c.requires.written;
      same = none_differs p h c.requires.same image is;
    }

pub returns : goal.returns
returns c = λ number object.
    let h = c.args.hardened.now in
    let image : Contents = c.image_in-image.result in
    let is : IsImageIn h.image image = search rules in
    c.after_run.ensures number object (record {
      made = subst (λ (o : List ℕ). IsMade (entered o) h) object c.requires.made;
      version = c.image_in-image.ensures.version;
      image_is = is.image_is;
      run_is = subst (λ (x : HardenedParts). IsSafeRun image x.graph undisturbed_script [] STEP_LIMIT c.in_ok-report.report) c.hardened.view_is c.in_ok-report.ensures;
    })
