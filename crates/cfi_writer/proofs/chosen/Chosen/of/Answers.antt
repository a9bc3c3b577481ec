use Rattle.std.proofs.Common.{◌≡◌, ℕ, ◌<◌, ◌^◌, Bool, List, ap, subst, sym, ◌∙◌}
use Rattle.cfi_writer.proofs.Prelude.{ClosedGraph, ProgramAtMap, site_label, AreStarts, IsChosen, chosen, Choice}
use Rattle.cfi_writer.proofs.Leading.{asked_small}
use Rattle.cfi_writer.proofs.chosen.Chosen.of.Goals as goal

-- what is taken apart is the choice
choice_is : (layout other : ProgramAtMap) (whole more : List Bool) (labels : List ℕ) → layout ≡ other → whole ≡ more →
    ◌≡◌ {A = Choice} (record { layout = layout; whole = whole; labels = labels }) (record { layout = other; whole = more; labels = labels })
choice_is layout other whole more labels one two = λ i. record { layout = one i; whole = two i; labels = labels }

pub invariant_of-result : goal.invariant_of-result
invariant_of-result c =
    let m = chosen c.args.spacing.now c.args.labels.now in
    let closed = c.closed-closed.ensures ∙ ap (λ (l : ProgramAtMap). l.closed) c.mapped-mapped.ensures in
    subst (λ (x : Choice). IsChosen x c.in_ok-starts.starts.items c.in_ok-sites.sites.items)
    (sym (choice_is c.mapped-mapped.result.now m.layout c.whole-whole.result.now m.whole c.args.labels.now c.mapped-mapped.ensures c.whole-whole.ensures))
    (record {
      accepted = c.requires;
      starts_are = subst (λ (g : ClosedGraph). AreStarts g.sides c.in_ok-starts.starts.items) closed c.in_ok-starts.ensures;
      sites_are = λ k. c.in_ok-sites.ensures k ∙ ap (λ (g : ClosedGraph). site_label c.args.labels.now g.sides k) closed;
      sites_small = λ k. subst (λ (n : ℕ). n < 2 ^ 20)
          (sym (c.in_ok-sites.ensures k ∙ ap (λ (g : ClosedGraph). site_label c.args.labels.now g.sides k) closed)) (asked_small m c.requires k);
    })

pub returns : goal.returns
returns c =
    let m = chosen c.args.spacing.now c.args.labels.now in
    choice_is c.mapped-mapped.result.now m.layout c.whole-whole.result.now m.whole c.args.labels.now c.mapped-mapped.ensures c.whole-whole.ensures
