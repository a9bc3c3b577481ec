use Rattle.std.proofs.Common.{◌≡◌, ◌*◌, ◌∙◌, ap, inl, inr, sym, true}
use Rattle.std.proofs.lemmas.Bool.{cases_Bool}
use Rattle.cfi_verify.proofs.Prelude.{Profile, has_leaves, ends_in_stop, profile_in}
use Rattle.cfi_starts.proofs.Laid.{laid_with}
use Rattle.cfi_verify.proofs.OnePass.{full_kinds, pass_holds}
use Rattle.cfi_verify.proofs.all_hold.all_hold.Goals as goal

pub returns-then-lines_hold : goal.returns-then-lines_hold
returns-then-lines_hold c = λ held words told.
    let p : Profile = profile_in c.args.starts.now in
    let laid = laid_with c.args.starts.now.listing.versions in
    let graph_is = c.count-count.ensures.graph_is in
    let ends : ends_in_stop p c.args.starts.now.listing ≡ true = sym c.ends_in_stop.ensures ∙ c.if-not-ends_in_stop.false in
    let holds = c.lines_hold.ensures.words c.if-lines_hold.true in
    pass_holds p laid c.args.starts.now.listing c.args.starts.now.graph graph_is (c.count-count.ensures.same_length ∙ ap (λ n. 4 * n) c.count-count.ensures.value)
    (c.prologue_holds.ensures c.if-not-prologue_holds.false) ends holds
    (elim (cases_Bool (has_leaves c.args.starts.now.graph.version)) [
      | inl leaves ↦ c.kinds_hold.ensures held leaves
      | inr full ↦ full_kinds p laid c.args.starts.now.listing c.args.starts.now.graph graph_is full (sym c.has_leaves-leaves.ensures.by_profile ∙ c.has_leaves-leaves.ensures.by_graph) ends words told holds
    ])
    (c.lines_hold.ensures.gates c.if-lines_hold.true) words told
