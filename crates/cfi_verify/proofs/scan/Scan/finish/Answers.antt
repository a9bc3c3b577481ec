use Rattle.std.proofs.Common.{◌≡◌, ◌∙◌, ap, subst, sym}
use Rattle.cfi_verify.proofs.Prelude.{Profile, profile_with, GraphParts, has_leaves, Scanned, Tells, numbers_in, Holds, IsFirst, StartParts, code_words, Rule}
use Rattle.cfi_verify.proofs.Ended.{asked, ended, is_of, told_of}
use Rattle.cfi_starts.proofs.Laid.{saves_with}
use Rattle.cfi_verify.proofs.scan.Scan.finish.Goals as goal

pub returns-then-fed-code-clause-rejected : goal.returns-then-fed-code-clause-rejected
returns-then-fed-code-clause-rejected c = λ image has.
    let seen = is_of _ _ _ _ c.self.view_is c.finish-listing.ensures.of image has in (
      c.fed-fed.ensures ∙ seen.fed,
      c.code-then-fed-code.ensures.value ∙ ap (λ (s : Scanned). s.graph.code) c.self.view_is,
      λ e. c.if-fed-code.true (e ∙ c.code-then-fed-code.ensures.value ∙ sym c.code.ensures.value),
    )

pub returns-in-Some-clause-rejected : goal.returns-in-Some-clause-rejected
returns-in-Some-clause-rejected c = λ image has.
    let end = ended _ _ _ _ c.self.view_is c.finish-listing.ensures.of c.finish-listing.ensures.room c.self.invariant.room c.self.invariant.same_calls (sym c.fed-fed.ensures ∙ c.if-fed-code.false ∙ c.code.ensures.value) image has in
    let versions = c.finish-listing.ensures.versions ∙ ap (λ (s : Scanned). s.seen.versions) c.self.view_is in
    let graph = ap (λ (s : Scanned). s.graph) c.self.view_is in
    let told = told_of c.args.self _ _ _ c.of-starts.ensures versions graph (code_words image.code) end.told in (
      end.length_is,
      asked c.args.self _ _ _ c.of-starts.ensures versions graph (λ (p : Profile) (graph : GraphParts). IsFirst p (code_words image.code) graph c.in-Some.rule c.in-Some.address)
          (c.in-Some.ensures (code_words image.code) told),
    )

pub returns-clause-versions : goal.returns-clause-versions
returns-clause-versions c =
    ap (λ (s : StartParts). s.listing.versions) c.of-starts.ensures ∙ c.finish-listing.ensures.versions ∙ ap (λ (s : Scanned). s.seen.versions) c.self.view_is

pub returns-clause-accepted : goal.returns-clause-accepted
returns-clause-accepted c = λ image has.
    let end = ended _ _ _ _ c.self.view_is c.finish-listing.ensures.of c.finish-listing.ensures.room c.self.invariant.room c.self.invariant.same_calls (sym c.fed-fed.ensures ∙ c.if-fed-code.false ∙ c.code.ensures.value) image has in
    let versions = c.finish-listing.ensures.versions ∙ ap (λ (s : Scanned). s.seen.versions) c.self.view_is in
    let graph = ap (λ (s : Scanned). s.graph) c.self.view_is in
    let told = told_of c.args.self _ _ _ c.of-starts.ensures versions graph (code_words image.code) end.told in (
      ap (λ (s : StartParts). s.graph) c.of-starts.ensures ∙ graph,
      subst (λ (s : StartParts). Tells (profile_with c.args.self.seen.versions) (numbers_in c.args.self.graph) s.listing (code_words image.code)) (sym c.of-starts.ensures) end.told,
      record {
        saves = saves_with c.args.self.seen.versions ∙ ap has_leaves (subst (λ (s : Scanned). s.seen.versions.graph ≡ s.graph.version) c.self.view_is c.self.invariant.same_version);
        same_length = end.length_is;
        rules =
            asked c.args.self _ _ _ c.of-starts.ensures versions graph (λ (p : Profile) (graph : GraphParts). (rule : Rule) → Holds p (code_words image.code) graph rule)
            (c.in-None.ensures (code_words image.code) told);
      },
    )
