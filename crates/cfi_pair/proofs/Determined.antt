-- What is said of two texts that spell a pair is determined by them: no fault, and no rule that fails where the pair meets all.
use Rattle.std.proofs.Common.{◌≡◌, ◌∙◌, ◌⊎◌, inl, inr, ℕ, List, None, Result, Ok, Err, refl, sym, ap, subst}
use Rattle.rv_image.specs.Image.{Contents}
use Rattle.elf_image.specs.Fault.{fault_of}
use Rattle.elf_image.proofs.Only.{reads_none}
use Rattle.cfi_graph.specs.Graph.{GraphParts}
use Rattle.cfi_graph.specs.Reading.{graph_of}
use Rattle.cfi_graph.proofs.Only.{graph_of-graph_text}
use Rattle.cfi_rules.specs.Rules.{IsRejected, IsWellFormed, pair_profile}
use Rattle.cfi_rules.specs.declared.reject.Reject as V
use Rattle.cfi_rules.specs.declared.reject.Reject.TheVariants.{At, Length}
use Rattle.cfi_pair.specs.Judgement.{HasJudgement}
use Rattle.cfi_pair.specs.Opening.{IsPairEnd}
use Rattle.cfi_pair.specs.Spelled.{IsImage, Spell}
use Rattle.cfi_pair.specs.declared.judging.Verdict.{Verdict}
use Rattle.cfi_pair.specs.declared.judging.Verdict.TheVariants.{Accepted, Rejected}
use Rattle.rv_word.specs.declared.end.End.{End}
use Rattle.cfi_pair.specs.declared.opening.PairFault.{PairFault}
use Rattle.rv_word.specs.declared.end.End.TheVariants.{Fault, NoMemory}
use Rattle.cfi_pair.specs.declared.opening.PairFault.TheVariants.{Graph, Image}
use Rattle.cfi_pair.proofs.OneImage.{one_image, spelled_image}

module _ (image_bytes graph_bytes : List ℕ) (image : Contents) (graph : GraphParts) (spell : Spell image_bytes graph_bytes image graph) where
  pub no_fault : fault_of image_bytes ≡ None
  no_fault = reads_none image_bytes image.version image.code image.init spell.size spell.image_is

  pub own : IsImage image_bytes image
  own = spelled_image image_bytes graph_bytes image graph spell

  pub graph_read : graph_of graph_bytes ≡ Ok graph
  graph_read = ap graph_of spell.graph_is ∙ graph_of-graph_text graph spell.parts

  pub one_pair : (other : Contents) (lines : GraphParts) → Spell image_bytes graph_bytes other lines → (other ≡ image) × (lines ≡ graph)
  one_pair other lines is =
      let read : graph_of graph_bytes ≡ Ok lines = ap graph_of is.graph_is ∙ graph_of-graph_text lines is.parts in
      let same : lines ≡ graph = cc (read, graph_read) in (
        one_image image_bytes other image (spelled_image image_bytes graph_bytes other lines is) own,
        same,
      )

  module _ (well : IsWellFormed (pair_profile image graph) image graph) where
    -- what meets the rules is not rejected
    not_rejected : (reject : V.Reject) → IsRejected (pair_profile image graph) image graph reject → ⊥
    not_rejected (Length code given) is =
        let (code_is, given_is, other) = is in other (code_is ∙ sym well.same_length ∙ sym given_is)
    not_rejected (At rule a) is =
        let (same, first) = is in
        let holds = well.rules rule a in
        let here = first.here in
        cc (holds, here)

    pub none_rejected : (other : Contents) (lines : GraphParts) (reject : V.Reject) → Spell image_bytes graph_bytes other lines
        → IsRejected (pair_profile other lines) other lines reject → ⊥
    none_rejected other lines reject is rejected =
        let same = one_pair other lines is in
        not_rejected reject (subst (λ (g : GraphParts). IsRejected (pair_profile image g) image g reject) same.1
        (subst (λ (i : Contents). IsRejected (pair_profile i lines) i lines reject) same.0 rejected))

    judged_well : (verdict : Verdict) → HasJudgement image_bytes graph_bytes verdict → verdict ≡ Accepted
    judged_well Accepted is = refl
    judged_well (Rejected reject) is = let (other, lines, spelled, rejected) = is in absurd (none_rejected other lines reject spelled rejected)

    pub accepted : (verdict : Verdict) (result : Result Verdict (End PairFault)) → HasJudgement image_bytes graph_bytes verdict → result ≡ Ok verdict
        → (result ≡ Ok Accepted) ⊎ (result ≡ Err NoMemory)
    accepted verdict result has is = inl (is ∙ ap Ok (judged_well verdict has))

    pub wants_memory : (end : End PairFault) (result : Result Verdict (End PairFault)) → IsPairEnd image_bytes graph_bytes end → result ≡ Err end
        → (result ≡ Ok Accepted) ⊎ (result ≡ Err NoMemory)
    wants_memory NoMemory result has is = inr is
    wants_memory (Fault (Image refusal)) result has is = let no : ⊥ = cc (has, no_fault) in absurd no
    wants_memory (Fault (Graph line reason)) result has is = let wrong = has.1 in let no : ⊥ = cc (wrong, graph_read) in absurd no
