-- Labels each of which is the least that is free rise: a lesser one than that before it would have been free there.
use Rattle.std.proofs.Common.{◌≡◌, ℕ, ◌+◌, List, [], ◌∷◌, ◌++◌, take, get_or, suc, inl, inr, sym, ap, subst, ◌∙◌, arith}
use Rattle.std.specs.List.{Contains}
use Rattle.std.proofs.Math.Seq.{take-suc}
use Rattle.std.proofs.lemmas.Bool.{cases_lt}
use Rattle.std.proofs.lemmas.List.Elements.{Contains-append_left, Contains-push}
use Rattle.cfi_class.specs.Labels.{LabelsRise}

pub labels_rise : LabelsRise
labels_rise used labels are k within =
    let one = are k (omega arith) in
    let next = are (k + 1) within in
    let here = get_or labels k 0 in
    let there = get_or labels (k + 1) 0 in
    let next_is : k + 1 ≡ suc k = omega arith in
    let more : take k labels ++ here ∷ [] ≡ take (k + 1) labels = sym (ap (λ (n : ℕ). take n labels) next_is ∙ take-suc labels k 0 (omega arith)) in
    elim (cases_lt here there) [
      | inl less ↦ less
      | inr past ↦ elim (cases_lt there here) [
        | inl less ↦ elim (one.least there next.from_one less) [
          | inl old ↦ absurd (next.free (inl old))
          | inr earlier ↦ absurd (next.free (inr (subst (λ (ls : List ℕ). Contains ls there) more (Contains-append_left (take k labels) (here ∷ []) there earlier))))
        ]
        | inr not_less ↦
            let same : here ≡ there = omega (arith, past, not_less) in
            absurd (next.free (inr (subst (λ (n : ℕ). Contains (take (k + 1) labels) n) same (subst (λ (ls : List ℕ). Contains ls here) more (Contains-push (take k labels) here)))))
      ]
    ]
