-- Lists that a loop pushes behind those that it is given; and the JALR of a pair, whose word is there.
use Rattle.std.proofs.Common.{◌≡◌, ℕ, ◌+◌, ◌<◌, true, false, Option, Some, None, List, ◌++◌, inl, inr, refl, sym, ap, ◌∙◌, add-one}
use Rattle.std.proofs.lemmas.Bool.{cases_lt, and_parts, le-ltb}
use Rattle.std.proofs.lemmas.List.{append-nil, append_assoc}
use Rattle.obj_items.proofs.Prelude.{joined, SectionParts, are_pair, are_same, auipc_register, has_pair_target, instr, is_pair, word_count}

module _ {A : Type 0} (parts : ℕ → List A) where
  pub pushed_begins : (before : List A) → before ≡ before ++ joined parts 0
  unfolding joined
  pushed_begins before = sym (append-nil before)

  pub pushed_next : (k : ℕ) (before so_far next : List A) → so_far ≡ before ++ joined parts k → next ≡ so_far ++ parts k → next ≡ before ++ joined parts (k + 1)
  unfolding joined
  pushed_next k before so_far next here e = rw add-one (e ∙ ap (λ (ys : List A). ys ++ parts k) here ∙ append_assoc before (joined parts k) (parts k))

-- what is no instruction is no JALR
pub no_second : (a : Option ℕ) → are_same a None ≡ false
no_second None = refl
no_second (Some x) = refl

pub pair_inside : (section : SectionParts) (i : ℕ) → is_pair section i ≡ true → i + 1 < word_count section
unfolding is_pair instr
pair_inside section i pair = elim (cases_lt (i + 1) (word_count section)) [
  | inl below ↦ below
  | inr past ↦
      let both = (and_parts (are_pair (instr section i) (instr section (i + 1))) (has_pair_target section i) pair).0 in
      let no : false ≡ true = sym (no_second (auipc_register (instr section i))) ∙ (rw (le-ltb (i + 1) (word_count section) past) at both) in
      absurd (cc)
]
