-- A longer part brings no branch nearer to its target.
use Rattle.std.proofs.Common.{◌≡◌, ℕ, ◌+◌, ◌-◌, ◌<◌, ◌≤◌, Bool, true, false, List, length, get_or, sym, ap, ◌∙◌, arith, if◌then◌else◌, inl, inr}
use Rattle.std.specs.Prelude.{nat_le, nat_lt, ◌&&◌}
use Rattle.std.proofs.lemmas.Bool.{cases_Bool, cases_lt, lt-ltb, le-ltb, le-leb, lt-leb, and_from, and_left, and_parts, or_cases, ltb-true, leb-true}
use Rattle.cfi_layout.specs.declared.short.Short.{Short}
use Rattle.cfi_layout.specs.Starts.{starts_from}
use Rattle.cfi_layout.specs.LongSet.{sizes_where, is_in_reach, IsShort}
use Rattle.cfi_layout.specs.Lengthening.{gap, reach, spans}
use Rattle.cfi_layout.proofs.Offsets.{offset, start_is, offset_more, offset_rises, spread, length_where, size_where, below_where}

module _ (from : ℕ) where
  -- where parts start, if these are whole
  abbrev pub starts_where : (ℕ → Bool) → List ℕ → List ℕ
  starts_where whole sizes = starts_from from (sizes_where whole 0 sizes)

  abbrev pub start : (ℕ → Bool) → List ℕ → ℕ → ℕ
  start whole sizes k = get_or (starts_where whole sizes) k 0

  pub start_offset : (whole : ℕ → Bool) (sizes : List ℕ) (k : ℕ) → k ≤ length sizes → start whole sizes k ≡ from + offset (sizes_where whole 0 sizes) k
  start_offset whole sizes k le = start_is from (sizes_where whole 0 sizes) k (omega (arith, length_where whole 0 sizes))

  pub rises : (whole : ℕ → Bool) (sizes : List ℕ) (i j : ℕ) → i ≤ j → j ≤ length sizes → start whole sizes i ≤ start whole sizes j
  rises whole sizes i j le within =
      omega (arith, start_offset whole sizes i (omega arith), start_offset whole sizes j within, offset_rises (sizes_where whole 0 sizes) i j le)

  pub between : (whole other : ℕ → Bool) (sizes : List ℕ) (i j : ℕ) → ((m : ℕ) → whole m ≡ true → other m ≡ true) → i ≤ j → j ≤ length sizes →
      start whole sizes j + start other sizes i ≤ start other sizes j + start whole sizes i
  between whole other sizes i j more le within =
      omega (
        arith,
        start_offset whole sizes i (omega arith),
        start_offset whole sizes j within,
        start_offset other sizes i (omega arith),
        start_offset other sizes j within,
        spread (sizes_where whole 0 sizes) (sizes_where other 0 sizes) i j le (below_where whole other 0 sizes more) (length_where whole 0 sizes ∙ sym (length_where other 0 sizes)),
      )

  pub next : (whole : ℕ → Bool) (sizes : List ℕ) (k : ℕ) → k < length sizes →
      start whole sizes (k + 1) ≡ start whole sizes k + (if whole k then get_or sizes k 0 else get_or sizes k 0 - 4)
  next whole sizes k lt =
      let short : k < length (sizes_where whole 0 sizes) = omega (arith, length_where whole 0 sizes) in
      let zero_k : 0 + k ≡ k = omega arith in
      let size = rw zero_k at (size_where whole 0 sizes k lt) in
      start_offset whole sizes (k + 1) (omega arith)
      ∙ ap (λ (n : ℕ). from + n) (offset_more (sizes_where whole 0 sizes) k short ∙ ap (λ (n : ℕ). offset (sizes_where whole 0 sizes) k + n) size)
      ∙ omega (arith, start_offset whole sizes k (omega arith))

  -- the word of a branch stands before the next part
  pub word_before : (whole : ℕ → Bool) (sizes : List ℕ) (b : Short) → IsShort sizes b → start whole sizes b.at + b.lead ≤ start whole sizes (b.at + 1)
  word_before whole sizes b is =
      let e = next whole sizes b.at is.at_is in
      let size = is.size in
      elim (cases_Bool (whole b.at)) [
        | inl yes_whole ↦ omega (arith, rw yes_whole at e, size)
        | inr no_whole ↦ omega (arith, rw no_whole at e, size)
      ]

  -- a branch reaches exactly where the gap is at most the reach
  pub reaches_is : (whole : ℕ → Bool) (sizes : List ℕ) (b : Short) → IsShort sizes b →
      (gap (starts_where whole sizes) b ≤ reach b → is_in_reach (starts_where whole sizes) b ≡ true)
      × (reach b < gap (starts_where whole sizes) b → is_in_reach (starts_where whole sizes) b ≡ false)
  reaches_is whole sizes b is =
      let at : start whole sizes b.at + b.lead ≤ start whole sizes (b.at + 1) = word_before whole sizes b is in
      let at_in = is.at_is in
      let target_in = is.target_is in
      let w = start whole sizes b.at + b.lead in
      let t = start whole sizes b.target in
      elim (cases_lt b.at b.target) [
        | inl ahead ↦
            let up = rises whole sizes (b.at + 1) b.target (omega arith) (omega arith) in
            rw (lt-ltb _ _ ahead, le-leb (start whole sizes b.at + b.lead) (start whole sizes b.target + 4096) (omega arith))
            (λ near. le-leb t (w + 4092) (omega arith), λ far. lt-leb t (w + 4092) (omega arith))
        | inr behind ↦
            let up = rises whole sizes b.target b.at behind (omega arith) in
            let second : nat_le t (w + 4092) ≡ true = le-leb t (w + 4092) (omega arith) in
            rw (le-ltb _ _ behind)
            (λ near. and_from _ _ (le-leb w (t + 4096) (omega arith)) second, λ far. and_left (nat_le w (t + 4096)) _ (lt-leb w (t + 4096) (omega arith)))
      ]

  pub gap_grows : (whole other : ℕ → Bool) (sizes : List ℕ) (b : Short) → ((m : ℕ) → whole m ≡ true → other m ≡ true) → IsShort sizes b →
      gap (starts_where whole sizes) b ≤ gap (starts_where other sizes) b
  gap_grows whole other sizes b more is =
      let at_in = is.at_is in
      let target_in = is.target_is in
      elim (cases_lt b.at b.target) [
        | inl ahead ↦
            let h = between whole other sizes b.at b.target more (omega arith) (omega arith) in
            rw (lt-ltb _ _ ahead) (omega arith)
        | inr behind ↦
            let h = between whole other sizes b.target b.at more behind (omega arith) in
            rw (le-ltb _ _ behind) (omega arith)
      ]

  -- what becomes whole moves what stands after it away from what stands before it
  between_more : (whole other : ℕ → Bool) (sizes : List ℕ) (i j p : ℕ) → ((m : ℕ) → whole m ≡ true → other m ≡ true) →
      p < length sizes → 4 ≤ get_or sizes p 0 → whole p ≡ false → other p ≡ true → i ≤ p → p < j → j ≤ length sizes →
      start whole sizes j + start other sizes i + 4 ≤ start other sizes j + start whole sizes i
  between_more whole other sizes i j p more lt four was now low high within =
      let before = between whole other sizes i p more low (omega arith) in
      let after = between whole other sizes (p + 1) j more (omega arith) within in
      let narrow = rw was at (next whole sizes p lt) in
      let wide = rw now at (next other sizes p lt) in
      omega arith

  -- where a part between a branch and its target becomes whole, they are four bytes further apart
  pub gap_steps : (whole other : ℕ → Bool) (sizes : List ℕ) (b : Short) (p : ℕ) → ((m : ℕ) → whole m ≡ true → other m ≡ true) → IsShort sizes b →
      p < length sizes → 4 ≤ get_or sizes p 0 → whole p ≡ false → other p ≡ true → spans b p ≡ true →
      gap (starts_where whole sizes) b + 4 ≤ gap (starts_where other sizes) b
  gap_steps whole other sizes b p more is lt four was now between_them =
      let at_in = is.at_is in
      let target_in = is.target_is in
      let at : start whole sizes b.at + b.lead ≤ start whole sizes (b.at + 1) = word_before whole sizes b is in
      elim (cases_lt b.at b.target) [
        | inl ahead ↦
            let inside : (b.at < p) × (p < b.target) = elim (or_cases (nat_lt b.at p && nat_lt p b.target) (nat_le b.target p && nat_lt p b.at) between_them) [
              | inl h ↦ let parts = and_parts (nat_lt b.at p) (nat_lt p b.target) h in (ltb-true b.at p (parts.0), ltb-true p b.target (parts.1))
              | inr h ↦ let parts = and_parts (nat_le b.target p) (nat_lt p b.at) h in absurd (omega (arith, leb-true b.target p (parts.0), ltb-true p b.at (parts.1)))
            ] in
            let up = rises whole sizes (b.at + 1) b.target (omega arith) (omega arith) in
            let h = between_more whole other sizes b.at b.target p more lt four was now (omega arith) inside.1 (omega arith) in
            rw (lt-ltb _ _ ahead) (omega arith)
        | inr behind ↦
            let inside : (b.target ≤ p) × (p < b.at) = elim (or_cases (nat_lt b.at p && nat_lt p b.target) (nat_le b.target p && nat_lt p b.at) between_them) [
              | inl h ↦ let parts = and_parts (nat_lt b.at p) (nat_lt p b.target) h in absurd (omega (arith, ltb-true b.at p (parts.0), ltb-true p b.target (parts.1)))
              | inr h ↦ let parts = and_parts (nat_le b.target p) (nat_lt p b.at) h in (leb-true b.target p (parts.0), ltb-true p b.at (parts.1))
            ] in
            let up = rises whole sizes b.target b.at behind (omega arith) in
            let h = between_more whole other sizes b.target b.at p more lt four was now inside.0 inside.1 (omega arith) in
            rw (le-ltb _ _ behind) (omega arith)
      ]
