-- What the test of a row says.
use Rattle.std.proofs.Common.{◌≡◌, ℕ, ◌<◌, ◌&&◌, true, List, [], ◌∷◌, refl, ap, ap₂, sym, subst, arith}
use Rattle.std.proofs.lemmas.Bool.{and_parts, le-ltb}
use Rattle.cfi_unit.specs.declared.pattern.Pattern.{Pattern}
use Rattle.cfi_unit.specs.declared.pattern.Pattern.TheVariants as P
use Rattle.cfi_unit.specs.declared.pattern.End.{End}
use Rattle.cfi_unit.specs.declared.pattern.End.TheVariants as D
use Rattle.cfi_unit.specs.declared.mask.Mask.{Mask}
use Rattle.cfi_unit.specs.declared.mask.Mask.TheVariants.{Shifts, Short, Long}
use Rattle.cfi_unit.specs.declared.target_word.TargetWord.{TargetWord}
use Rattle.cfi_unit.specs.declared.target_word.TargetWord.TheVariants.{First, Second, Third}
use Rattle.cfi_unit.specs.Shapes.{Shape, shape}
use Rattle.cfi_reader.specs.Left.{after, lets, same, tells, without}
use Rattle.cfi_reader.specs.Nodes.{Row, else_to, goes_to, is_later, is_row_of, rest_of, same_end, same_mask, same_shapes, same_word, same_words, says_of}
use Rattle.cfi_reader.specs.declared.node.Else.TheVariants as L
use Rattle.cfi_reader.specs.declared.node.Next.TheVariants as N
use Rattle.cfi_reader.proofs.Steps.{same_is}

-- the row of a number that is no node's
beyond : (node : ℕ) → 128 < node → rest_of node ≡ []
beyond node high =
    rw (
      le-ltb node 2 (omega arith),
      le-ltb node 3 (omega arith),
      le-ltb node 11 (omega arith),
      le-ltb node 12 (omega arith),
      le-ltb node 13 (omega arith),
      le-ltb node 29 (omega arith),
      le-ltb node 31 (omega arith),
      le-ltb node 46 (omega arith),
      le-ltb node 49 (omega arith),
      le-ltb node 53 (omega arith),
      le-ltb node 59 (omega arith),
      le-ltb node 60 (omega arith),
      le-ltb node 65 (omega arith),
      le-ltb node 66 (omega arith),
      le-ltb node 71 (omega arith),
      le-ltb node 78 (omega arith),
      le-ltb node 82 (omega arith),
      le-ltb node 84 (omega arith),
      le-ltb node 99 (omega arith),
      le-ltb node 100 (omega arith),
      le-ltb node 115 (omega arith),
      le-ltb node 117 (omega arith),
      le-ltb node 120 (omega arith),
      le-ltb node 126 (omega arith),
      le-ltb node 128 (omega arith),
      le-ltb node 129 (omega arith),
    ) refl

pub stuck_at : (node : ℕ) → 128 < node → is_row_of node (record { pattern = P.Is 0; yes = N.More 0; no = L.Stuck }) ≡ true
stuck_at node high =
    subst (λ (rests : List Shape). says_of node rests (record { pattern = P.Is 0; yes = N.More 0; no = L.Stuck }) ≡ true) (sym (beyond node high)) refl

-- equal shapes
word_is : (a b : TargetWord) → same_word a b ≡ true → a ≡ b
word_is First First e = refl
word_is Second Second e = refl
word_is Third Third e = refl
word_is a b e = absurd (cc)

mask_is : (a b : Mask) → same_mask a b ≡ true → a ≡ b
mask_is Shifts Shifts e = refl
mask_is Short Short e = refl
mask_is Long Long e = refl
mask_is a b e = absurd (cc)

end_is : (a b : End) → same_end a b ≡ true → a ≡ b
end_is D.Near D.Near e = refl
end_is D.Over D.Over e = refl
end_is (D.Stores a) (D.Stores b) e = ap D.Stores (mask_is a b e)
end_is D.Branch D.Branch e = refl
end_is D.Jump D.Jump e = refl
end_is D.Stop D.Stop e = refl
end_is D.Call D.Call e = refl
end_is (D.Ijump a) (D.Ijump b) e = ap D.Ijump (word_is a b e)
end_is D.Icall D.Icall e = refl
end_is D.Gate D.Gate e = refl
end_is D.Ecall D.Ecall e = refl
end_is D.Guarded D.Guarded e = refl
end_is D.Plain D.Plain e = refl
end_is D.Ebreak D.Ebreak e = refl
end_is (D.Full a) (D.Full b) e = ap D.Full (mask_is a b e)
end_is D.Return D.Return e = refl
end_is D.LinkCall D.LinkCall e = refl
end_is D.Enter D.Enter e = refl
end_is D.LeanIjump D.LeanIjump e = refl
end_is D.LeanIcall D.LeanIcall e = refl
end_is D.LeafReturn D.LeafReturn e = refl
end_is a b e = absurd (cc)

words_are : (a b : List Pattern) → same_words a b ≡ true → a ≡ b
words_are [] [] e = refl
words_are (p ∷ ps) (q ∷ qs) e =
    let t = and_parts (same p q) (same_words ps qs) e in
    ap₂ (λ (x : Pattern) (xs : List Pattern). x ∷ xs) (same_is p q t.0) (words_are ps qs t.1)
words_are a b e = absurd (cc)

pub shapes_are : (a b : List Shape) → same_shapes a b ≡ true → a ≡ b
shapes_are [] [] e = refl
shapes_are (r ∷ rs) (s ∷ ss) e =
    let t = and_parts (same_end r.end s.end) (same_words r.words s.words && same_shapes rs ss) e in
    let u = and_parts (same_words r.words s.words) (same_shapes rs ss) t.1 in
    ap₂ (λ (x : Shape) (xs : List Shape). x ∷ xs) (ap₂ shape (end_is r.end s.end t.0) (words_are r.words s.words u.0)) (shapes_are rs ss u.1)
shapes_are a b e = absurd (cc)

-- the parts of the test
pub record Says (node : ℕ) (row : Row) : Type 0 where
  pub later : is_later row.pattern ≡ true
  pub told : tells row.pattern (rest_of node) ≡ true
  pub let_on : lets row.pattern (rest_of node) ≡ true
  pub goes : goes_to row.yes (after row.pattern (rest_of node)) ≡ true
  pub passes : else_to node row.no (without row.pattern (rest_of node)) ≡ true

pub says : (node : ℕ) (row : Row) → is_row_of node row ≡ true → Says node row
says node row e =
    let rests : List Shape = rest_of node in
    let a = and_parts (is_later row.pattern && (tells row.pattern rests && lets row.pattern rests))
    (goes_to row.yes (after row.pattern rests) && else_to node row.no (without row.pattern rests)) e in
    let b = and_parts (is_later row.pattern) (tells row.pattern rests && lets row.pattern rests) a.0 in
    let d = and_parts (tells row.pattern rests) (lets row.pattern rests) b.1 in
    let f = and_parts (goes_to row.yes (after row.pattern rests)) (else_to node row.no (without row.pattern rests)) a.1 in
    record { later = b.0; told = d.0; let_on = d.1; goes = f.0; passes = f.1 }
