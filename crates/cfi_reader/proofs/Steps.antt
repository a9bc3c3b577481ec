-- One word more: what is left of each shape that has begun, where the word is as a pattern says, and where it is not.
use Rattle.std.proofs.Common.{◌≡◌, ℕ, ◌+◌, ◌*◌, ◌==◌, ◌||◌, Bool, true, false, not, inl, inr, List, [], ◌∷◌, ◌++◌, length, refl, ap, sym, subst, ◌∙◌, arith}
use Rattle.std.proofs.lemmas.Bool.{and_parts, cases_Bool, eqb-true, eq-eqb}
use Rattle.cfi_unit.specs.declared.pattern.Pattern.{Pattern}
use Rattle.cfi_unit.specs.declared.pattern.Pattern.TheVariants as P
use Rattle.cfi_unit.specs.declared.pattern.End.{End}
use Rattle.cfi_unit.specs.Patterns.{matches}
use Rattle.cfi_unit.specs.Shapes.{Shape, shape}
use Rattle.cfi_unit.specs.Opens.{Among, Opens}
use Rattle.cfi_unit.specs.FoundShape.{continues}
use Rattle.cfi_reader.specs.Left.{Reads, Tries, after, are_apart, go_else, go_on, is_told, lets, lets_one, same, tells, without}

-- what the tests of patterns say
pub same_is : (p q : Pattern) → same p q ≡ true → p ≡ q
same_is (P.Is a) (P.Is b) e = ap P.Is (eqb-true a b e)
same_is (P.Halt a) (P.Halt b) e = ap P.Halt (eqb-true a b e)
same_is P.Gate P.Gate e = refl
same_is P.Plain P.Plain e = refl
same_is P.Skip P.Skip e = refl
same_is P.Near P.Near e = refl
same_is P.Goto P.Goto e = refl
same_is P.Address P.Address e = refl
same_is P.Number P.Number e = refl
same_is P.Jump P.Jump e = refl
same_is P.Link P.Link e = refl
same_is P.Label P.Label e = refl
same_is P.Member P.Member e = refl
same_is P.Masked P.Masked e = refl
same_is p q e = absurd (cc)

-- two words that a word is
both_words : (a b word : ℕ) → (word == a) ≡ true → (word == b) ≡ true → not (a == b) ≡ true → ⊥
both_words a b word x y apart =
    let e : a ≡ b = sym (eqb-true word a x) ∙ eqb-true word b y in
    let t : (a == b) ≡ true = eq-eqb a b e in
    let f : false ≡ true = sym (ap not t) ∙ apart in
    cc

never_both : (p q : Pattern) (word here : ℕ) → matches p word here ≡ true → matches q word here ≡ true → are_apart p q ≡ true → ⊥
never_both (P.Is a) (P.Is b) word here x y apart = both_words a b word x y apart
never_both p q word here x y apart = absurd (cc)

told_same : (a b : Bool) → (a || b) ≡ true → (b ≡ true → ⊥) → a ≡ true
told_same true b e no_b = refl
told_same false b e no_b = absurd (no_b e)

-- of words that a shape opens with, the last, and the others
pub record Last (ps : List Pattern) (held : List ℕ) (word at : ℕ) (left : List Pattern) : Type 0 where
  pub by : Pattern
  pub opens : Opens ps held at (by ∷ left)
  pub fits : matches by word (at + 4 * length held) ≡ true

pub last_word : (ps : List Pattern) (held : List ℕ) (word at : ℕ) (left : List Pattern) → Opens ps (held ++ word ∷ []) at left → Last ps held word at left
unfolding Opens
last_word [] [] word at left o = absurd o
last_word (p ∷ ps) [] word at left o =
    let here : at + 4 * length {A = ℕ} [] ≡ at = omega arith in
    record { by = p; opens = ap (λ (qs : List Pattern). p ∷ qs) o.1; fits = ap (matches p word) here ∙ o.0 }
last_word [] (w ∷ held) word at left o = absurd o
last_word (p ∷ ps) (w ∷ held) word at left o =
    let l : Last ps held word (at + 4) left = last_word ps held word (at + 4) left o.1 in
    let here : at + 4 * length (w ∷ held) ≡ at + 4 + 4 * length held = omega arith in
    record { by = l.by; opens = (o.0, l.opens); fits = ap (matches l.by word) here ∙ l.fits }

pub with_word : (ps : List Pattern) (held : List ℕ) (word at : ℕ) (q : Pattern) (left : List Pattern) → Opens ps held at (q ∷ left) →
    matches q word (at + 4 * length held) ≡ true → Opens ps (held ++ word ∷ []) at left
unfolding Opens
with_word ps [] word at q left o fits =
    let here : at ≡ at + 4 * length {A = ℕ} [] = omega arith in
    subst (λ (qs : List Pattern). Opens qs (word ∷ []) at left) (sym o) (ap (matches q word) here ∙ fits, refl)
with_word [] (w ∷ held) word at q left o fits = absurd o
with_word (p ∷ ps) (w ∷ held) word at q left o fits =
    let here : at + 4 + 4 * length held ≡ at + 4 * length (w ∷ held) = omega arith in
    (o.0, with_word ps held word (at + 4) q left o.1 (ap (matches q word) here ∙ fits))

-- what is left after words, and before the last of them
pub first_words : (ps : List Pattern) (a b : List ℕ) (at : ℕ) (left : List Pattern) → Opens ps (a ++ b) at left →
    (m : List Pattern) × (Opens ps a at m × Opens m b (at + 4 * length a) left)
unfolding Opens
first_words ps [] b at left o =
    let here : at ≡ at + 4 * length {A = ℕ} [] = omega arith in
    (ps, (refl, subst (λ (k : ℕ). Opens ps b k left) here o))
first_words [] (w ∷ a) b at left o = absurd o
first_words (p ∷ ps) (w ∷ a) b at left o =
    let (m, (x, y)) = first_words ps a b (at + 4) left o.1 in
    let here : at + 4 + 4 * length a ≡ at + 4 * length (w ∷ a) = omega arith in
    (m, ((o.0, x), subst (λ (k : ℕ). Opens m b k left) here y))

-- more patterns behind
pub opens_more : (ps : List Pattern) (ws : List ℕ) (at : ℕ) (left more : List Pattern) → Opens ps ws at left → Opens (ps ++ more) ws at (left ++ more)
unfolding Opens
opens_more ps [] at left more o = ap (λ (qs : List Pattern). qs ++ more) o
opens_more [] (w ∷ ws) at left more o = absurd o
opens_more (p ∷ ps) (w ∷ ws) at left more o = (o.0, opens_more ps ws (at + 4) left more o.1)

module _ (p : Pattern) where
  -- after a word that is so
  stays_on : (x : Shape) (end : End) (words : List Pattern) (rest : List Shape) → Among x rest → Among x (go_on p end words rest)
  unfolding Among
  stays_on x end [] rest a = a
  stays_on x end (q ∷ left) rest a = elim (cases_Bool (same p q)) [ inl e ↦ rw e (inr a) | inr e ↦ rw e a ]

  pub after_has : (rs : List Shape) (end : End) (q : Pattern) (left : List Pattern) (word here : ℕ) → Among (shape end (q ∷ left)) rs →
      tells p rs ≡ true → matches p word here ≡ true → matches q word here ≡ true → (p ≡ q) × Among (shape end left) (after p rs)
  unfolding Among
  after_has [] end q left word here a t x y = absurd a
  after_has (r ∷ rs) end q left word here (inl e) t x y =
      let told : is_told p (q ∷ left) ≡ true = ap (λ (s : Shape). is_told p s.words) e ∙ (and_parts (is_told p r.words) (tells p rs) t).0 in
      let one : same p q ≡ true = told_same (same p q) (are_apart p q) told (never_both p q word here x y) in
      let first : Among (shape end left) (go_on p end (q ∷ left) (after p rs)) = rw one (inl refl) in
      (same_is p q one, subst (λ (s : Shape). Among (shape end left) (go_on p s.end s.words (after p rs))) e first)
  after_has (r ∷ rs) end q left word here (inr a) t x y =
      let h = after_has rs end q left word here a (and_parts (is_told p r.words) (tells p rs) t).1 x y in
      (h.0, stays_on (shape end left) r.end r.words (after p rs) h.1)

  -- each of these comes of one
  abbrev From : Shape → List Shape → Type 0
  From x rs = (q : Pattern) × ((p ≡ q) × Among (shape x.end (q ∷ x.words)) rs)

  on_from : (x : Shape) (end : End) (words : List Pattern) (rest rs : List Shape) → Among x (go_on p end words rest) → (Among x rest → From x rs) →
      From x (shape end words ∷ rs)
  unfolding Among
  on_from x end [] rest rs a f = let g : From x rs = f a in (g.0, (g.1.0, inr g.1.1))
  on_from x end (q ∷ left) rest rs a f =
      elim (cases_Bool (same p q)) [
        | inl e ↦
            elim (rw e at a) [
              | inl is ↦ (q, (same_is p q e, inl (ap (λ (s : Shape). shape s.end (q ∷ s.words)) is)))
              | inr b ↦ let g : From x rs = f b in (g.0, (g.1.0, inr g.1.1))
            ]
        | inr e ↦ let g : From x rs = f (rw e at a) in (g.0, (g.1.0, inr g.1.1))
      ]

  after_from : (x : Shape) (rs : List Shape) → Among x (after p rs) → From x rs
  unfolding Among
  after_from x [] a = absurd a
  after_from x (r ∷ rs) a = on_from x r.end r.words (after p rs) rs a (after_from x rs)

  -- after a word that is not so
  stays_else : (x : Shape) (end : End) (words : List Pattern) (rest : List Shape) → Among x rest → Among x (go_else p end words rest)
  unfolding Among
  stays_else x end [] rest a = inr a
  stays_else x end (q ∷ left) rest a = elim (cases_Bool (same p q)) [ inl e ↦ rw e a | inr e ↦ rw e (inr a) ]

  without_has : (rs : List Shape) (end : End) (q : Pattern) (left : List Pattern) → Among (shape end (q ∷ left)) rs → same p q ≡ false →
      Among (shape end (q ∷ left)) (without p rs)
  unfolding Among
  without_has [] end q left a e = absurd a
  without_has (r ∷ rs) end q left (inl is) e =
      let first : Among (shape end (q ∷ left)) (go_else p end (q ∷ left) (without p rs)) = rw e (inl refl) in
      subst (λ (s : Shape). Among (shape end (q ∷ left)) (go_else p s.end s.words (without p rs))) is first
  without_has (r ∷ rs) end q left (inr a) e = stays_else (shape end (q ∷ left)) r.end r.words (without p rs) (without_has rs end q left a e)

  without_ended : (rs : List Shape) (end : End) → Among (shape end []) rs → Among (shape end []) (without p rs)
  unfolding Among
  without_ended [] end a = absurd a
  without_ended (r ∷ rs) end (inl is) =
      subst (λ (s : Shape). Among (shape end []) (go_else p s.end s.words (without p rs))) is (inl refl)
  without_ended (r ∷ rs) end (inr a) = stays_else (shape end []) r.end r.words (without p rs) (without_ended rs end a)

  else_from : (x : Shape) (end : End) (words : List Pattern) (rest rs : List Shape) → Among x (go_else p end words rest) → (Among x rest → Among x rs) →
      Among x (shape end words ∷ rs)
  unfolding Among
  else_from x end [] rest rs a f = elim a [ inl e ↦ inl e | inr b ↦ inr (f b) ]
  else_from x end (q ∷ left) rest rs a f =
      elim (cases_Bool (same p q)) [
        | inl e ↦ inr (f (rw e at a))
        | inr e ↦ elim (rw e at a) [ inl is ↦ inl is | inr b ↦ inr (f b) ]
      ]

  pub without_from : (x : Shape) (rs : List Shape) → Among x (without p rs) → Among x rs
  unfolding Among
  without_from x [] a = absurd a
  without_from x (r ∷ rs) a = else_from x r.end r.words (without p rs) rs a (without_from x rs)

-- the law of a step
pub taken : (p : Pattern) (rs : List Shape) (held : List ℕ) (word at : ℕ) → Tries rs held word at → tells p rs ≡ true →
    matches p word (at + 4 * length held) ≡ true → Reads (after p rs) (held ++ word ∷ []) at
taken p rs held word at t told fits = record {
  sound = λ s left among opens.
      let l : Last s.words held word at left = last_word s.words held word at left opens in
      (after_has p rs s.end l.by left word (at + 4 * length held) (t.sound s l.by left among l.opens l.fits) told fits l.fits).1;
  made = λ r a.
      let f = after_from p r rs a in
      let m = t.made (shape r.end (f.0 ∷ r.words)) f.1.1 in
      (m.0, (m.1.0, m.1.1, with_word m.0.words held word at f.0 r.words m.1.2 (subst (λ (q : Pattern). matches q word (at + 4 * length held) ≡ true) f.1.0 fits)));
}

pub passed : (p : Pattern) (rs : List Shape) (held : List ℕ) (word at : ℕ) → Tries rs held word at →
    matches p word (at + 4 * length held) ≡ false → Tries (without p rs) held word at
passed p rs held word at t fails = record {
  sound = λ s q left among opens fits.
      elim (cases_Bool (same p q)) [
        | inl e ↦
            let one : p ≡ q = same_is p q e in
            let f : true ≡ false = sym fits ∙ ap (λ (r : Pattern). matches r word (at + 4 * length held)) (sym one) ∙ fails in
            absurd (cc)
        | inr e ↦ without_has p rs s.end q left (t.sound s q left among opens fits) e
      ];
  ended = λ s among opens. without_ended p rs s.end (t.ended s among opens);
  made = λ r a. t.made r (without_from p r rs a);
}

pub to_try : (rs : List Shape) (held : List ℕ) (word at : ℕ) → Reads rs held at → Tries rs held word at
to_try rs held word at r = record {
  sound = λ s q left among opens fits. r.sound s (q ∷ left) among opens;
  ended = λ s among opens. r.sound s [] among opens;
  made = r.made;
}

-- what has ended goes on so
pub lets_ended : (p : Pattern) (rs : List Shape) (end : End) → lets p rs ≡ true → Among (shape end []) rs → continues end p ≡ true
unfolding Among
lets_ended p [] end l a = absurd a
lets_ended p (r ∷ rs) end l (inl e) =
    ap (λ (s : Shape). lets_one p s.end s.words) e ∙ (and_parts (lets_one p r.end r.words) (lets p rs) l).0
lets_ended p (r ∷ rs) end l (inr a) = lets_ended p rs end (and_parts (lets_one p r.end r.words) (lets p rs) l).1 a
