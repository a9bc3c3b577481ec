-- A unit that is being read, and one word more.
use Rattle.std.proofs.Common.{◌≡◌, ℕ, zero, suc, ◌+◌, ◌*◌, ◌^◌, ◌<◌, ◌≤◌, true, false, inl, inr, List, [], ◌∷◌, ◌++◌, length, take, drop, refl, ap, sym, subst, ◌∙◌, arith, append_assoc, append-nil, length-append}
use Rattle.std.specs.Prelude.{Option, Some, None}
use Rattle.std.proofs.lemmas.Bool.{and_parts, cases_lt}
use Rattle.std.proofs.lemmas.List.Elements.{All-cons, All-nil}
use Rattle.std.proofs.Math.Seq.{take-append_seam, drop-append_seam}
use Rattle.cfi_unit.specs.declared.pattern.Pattern.{Pattern}
use Rattle.cfi_unit.specs.declared.pattern.End.{End}
use Rattle.cfi_unit.specs.declared.unit.Unit as U
use Rattle.cfi_unit.specs.UnitWords.{Begins, Fits, may_precede, word_count, words_of}
use Rattle.cfi_unit.specs.Recognise.{recognised}
use Rattle.cfi_unit.specs.Laws.{AreWords}
use Rattle.cfi_unit.specs.Patterns.{matches}
use Rattle.cfi_unit.specs.Shapes.{Shape, shape}
use Rattle.cfi_unit.specs.ShapeOf.{shape_of}
use Rattle.cfi_unit.specs.Opens.{Among, Opens, Small}
use Rattle.cfi_reader.specs.Left.{Reads, Tries, goes_on, lets, none_ended}
use Rattle.cfi_reader.specs.Reading.{AtLeast, NeverBegins}
use Rattle.cfi_reader.proofs.Ahead.{goes_on_with}
use Rattle.cfi_reader.proofs.Steps.{first_words, lets_ended}
use Rattle.cfi_unit.proofs.Found.{words_counted}
use Rattle.cfi_unit.proofs.ShapedUnits.{shape_among, unit_opens}
use Rattle.cfi_unit.proofs.Told.{recognised_begins}

-- words that begin a unit which has them all
take_past : (n : ℕ) (xs ys : List ℕ) → length xs ≤ n → (zs : List ℕ) × (take n (xs ++ ys) ≡ xs ++ zs)
take_past n [] ys low = (take n ys, refl)
take_past zero (x ∷ xs) ys low = absurd (omega arith)
take_past (suc n) (x ∷ xs) ys low =
    let (zs, e) = take_past n xs ys (omega arith) in
    (zs, ap (λ (l : List ℕ). x ∷ l) e)

pub begun_opens : (u : U.Unit) (at : ℕ) (held rest : List ℕ) → Begins (held ++ rest) at u → length held ≤ word_count u →
    (left : List Pattern) × Opens (shape_of u at).words held at left
begun_opens u at held rest b low =
    let (zs, e) = take_past (word_count u) held rest low in
    let words : words_of u at ≡ held ++ zs = sym b.words_are ∙ e in
    let (m, (x, y)) = first_words (shape_of u at).words held zs at [] (subst (λ (ws : List ℕ). Opens (shape_of u at).words ws at []) words (unit_opens u at b.fits)) in
    (m, x)

-- and no more
whole_is : (u : U.Unit) (at : ℕ) (held rest : List ℕ) → Begins (held ++ rest) at u → length held ≡ word_count u → words_of u at ≡ held
whole_is u at held rest b same =
    sym b.words_are ∙ ap (λ (n : ℕ). take n (held ++ rest)) (sym same) ∙ take-append_seam held rest

whole_precedes : (u : U.Unit) (at : ℕ) (held rest : List ℕ) → Begins (held ++ rest) at u → length held ≡ word_count u → may_precede u at rest ≡ true
whole_precedes u at held rest b same =
    ap (may_precede u at) (sym (ap (λ (n : ℕ). drop n (held ++ rest)) (sym same) ∙ drop-append_seam held rest)) ∙ b.ahead

pub whole_opens : (u : U.Unit) (at : ℕ) (ws : List ℕ) → Fits u at → words_of u at ≡ ws → Opens (shape_of u at).words ws at []
whole_opens u at ws f e = subst (λ (l : List ℕ). Opens (shape_of u at).words l at []) e (unit_opens u at f)

-- each unit that begins with the words has the next one too
pub least_on : (p : Pattern) (rs : List Shape) (held : List ℕ) (word at : ℕ) → Tries rs held word at → lets p rs ≡ true →
    matches p word (at + 4 * length held) ≡ true → AtLeast held at → AtLeast (held ++ word ∷ []) at
least_on p rs held word at t let_on fits least rest u b =
    let b' : Begins (held ++ (word ∷ rest)) at u = subst (λ (ws : List ℕ). Begins ws at u) (append_assoc held (word ∷ []) rest) b in
    let low : length held ≤ word_count u = least (word ∷ rest) u b' in
    let longer : length (held ++ word ∷ []) ≡ length held + 1 = length-append held (word ∷ []) in
    elim (cases_lt (length held) (word_count u)) [
      | inl more ↦ omega arith
      | inr all ↦
          let same : length held ≡ word_count u = omega arith in
          let ended : Among (shape ((shape_of u at).end) []) rs =
          t.ended (shape_of u at) (shape_among u at b'.fits) (whole_opens u at held b'.fits (whole_is u at held (word ∷ rest) b' same)) in
          let no : may_precede u at (word ∷ rest) ≡ false =
          goes_on_with u at (at + 4 * length held) word rest p b'.fits (lets_ended p rs ((shape_of u at).end) let_on ended) fits in
          let f : true ≡ false = sym (whole_precedes u at held (word ∷ rest) b' same) ∙ no in
          absurd (cc)
    ]

pub least_none : (held : List ℕ) (word at : ℕ) → Tries [] held word at → AtLeast held at → AtLeast (held ++ word ∷ []) at
unfolding Among
least_none held word at t least rest u b =
    let b' : Begins (held ++ (word ∷ rest)) at u = subst (λ (ws : List ℕ). Begins ws at u) (append_assoc held (word ∷ []) rest) b in
    let low : length held ≤ word_count u = least (word ∷ rest) u b' in
    let longer : length (held ++ word ∷ []) ≡ length held + 1 = length-append held (word ∷ []) in
    elim (cases_lt (length held) (word_count u)) [
      | inl more ↦ omega arith
      | inr all ↦
          let same : length held ≡ word_count u = omega arith in
          absurd (t.ended (shape_of u at) (shape_among u at b'.fits) (whole_opens u at held b'.fits (whole_is u at held (word ∷ rest) b' same)))
    ]

-- no unit is left
pub none_begins : (held : List ℕ) (at : ℕ) → Reads [] held at → AtLeast held at → NeverBegins held at
unfolding Among
none_begins held at r least rest u b =
    let (left, opens) = begun_opens u at held rest b (least rest u b) in
    r.sound (shape_of u at) left (shape_among u at b.fits) opens

-- where no word follows, words that have not ended are no unit's
none_left : (rs : List Shape) (end : End) → none_ended rs ≡ true → Among (shape end []) rs → ⊥
unfolding Among
none_left [] end e a = a
none_left (r ∷ rs) end e (inl is) =
    let f : false ≡ true = ap (λ (s : Shape). goes_on s.words) is ∙ (and_parts (goes_on r.words) (none_ended rs) e).0 in
    cc
none_left (r ∷ rs) end e (inr a) = none_left rs end (and_parts (goes_on r.words) (none_ended rs) e).1 a

length_take : (n : ℕ) (xs : List ℕ) → length (take n xs) ≤ length xs
length_take zero xs = omega arith
length_take (suc n) [] = omega arith
length_take (suc n) (x ∷ xs) = let low = length_take n xs in omega arith

small_each : (ws : List ℕ) → Small ws → AreWords ws
small_each [] small = All-nil (λ (w : ℕ). w < 2 ^ 32)
small_each (w ∷ ws) small = All-cons (λ (v : ℕ). v < 2 ^ 32) w ws small.0 (small_each ws small.1)

none_of : (rs : List Shape) (held : List ℕ) (at : ℕ) → Reads rs held at → AtLeast held at → Small held → none_ended rs ≡ true →
    (o : Option U.Unit) → recognised held at ≡ o → recognised held at ≡ None
none_of rs held at r least small none None e = e
none_of rs held at r least small none (Some u) e =
    let b : Begins held at u = recognised_begins held at u (small_each held small) e in
    let b' : Begins (held ++ []) at u = subst (λ (ws : List ℕ). Begins ws at u) (sym (append-nil held)) b in
    let low : length held ≤ word_count u = least [] u b' in
    let taken : length (take (word_count u) held) ≡ word_count u = ap (λ (ws : List ℕ). length ws) b.words_are ∙ words_counted u at in
    let few : length (take (word_count u) held) ≤ length held = length_take (word_count u) held in
    let same : length held ≡ word_count u = omega arith in
    let whole : words_of u at ≡ held = whole_is u at held [] b' same in
    absurd (none_left rs ((shape_of u at).end) none (r.sound (shape_of u at) [] (shape_among u at b.fits) (whole_opens u at held b.fits whole)))

pub none_recognised : (rs : List Shape) (held : List ℕ) (at : ℕ) → Reads rs held at → AtLeast held at → Small held → none_ended rs ≡ true →
    recognised held at ≡ None
none_recognised rs held at r least small none = none_of rs held at r least small none (recognised held at) refl
