-- Spans of places: which places some function covers both of, told by how far functions reach.
use Rattle.std.proofs.Common.{◌≡◌, ◌==◌, ℕ, zero, suc, ◌+◌, ◌<◌, ◌≤◌, Bool, true, false, ◌&&◌, ◌||◌, nat_lt, nat_le, List, [], ◌∷◌, ◌++◌, length, get_or, take, replicate, Some, inl, inr, refl, sym, ap, subst, ◌∙◌, arith, add-one}
use Rattle.std.specs.List.{list_any, slice_get}
use Rattle.std.specs.List.Sorted.{IsPartitionedBy}
use Rattle.std.proofs.Math.ListN.{get_or-append}
use Rattle.std.proofs.Math.Seq.{get_or-append_seam}
use Rattle.std.proofs.lemmas.Bool.{and_from, and_parts, cases_eq, cases_lt, eq-eqb, false_from_ne_true, le-leb, le-ltb, leb-true, lt-ltb, ltb-true, ne_eqb}
use Rattle.std.specs.Prelude.{set}
use Rattle.std.proofs.lemmas.List.{get_or-replicate, get_or-set_other, get_or_default, length-append, length-replicate, length-set, take_all, take_more_set}
use Rattle.std.proofs.lemmas.List.Folds.{list_any-append, list_any_more, list_any_none}
use Rattle.std.proofs.lemmas.Option.{get_or_from_slice_get, slice_get_within}
use Rattle.std.proofs.Math.Bool.{or-false, and-false, and_comm}
use Rattle.obj_input.specs.declared.parts.Func.{Func}
use Rattle.obj_program.specs.Program.{Program, count, item_of}
use Rattle.cfi_flow.specs.declared.span.Span.{Span}
use Rattle.cfi_flow.specs.Drawn.{no_func}
use Rattle.cfi_flow.specs.Sites.{are_in_one, covers}
use Rattle.cfi_flow.specs.Spans.{AreEnds, AreFarthest, AreSpans, IsRaised, IsReach, IsRising, IsSoFar, are_in_span, begins_past, in_span}

pub in_yes : (s : Span) (t : ℕ) → s.from ≤ t → t < s.to → in_span s t ≡ true
in_yes s t low high = and_from _ _ (le-leb s.from t low) (lt-ltb t s.to high)

pub in_parts : (s : Span) (t : ℕ) → in_span s t ≡ true → (s.from ≤ t) × (t < s.to)
in_parts s t h = let p = and_parts (nat_le s.from t) (nat_lt t s.to) h in (leb-true s.from t p.0, ltb-true t s.to p.1)

pub in_no : (s : Span) (t : ℕ) → (s.from ≤ t → t < s.to → ⊥) → in_span s t ≡ false
in_no s t away = false_from_ne_true (in_span s t) (λ h. let p = in_parts s t h in away p.0 p.1)

pub any_same : {X : Type 0} (p q : X → Bool) → ((x : X) → p x ≡ q x) → (xs : List X) → list_any p xs ≡ list_any q xs
any_same p q same [] = refl
any_same p q same (x ∷ xs) = let rest = any_same p q same xs in let here = same x in cc

or_parts_of : (a b c d : Bool) → ((a || b) || (c || d)) ≡ ((a || c) || (b || d))
or_parts_of true b c d = refl
or_parts_of false true true d = refl
or_parts_of false true false d = refl
or_parts_of false false c d = refl

any_or : {X : Type 0} (p q : X → Bool) (xs : List X) → (list_any p xs || list_any q xs) ≡ list_any (λ x. p x || q x) xs
any_or p q [] = refl
any_or p q (x ∷ xs) =
    or_parts_of (p x) (list_any p xs) (q x) (list_any q xs) ∙ ap (λ (b : Bool). (p x || q x) || b) (any_or p q xs)

-- one function more
pub spans_more : (program : Program) (j : ℕ) (f : Func) (s : Span) (old : List Span) → slice_get program.funcs j ≡ Some f
    → ((k : ℕ) → k < count program → in_span s k ≡ covers (item_of program k) f)
    → AreSpans program (take j program.funcs) old → AreSpans program (take (j + 1) program.funcs) (old ++ s ∷ [])
spans_more program j f s old there same so_far a b below_a below_b =
    let both : Func → Bool = λ g. covers (item_of program a) g && covers (item_of program b) g in
    list_any-append (λ (r : Span). in_span r a && in_span r b) old (s ∷ [])
    ∙ ap (λ (c : Bool). are_in_span old a b || c) (or-false (in_span s a && in_span s b))
    ∙ ap (λ (c : Bool). c || (in_span s a && in_span s b)) (so_far a b below_a below_b)
    ∙ ap (λ (c : Bool). list_any both (take j program.funcs) || (c && in_span s b)) (same a below_a)
    ∙ ap (λ (c : Bool). list_any both (take j program.funcs) || (covers (item_of program a) f && c)) (same b below_b)
    ∙ ap (λ (g : Func). list_any both (take j program.funcs) || both g) (sym (get_or_from_slice_get program.funcs j f no_func there))
    ∙ sym (list_any_more both program.funcs j no_func (slice_get_within program.funcs j f there))

pub ends_none : (places : ℕ) (table : List ℕ) → table ≡ replicate places 0 → AreEnds places [] table
ends_none places table is = subst (AreEnds places []) (sym is) record {
  size = length-replicate {A = ℕ} places 0;
  each = λ k t below. ap (nat_lt t) (get_or-replicate places k 0 0 below) ∙ le-ltb t 0 (omega arith);
}

pub ends_more : (places j : ℕ) (spans : List Span) (s d : Span) (old new : List ℕ) → j < length spans → get_or spans j d ≡ s → length new ≡ length old
    → ((k t : ℕ) → k < length old → nat_lt t (get_or new k 0) ≡ (nat_lt t (get_or old k 0) || begins_past k t s))
    → AreEnds places (take j spans) old → AreEnds places (take (j + 1) spans) new
ends_more places j spans s d old new inside is same each so_far = record {
  size = same ∙ so_far.size;
  each = λ k t below.
      each k t (omega (arith, so_far.size))
      ∙ ap (λ (b : Bool). b || begins_past k t s) (so_far.each k t below)
      ∙ ap (λ (r : Span). list_any (begins_past k t) (take j spans) || begins_past k t r) (sym is)
      ∙ sym (list_any_more (begins_past k t) spans j d inside);
}

-- past the greater of two numbers is past one of them
lt_greater : (t a b m : ℕ) → a ≤ m → b ≤ m → ((a < m → m ≤ b)) → nat_lt t m ≡ (nat_lt t a || nat_lt t b)
lt_greater t a b m low high one = elim (cases_lt t a) [
  | inl less ↦ rw (lt-ltb t a less, lt-ltb t m (omega arith)) refl
  | inr more ↦ rw (le-ltb t a more) (elim (cases_lt t b) [
    | inl less ↦ rw (lt-ltb t b less) (lt-ltb t m (omega arith))
    | inr also ↦ rw (le-ltb t b also) (le-ltb t m (elim (cases_lt a m) [
      | inl under ↦ let most = one under in omega arith
      | inr over ↦ omega arith
    ]))
  ])
]

pub far_more : (ends far : List ℕ) (i end next m : ℕ) → i < length ends → get_or ends i 0 ≡ next → end ≤ m → next ≤ m → ((end < m → m ≤ next))
    → IsSoFar ends i end far → IsSoFar ends (i + 1) m (far ++ m ∷ [])
far_more ends far i end next m inside is low high one so_far =
    let many : length (far ++ m ∷ []) ≡ i + 1 = length-append far (m ∷ []) ∙ ap (λ (n : ℕ). n + 1) so_far.size in
    let size = so_far.size in
    let last : (k : ℕ) → k ≡ i → get_or (far ++ m ∷ []) k 0 ≡ m =
    λ k same. ap (λ (n : ℕ). get_or (far ++ m ∷ []) n 0) (same ∙ sym so_far.size) ∙ get_or-append_seam far m [] 0 in
    let old : (k : ℕ) → k < i → get_or (far ++ m ∷ []) k 0 ≡ get_or far k 0 =
    λ k less. get_or-append far (m ∷ []) 0 k (omega arith) in
    let top : (t : ℕ) → nat_lt t m ≡ list_any (nat_lt t) (take (i + 1) ends) = λ t.
    lt_greater t end next m low high one
    ∙ ap (λ (b : Bool). b || nat_lt t next) (so_far.top t)
    ∙ ap (λ (n : ℕ). list_any (nat_lt t) (take i ends) || nat_lt t n) (sym is)
    ∙ sym (list_any_more (nat_lt t) ends i 0 inside) in
    record {
      size = many;
      each = λ k t below. elim (cases_lt k i) [
        | inl less ↦ ap (nat_lt t) (old k less) ∙ so_far.each k t less
        | inr more ↦
            let same : k ≡ i = omega arith in
            ap (nat_lt t) (last k same) ∙ top t ∙ ap (λ (n : ℕ). list_any (nat_lt t) (take (n + 1) ends)) (sym same)
      ];
      top = top;
      rising = λ a b order below. elim (cases_lt b i) [
        | inl less ↦
            let first = old a (omega arith) in
            let second = old b less in
            let was = so_far.rising a b order (omega arith) in
            omega arith
        | inr more ↦
            let same : b ≡ i = omega arith in
            let second = last b same in
            elim (cases_lt a i) [
              | inl before ↦ let first = old a before in let was = so_far.most a before in omega arith
              | inr also ↦ let first = last a (omega arith) in omega arith
            ]
      ];
      most = λ k below. elim (cases_lt k i) [
        | inl less ↦ let first = old k less in let was = so_far.most k less in omega arith
        | inr more ↦ let first = last k (omega arith) in omega arith
      ];
    }

-- the same in place
pub raised_begins : (ends : List ℕ) → IsRaised ends 0 0 ends
raised_begins ends = record {
  so_far = record {
    size = refl;
    each = λ k t below. absurd (omega arith);
    top = λ t. le-ltb t 0 (omega arith);
    rising = λ a b order below. absurd (omega arith);
    most = λ k below. absurd (omega arith);
  };
  size = refl;
  left = λ k from. refl;
}

pub raised_more : (ends now next : List ℕ) (i end own m : ℕ) → i < length now → own ≡ get_or now i 0 → IsRaised ends i end now → end ≤ m → own ≤ m
    → ((end < m → m ≤ own)) → next ≡ set now i m → IsRaised ends (i + 1) m next
raised_more ends now next i end own m inside is h low high one put =
    let size = h.size in
    let here : get_or ends i 0 ≡ own = sym (h.left i (omega arith)) ∙ sym is in
    rw put record {
      so_far = rw (take_more_set now i m inside) (far_more ends (take i now) i end own m (omega arith) here low high one h.so_far);
      size = length-set now i m ∙ size;
      left = λ k from. get_or-set_other now i k m 0 (λ same. omega arith) ∙ h.left k (omega arith);
    }

pub raised_all : (ends now : List ℕ) (n end : ℕ) → length now ≤ n → IsRaised ends n end now → AreFarthest ends now
raised_all ends now n end whole h =
    let size = h.size in
    let far : IsSoFar ends n end now = subst (IsSoFar ends n end) (take_all n now whole) h.so_far in
    let all = far.size in
    record { size = size; each = λ k t below. far.each k t (omega arith); rising = far.rising }

-- a span that begins at a place or before it
up_to : (f k : ℕ) (c : Bool) → ((nat_lt f k && c) || ((f == k) && c)) ≡ (nat_lt f (k + 1) && c)
up_to f k c = elim (cases_lt f k) [
  | inl less ↦ rw (lt-ltb f k less, lt-ltb f (k + 1) (omega arith), ne_eqb f k (λ same. omega arith)) (or-false c)
  | inr more ↦ rw (le-ltb f k more) (elim (cases_eq f k) [
    | inl same ↦ rw (eq-eqb f k same, lt-ltb f (k + 1) (omega arith)) refl
    | inr other ↦ rw (ne_eqb f k other, le-ltb f (k + 1) (omega arith)) refl
  ])
]

abbrev begins_before : ℕ → ℕ → Span → Bool
begins_before k t s = nat_lt s.from k && nat_lt t s.to

none_before : (t : ℕ) (spans : List Span) → list_any (begins_before 0 t) spans ≡ false
none_before t spans = list_any_none (begins_before 0 t) spans (λ i d inside.
    ap (λ (b : Bool). b && nat_lt t (get_or spans i d).to) (le-ltb (get_or spans i d).from 0 (omega arith)))

before : (places : ℕ) (spans : List Span) (ends : List ℕ) → AreEnds places spans ends → (t k : ℕ) → k ≤ places
    → list_any (nat_lt t) (take k ends) ≡ list_any (begins_before k t) spans
before places spans ends are t zero few = sym (none_before t spans)
before places spans ends are t (suc k) few =
    rw (← add-one)
    (list_any_more (nat_lt t) ends k 0 (omega (arith, are.size))
    ∙ ap (λ (b : Bool). b || nat_lt t (get_or ends k 0)) (before places spans ends are t k (omega arith))
    ∙ ap (λ (b : Bool). list_any (begins_before k t) spans || b) (are.each k t (omega arith))
    ∙ any_or (begins_before k t) (begins_past k t) spans
    ∙ any_same (λ (s : Span). begins_before k t s || begins_past k t s) (begins_before (k + 1) t) (λ s. up_to s.from k (nat_lt t s.to)) spans)

in_both : (s : Span) (a b : ℕ) → a ≤ b → begins_before (a + 1) b s ≡ (in_span s a && in_span s b)
in_both s a b order = elim (cases_lt s.from (a + 1)) [
  | inl less ↦ elim (cases_lt b s.to) [
    | inl inside ↦
        and_from (nat_lt s.from (a + 1)) (nat_lt b s.to) (lt-ltb s.from (a + 1) less) (lt-ltb b s.to inside)
        ∙ sym (and_from (in_span s a) (in_span s b) (in_yes s a (omega arith) (omega arith)) (in_yes s b (omega arith) inside))
    | inr past ↦
        ap (λ (c : Bool). nat_lt s.from (a + 1) && c) (le-ltb b s.to past) ∙ and-false (nat_lt s.from (a + 1))
        ∙ sym (ap (λ (c : Bool). in_span s a && c) (in_no s b (λ low high. omega arith)) ∙ and-false (in_span s a))
  ]
  | inr more ↦
      ap (λ (c : Bool). c && nat_lt b s.to) (le-ltb s.from (a + 1) more)
      ∙ sym (ap (λ (c : Bool). c && in_span s b) (in_no s a (λ low high. omega arith)))
]

-- how far functions reach tells which places some function covers both of
pub reach_is : (program : Program) (spans : List Span) (ends reach : List ℕ) → AreSpans program program.funcs spans → AreEnds (count program) spans ends
    → AreFarthest ends reach → IsReach program reach
reach_is program spans ends reach are of far = record {
  size = far.size ∙ of.size;
  rising = far.rising;
  each = λ a b order below.
      far.each a b (omega (arith, of.size))
      ∙ before (count program) spans ends of b (a + 1) (omega arith)
      ∙ any_same (begins_before (a + 1) b) (λ (s : Span). in_span s a && in_span s b) (λ s. in_both s a b order) spans
      ∙ are a b (omega arith) below;
}

in_one_swap : (program : Program) (a b : ℕ) → are_in_one program (item_of program a) (item_of program b) ≡ are_in_one program (item_of program b) (item_of program a)
in_one_swap program a b =
    any_same (λ (f : Func). covers (item_of program a) f && covers (item_of program b) f) (λ (f : Func). covers (item_of program b) f && covers (item_of program a) f)
    (λ f. and_comm (covers (item_of program a) f) (covers (item_of program b) f)) program.funcs

-- from the first place that reaches past a place, up to where that place reaches
pub spanned : (program : Program) (reach : List ℕ) (k from : ℕ) → k < length reach → ((i : ℕ) → i < from → get_or reach i 0 ≤ k)
    → ((i : ℕ) → from ≤ i → i < length reach → k < get_or reach i 0) → IsReach program reach → (t : ℕ) → t < count program
    → in_span (record { from = from; to = get_or reach k 0 }) t ≡ are_in_one program (item_of program k) (item_of program t)
spanned program reach k from inside early late is t below =
    let size = is.size in
    let span : Span = record { from = from; to = get_or reach k 0 } in
    elim (cases_lt k t) [
      | inl after ↦ elim (cases_lt t (get_or reach k 0)) [
        | inl less ↦
            let low : from ≤ t = elim (cases_lt t from) [
              | inl off ↦ let no = early k (omega arith) in absurd (omega arith)
              | inr on ↦ on
            ] in
            in_yes span t low less ∙ sym (lt-ltb t (get_or reach k 0) less) ∙ is.each k t (omega arith) below
        | inr more ↦ in_no span t (λ low high. omega arith) ∙ sym (le-ltb t (get_or reach k 0) more) ∙ is.each k t (omega arith) below
      ]
      | inr up ↦ elim (cases_lt t from) [
        | inl off ↦
            let short = early t off in
            in_no span t (λ low high. omega arith) ∙ sym (le-ltb k (get_or reach t 0) short) ∙ is.each t k up (omega arith) ∙ in_one_swap program t k
        | inr on ↦
            let long = late t on (omega arith) in
            let most = is.rising t k up inside in
            in_yes span t on (omega arith) ∙ sym (lt-ltb k (get_or reach t 0) long) ∙ is.each t k up (omega arith) ∙ in_one_swap program t k
      ]
    ]

pub parted_up_to : (xs : List ℕ) (most : ℕ) → IsRising xs → IsPartitionedBy (λ (x : ℕ). nat_le x most) xs
parted_up_to xs most rising i j d low below holds =
    let less = leb-true (get_or xs j d) most holds in
    let first = get_or_default xs i 0 d (omega arith) in
    let second = get_or_default xs j 0 d below in
    let order = rising i j low below in
    le-leb (get_or xs i d) most (omega arith)
