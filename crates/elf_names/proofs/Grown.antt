-- One text more: each keeps its number, and all are still told apart and found.
use Rattle.std.proofs.Common.{Less, Equal, Greater, ◌≡◌, ◌⊎◌, ℕ, ◌+◌, ◌<◌, Bool, true, false, cond, Some, None, List, [], ◌∷◌, ◌++◌, length, get_or, inl, inr, refl, sym, ap, subst, fold, ◌∙◌, arith, length-append}
use Rattle.std.specs.Cmp.{nat_cmp_is, tied_then}
use Rattle.std.specs.Cmp.Lexicographic.{slice_cmp}
use Rattle.std.specs.Ordering.{is_eq, nat_cmp, ordering_then}
use Rattle.std.specs.Map.{lookup}
use Rattle.std.specs.BTreeMap.{BTreeMap, is_at, UpdatesBy}
use Rattle.std.proofs.lemmas.Bool.{and_parts, cases_Bool, cases_lt}
use Rattle.std.proofs.lemmas.List.{get_or_append_left, get_or_push, length_push}
use Rattle.std.proofs.lemmas.List.Sums.{fold-append}
use Rattle.std.proofs.lemmas.Map.Text.{is_eq-slice_cmp}
use Rattle.std.proofs.lemmas.Slice.Eq.{bytes_eq-Decides}
use denote.Ref.{Bor}
use Rattle.elf_names.specs.Texts.{AreTexts, FitsOn, Grows, Has, IsBlock, looked_up, texts_of, with_node}
use Rattle.elf_names.proofs.Blocks.{same_block, same_tail}

-- whether two numbers with their blocks are one key
abbrev pub is_key : ℕ → List ℕ → ℕ → List ℕ → Bool
is_key t b u c = is_eq (ordering_then (nat_cmp t u) (slice_cmp nat_cmp b c))

same_number : (t u : ℕ) → is_eq (nat_cmp t u) ≡ true → t ≡ u
same_number t u e = elim (cases_lt t u) [
  | inl less ↦ let no : false ≡ true = ap is_eq (nat_cmp_is t u Less less) ∙ e in absurd (cc)
  | inr most ↦ elim (cases_lt u t) [
    | inl less ↦ let no : false ≡ true = ap is_eq (nat_cmp_is t u Greater less) ∙ e in absurd (cc)
    | inr least ↦ omega arith
  ]
]

key_parts : (t : ℕ) (b : List ℕ) (u : ℕ) (c : List ℕ) → is_key t b u c ≡ true → (t ≡ u) × (b ≡ c)
key_parts t b u c e =
    let parts = and_parts (is_eq (nat_cmp t u)) (is_eq (slice_cmp nat_cmp b c)) (tied_then (nat_cmp t u) (slice_cmp nat_cmp b c) ∙ e) in
    (same_number t u parts.0, (bytes_eq-Decides b c).0 (sym (is_eq-slice_cmp b c) ∙ parts.1))

key_itself : (t : ℕ) (b : List ℕ) → is_key t b t b ≡ true
key_itself t b =
    let here : is_eq (nat_cmp t t) ≡ true = ap is_eq (sym (nat_cmp_is t t Equal refl)) in
    let same : is_eq (slice_cmp nat_cmp b b) ≡ true = is_eq-slice_cmp b b ∙ (bytes_eq-Decides b b).1 refl in
    sym (tied_then (nat_cmp t t) (slice_cmp nat_cmp b b)) ∙ rw (here, same) refl

pub has_old : (texts : List (List ℕ)) (y : List ℕ) → Grows texts (texts ++ y ∷ [])
has_old texts y n text has =
    let size : length (texts ++ y ∷ []) ≡ length texts + 1 = length_push texts y in
    let below : n < length (texts ++ y ∷ []) = omega (arith, has.0, size) in
    (below, get_or_append_left texts (y ∷ []) [] n has.0 ∙ has.1)

pub has_new : (texts : List (List ℕ)) (y : List ℕ) → Has (texts ++ y ∷ []) (length texts) y
has_new texts y =
    let size : length (texts ++ y ∷ []) ≡ length texts + 1 = length_push texts y in
    let below : length texts < length (texts ++ y ∷ []) = omega (arith, size) in
    (below, get_or_push texts y [] (length texts) refl)

has_cases : (texts : List (List ℕ)) (y : List ℕ) (n : ℕ) (text : List ℕ) → Has (texts ++ y ∷ []) n text
    → Has texts n text ⊎ ((n ≡ length texts) × (y ≡ text))
has_cases texts y n text has = elim (cases_lt n (length texts)) [
  | inl less ↦ inl (less, sym (get_or_append_left texts (y ∷ []) [] n less) ∙ has.1)
  | inr most ↦
      let size : length (texts ++ y ∷ []) ≡ length texts + 1 = length_push texts y in
      let last : length texts ≡ n = omega (arith, has.0, size, most) in
      inr (sym last, sym (get_or_push texts y [] n last) ∙ has.1)
]

abbrev pub Index : Type 0
Index = BTreeMap (ℕ × Bor (List ℕ)) ℕ

-- what is found once one more is there
abbrev pub IsNoted : Index → Index → ℕ → List ℕ → ℕ → Type 0
IsNoted old new tail block n = (t : ℕ) (b : List ℕ) → looked_up t b new ≡ cond (is_key tail block t b) (Some n) (looked_up t b old)

pub updated : (old new : Index) (tail : ℕ) (block : Bor (List ℕ)) (n : ℕ)
    → UpdatesBy (λ x y. ordering_then (nat_cmp x.0 y.0) (slice_cmp nat_cmp x.1.now y.1.now)) (λ k. ordering_then (nat_cmp tail k.0) (slice_cmp nat_cmp block.now k.1.now)) old new (Some n)
    → IsNoted old new tail block.now n
updated old new tail block n h = λ t b. h.0 (t, record { ref_ptr = (0, 0); now = b })

module _ (texts : List (List ℕ)) (old new : Index) (tail : ℕ) (block x : List ℕ) (are : AreTexts texts old) (there : Has texts tail x)
    (fits : IsBlock block x) (missing : (i : ℕ) → Has texts i (block ++ x) → ⊥) (noted : IsNoted old new tail block (length texts)) where
  key_gives : (t : ℕ) (b : List ℕ) → is_key tail block t b ≡ true → looked_up t b new ≡ Some (length texts)
  key_gives t b e = noted t b ∙ rw e refl

  other_gives : (t : ℕ) (b : List ℕ) → is_key tail block t b ≡ false → looked_up t b new ≡ looked_up t b old
  other_gives t b e = noted t b ∙ rw e refl

  more : List (List ℕ)
  more = texts ++ (block ++ x) ∷ []

  more_apart : (m n : ℕ) (text : List ℕ) → Has more m text → Has more n text → m ≡ n
  unfolding more
  more_apart m n text p q = elim (has_cases texts (block ++ x) m text p) [
    | inl old_m ↦ elim (has_cases texts (block ++ x) n text q) [
      | inl old_n ↦ are.apart m n text old_m old_n
      | inr new_n ↦ absurd (missing m (old_m.0, old_m.1 ∙ sym new_n.1))
    ]
    | inr new_m ↦ elim (has_cases texts (block ++ x) n text q) [
      | inl old_n ↦ absurd (missing n (old_n.0, old_n.1 ∙ sym new_m.1))
      | inr new_n ↦ new_m.0 ∙ sym new_n.0
    ]
  ]

  more_found : (t : ℕ) (b : List ℕ) (n : ℕ) → looked_up t b new ≡ Some n → (text : List ℕ) × Has more t text × Has more n (b ++ text)
  unfolding more
  more_found t b n e = elim (cases_Bool (is_key tail block t b)) [
    | inl key ↦
        let parts = key_parts tail block t b key in
        let some : Some (length texts) ≡ Some n = sym (key_gives t b key) ∙ e in
        let last : length texts ≡ n = cc in
        let there_t : Has more t x = has_old texts (block ++ x) t x (subst (λ (k : ℕ). Has texts k x) parts.0 there) in
        let here : Has more n (b ++ x) = subst (λ (k : ℕ). Has more k (b ++ x)) last (subst (λ (c : List ℕ). Has more (length texts) (c ++ x)) parts.1 (has_new texts (block ++ x))) in
        (x, there_t, here)
    | inr other ↦
        let found = are.found t b n (sym (other_gives t b other) ∙ e) in
        (found.0, has_old texts (block ++ x) t found.0 found.1, has_old texts (block ++ x) n (b ++ found.0) found.2)
  ]

  more_closed : (n : ℕ) (b text : List ℕ) → IsBlock b text → Has more n (b ++ text)
      → (t : ℕ) × Has more t text × (looked_up t b new ≡ Some n)
  unfolding more
  more_closed n b text is has = elim (has_cases texts (block ++ x) n (b ++ text) has) [
    | inl before ↦
        let closed = are.closed n b text is before in
        elim (cases_Bool (is_key tail block closed.0 b)) [
          | inl key ↦
              let parts = key_parts tail block closed.0 b key in
              let same_text : x ≡ text = sym there.1 ∙ ap (λ (k : ℕ). get_or texts k []) parts.0 ∙ closed.1.1 in
              let whole : b ++ text ≡ block ++ x = ap (λ (c : List ℕ). c ++ text) (sym parts.1) ∙ ap (λ (c : List ℕ). block ++ c) (sym same_text) in
              absurd (missing n (before.0, before.1 ∙ whole))
          | inr other ↦ (closed.0, has_old texts (block ++ x) closed.0 text closed.1, other_gives closed.0 b other ∙ closed.2)
        ]
    | inr last ↦
        let same_b : block ≡ b = same_block block x b text fits is last.1 in
        let same_t : x ≡ text = same_tail block x b text fits is last.1 in
        let key : is_key tail block tail b ≡ true = subst (λ (c : List ℕ). is_key tail block tail c ≡ true) same_b (key_itself tail block) in
        let there_t : Has more tail text = has_old texts (block ++ x) tail text (subst (λ (c : List ℕ). Has texts tail c) same_t there) in
        (tail, there_t, key_gives tail b key ∙ ap (λ (k : ℕ). Some k) (sym last.0))
  ]

  pub are_more : AreTexts (texts ++ (block ++ x) ∷ []) new
  unfolding more
  are_more = record {
    empty = has_old texts (block ++ x) 0 [] are.empty;
    apart = more_apart;
    found = more_found;
    closed = more_closed;
  }

length_fold : (texts : List (List ℕ)) (nodes : List (ℕ × Bor (List ℕ))) → length (fold with_node texts nodes) ≡ length texts + length nodes
length_fold texts [] = omega arith
length_fold texts (n ∷ ns) =
    let rest : length (fold with_node (with_node texts n) ns) ≡ length (with_node texts n) + length ns = length_fold (with_node texts n) ns in
    let one : length (with_node texts n) ≡ length texts + 1 = length_push texts (n.1.now ++ get_or texts n.0 []) in
    omega (arith, rest, one)

pub length_texts : (nodes : List (ℕ × Bor (List ℕ))) → length (texts_of nodes) ≡ length nodes + 1
unfolding texts_of
length_texts nodes = length_fold ([] ∷ []) nodes ∙ omega arith

pub texts_pushed : (nodes new : List (ℕ × Bor (List ℕ))) (tail : ℕ) (block : Bor (List ℕ)) (x : List ℕ) → Has (texts_of nodes) tail x
    → new ≡ nodes ++ (tail, block) ∷ [] → texts_of new ≡ texts_of nodes ++ (block.now ++ x) ∷ []
unfolding texts_of
texts_pushed nodes new tail block x there e =
    ap (λ (ns : List (ℕ × Bor (List ℕ))). fold with_node ([] ∷ []) ns) e
    ∙ fold-append with_node ([] ∷ []) nodes ((tail, block) ∷ [])
    ∙ ap (λ (text : List ℕ). fold with_node ([] ∷ []) nodes ++ (block.now ++ text) ∷ []) there.1

-- an index with other entries, which are the same
pub are_unchanged : (texts : List (List ℕ)) (old new : Index) → new.entries ≡ old.entries → AreTexts texts old → AreTexts texts new
are_unchanged texts old new same are = record {
  empty = are.empty;
  apart = are.apart;
  found = λ tail block n e. are.found tail block n (finds tail block ∙ e);
  closed = λ n block text is has.
      let closed = are.closed n block text is has in
      (closed.0, closed.1, sym (finds closed.0 block) ∙ closed.2);
} where
  finds : (tail : ℕ) (block : List ℕ) → looked_up tail block old ≡ looked_up tail block new
  finds tail block =
      ap (λ (es : List ((ℕ × Bor (List ℕ)) × ℕ)). lookup (is_at (λ (k : ℕ × Bor (List ℕ)). ordering_then (nat_cmp tail k.0) (slice_cmp nat_cmp block k.1.now))) es) (sym same)

-- the empty text alone
pub begun : (texts : List (List ℕ)) (index : Index) → texts ≡ [] ∷ [] → index.entries ≡ [] → AreTexts texts index
begun texts index one none = record {
  empty = subst (λ (ts : List (List ℕ)). Has ts 0 []) (sym one) (omega arith, refl);
  apart = λ m n text p q. zero_of m p.0 ∙ sym (zero_of n q.0);
  found = λ tail block n e. let no : None ≡ Some n = sym (finds tail block) ∙ e in absurd (cc);
  closed = λ n block text is has. absurd (nothing n block text is has);
} where
  zero_of : (n : ℕ) → n < length texts → n ≡ 0
  zero_of n below = let size : length texts ≡ 1 = ap length one in omega (arith, below, size)

  finds : (tail : ℕ) (block : List ℕ) → looked_up tail block index ≡ None
  finds tail block =
      ap (λ (es : List ((ℕ × Bor (List ℕ)) × ℕ)). lookup (is_at (λ (k : ℕ × Bor (List ℕ)). ordering_then (nat_cmp tail k.0) (slice_cmp nat_cmp block k.1.now))) es) none

  nothing : (n : ℕ) (block text : List ℕ) → IsBlock block text → Has texts n (block ++ text) → ⊥
  nothing n block text is has =
      let empty : [] ≡ block ++ text =
      sym (ap (λ (ts : List (List ℕ)). get_or ts 0 []) one) ∙ ap (λ (k : ℕ). get_or texts k []) (sym (zero_of n has.0)) ∙ has.1 in
      let size : 0 ≡ length block + length text = ap length empty ∙ length-append block text in
      omega (arith, size, is.some)

-- what the index does not find is no text
pub missing : (texts : List (List ℕ)) (index : Index) (tail : ℕ) (block : List ℕ) → AreTexts texts index → FitsOn texts tail block
    → looked_up tail block index ≡ None → (i : ℕ) (x : List ℕ) → Has texts tail x → Has texts i (block ++ x) → ⊥
missing texts index tail block are fits none i x there has =
    let same : fits.0 ≡ x = sym fits.1.1 ∙ there.1 in
    let is : IsBlock block x = subst (λ (y : List ℕ). IsBlock block y) same fits.2 in
    let closed = are.closed i block x is has in
    let at : closed.0 ≡ tail = are.apart closed.0 tail x closed.1 there in
    let no : None ≡ Some i = sym none ∙ ap (λ (t : ℕ). looked_up t block index) (sym at) ∙ closed.2 in
    absurd (cc)
