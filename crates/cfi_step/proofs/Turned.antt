-- A ring in which the next address takes the oldest one's place.
use Rattle.std.proofs.Common.{◌≡◌, ℕ, ◌+◌, ◌-◌, ◌%◌, ◌≤◌, ◌<◌, List, [], ◌∷◌, ◌++◌, length, drop, take, set, min, refl, sym, ap, ◌∙◌, arith, inl, inr}
use Rattle.std.proofs.lemmas.Bool.{cases_lt}
use Rattle.std.proofs.lemmas.Grind.{drop-set_at, take-set_at}
use Rattle.std.proofs.lemmas.List.{append-nil, append_assoc, drop-append-le, drop-drop, drop_all, length-append, length-drop, length-set, length-take, take_all}
use Rattle.cfi_step.specs.Trail.{IsTrailOf, turned}

-- a ring that is not yet full, or just full, begins at its front
front : (n : ℕ) (ring : List ℕ) → length ring ≡ n → n ≤ 16 → turned (n % 16) ring ≡ ring
front n ring count most = elim (cases_lt n 16) [
  | inl less ↦
      let same : n % 16 ≡ n = omega arith in
      let gone : drop n ring ≡ [] = drop_all n ring (omega arith) in
      let all : take n ring ≡ ring = take_all n ring (omega arith) in
      rw (same, gone, all) refl
  | inr more ↦
      let same : n % 16 ≡ 0 = omega arith in
      rw same (append-nil ring)
]

-- the oldest address gives its place to the next one
replaced : (at next : ℕ) (ring : List ℕ) (a : ℕ) → length ring ≡ 16 → at < 16 → next ≡ (at + 1) % 16 → turned next (set ring at a) ≡ drop 1 (turned at ring) ++ a ∷ []
replaced at next ring a count low is = new ∙ sym old
  where
    one : take (at + 1) (set ring at a) ≡ take at ring ++ a ∷ []
    one = take-set_at ring at (at + 1) a refl (omega arith)

    others : drop (at + 1) (set ring at a) ≡ drop (at + 1) ring
    others = sym (drop-drop 1 at (set ring at a)) ∙ ap (drop 1) (drop-set_at ring at at a refl (omega arith))

    new : turned next (set ring at a) ≡ drop (at + 1) ring ++ (take at ring ++ a ∷ [])
    new = elim (cases_lt (at + 1) 16) [
      | inl less ↦ let same : next ≡ at + 1 = omega arith in rw (same, one, others) refl
      | inr more ↦
          let same : next ≡ 0 = omega arith in
          let gone : drop (at + 1) ring ≡ [] = drop_all (at + 1) ring (omega arith) in
          let all : take (at + 1) (set ring at a) ≡ set ring at a = take_all (at + 1) (set ring at a) (omega (arith, length-set ring at a)) in
          rw (same, gone) (append-nil (set ring at a) ∙ sym all ∙ one)
    ]

    old : drop 1 (turned at ring) ++ a ∷ [] ≡ drop (at + 1) ring ++ (take at ring ++ a ∷ [])
    old =
        let len = length-drop at ring in
        ap (λ xs. xs ++ a ∷ []) (drop-append-le 1 (drop at ring) (take at ring) (omega arith) ∙ ap (λ xs. xs ++ take at ring) (drop-drop 1 at ring))
        ∙ append_assoc (drop (at + 1) ring) (take at ring) (a ∷ [])

-- the walk goes on to an address, and the ring takes it
ring_grows : (walk ring : List ℕ) (n a : ℕ) → length ring ≡ min n 16 → n < 16 → IsTrailOf walk (record { count = n; last = turned (n % 16) ring }) → IsTrailOf (walk ++ a ∷ []) (record { count = n + 1; last = turned ((n + 1) % 16) (ring ++ a ∷ []) })
ring_grows walk ring n a len less is =
    let count : length ring ≡ n = omega arith in
    let longer : length (ring ++ a ∷ []) ≡ n + 1 = omega (arith, length-append ring (a ∷ [])) in
    let walked : length (walk ++ a ∷ []) ≡ n + 1 = omega (arith, length-append walk (a ∷ []), is.0) in
    let none : length walk - 16 ≡ 0 = omega (arith, is.0) in
    let none_now : length (walk ++ a ∷ []) - 16 ≡ 0 = omega arith in
    let before : ring ≡ walk = sym (front n ring count (omega arith)) ∙ is.1 ∙ ap (λ k. drop k walk) none in
    (sym walked, front (n + 1) (ring ++ a ∷ []) longer (omega arith) ∙ ap (λ xs. xs ++ a ∷ []) before ∙ sym (ap (λ k. drop k (walk ++ a ∷ [])) none_now))

ring_turns : (walk ring : List ℕ) (n a : ℕ) → length ring ≡ min n 16 → 16 ≤ n → IsTrailOf walk (record { count = n; last = turned (n % 16) ring }) → IsTrailOf (walk ++ a ∷ []) (record { count = n + 1; last = turned ((n + 1) % 16) (set ring (n % 16) a) })
ring_turns walk ring n a len more is =
    let count : length ring ≡ 16 = omega arith in
    let walked : length (walk ++ a ∷ []) ≡ n + 1 = omega (arith, length-append walk (a ∷ []), is.0) in
    let skip : length (walk ++ a ∷ []) - 16 ≡ length walk - 16 + 1 = omega (arith, is.0) in
    let within : length walk - 16 + 1 ≤ length walk = omega (arith, is.0) in (
      sym walked,
      replaced (n % 16) ((n + 1) % 16) ring a count (omega arith) (omega arith)
          ∙ ap (λ xs. drop 1 xs ++ a ∷ []) is.1
          ∙ ap (λ xs. xs ++ a ∷ []) (drop-drop 1 (length walk - 16) walk)
          ∙ sym (ap (λ k. drop k (walk ++ a ∷ [])) skip ∙ drop-append-le (length walk - 16 + 1) walk (a ∷ []) within),
    )

-- the walk goes on to an address, and the next cell takes it
pub ring_takes : (walk ring : List ℕ) (n a : ℕ) → length ring ≡ 16
    → IsTrailOf walk (record { count = n; last = turned (n % 16) (take (min n 16) ring) })
    → IsTrailOf (walk ++ a ∷ []) (record { count = n + 1; last = turned ((n + 1) % 16) (take (min (n + 1) 16) (set ring (n % 16) a)) })
ring_takes walk ring n a len is = elim (cases_lt n 16) [
  | inl less ↦
      let at : n % 16 ≡ n = omega arith in
      let few : min n 16 ≡ n = omega arith in
      let more : min (n + 1) 16 ≡ n + 1 = omega arith in
      let front_now : take (n + 1) (set ring n a) ≡ take n ring ++ a ∷ [] = take-set_at ring n (n + 1) a refl (omega arith) in
      let here : IsTrailOf walk (record { count = n; last = turned (n % 16) (take n ring) }) = rw few at is in
      let kept : length (take n ring) ≡ min n 16 = omega (arith, length-take n ring) in
      let grown = ring_grows walk (take n ring) n a kept less here in
      rw (at, more, front_now) grown
  | inr more ↦
      let all : min n 16 ≡ 16 = omega arith in
      let all_now : min (n + 1) 16 ≡ 16 = omega arith in
      let whole : take 16 ring ≡ ring = take_all 16 ring (omega arith) in
      let whole_now : take 16 (set ring (n % 16) a) ≡ set ring (n % 16) a = take_all 16 (set ring (n % 16) a) (omega (arith, length-set ring (n % 16) a)) in
      let here : IsTrailOf walk (record { count = n; last = turned (n % 16) ring }) = rw (all, whole) at is in
      let turned_now = ring_turns walk ring n a (omega arith) more here in
      rw (all_now, whole_now) turned_now
]
