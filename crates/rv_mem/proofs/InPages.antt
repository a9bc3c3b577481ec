-- What making a page and putting bytes into one changes.
use Rattle.std.specs.Prelude.{◌⊎◌}
use Rattle.std.specs.List.{sum_by}
use Rattle.std.proofs.Common.{◌≡◌, ℕ, zero, suc, ◌+◌, ◌-◌, ◌*◌, ◌/◌, ◌%◌, ◌≤◌, ◌<◌, ◌==◌, false, List, [], ◌∷◌, ◌++◌, length, set, get_or, refl, ap, sym, ◌∙◌, arith, IsTrue, inl, inr, lit<, length-append, subst, Result, Ok, Err, OnErr, OnOk}
use Rattle.std.proofs.lemmas.Bool.{cases_eq, cases_lt, ne_eqb}
use Rattle.std.proofs.lemmas.Bool.Decides.{nat_tests}
use Rattle.std.proofs.lemmas.Grind.{get_or-set_at}
use Rattle.std.proofs.lemmas.List.{get_or-set_other, get_or_past}
use Rattle.std.proofs.lemmas.List.Sums.{sum_by-cons, sum_by-set}
use Rattle.std.proofs.Math.ListN.{get_or-append, length-set}
use Rattle.std.proofs.Math.Seq.{get_or-append_seam}
use Rattle.std.proofs.Math.Path.{fun_ext}
use Rattle.rv_word.specs.Memory.{Memory, placed, zeros}
use Rattle.rv_mem.specs.Pages.{PAGE_SIZE, PAGE_COUNT, Paged, ArePages, AreMade, bytes_in, counted, byte_of, entry, is_made, page_of}

-- the entry of a page that was made
pub made_entry : (paged : Paged) (p : ℕ) → IsTrue (is_made paged p) → 0 < entry paged p
unfolding is_made
made_entry paged p made = grind (arith, nat_tests)

pub made_in_table : (paged : Paged) (p : ℕ) → ArePages paged → IsTrue (is_made paged p) → p < length paged.table
made_in_table paged p are made = let some : 0 < get_or paged.table p 0 = made_entry paged p made in grind (arith, get_or_past paged.table p 0)

pub page_of-none : (paged : Paged) (p : ℕ) → entry paged p ≡ 0 → page_of paged p ≡ []
unfolding page_of
page_of-none paged p e = rw e refl

pub page_of-some : (paged : Paged) (p i : ℕ) → entry paged p ≡ suc i → page_of paged p ≡ get_or paged.pages i []
unfolding page_of
page_of-some paged p i e =
    let some : (entry paged p == 0) ≡ false = ne_eqb (entry paged p) 0 (λ z. absurd (omega (arith, z))) in
    let place : entry paged p - 1 ≡ i = omega arith in
    rw (some, place) refl

-- where each page has the same bytes, so has each place
pub byte_of-same : (old new : Paged) → ((p k : ℕ) → get_or (page_of new p) k 0 ≡ get_or (page_of old p) k 0) → byte_of new ≡ byte_of old
unfolding byte_of
byte_of-same old new same = fun_ext (λ k. same (k / PAGE_SIZE) (k % PAGE_SIZE))

pub byte_of-none : (paged : Paged) → ((p : ℕ) → entry paged p ≡ 0) → byte_of paged ≡ zeros
unfolding byte_of
byte_of-none paged none = fun_ext (λ k. rw (page_of-none paged (k / PAGE_SIZE) (none (k / PAGE_SIZE))) refl)

cases_zero : (n : ℕ) → (n ≡ 0) ⊎ ((i : ℕ) × (n ≡ suc i))
cases_zero zero = inl refl
cases_zero (suc i) = inr (i, refl)

-- as many pages as entries
counted-le : (table : List ℕ) → sum_by counted table ≤ length table
counted-le [] = omega arith
counted-le (e ∷ es) = let le = counted-le es in let step = sum_by-cons counted e es in let one : counted e ≤ 1 = grind (arith, nat_tests) in omega arith

pub counted-none : (table : List ℕ) → ((p : ℕ) → get_or table p 0 ≡ 0) → sum_by counted table ≡ 0
counted-none [] none = refl
counted-none (e ∷ es) none =
    let rest = counted-none es (λ p. none (suc p)) in
    let first : e ≡ 0 = none 0 in
    rw first (omega (arith, sum_by-cons counted 0 es))

pub counted-more : (table : List ℕ) (n e : ℕ) → n < length table → get_or table n 0 ≡ 0 → 0 < e → sum_by counted (set table n e) ≡ sum_by counted table + 1
counted-more table n e inside none some =
    let step = rw none at (sum_by-set counted table n e 0 inside) in
    let one : counted e ≡ 1 = grind (arith, nat_tests) in
    omega (arith, step)

pub counted-room : (table : List ℕ) (n : ℕ) → n < length table → get_or table n 0 ≡ 0 → sum_by counted table < length table
counted-room table n inside none = let more = counted-more table n 1 inside none (lit< tt) in let le = counted-le (set table n 1) in omega (arith, length-set table n 1)

-- a page of zeros is made
pub page_of-made : (table : List ℕ) (pages : List (List ℕ)) (n e : ℕ) (page : List ℕ) → n < length table → get_or table n 0 ≡ 0 → e ≡ length pages + 1 →
    ((p : ℕ) → get_or table p 0 ≤ length pages) → ((k : ℕ) → get_or page k 0 ≡ 0) →
    (p k : ℕ) → get_or (page_of (record { table = set table n e; pages = pages ++ page ∷ [] }) p) k 0 ≡ get_or (page_of (record { table = table; pages = pages }) p) k 0
page_of-made table pages n e page inside none last places none_there p k =
    let old : Paged = record { table = table; pages = pages } in
    let new : Paged = record { table = set table n e; pages = pages ++ page ∷ [] } in
    elim (cases_eq n p) [
      | inl same ↦
          let at : entry new p ≡ suc (length pages) = get_or-set_at table n p e 0 (sym same) inside ∙ omega arith in
          let before : entry old p ≡ 0 = rw (← same) none in
          rw (page_of-some new p (length pages) at, page_of-none old p before, get_or-append_seam pages page [] []) (none_there k)
      | inr other ↦
          let at : entry new p ≡ entry old p = get_or-set_other table n p e 0 (λ z. other (sym z)) in
          elim (cases_zero (entry old p)) [
            | inl before ↦ rw (page_of-none new p (at ∙ before), page_of-none old p before) refl
            | inr (i, before) ↦
                let low : i < length pages = omega (arith, places p) in
                rw (page_of-some new p i (at ∙ before), page_of-some old p i before, get_or-append pages (page ∷ []) [] i low) refl
          ]
    ]

-- bytes are put into a page
pub byte_of-put : (table : List ℕ) (pages : List (List ℕ)) (at e : ℕ) (page bytes : List ℕ) → ArePages (record { table = table; pages = pages }) →
    get_or table (at / PAGE_SIZE) 0 ≡ suc e → at % PAGE_SIZE + length bytes ≤ PAGE_SIZE →
    bytes_in page ≡ placed (bytes_in (get_or pages e [])) (at % PAGE_SIZE) bytes →
    byte_of (record { table = table; pages = set pages e page }) ≡ placed (byte_of (record { table = table; pages = pages })) at bytes
unfolding byte_of placed
byte_of-put table pages at e page bytes are there fits put = fun_ext (λ k.
    let old : Paged = record { table = table; pages = pages } in
    let new : Paged = record { table = table; pages = set pages e page } in
    let p = k / PAGE_SIZE in
    elim (cases_eq (at / PAGE_SIZE) (k / PAGE_SIZE)) [
      | inl same ↦
          let here : entry old (k / PAGE_SIZE) ≡ suc e = rw (← same) there in
          let low : e < length pages = omega (arith, are.places (k / PAGE_SIZE)) in
          let byte = ap (λ (m : Memory). m (k % PAGE_SIZE)) put in
          rw (page_of-some new (k / PAGE_SIZE) e here, page_of-some old (k / PAGE_SIZE) e here, get_or-set_at pages e e page [] refl low)
          (byte ∙ grind (arith, nat_tests))
      | inr other ↦
          elim (cases_zero (entry old (k / PAGE_SIZE))) [
            | inl before ↦ rw (page_of-none new (k / PAGE_SIZE) before, page_of-none old (k / PAGE_SIZE) before) (grind (arith, nat_tests))
            | inr (i, before) ↦
                let apart : i ≡ e → ⊥ = λ z. other (are.apart (at / PAGE_SIZE) (k / PAGE_SIZE) (omega (arith, there)) (there ∙ sym (before ∙ ap suc z))) in
                rw (page_of-some new (k / PAGE_SIZE) i before, page_of-some old (k / PAGE_SIZE) i before, get_or-set_other pages e i page [] apart) (grind (arith, nat_tests))
          ]
    ])

-- pages stay what they are
pub are_pages-made : (table : List ℕ) (pages : List (List ℕ)) (n e : ℕ) (page : List ℕ) → ArePages (record { table = table; pages = pages }) →
    n < length table → get_or table n 0 ≡ 0 → e ≡ length pages + 1 → length page ≡ PAGE_SIZE →
    ArePages (record { table = set table n e; pages = pages ++ page ∷ [] })
are_pages-made table pages n e page are inside none last long =
    let grown : length (pages ++ page ∷ []) ≡ length pages + 1 = length-append pages (page ∷ []) in
    record {
      table = length-set table n e ∙ are.table;
      places = λ p. elim (cases_eq p n) [
        | inl same ↦ omega (arith, get_or-set_at table n p e 0 same inside)
        | inr other ↦ omega (arith, get_or-set_other table n p e 0 other, are.places p)
      ];
      apart = λ p q some same. elim (cases_eq p n) [
        | inl is ↦ elim (cases_eq q n) [
          | inl as_well ↦ is ∙ sym as_well
          | inr other ↦ absurd (omega (arith, same, get_or-set_at table n p e 0 is inside, get_or-set_other table n q e 0 other, are.places q))
        ]
        | inr other ↦ elim (cases_eq q n) [
          | inl is ↦ absurd (omega (arith, same, get_or-set_at table n q e 0 is inside, get_or-set_other table n p e 0 other, are.places p))
          | inr apart ↦
              let before : get_or table p 0 ≡ get_or table q 0 = sym (get_or-set_other table n p e 0 other) ∙ same ∙ get_or-set_other table n q e 0 apart in
              are.apart p q (omega (arith, some, get_or-set_other table n p e 0 other)) before
        ]
      ];
      filled = omega (arith, counted-more table n e inside none (omega arith), are.filled);
      whole = λ i low. elim (cases_lt i (length pages)) [
        | inl below ↦ ap length (get_or-append pages (page ∷ []) [] i below) ∙ are.whole i below
        | inr past ↦
            let last : i ≡ length pages = omega (arith, low) in
            ap length (ap (λ (j : ℕ). get_or (pages ++ page ∷ []) j []) last ∙ get_or-append_seam pages page [] []) ∙ long
      ];
    }

pub are_pages-none : (table : List ℕ) → length table ≡ PAGE_COUNT → ((p : ℕ) → get_or table p 0 ≡ 0) → ArePages (record { table = table; pages = [] })
are_pages-none table long none = record {
  table = long;
  places = λ p. omega (arith, none p);
  apart = λ p q some same. absurd (omega (arith, some, none p));
  filled = sym (counted-none table none);
  whole = λ i low. absurd (omega (arith, low));
}

-- a place of a range in each page from its first to its last
pub place_in : (at n number : ℕ) → 0 < n → at / PAGE_SIZE ≤ number → number ≤ (at + n - 1) / PAGE_SIZE →
    (k : ℕ) × (at ≤ k) × (k < at + n) × (k / PAGE_SIZE ≡ number)
place_in at n number some from to =
    elim (cases_lt at (number * PAGE_SIZE)) [
      | inl before ↦ (number * PAGE_SIZE, omega arith, omega arith, omega arith)
      | inr in_page ↦ (at, omega arith, omega arith, omega arith)
    ]

-- where a page of the range was never made, not all were
pub not_made : (paged : Paged) (at n number : ℕ) → 0 < n → at / PAGE_SIZE ≤ number → number ≤ (at + n - 1) / PAGE_SIZE → (IsTrue (is_made paged number) → ⊥) → AreMade paged at n → ⊥
not_made paged at n number some from to never made =
    let (k, low, high, is) = place_in at n number some from to in
    never (subst (λ (p : ℕ). IsTrue (is_made paged p)) is (made k low high))

-- what holds after an error, or a value, and what follows from it
pub on_err : {A E P : Type 0} (r : Result A E) → P → OnErr r P
on_err (Ok a) p = tt
on_err (Err e) p = p

pub on_err_then : {A E P Q : Type 0} (r : Result A E) → (P → Q) → OnErr r P → OnErr r Q
on_err_then (Ok a) then_so p = tt
on_err_then (Err e) then_so p = then_so p

pub on_ok_then : {A E P Q : Type 0} (r : Result A E) → (P → Q) → OnOk r P → OnOk r Q
on_ok_then (Ok a) then_so p = then_so p
on_ok_then (Err e) then_so p = tt

pub on_either : {A E P Q : Type 0} (r : Result A E) → OnOk r P → OnErr r Q → P ⊎ Q
on_either (Ok a) p q = inl p
on_either (Err e) p q = inr q
