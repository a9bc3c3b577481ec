-- The digits of a word, one by one. A byte that is no digit counts as 2 ^ 32, which no number of eight
-- digits reaches.
use Rattle.std.proofs.Common.{◌≡◌, ℕ, ◌+◌, ◌*◌, ◌<◌, ◌≤◌, ◌&&◌, List, ◌^◌, length, get_or, drop, Option, Some, None, refl, sym, ap, subst, ◌∙◌, inl, inr, arith}
use Rattle.std.specs.Prelude.{IfSome}
use Rattle.std.specs.Option.{unwrap_or}
use Rattle.std.proofs.lemmas.Bool.{and_parts, cases_Bool, leb-true}
use Rattle.std.proofs.lemmas.Nat.{pow-add}
use Rattle.std.proofs.Math.Dec.{leb}
use Rattle.std.proofs.Math.Pow.{pow_mono}
use Rattle.std.proofs.lemmas.List.{drop_more, drop_all}
use Rattle.text_lines.specs.declared.hexadecimal.Case.{Case}
use Rattle.text_lines.specs.declared.hexadecimal.Case.TheVariants.{Lower, Either}
use Rattle.text_lines.specs.Hex.{digit_of, digit_value, hex_from}

-- after the first bytes the number is that of the digits so far, or one of them is no digit
pub data Counted (case : Case) (w : List ℕ) (i number : ℕ) : Type 0 where
  digits : number < 2 ^ (4 * i) → hex_from case number (drop i w) ≡ hex_from case 0 w → Counted case w i number
  no_digits : 2 ^ 32 ≤ number → hex_from case 0 w ≡ None → Counted case w i number

-- one more digit makes the bound sixteen times as large
more_digits : (n d i : ℕ) → n < 2 ^ (4 * i) → d < 16 → 16 * n + d < 2 ^ (4 * (i + 1))
more_digits n d i h k =
    let e : 2 ^ (4 * (i + 1)) ≡ 2 ^ (4 * i) * 16 = ap (λ m. 2 ^ m) (omega arith) ∙ pow-add 2 (4 * i) 4 in
    omega arith

lower_small : (b : ℕ) → IfSome (digit_value b) (λ d. d < 16)
lower_small b =
    elim (cases_Bool (leb 48 b && leb b 57)) [
      | inl t ↦ let p = and_parts (leb 48 b) (leb b 57) t in let high = leb-true b 57 p.1 in rw t (omega arith)
      | inr f ↦
          elim (cases_Bool (leb 97 b && leb b 102)) [
            | inl t ↦ let p = and_parts (leb 97 b) (leb b 102) t in let high = leb-true b 102 p.1 in rw (f, t) (omega arith)
            | inr g ↦ rw (f, g) tt
          ]
    ]

digit_small : (case : Case) (b : ℕ) → IfSome (digit_of case b) (λ d. d < 16)
digit_small Lower b = lower_small b
digit_small Either b =
    elim (cases_Bool (leb 65 b && leb b 70)) [
      | inl t ↦ let p = and_parts (leb 65 b) (leb b 70) t in let high = leb-true b 70 p.1 in rw t (omega arith)
      | inr f ↦ rw f (lower_small b)
    ]

pub digit_at_most : (case : Case) (b : ℕ) → unwrap_or (digit_of case b) (2 ^ 32) ≤ 2 ^ 32
digit_at_most case b = by (digit_of case b) (digit_small case b)
  where
    by : (o : Option ℕ) → IfSome o (λ d. d < 16) → unwrap_or o (2 ^ 32) ≤ 2 ^ 32
    by None small = omega arith
    by (Some d) small = let below : d < 16 = small in omega arith

module _ (case : Case) (w : List ℕ) where
  pub counted_none : Counted case w 0 0
  counted_none = digits (omega arith) refl

  next_digit : (i n d : ℕ) → i < length w → digit_of case (get_or w i 0) ≡ Some d → hex_from case n (drop i w) ≡ hex_from case (16 * n + d) (drop (i + 1) w)
  unfolding hex_from
  next_digit i n d h e = rw (drop_more w i 0 h, e) refl

  bad_digit : (i n : ℕ) → i < length w → digit_of case (get_or w i 0) ≡ None → hex_from case n (drop i w) ≡ None
  unfolding hex_from
  bad_digit i n h e = rw (drop_more w i 0 h, e) refl

  after_last : (i n : ℕ) → length w ≤ i → hex_from case n (drop i w) ≡ Some n
  unfolding hex_from
  after_last i n h = rw (drop_all i w h) refl

  pub counted_more : (i n : ℕ) → i < length w → Counted case w i n → Counted case w (i + 1) (16 * n + unwrap_or (digit_of case (get_or w i 0)) (2 ^ 32))
  counted_more i n h (no_digits above none) = no_digits (omega arith) none
  counted_more i n h (digits below same) = by (digit_of case (get_or w i 0)) refl
    where
      by : (o : Option ℕ) → digit_of case (get_or w i 0) ≡ o → Counted case w (i + 1) (16 * n + unwrap_or o (2 ^ 32))
      by None e = no_digits (omega arith) (sym same ∙ bad_digit i n h e)
      by (Some d) e =
          let small : d < 16 = subst (λ (o : Option ℕ). IfSome o (λ x. x < 16)) e (digit_small case (get_or w i 0)) in
          digits (more_digits n d i below small) (sym (next_digit i n d h e) ∙ same)

  pub counted_right : (i n : ℕ) → length w ≤ i → n < 2 ^ 32 → Counted case w i n → Some n ≡ hex_from case 0 w
  counted_right i n end fits (no_digits above none) = absurd (omega arith)
  counted_right i n end fits (digits below same) = sym (after_last i n end) ∙ same

  pub counted_wrong : (i n : ℕ) → i ≤ 8 → 2 ^ 32 ≤ n → Counted case w i n → None ≡ hex_from case 0 w
  counted_wrong i n few above (no_digits large none) = sym none
  counted_wrong i n few above (digits below same) =
      absurd (omega (arith, pow_mono {i = 4 * i} {j = 32} (omega arith)))

-- the sum stays below the bound that follows
pub sum_bound : (n d i : ℕ) → 15 * n + 2 ^ 32 ≤ 2 ^ (32 + 4 * i) → d ≤ 2 ^ 32 → 15 * (16 * n + d) + 2 ^ 32 ≤ 2 ^ (32 + 4 * (i + 1))
sum_bound n d i h k =
    let e : 2 ^ (32 + 4 * (i + 1)) ≡ 2 ^ (32 + 4 * i) * 16 = ap (λ m. 2 ^ m) (omega arith) ∙ pow-add 2 (32 + 4 * i) 4 in
    omega arith
