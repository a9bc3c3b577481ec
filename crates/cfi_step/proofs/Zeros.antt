-- The hostile meddler's lists, one member at a time.
use Rattle.std.proofs.Common.{◌≡◌, ℕ, suc, ◌+◌, ◌-◌, ◌*◌, ◌<◌, ◌≤◌, List, [], ◌∷◌, ◌++◌, arith, append_assoc, append-nil}
use Rattle.rv_word.specs.Bits.{wrap}
use Rattle.rv_word.specs.Memory.{Memory, read}
use Rattle.rv_code.specs.State.{Harts}
use Rattle.cfi_step.specs.Hostile.{hart_zeros, site_zeros, sites_from, zeros_at, zeros_from, zeros_of_harts}

-- what is added and what is left
pub more_zeros : (front after : List (ℕ × ℕ)) (a k : ℕ) → k < 8 → after ≡ front ++ (a + k, 0) ∷ [] → after ++ zeros_from (a + (k + 1)) (8 - (k + 1)) ≡ front ++ zeros_from (a + k) (8 - k)
unfolding zeros_from
more_zeros front after a k below e =
    let left : 8 - k ≡ suc (8 - (k + 1)) = omega arith in
    let next : a + (k + 1) ≡ a + k + 1 = omega arith in
    rw (e, left, next) (append_assoc front ((a + k, 0) ∷ []) (zeros_from (a + k + 1) (8 - (k + 1))))

pub all_zeros : (front : List (ℕ × ℕ)) (a k : ℕ) → 8 ≤ k → front ++ zeros_from (a + k) (8 - k) ≡ front
unfolding zeros_from
all_zeros front a k h =
    let left : 8 - k ≡ 0 = omega arith in
    rw left (append-nil front)

pub more_sites : (m : Memory) (front after : List ℕ) (a k count : ℕ) → k < count → after ≡ front ++ read 8 m (a + 8 * k) ∷ [] → after ++ sites_from m (a + 8 * (k + 1)) (count - (k + 1)) ≡ front ++ sites_from m (a + 8 * k) (count - k)
unfolding sites_from
more_sites m front after a k count below e =
    let left : count - k ≡ suc (count - (k + 1)) = omega arith in
    let next : a + 8 * (k + 1) ≡ a + 8 * k + 8 = omega arith in
    rw (e, left, next) (append_assoc front (read 8 m (a + 8 * k) ∷ []) (sites_from m (a + 8 * k + 8) (count - (k + 1))))

pub all_sites : (m : Memory) (front : List ℕ) (a k count : ℕ) → count ≤ k → front ++ sites_from m (a + 8 * k) (count - k) ≡ front
unfolding sites_from
all_sites m front a k count h =
    let left : count - k ≡ 0 = omega arith in
    rw left (append-nil front)

module _ (m : Memory) (sites : List ℕ) (a : ℕ) where
  pub more_site_zeros : (front after : List (ℕ × ℕ)) (left n : ℕ) → left ≡ suc n → after ≡ front ++ zeros_at m sites a → after ++ site_zeros m sites (wrap (a + 8)) n ≡ front ++ site_zeros m sites a left
  unfolding site_zeros
  more_site_zeros front after left n one e = rw (e, one) (append_assoc front (zeros_at m sites a) (site_zeros m sites (wrap (a + 8)) n))

pub none_left : (m : Memory) (sites : List ℕ) (front : List (ℕ × ℕ)) (a left : ℕ) → left ≡ 0 → front ++ site_zeros m sites a left ≡ front
unfolding site_zeros
none_left m sites front a left none = rw none (append-nil front)

module _ (m : Memory) (harts : Harts) where
  pub more_harts : (front after : List (ℕ × ℕ)) (k count : ℕ) → k < count → after ≡ front ++ hart_zeros m k (harts k)
      → after ++ zeros_of_harts m harts (k + 1) (count - (k + 1)) ≡ front ++ zeros_of_harts m harts k (count - k)
  unfolding zeros_of_harts
  more_harts front after k count below e =
      let left : count - k ≡ suc (count - (k + 1)) = omega arith in
      rw (e, left) (append_assoc front (hart_zeros m k (harts k)) (zeros_of_harts m harts (k + 1) (count - (k + 1))))

  pub all_harts : (front : List (ℕ × ℕ)) (k count : ℕ) → count ≤ k → front ++ zeros_of_harts m harts k (count - k) ≡ front
  unfolding zeros_of_harts
  all_harts front k count h =
      let left : count - k ≡ 0 = omega arith in
      rw left (append-nil front)
