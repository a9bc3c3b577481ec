-- Bytes that stand in memory one after the other.
use Rattle.std.proofs.Common.{◌≡◌, ℕ, zero, suc, ◌+◌, ◌/◌, ◌%◌, ◌^◌, ◌<◌, ◌≤◌, List, [], take, drop, length, length-drop, get_or, refl, arith, w64}
use Rattle.std.specs.Int.{to_le_bytes}
use Rattle.std.proofs.lemmas.Bool.Decides.{nat_tests}
use Rattle.std.proofs.lemmas.List.{get_or-take, get_or-drop, length-take-le}
use Rattle.std.proofs.Math.Path.{fun_ext}
use Rattle.rv_word.specs.Memory.{Memory, placed, write}

pub placed-none : (m : Memory) (a : ℕ) → m ≡ placed m a []
unfolding placed
placed-none m a = fun_ext (λ k. grind (arith, nat_tests))

-- the bytes of a number
byte_of : (v j : ℕ) → j < 8 → get_or (to_le_bytes w64 v) j 0 ≡ v / 256 ^ j % 256
byte_of v zero low = let one : v / 1 ≡ v = omega arith in rw one refl
byte_of v (suc zero) low = refl
byte_of v (suc (suc zero)) low = refl
byte_of v (suc (suc (suc zero))) low = refl
byte_of v (suc (suc (suc (suc zero)))) low = refl
byte_of v (suc (suc (suc (suc (suc zero))))) low = refl
byte_of v (suc (suc (suc (suc (suc (suc zero)))))) low = refl
byte_of v (suc (suc (suc (suc (suc (suc (suc zero))))))) low = refl
byte_of v (suc (suc (suc (suc (suc (suc (suc (suc j)))))))) low = absurd (omega arith)

pub write-placed : (n : ℕ) (m : Memory) (a v : ℕ) → n ≤ 8 → placed m a (take n (to_le_bytes w64 v)) ≡ write n m a v
unfolding placed write
write-placed n m a v small = fun_ext (λ k.
    let long : length (take n (to_le_bytes w64 v)) ≡ n = length-take-le n (to_le_bytes w64 v) small in
    rw long (grind (arith, nat_tests, byte_of, get_or-take {A = ℕ})))

-- some bytes and then more
pub placed-on : (m : Memory) (a i n : ℕ) (bs : List ℕ) → i + n ≤ length bs →
    placed (placed m a (take i bs)) (a + i) (take n (drop i bs)) ≡ placed m a (take (i + n) bs)
unfolding placed
placed-on m a i n bs low = fun_ext (λ k.
    let now : length (take i bs) ≡ i = length-take-le i bs (omega arith) in
    let rest : length (take n (drop i bs)) ≡ n = length-take-le n (drop i bs) (omega (arith, length-drop i bs)) in
    let all : length (take (i + n) bs) ≡ i + n = length-take-le (i + n) bs low in
    rw (now, rest, all) (grind (arith, nat_tests, get_or-take {A = ℕ}, get_or-drop {A = ℕ})))
