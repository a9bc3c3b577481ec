-- A text is cut into blocks in one way.
use Rattle.std.proofs.Common.{◌≡◌, ℕ, ◌+◌, ◌*◌, ◌<◌, ◌≤◌, List, ◌++◌, length, take, refl, sym, ap, ◌∙◌, arith, length-append}
use Rattle.std.proofs.lemmas.List.{append_cancel_left, take_at}
use Rattle.elf_names.specs.Texts.{IsBlock}

same_count : (a b j k : ℕ) → 0 < a → a ≤ 64 → 0 < b → b ≤ 64 → a + 64 * j ≡ b + 64 * k → a ≡ b
same_count a b j k some_a most_a some_b most_b e = omega arith

pub same_length : (b x c y : List ℕ) → IsBlock b x → IsBlock c y → b ++ x ≡ c ++ y → length b ≡ length c
same_length b x c y p q e =
    let sizes : length b + length x ≡ length c + length y = sym (length-append b x) ∙ ap length e ∙ length-append c y in
    let px : length x ≡ 64 * p.count = p.whole in
    let qy : length y ≡ 64 * q.count = q.whole in
    same_count (length b) (length c) p.count q.count p.some p.most q.some q.most (omega (arith, sizes, px, qy))

take_front : (b x : List ℕ) → take (length b) (b ++ x) ≡ b
take_front b x = take_at b x (length b) refl

pub same_block : (b x c y : List ℕ) → IsBlock b x → IsBlock c y → b ++ x ≡ c ++ y → b ≡ c
same_block b x c y p q e =
    sym (take_front b x) ∙ ap (take (length b)) e ∙ ap (λ (n : ℕ). take n (c ++ y)) (same_length b x c y p q e) ∙ take_front c y

pub same_tail : (b x c y : List ℕ) → IsBlock b x → IsBlock c y → b ++ x ≡ c ++ y → x ≡ y
same_tail b x c y p q e = append_cancel_left c x y (ap (λ (bs : List ℕ). bs ++ x) (sym (same_block b x c y p q e)) ∙ e)
