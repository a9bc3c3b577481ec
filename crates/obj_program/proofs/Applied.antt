-- A relocation changes data from its offset on.
use Rattle.std.proofs.Common.{◌≡◌, ℕ, ℤ, ◌-◌, List, ◌++◌, take, drop, length, ap, ◌∙◌, arith, OnOk, Result, Ok, Err, length-drop}
use Rattle.std.proofs.lemmas.List.{take_all, drop_all, append-nil}
use borrow.Rule.Slice.PartMut.{put_mid, mid_of}
use Rattle.rv_reloc.specs.Data.{patched}
use Rattle.rv_reloc.specs.declared.kinds.DataPatch.{DataPatch}

pub put_last : (a : ℕ) (xs ys : List ℕ) → put_mid a (length xs - a) xs ys ≡ take a xs ++ ys
put_last a xs ys =
    let long = length-drop a xs in
    ap (λ l. take a xs ++ (ys ++ l)) (drop_all (length xs - a) (drop a xs) (omega arith)) ∙ ap (λ l. take a xs ++ l) (append-nil ys)

pub applied : {T E : Type 0} (r : Result T E) (kind : DataPatch) (value same : ℤ) (a : ℕ) (xs ys : List ℕ) → value ≡ same
    → OnOk r (ys ≡ patched kind value (mid_of a (length xs - a) xs))
    → OnOk r (put_mid a (length xs - a) xs ys ≡ take a xs ++ patched kind same (drop a xs))
applied (Ok _) kind value same a xs ys e h =
    let long = length-drop a xs in
    let whole : mid_of a (length xs - a) xs ≡ drop a xs = take_all (length xs - a) (drop a xs) (omega arith) in
    put_last a xs ys ∙ ap (λ l. take a xs ++ l) (h ∙ ap (patched kind value) whole ∙ ap (λ z. patched kind z (drop a xs)) e)
applied (Err _) kind value same a xs ys e h = h
