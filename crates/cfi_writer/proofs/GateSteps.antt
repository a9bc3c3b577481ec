-- Gates one after another: each stands behind the part of the place before it, all within the parts of the places.
use Rattle.std.proofs.Common.{◌≡◌, ℕ, zero, suc, ◌+◌, ◌%◌, ◌≤◌, ◌<◌, Bool, true, false, Option, Some, None, List, [], ◌∷◌, length, get_or, refl, sym, ap, subst, ◌∙◌, arith}
use Rattle.std.specs.Prelude.{slice_index, sum}
use Rattle.std.proofs.lemmas.List.Sums.{sum_by-cons}
use Rattle.cfi_writer.proofs.Prelude.{ItemKind, Item, no_item, GraphVersion, OneLabel, TwoLabels, CalleeSaves, Entered, lead_size, in_leaf, is_short, AreGates, call_size, is_ecall, kind_size, lean_size, size_by, size_of, whole_at, part_sizes}
use Rattle.obj_input.specs.declared.item_kind.ItemKind.TheVariants as is
use Rattle.cfi_map.proofs.PartSizes.{unit_many}

-- parts have whole words
call_round : (calls : Option (List ℕ)) → call_size calls % 4 ≡ 0
call_round None = refl
call_round (Some numbers) = omega arith

kind_round : (calls : Option (List ℕ)) (kind : ItemKind) (ecall whole : Bool) → kind_size calls kind ecall whole % 4 ≡ 0
kind_round calls is.Store ecall true = refl
kind_round calls is.Store ecall false = refl
kind_round calls is.System true whole = call_round calls
kind_round calls is.System false whole = refl
kind_round calls is.Branch ecall true = refl
kind_round calls is.Branch ecall false = refl
kind_round calls is.Call ecall whole = refl
kind_round calls is.Return ecall whole = refl
kind_round calls is.Ijump ecall whole = refl
kind_round calls is.Icall ecall whole = refl
kind_round calls other ecall whole = refl

lean_round : (calls : Option (List ℕ)) (kind : ItemKind) (ecall short inside whole : Bool) → lean_size calls kind ecall short inside whole % 4 ≡ 0
lean_round calls is.Store ecall true inside true = refl
lean_round calls is.Store ecall false inside true = refl
lean_round calls is.Store ecall short inside false = refl
lean_round calls is.Call ecall short inside whole = refl
lean_round calls is.Return ecall short true whole = refl
lean_round calls is.Return ecall short false whole = refl
lean_round calls is.Ijump ecall short inside whole = refl
lean_round calls is.Icall ecall short inside whole = refl
lean_round calls other ecall short inside whole = kind_round calls other ecall whole

by_round : (version : GraphVersion) (calls : Option (List ℕ)) (inside : Bool) (item : Item) (whole : Bool) → size_by version calls inside item whole % 4 ≡ 0
by_round OneLabel calls inside item whole = kind_round calls item.kind (is_ecall item) whole
by_round TwoLabels calls inside item whole = kind_round calls item.kind (is_ecall item) whole
by_round CalleeSaves calls inside item whole = lean_round calls item.kind (is_ecall item) (is_short item) inside whole

size_round : (of : Entered) (k : ℕ) (item : Item) (whole : Bool) → size_of of k item whole % 4 ≡ 0
size_round of k item whole = by_round of.closed.version of.closed.calls (in_leaf of k) item whole

lead_round : (of : Entered) (k : ℕ) → lead_size of k % 4 ≡ 0
lead_round of k = omega arith

-- the next gate
pub next_from : (of : Entered) (whole : List Bool) (k at : ℕ) (items : List Item) (gates : List ℕ) → AreGates of whole k at items gates → (i : ℕ) →
    suc i < length items →
    slice_index gates (suc i) ≡ slice_index gates i + lead_size of (k + i) + size_of of (k + i) (get_or items i no_item) (whole_at whole (k + i))
unfolding AreGates
next_from of whole k at [] gates legal i below = absurd (omega arith)
next_from of whole k at (x ∷ []) gates legal i below = absurd (omega arith)
next_from of whole k at (x ∷ y ∷ items) [] legal i below = absurd legal
next_from of whole k at (x ∷ y ∷ items) (g ∷ []) legal i below = absurd legal.1
next_from of whole k at (x ∷ y ∷ items) (g ∷ h ∷ gates) legal zero below =
    let start : k + 0 ≡ k = omega arith in
    rw start (legal.1.0 ∙ ap (λ (n : ℕ). n + lead_size of k + size_of of k x (whole_at whole k)) (sym legal.0))
next_from of whole k at (x ∷ y ∷ items) (g ∷ h ∷ gates) legal (suc i) below =
    let next : k + 1 + i ≡ k + suc i = omega arith in
    let rest = next_from of whole (k + 1) (at + lead_size of k + size_of of k x (whole_at whole k)) (y ∷ items) (h ∷ gates) legal.1 i (omega arith) in
    subst (λ (n : ℕ). slice_index (h ∷ gates) (suc i) ≡ slice_index (h ∷ gates) i + lead_size of n + size_of of n (get_or (y ∷ items) i no_item) (whole_at whole n)) next rest

-- where a gate lies
pub record IsWithin (from to gate : ℕ) : Type 0 where
  pub low : from ≤ gate
  pub high : gate + 4 ≤ to
  pub round : from % 4 ≡ 0 → gate % 4 ≡ 0

pub within : (of : Entered) (whole : List Bool) (k at : ℕ) (items : List Item) (gates : List ℕ) → AreGates of whole k at items gates → (i : ℕ) →
    i < length items → IsWithin at (at + sum (part_sizes of whole k items)) (slice_index gates i)
unfolding AreGates part_sizes
within of whole k at [] gates legal i below = absurd (omega arith)
within of whole k at (x ∷ items) [] legal i below = absurd legal
within of whole k at (x ∷ items) (g ∷ gates) legal zero below =
    let here = legal.0 in
    let some = unit_many of k x (whole_at whole k) in
    let part = lead_size of k + size_of of k x (whole_at whole k) in
    let more = sum_by-cons (λ (n : ℕ). n) part (part_sizes of whole (k + 1) items) in
    record { low = omega arith; high = omega arith; round = λ even. ap (λ (n : ℕ). n % 4) here ∙ even }
within of whole k at (x ∷ items) (g ∷ gates) legal (suc i) below =
    let part = lead_size of k + size_of of k x (whole_at whole k) in
    let more = sum_by-cons (λ (n : ℕ). n) part (part_sizes of whole (k + 1) items) in
    let rest = within of whole (k + 1) (at + lead_size of k + size_of of k x (whole_at whole k)) items gates legal.1 i (omega arith) in
    let low = rest.low in
    let high = rest.high in
    let own = size_round of k x (whole_at whole k) in
    let led = lead_round of k in
    record { low = omega arith; high = omega arith; round = λ even. rest.round (omega arith) }
