use Rattle.std.proofs.Common.{◌==◌, ℕ, Bool, List, Option, ap, arith, get_or, sym, take, ◌∙◌}
use Rattle.std.proofs.lemmas.List.{take_all}
use Rattle.std.proofs.lemmas.List.Folds.{list_any_more}
use Rattle.cfi_class.specs.Classes.{has}
use Rattle.cfi_class.specs.Tables.{entry, noted}
use Rattle.cfi_class.proofs.Finding.{noted_twice}
use Rattle.cfi_class.proofs.table.note_all.Goals as goal

pub note-requires : goal.note-requires
note-requires c =
    let below = c.requires c.loop-place.place-index 0 c.loop-place-test.true in
    let same = c.loop-place.invariant.0 in omega arith

pub loop-place-preserved : goal.loop-place-preserved
loop-place-preserved c =
    let places = c.args.places.now in
    let i = c.loop-place.place-index in (
      c.in_ok-note.ensures.size ∙ c.loop-place.invariant.0,
      λ k.
          let old = entry c.args.table.now.items k in
          c.in_ok-note.ensures.each k ∙ ap (λ (o : Option ℕ). noted o (get_or places i 0 == k) c.args.n) (c.loop-place.invariant.1 k)
          ∙ noted_twice old (has k (take i places)) (get_or places i 0 == k) c.args.n
          ∙ ap (λ (b : Bool). noted old b c.args.n) (sym (list_any_more (λ t. t == k) places i 0 c.loop-place-test.true)),
    )

pub returns : goal.returns
returns c = record {
  size = c.loop-place.invariant.0;
  each = λ k.
      c.loop-place.invariant.1 k
      ∙ ap (λ (ts : List ℕ). noted (entry c.args.table.now.items k) (has k ts) c.args.n) (take_all c.loop-place.place-index c.args.places.now c.loop-place-test.false);
}
