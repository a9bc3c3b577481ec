use Rattle.std.proofs.Common.{◌-◌, ◌<◌, ℕ, List, get_or, length, drop, arith, sym, subst, ap, ◌∙◌}
use Rattle.std.specs.Prelude.{if◌then◌else◌, slice_index}
use Rattle.std.specs.List.{All}
use Rattle.std.proofs.Math.ListN.{length-replicate}
use Rattle.cfi_writer.proofs.Prelude.{Site, IsSideInside, Side, has_site, site_number}
use Rattle.cfi_writer.proofs.SiteNumbers.{all_noted, sides_begin, sides_more}
use Rattle.cfi_writer.proofs.Starts.{count_is, side_before, start_at, start_few, starts_rise}
use Rattle.cfi_writer.proofs.labels.site_labels.Goals as goal

pub loop-j-init : goal.loop-j-init
loop-j-init c =
    let zeros = c.in_ok-table.ensures.items_if_clones_equal (λ y e. e) in (
      ap length zeros ∙ length-replicate c.places-places.result 0,
      sides_begin c.args.labels.now c.in_ok-table.table.items c.args.closed.now.sides (length c.sides-sides.result.now) c.places-places.result
          (ap length c.sides-sides.ensures.value) zeros,
    )

pub labels_from-own-requires : goal.labels_from-own-requires
labels_from-own-requires c =
    let few = start_few c.args.closed.now.sides c.args.starts.now c.requires.starts (c.loop-j.j - 1)
    (let same = ap length c.sides-sides.ensures.value in let test = c.loop-j-test.true in let most = c.loop-j.auto.j in omega arith) in
    omega (arith, few, c.requires.counted)

pub overflow_sub-starts : goal.overflow_sub-starts
overflow_sub-starts c =
    let at = side_before c.sides-sides.result.now c.args.closed.now.sides c.loop-j.j c.index-sides-j.result c.sides-sides.ensures.value c.loop-j-test.true c.loop-j.auto.j c.index-sides-j.is in
    starts_rise c.args.closed.now.sides c.args.starts.now c.requires.starts (c.loop-j.j - 1) at.0

pub note_sites-requires-clause-count : goal.note_sites-requires-clause-count
note_sites-requires-clause-count c =
    let at = side_before c.sides-sides.result.now c.args.closed.now.sides c.loop-j.j c.index-sides-j.result c.sides-sides.ensures.value c.loop-j-test.true c.loop-j.auto.j c.index-sides-j.is in
    count_is c.args.closed.now.sides c.args.starts.now c.requires.starts (c.loop-j.j - 1) at.0 c.index-sides-j.result at.1

pub note_sites-requires-clause-there : goal.note_sites-requires-clause-there
note_sites-requires-clause-there c =
    let side = c.index-sides-j.result in
    let at = side_before c.sides-sides.result.now c.args.closed.now.sides c.loop-j.j side c.sides-sides.ensures.value c.loop-j-test.true c.loop-j.auto.j c.index-sides-j.is in
    let inside : IsSideInside (length c.args.closed.now.taken) side =
    subst (IsSideInside (length c.args.closed.now.taken)) (sym (c.index-sides-j.is ∙ ap (λ (xs : List Side). get_or xs (c.loop-j.j - 1) side) c.sides-sides.ensures.value))
    (c.places-places.ensures.inside (c.loop-j.j - 1) side at.0) in
    subst (λ (n : ℕ). All (λ (s : Site). s.place < n) side.sites) (sym (c.loop-j.invariant.0 ∙ c.places-places.ensures.value)) inside.sites

pub loop-j-preserved : goal.loop-j-preserved
loop-j-preserved c =
    let side = c.index-sides-j.result in
    let at = side_before c.sides-sides.result.now c.args.closed.now.sides c.loop-j.j side c.sides-sides.ensures.value c.loop-j-test.true c.loop-j.auto.j c.index-sides-j.is in
    let from = start_at c.args.closed.now.sides c.args.starts.now c.requires.starts (c.loop-j.j - 1) at.0 in
    let own = c.labels_from-own.ensures ∙ ap (λ (n : ℕ). drop n c.args.labels.now) from in (
      c.note_sites.ensures.size ∙ c.loop-j.invariant.0,
      sides_more c.args.labels.now c.loop-j.table.items c.note_sites.new.table.items c.args.closed.now.sides c.loop-j.j side at.1 c.loop-j-test.true c.loop-j.invariant.1
          (λ k. c.note_sites.ensures.each k
          ∙ ap (λ (ls : List ℕ). if has_site k side then slice_index ls (site_number side.sites (length side.classes) k) else slice_index c.loop-j.table.items k) own),
    )

pub returns : goal.returns
returns c = all_noted c.args.labels.now c.loop-j.table.items c.args.closed.now.sides c.loop-j.j (omega arith) c.loop-j.invariant.1
