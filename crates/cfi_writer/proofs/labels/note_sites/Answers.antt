use Rattle.std.proofs.Common.{◌≡◌, ◌-◌, ℕ, refl, subst, ap, ◌∙◌, length, arith, drop, length-append, length-set}
use Rattle.std.specs.Prelude.{slice_index}
use Rattle.cfi_map.specs.LabelOf.{empty_classes, next_after}
use Rattle.cfi_writer.proofs.SiteNumbers.{IsNumbered, after_none, after_some, ended, number_is, one_left, site_there, started, stepped}
use Rattle.cfi_writer.proofs.labels.note_sites.Goals as goal
use Rattle.cfi_writer.proofs.labels.note_sites.Goals.{then-is_none, else-is_none}

pub loop-i-init : goal.loop-i-init
loop-i-init c = (refl, started c.args.labels.now c.args.table.now.items c.args.side.now.sites c.sites-i.result c.args.count c.sites-i.ensures)

pub overflow_sub-next : goal.overflow_sub-next
overflow_sub-next c =
    let all = c.requires.count in
    one_left c.args.labels.now c.args.table.now.items c.loop-i.table.items c.args.side.now.sites c.loop-i.i c.loop-i.next c.args.count c.site-site.result c.loop-i.invariant.1
    c.site-site.ensures.value c.loop-i-test.true c.if-is_none.ensures
    (omega (arith, length-append c.args.side.now.classes (empty_classes c.args.side.now.sites)))

pub index_mut-requires : goal.index_mut-requires
index_mut-requires c =
    let there = site_there (length c.args.table.now.items) c.args.side.now.sites (c.loop-i.i - 1) c.site-site.result c.requires.there c.site-site.ensures.value in
    omega arith

pub loop-i-preserved : goal.loop-i-preserved
loop-i-preserved c =
    let there = site_there (length c.args.table.now.items) c.args.side.now.sites (c.loop-i.i - 1) c.site-site.result c.requires.there c.site-site.ensures.value in
    let after : next_after c.site-site.result.class c.if-is_none.next ≡ c.loop-i.next = elim c.if-is_none.branch [
      | then-is_none w ↦ rw w.next-is (after_none c.site-site.result.class c.loop-i.next w.if-is_none.ensures
          (one_left c.args.labels.now c.args.table.now.items c.loop-i.table.items c.args.side.now.sites c.loop-i.i c.loop-i.next c.args.count c.site-site.result c.loop-i.invariant.1
          c.site-site.ensures.value c.loop-i-test.true w.if-is_none.ensures
          (let all = c.requires.count in omega (arith, length-append c.args.side.now.classes (empty_classes c.args.side.now.sites)))))
      | else-is_none w ↦ rw w.next-is (after_some c.site-site.result.class c.loop-i.next w.if-is_none.ensures)
    ] in (
      omega (arith, length-set {A = ℕ}),
      stepped c.args.labels.now c.args.table.now.items c.loop-i.table.items c.args.side.now.sites c.loop-i.i c.loop-i.next c.args.count c.if-is_none.next c.label_or_zero.result
          c.site-site.result c.loop-i.invariant.1 c.site-site.ensures.value c.loop-i-test.true (omega arith) after
          (c.label_or_zero.ensures ∙ ap (slice_index c.args.labels.now) (c.unwrap_or.ensures ∙ number_is c.site-site.result.class c.if-is_none.next)),
    )

pub returns-clause-each : goal.returns-clause-each
returns-clause-each c =
    ended c.args.labels.now c.args.table.now.items c.loop-i.table.items c.args.side.now c.loop-i.next c.args.count
    (let none : c.loop-i.i ≡ 0 = omega arith in
    subst (λ (i : ℕ). IsNumbered c.args.labels.now (drop i c.args.side.now.sites) c.loop-i.next c.args.count c.args.table.now.items c.loop-i.table.items) none c.loop-i.invariant.1)
    c.requires.count
