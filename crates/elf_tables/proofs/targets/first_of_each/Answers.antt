use Rattle.std.proofs.Common.{◌≡◌, ◌==◌, ◌&&◌, ◌<◌, ◌≤◌, ◌+◌, ◌++◌, List, length, take, subst, refl, sym, ◌∙◌, arith, ap, Option, ℕ, None, Some, if◌then◌else◌, get_or}
use Rattle.std.specs.Option.{option_or}
use Rattle.std.proofs.lemmas.List.{length-replicate, get_or-replicate, take_all, take-append-le}
use Rattle.elf_tables.specs.declared.header.SectionHeader.{SectionHeader}
use Rattle.least.specs.First.{first_below}
use Rattle.elf_tables.specs.Section.{section_header}
use Rattle.elf_tables.specs.Table.{relocates}
use Rattle.elf_tables.specs.Relocation.{IsFirstOfEach}
use Rattle.least.proofs.Firsts.{first_begins, first_step}
use Rattle.elf_tables.proofs.targets.first_of_each.Goals as goal

noted : (bytes : List ℕ) (item : Option ℕ) (h : SectionHeader) (target index : ℕ) → h ≡ section_header bytes index
    → item ≡ first_below (relocates bytes target) index
    → option_or item (if h.kind == 4 && h.info == target then Some index else None)
    ≡ option_or (first_below (relocates bytes target) index) (if relocates bytes target index then Some index else None)
noted bytes item h target index p q = rw (p, q) refl

pub loop-index-init : goal.loop-index-init
loop-index-init c = record {
  len = ap length c.in_ok-table.ensures ∙ length-replicate _ _ ∙ c.count.ensures;
  first = λ target below.
      let less : target < c.count.result = omega (arith, below, ap length c.in_ok-table.ensures ∙ length-replicate c.count.result None) in
      ap (λ xs. get_or xs target None) c.in_ok-table.ensures ∙ get_or-replicate _ target None None less ∙ sym (first_begins (relocates c.args.sections.now target));
}

-- a table that was written back over as many
written_back : (new rest : List (Option ℕ)) (n : ℕ) → length new ≡ n → take n (new ++ rest) ≡ new
written_back new rest n e = let most : n ≤ length new = omega arith in rw take-append-le (take_all n new (omega arith))

pub loop-index-preserved : goal.loop-index-preserved
loop-index-preserved c =
    let slice : c.as_mut_slice.result.now ≡ c.loop-index.table.items = c.as_mut_slice.ensures.value in
    let back = written_back c.note.new.table _ c.loop-index.table.len (c.note.ensures.len ∙ c.as_mut_slice.ensures.len) in
    record {
      len = ap length back ∙ c.note.ensures.len ∙ ap length slice ∙ c.loop-index.invariant.len;
      first = subst (λ (table : List (Option ℕ)). IsFirstOfEach c.args.sections.now (c.loop-index.index + 1) table) (sym back) (λ target below.
          let less : target < length c.as_mut_slice.result.now = omega (arith, below, c.note.ensures.len) in
          let same = ap (λ table. get_or table target None) slice ∙ c.loop-index.invariant.first target (omega (arith, less, ap length slice)) in
          c.note.ensures.each target less
          ∙ noted c.args.sections.now _ _ target c.loop-index.index c.header-header.ensures same
          ∙ sym (first_step (relocates c.args.sections.now target) c.loop-index.index));
    }
