use Rattle.std.proofs.Common.{◌≡◌, ◌+◌, ◌%◌, ◌≤◌, [], length, sym, ◌∙◌, arith}
use Rattle.std.proofs.lemmas.Bool.Decides.{nat_tests}
use Rattle.std.proofs.lemmas.List.{get_or_past}
use Rattle.rv_mem.specs.Cells.{memory_of}
use Rattle.rv_mem.specs.Pages.{PAGE_SIZE}
use Rattle.rv_mem.proofs.InMemory.{read_rest}
use Rattle.rv_mem.proofs.memory.Memory.word_beyond.Goals as goal

pub returns-then-ends_in_page : goal.returns-then-ends_in_page
returns-then-ends_in_page c =
    let bytes = c.rest_of_page-bytes.result.now in
    let none : length bytes ≡ 0 = grind (arith, nat_tests) in
    let fits : c.args.addr % PAGE_SIZE + 4 ≤ PAGE_SIZE = grind (arith, nat_tests) in
    read_rest 4 [] (memory_of c.args.self.now) c.args.addr (λ k low. sym (get_or_past bytes k 0 (omega arith)) ∙ c.rest_of_page-bytes.ensures.past k (omega arith))
