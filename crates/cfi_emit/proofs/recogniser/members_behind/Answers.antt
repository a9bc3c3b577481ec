use Rattle.std.proofs.Common.{◌≡◌, ◌∙◌, ◌++◌, ◌∷◌, [], ◌+◌, ◌-◌, List, ap, arith, length, subst, sym}
use Rattle.std.proofs.lemmas.List.{length-append}
use Rattle.cfi_unit.specs.Members.{member_of}
use Rattle.cfi_unit.specs.Recognise.{read_each}
use Rattle.cfi_unit.specs.declared.members.Member.{Member}
use Rattle.cfi_emit.proofs.ReadEach.{read_end, read_on, read_stop}
use Rattle.cfi_emit.proofs.recogniser.members_behind.Goals as goal

pub returns-in-None : goal.returns-in-None
returns-in-None c =
    let ws = c.args.words.now in
    let k = c.loop-index.index in
    let from = c.mask_words-first.result in
    read_stop member_of 1 ws c.loop-index.members (read_each member_of 1 ws from 16) (from + k) (16 - k) c.loop-index.invariant.read (16 - (k + 1))
    (omega (arith, c.loop-index-test.true)) (ap member_of (sym c.instr.ensures) ∙ sym c.member.ensures ∙ c.in-None.is)
    ∙ ap (λ n. read_each member_of 1 ws n 16) c.mask_words-first.ensures.value

pub loop-index-preserved : goal.loop-index-preserved
loop-index-preserved c =
    let ws = c.args.words.now in
    let k = c.loop-index.index in
    let from = c.mask_words-first.result in
    let all = read_each member_of 1 ws from 16 in
    let more =
    read_on member_of 1 ws c.loop-index.members all (from + k) (16 - k) c.loop-index.invariant.read c.in-Some.member (from + (k + 1)) (16 - (k + 1))
    (omega arith) (omega (arith, c.loop-index-test.true)) (ap member_of (sym c.instr.ensures) ∙ sym c.member.ensures ∙ c.in-Some.is) in
    let longer : length c.push.new.self ≡ length c.loop-index.members + 1 =
    ap length c.push.ensures ∙ length-append c.loop-index.members (c.in-Some.member ∷ []) in
    record {
      read = subst (λ (ms : List Member). ms ++ read_each member_of 1 ws (from + (k + 1)) (16 - (k + 1)) ≡ all) (sym c.push.ensures) more;
      counted = omega (arith, longer, c.loop-index.invariant.counted);
      few = omega (arith, c.loop-index-test.true);
    }

pub returns : goal.returns
returns c =
    let ws = c.args.words.now in
    let k = c.loop-index.index in
    let from = c.mask_words-first.result in
    read_end member_of 1 ws c.loop-index.members (read_each member_of 1 ws from 16) (from + k) (16 - k) c.loop-index.invariant.read (omega (arith, c.loop-index-test.false))
    ∙ ap (λ n. read_each member_of 1 ws n 16) c.mask_words-first.ensures.value
