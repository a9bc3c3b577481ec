use Rattle.std.proofs.Common.{rules, ◌≡◌, ◌++◌, ◌∷◌, ◌+◌, [], List, ℕ, length, ap, sym, subst, ◌∙◌}
use Rattle.elf_names.specs.Texts.{AreTexts, Has, texts_of}
use Rattle.elf_names.proofs.Grown.{IsNoted, are_more, are_unchanged, has_new, has_old, length_texts, texts_pushed, updated}
use Rattle.elf_names.proofs.texts.Texts.push.Goals as goal

pub invariant_of-self-in_err-insert : goal.invariant_of-self-in_err-insert
invariant_of-self-in_err-insert c =
    subst (λ ts. AreTexts ts c.insert.new.self) (ap texts_of (sym c.reserve.ensures.items))
    (are_unchanged _ c.self.inside.index _ c.in_err-insert.ensures.err c.self.invariant)

pushed : (c : goal.After-push_reserved) → (x : List ℕ) → Has c.args.self.now c.args.tail x
    → texts_of c.push_reserved.new.self.items ≡ c.args.self.now ++ (c.args.block.now ++ x) ∷ []
pushed c x there =
    texts_pushed c.self.inside.nodes.items _ c.args.tail c.args.block x (subst (λ ts. Has ts c.args.tail x) (sym c.self.view_is) there)
    (c.push_reserved.ensures.items ∙ ap (λ ns. ns ++ (c.args.tail, c.args.block) ∷ []) c.reserve.ensures.items)
    ∙ ap (λ ts. ts ++ (c.args.block.now ++ x) ∷ []) c.self.view_is

size : (c : goal.After-push_reserved) → c.len.result + 1 ≡ length c.args.self.now
size c =
    let nodes : length (texts_of c.self.inside.nodes.items) ≡ length c.self.inside.nodes.items + 1 = length_texts c.self.inside.nodes.items in
    let counted : c.len.result ≡ length c.self.inside.nodes.items = search rules in
    ap (λ n. n + 1) counted ∙ sym nodes ∙ ap length c.self.view_is

pub invariant_of-self-2 : goal.invariant_of-self-2
invariant_of-self-2 c =
    let x = c.requires.fits.0 in
    let texts = c.args.self.now in
    subst (λ ts. AreTexts ts c.insert.new.self) (sym (pushed c x c.requires.fits.1))
    (are_more texts c.self.inside.index c.insert.new.self c.args.tail c.args.block.now x
    (subst (λ ts. AreTexts ts c.self.inside.index) c.self.view_is c.self.invariant) c.requires.fits.1 c.requires.fits.2 (λ i. c.requires.missing i x c.requires.fits.1)
    (subst (λ n. IsNoted c.self.inside.index c.insert.new.self c.args.tail c.args.block.now n) (size c)
    (updated c.self.inside.index c.insert.new.self c.args.tail c.args.block (c.len.result + 1) c.in_ok-insert.ensures.updates)))

pub returns-clause-grown : goal.returns-clause-grown
returns-clause-grown c = λ n text has.
    let x = c.requires.fits.0 in
    subst (λ ts. Has ts n text) (sym (pushed c x c.requires.fits.1)) (has_old c.args.self.now (c.args.block.now ++ x) n text has)

pub returns-clause-put : goal.returns-clause-put
returns-clause-put c = λ x there.
    subst (λ n. Has (texts_of c.push_reserved.new.self.items) n (c.args.block.now ++ x)) (sym (size c))
    (subst (λ ts. Has ts (length c.args.self.now) (c.args.block.now ++ x)) (sym (pushed c x there)) (has_new c.args.self.now (c.args.block.now ++ x)))
