use Rattle.std.proofs.Common.{◌≡◌, true, rules, [], ◌∷◌, Some, refl}
use Rattle.tool_objects.proofs.Prelude.{AreRead, file_names, names_with, compare_asked}
use Rattle.tool_common.proofs.InOrder.{none_yet, read_less}
use Rattle.tool_objects.proofs.compare.compare_files.Goals as goal

pub returns-clause-explained : goal.returns-clause-explained
returns-clause-explained g c = c.in_ok-compare_read.ensures (g.F.Files.content c.args.files.now) (search rules)

pub returns-in_err-names-clause-in_order : goal.returns-in_err-names-clause-in_order
returns-in_err-names-clause-in_order g c = none_yet _ _ _ (search rules)

pub returns-in_err-compare_read-clause-in_order : goal.returns-in_err-compare_read-clause-in_order
returns-in_err-compare_read-clause-in_order g c =
    let words = compare_asked c.args.request.now in
    let read : AreRead (g.F.Files.reads c.args.files.now) (g.F.Files.reads c.read_all.new.files) (file_names (names_with words.objects (words.policy ∷ Some words.image ∷ Some words.map ∷ words.input ∷ []))) (true ≡ true) = search rules in
    read_less _ _ _ _ _ read (λ _. refl)
