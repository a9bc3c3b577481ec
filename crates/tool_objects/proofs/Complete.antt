-- Each command is complete: where its files are delivered, an outcome that is explained is determined by them.
use Rattle.std.proofs.Common.{◌≡◌, ℕ, List, [], ◌∷◌, ◌++◌, Option, Some, map, refl, ap, subst}
use Rattle.tool_objects.proofs.Prelude.{Given, alone, joined, AreHeld, IsHeldNamed, Content, GaveAll, text_named, CompareWords, ExplainsCompare, IsCompareOf, asked_at, compare_status, CompareIsComplete, RewriteIsComplete, Objects, one, several, GaveObjects, HoldObjects, names_with, ExplainsRewrite, IsRewriteOf, RewriteWords, rewrite_status}
use Rattle.tool_common.proofs.Held.{same_bytes, same_named}
use Rattle.tool_objects.specs.declared.compare.CompareOutcome as C
use Rattle.tool_objects.specs.declared.compare.CompareOutcome.TheVariants as compares
use Rattle.tool_objects.specs.declared.rewrite.RewriteOutcome as W
use Rattle.tool_objects.specs.declared.rewrite.RewriteOutcome.TheVariants as rewrites

-- what was read of objects that are held is what they hold
same_all : (content : Content) (names all given : List (List ℕ)) → AreHeld content (map Some names) all → GaveAll content (map Some names) given → given ≡ all
same_all content [] [] [] held gave = refl
same_all content [] [] (g ∷ given) held gave = absurd gave
same_all content [] (a ∷ all) given held gave = absurd held
same_all content (name ∷ names) [] given held gave = absurd held
same_all content (name ∷ names) (a ∷ all) [] held gave = absurd gave
same_all content (name ∷ names) (a ∷ all) (g ∷ given) held gave =
    rw (same_bytes (content name) a g held.0 gave.0, same_all content names all given held.1 gave.1) refl

same_objects : (content : Content) (objects : Objects) (held gave : Given) → HoldObjects content objects held → GaveObjects content objects gave → gave ≡ held
same_objects content (one name) (alone a) (alone g) is_held gave = ap alone (same_bytes (content name) a g is_held gave)
same_objects content (one name) (alone a) (joined g) is_held gave = absurd gave
same_objects content (one name) (joined a) g is_held gave = absurd is_held
same_objects content (several names) (alone a) g is_held gave = absurd is_held
same_objects content (several names) (joined a) (alone g) is_held gave = absurd gave
same_objects content (several names) (joined a) (joined g) is_held gave = ap joined (same_all content names a g is_held gave)

held_both : (content : Content) (names more : List (Option (List ℕ))) (all others : List (List ℕ)) → AreHeld content names all → AreHeld content more others
    → AreHeld content (names ++ more) (all ++ others)
held_both content [] more [] others held also = also
held_both content [] more (bytes ∷ all) others held also = absurd held
held_both content (name ∷ names) more [] others held also = absurd held
held_both content (name ∷ names) more (bytes ∷ all) others held also = (held.0, held_both content names more all others held.1 also)

-- all files of a command are held
pub all_held : (content : Content) (objects : Objects) (given : Given) (names : List (Option (List ℕ))) (others : List (List ℕ)) → HoldObjects content objects given
    → AreHeld content names others → (all : List (List ℕ)) × AreHeld content (names_with objects names) all
all_held content (one name) (alone object) names others held also = (object ∷ others, (held, also))
all_held content (one name) (joined all) names others held also = absurd held
all_held content (several own) (alone object) names others held also = absurd held
all_held content (several own) (joined all) names others held also = (others ++ all, held_both content names (map Some own) others all also held)

-- what an explained rewriting says of what is held
rewritten_in : (content : Content) (words : RewriteWords) (result : W.RewriteOutcome) → ExplainsRewrite content words result → (given : Given) (policy : List ℕ)
    → HoldObjects content words.objects given → IsHeldNamed content words.policy policy → IsRewriteOf words given (text_named words.policy policy) result
rewritten_in content words result is given policy held policy_held =
    subst (λ (p : List ℕ). IsRewriteOf words given (text_named words.policy p) result) (same_named content words.policy policy is.policy_bytes policy_held is.policy_gave)
    (subst (λ (g : Given). IsRewriteOf words g (text_named words.policy is.policy_bytes) result) (same_objects content words.objects given is.given held is.objects_gave) is.rewrite_is)

pub rewrite_complete : (content : Content) (words : RewriteWords) (result : W.RewriteOutcome) → ExplainsRewrite content words result
    → RewriteIsComplete content words (rewrite_status result)
rewrite_complete content words (rewrites.Rewritten written) is = λ given policy held policy_held none. refl
rewrite_complete content words (rewrites.Refused refusal) is = λ given policy held policy_held none.
    absurd (none refusal (rewritten_in content words (rewrites.Refused refusal) is given policy held policy_held))

-- the contents of the files of a comparison
record CompareBytes : Type 0 where
  given : Given
  policy : List ℕ
  image : List ℕ
  map : List ℕ
  input : List ℕ

abbrev IsCompareIn : CompareWords → C.CompareOutcome → CompareBytes → Type 0
IsCompareIn words result b =
    IsCompareOf (asked_at b.map b.given words.entry (text_named words.policy b.policy)) b.image b.map b.input words.limit result

-- what an explained comparison says of the contents that are held
compared_in : (content : Content) (words : CompareWords) (result : C.CompareOutcome) → ExplainsCompare content words result → (b : CompareBytes)
    → HoldObjects content words.objects b.given
    → AreHeld content (words.policy ∷ Some words.image ∷ Some words.map ∷ words.input ∷ []) (b.policy ∷ b.image ∷ b.map ∷ b.input ∷ []) → IsCompareIn words result b
compared_in content words result is b objects_held held =
    let given = same_objects content words.objects b.given is.given objects_held is.objects_gave in
    let policy = same_named content words.policy b.policy is.policy_bytes held.0 is.policy_gave in
    let image = same_bytes (content words.image) b.image is.image_bytes held.1.0 is.image_gave in
    let map = same_bytes (content words.map) b.map is.map_bytes held.1.1.0 is.map_gave in
    let input = same_named content words.input b.input is.input_bytes held.1.1.1.0 is.input_gave in
    let read : CompareBytes = record { given = is.given; policy = is.policy_bytes; image = is.image_bytes; map = is.map_bytes; input = is.input_bytes } in
    let same : read ≡ b = λ i. record { given = given i; policy = policy i; image = image i; map = map i; input = input i } in
    subst (λ (c : CompareBytes). IsCompareIn words result c) same is.compare_is

pub compare_complete : (content : Content) (words : CompareWords) (result : C.CompareOutcome) → ExplainsCompare content words result
    → CompareIsComplete content words (compare_status result)
compare_complete content words (compares.Refused refusal) is = λ given policy image map input objects held none.
    let b : CompareBytes = record { given = given; policy = policy; image = image; map = map; input = input } in
    absurd (none refusal (compared_in content words (compares.Refused refusal) is b objects held))
compare_complete content words (compares.Compared result) is = λ given policy image map input objects held none.
    let b : CompareBytes = record { given = given; policy = policy; image = image; map = map; input = input } in
    (result, compared_in content words (compares.Compared result) is b objects held, refl)
