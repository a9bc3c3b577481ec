-- A code that is fed piece by piece: one piece more, and the end.
use Rattle.std.proofs.Common.{◌≡◌, ◌<◌, ℕ, ◌+◌, List, [], ◌∷◌, ◌++◌, drop, get_or, length, length-append, refl, sym, ap, subst, ◌∙◌, arith, append_assoc}
use Rattle.std.specs.List.{concat}
use Rattle.std.proofs.lemmas.List.{append-nil, drop_more}
use Rattle.std.proofs.lemmas.List.Concat.{concat_is, flat_map-cons}
use Rattle.cfi_verify.proofs.Prelude.{Versions, profile_with, HasSeen, Scanned}

-- between two moments a scan has taken a part of a code, and the rest is left
pub record IsFed (code rest : List ℕ) (before now : Scanned) : Type 0 where
  pub taken : List ℕ
  pub cut : taken ++ rest ≡ code
  pub seen : (bytes : List ℕ) → HasSeen (profile_with before.seen.versions) before.seen bytes → HasSeen (profile_with before.seen.versions) now.seen (bytes ++ taken)
  pub versions : now.seen.versions ≡ before.seen.versions
  pub fed : now.seen.fed ≡ before.seen.fed + length taken
  pub graph : now.graph ≡ before.graph

pub fed_begins : (code : List ℕ) (s : Scanned) → IsFed code code s s
fed_begins code s = record {
  taken = [];
  cut = refl;
  seen = λ bytes has. subst (HasSeen (profile_with s.seen.versions) s.seen) (sym (append-nil bytes)) has;
  versions = refl;
  fed = omega arith;
  graph = refl;
}

-- what a feed says
pub record Feeds (piece : List ℕ) (before now : Scanned) : Type 0 where
  pub seen : (bytes : List ℕ) → HasSeen (profile_with before.seen.versions) before.seen bytes → HasSeen (profile_with before.seen.versions) now.seen (bytes ++ piece)
  pub versions : now.seen.versions ≡ before.seen.versions
  pub fed : now.seen.fed ≡ before.seen.fed + length piece
  pub graph : now.graph ≡ before.graph

pub fed_more : (code rest piece next : List ℕ) (before now after : Scanned) → IsFed code rest before now → piece ++ next ≡ rest → Feeds piece now after → IsFed code next before after
fed_more code rest piece next before now after f parts feeds =
    let sum = length-append f.taken piece in
    let one = f.fed in
    let two = feeds.fed in
    record {
      taken = f.taken ++ piece;
      cut = append_assoc f.taken piece next ∙ ap (λ xs. f.taken ++ xs) parts ∙ f.cut;
      seen = λ bytes has.
          subst (HasSeen (profile_with before.seen.versions) after.seen) (append_assoc bytes f.taken piece)
          (subst (λ (v : Versions). HasSeen (profile_with v) after.seen ((bytes ++ f.taken) ++ piece)) f.versions
          (feeds.seen (bytes ++ f.taken) (subst (λ (v : Versions). HasSeen (profile_with v) now.seen (bytes ++ f.taken)) (sym f.versions) (f.seen bytes has))));
      versions = feeds.versions ∙ f.versions;
      fed = omega (arith, sum, one, two);
      graph = feeds.graph ∙ f.graph;
    }

-- what is left fits too
pub fed_room : (code rest : List ℕ) (before now : Scanned) → IsFed code rest before now → now.seen.fed + length rest ≡ before.seen.fed + length code
fed_room code rest before now f =
    let sum = length-append f.taken rest in
    let whole = ap length f.cut in
    let one = f.fed in
    omega (arith, sum, whole, one)

pub fed_all : (code : List ℕ) (before now : Scanned) → IsFed code [] before now → Feeds code before now
fed_all code before now f =
    let whole : f.taken ≡ code = sym (append-nil f.taken) ∙ f.cut in record {
      seen = λ bytes has. subst (λ (xs : List ℕ). HasSeen (profile_with before.seen.versions) now.seen (bytes ++ xs)) whole (f.seen bytes has);
      versions = f.versions;
      fed = f.fed ∙ ap (λ xs. before.seen.fed + length xs) whole;
      graph = f.graph;
    }

-- one of several pieces, and those that follow it
concat-cons : (xs : List ℕ) (xss : List (List ℕ)) → xs ++ concat xss ≡ concat (xs ∷ xss)
concat-cons xs xss = ap (λ ys. xs ++ ys) (concat_is xss) ∙ sym (flat_map-cons (λ x. x) xs xss) ∙ sym (concat_is (xs ∷ xss))

pub next_piece : (pieces : List (List ℕ)) (k : ℕ) (d : List ℕ) → k < length pieces → get_or pieces k d ++ concat (drop (k + 1) pieces) ≡ concat (drop k pieces)
next_piece pieces k d below = concat-cons (get_or pieces k d) (drop (k + 1) pieces) ∙ ap concat (sym (drop_more pieces k d below))
