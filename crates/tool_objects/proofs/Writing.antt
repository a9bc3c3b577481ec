-- Files that are written one after the other.
use Rattle.std.proofs.Common.{◌≢◌, ◌∙◌, ℕ, List, [], ◌∷◌, ◌++◌, Option, Some, None, refl, sym, subst}
use Rattle.std.specs.Prelude.{⊤}
use Rattle.tool_objects.proofs.Prelude.{Becomes, Ghosts, AreApart, AreWhole, IsCut, IsOther, IsTold, IsTorn, OutputParts, Wrote}

other_both : (done more : List OutputParts) (name : List ℕ) → IsOther (done ++ more) name → IsOther done name × IsOther more name
other_both [] more name other = (tt, other)
other_both (output ∷ done) more name other =
    let rest = other_both done more name other.1 in
    ((other.0, rest.0), rest.1)

module _ {S : Type 0} (files : Ghosts S) (a b c : S) (more : List OutputParts) (torn : Option (List ℕ)) (next : Wrote files b c more torn) where
  -- each of these files is one that the next writes leave alone
  abbrev pub AreLeft : List OutputParts → Type 0
  AreLeft [] = ⊤
  AreLeft (output ∷ done) = (IsOther more output.name × IsTold torn output.name) × AreLeft done

  left_whole : (done : List OutputParts) → AreLeft done → AreWhole files a b done → AreWhole files a c done
  left_whole [] left whole = tt
  left_whole (output ∷ done) left whole = (
    record {
      bytes = subst (λ (held : Option (List ℕ)). Becomes (files.content a output.name) held output.bytes)
          (sym (next.kept output.name left.0.0 left.0.1)) whole.0.bytes;
      there = λ absent. whole.0.there ((next.absence_kept output.name left.0.0 left.0.1).0 absent);
    },
    left_whole done left.1 whole.1,
  )

  module _ (done : List OutputParts) (first : Wrote files a b done None) where
    -- each of the next is none of the first
    abbrev pub AreNew : List OutputParts → Type 0
    AreNew [] = ⊤
    AreNew (output ∷ others) = IsOther done output.name × AreNew others

    new_whole : (others : List OutputParts) → AreNew others → AreWhole files b c others → AreWhole files a c others
    new_whole [] new whole = tt
    new_whole (output ∷ others) new whole = (
      record {
        bytes = subst (λ (held : Option (List ℕ)). Becomes held (files.content c output.name) output.bytes)
            (first.kept output.name new.0 tt) whole.0.bytes;
        there = whole.0.there;
      },
      new_whole others new.1 whole.1,
    )

    both_whole : (xs ys : List OutputParts) → AreWhole files a c xs → AreWhole files a c ys → AreWhole files a c (xs ++ ys)
    both_whole [] ys left right = right
    both_whole (output ∷ xs) ys left right = (left.0, both_whole xs ys left.1 right)

    -- the first were written, and then the next
    pub wrote_then : AreLeft done → AreNew more → Wrote files a c (done ++ more) torn
    wrote_then left new = record {
      whole = both_whole done more (left_whole done left first.whole) (new_whole more new next.whole);
      kept = λ name other told. next.kept name (other_both done more name other).1 told ∙ first.kept name (other_both done more name other).0 tt;
      absence_kept = λ name other told.
          let later = next.absence_kept name (other_both done more name other).1 told in
          let earlier = first.absence_kept name (other_both done more name other).0 tt in
          (λ absent. earlier.0 (later.0 absent), λ absent. later.1 (earlier.1 absent));
    }

-- three files, of which each may be the last that is written
module _ {S : Type 0} (files : Ghosts S) (image graph map : OutputParts) (apart : AreApart (image ∷ graph ∷ map ∷ [])) where
  graph_other : graph.name ≢ image.name
  graph_other = λ e. apart.0.0 (sym e)

  map_other : (map.name ≢ image.name) × (map.name ≢ graph.name)
  map_other = (λ e. apart.0.1.0 (sym e), λ e. apart.1.0.0 (sym e))

  pub two_whole : (a b c : S) → Wrote files a b (image ∷ []) None → Wrote files b c (graph ∷ []) None → Wrote files a c (image ∷ graph ∷ []) None
  two_whole a b c first second =
      wrote_then files a b c (graph ∷ []) None second (image ∷ []) first (((apart.0.0, tt), tt), tt) ((graph_other, tt), tt)

  pub three_whole : (a b c d : S) → Wrote files a b (image ∷ []) None → Wrote files b c (graph ∷ []) None → Wrote files c d (map ∷ []) None
      → Wrote files a d (image ∷ graph ∷ map ∷ []) None
  three_whole a b c d first second third =
      wrote_then files a c d (map ∷ []) None third (image ∷ graph ∷ []) (two_whole a b c first second)
      (((apart.0.1.0, tt), tt), (((apart.1.0.0, tt), tt), tt)) ((map_other.0, (map_other.1, tt)), tt)

  pub first_torn : (a b : S) → Wrote files a b [] (Some image.name) → IsTorn files a b (image ∷ graph ∷ map ∷ [])
  first_torn a b first = record { done = []; failed = image; left = graph ∷ map ∷ []; split = refl; wrote = first }

  pub second_torn : (a b c : S) → Wrote files a b (image ∷ []) None → Wrote files b c [] (Some graph.name) → IsTorn files a c (image ∷ graph ∷ map ∷ [])
  second_torn a b c first second = record {
    done = image ∷ [];
    failed = graph;
    left = map ∷ [];
    split = refl;
    wrote = wrote_then files a b c [] (Some graph.name) second (image ∷ []) first ((tt, apart.0.0), tt) tt;
  }

  pub third_torn : (a b c d : S) → Wrote files a b (image ∷ []) None → Wrote files b c (graph ∷ []) None → Wrote files c d [] (Some map.name)
      → IsTorn files a d (image ∷ graph ∷ map ∷ [])
  third_torn a b c d first second third = record {
    done = image ∷ graph ∷ [];
    failed = map;
    left = [];
    split = refl;
    wrote = wrote_then files a c d [] (Some map.name) third (image ∷ graph ∷ []) (two_whole a b c first second)
        ((tt, apart.0.1.0), ((tt, apart.1.0.0), tt)) tt;
  }

  pub first_cut : (a b : S) → Wrote files a b [] None → IsCut files a b (image ∷ graph ∷ map ∷ [])
  first_cut a b first = record { done = []; left = image ∷ graph ∷ map ∷ []; split = refl; wrote = first }

  pub second_cut : (a b c : S) → Wrote files a b (image ∷ []) None → Wrote files b c [] None → IsCut files a c (image ∷ graph ∷ map ∷ [])
  second_cut a b c first second = record {
    done = image ∷ [];
    left = graph ∷ map ∷ [];
    split = refl;
    wrote = wrote_then files a b c [] None second (image ∷ []) first ((tt, tt), tt) tt;
  }

  pub third_cut : (a b c d : S) → Wrote files a b (image ∷ []) None → Wrote files b c (graph ∷ []) None → Wrote files c d [] None
      → IsCut files a d (image ∷ graph ∷ map ∷ [])
  third_cut a b c d first second third = record {
    done = image ∷ graph ∷ [];
    left = map ∷ [];
    split = refl;
    wrote = wrote_then files a c d [] None third (image ∷ graph ∷ []) (two_whole a b c first second) ((tt, tt), ((tt, tt), tt)) tt;
  }
