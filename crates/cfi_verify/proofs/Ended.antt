-- A scan that has come to the length that the graph gives: what its listing tells of the code.
use Rattle.std.proofs.Common.{◌≡◌, ℕ, ◌-◌, ◌/◌, List, length, sym, ap, subst, ◌∙◌, arith}
use Rattle.cfi_verify.proofs.Prelude.{Versions, Contents, Profile, profile_with, GraphParts, HasSeen, IsOf, Listed, Sight, prologue_count, Scanned, Tells, numbers_in, StartParts, profile_in, code_words}
use Rattle.cfi_starts.proofs.Laid.{laid_with}
use Rattle.cfi_verify.proofs.Told.{tells}

pub record Ended (p : Profile) (self : Scanned) (t : Listed) (image : Contents) : Type 0 where
  pub told : Tells p (numbers_in self.graph) t (code_words image.code)
  pub length_is : self.graph.code ≡ length image.code

module _ (self : Scanned) (feeder : Sight) (graph : GraphParts) (t : Listed) (view : ◌≡◌ {A = Scanned} (record { seen = feeder; graph = graph }) self) (of : (bytes : List ℕ) → HasSeen (profile_with feeder.versions) feeder bytes → IsOf (profile_with feeder.versions) feeder.calls t bytes) where
  pub is_of : (image : Contents) → HasSeen (profile_with self.seen.versions) self.seen image.code → IsOf (profile_with self.seen.versions) self.seen.calls t image.code
  is_of image has =
      subst (λ (s : Scanned). IsOf (profile_with s.seen.versions) s.seen.calls t image.code) view
      (of image.code (subst (λ (s : Scanned). HasSeen (profile_with s.seen.versions) s.seen image.code) (sym view) has))

  pub ended : length t.entries ≡ length feeder.entries → length feeder.entries ≡ graph.code / 4 - prologue_count (profile_with feeder.versions) → feeder.calls ≡ numbers_in graph → t.fed ≡ graph.code →
      (image : Contents) → HasSeen (profile_with self.seen.versions) self.seen image.code → Ended (profile_with self.seen.versions) self t image
  ended kept room calls fed image has =
      let seen = is_of image has in
      let p : Profile = profile_with self.seen.versions in
      let fits : length feeder.entries ≡ graph.code / 4 - prologue_count p =
      subst (λ (s : Scanned). length feeder.entries ≡ graph.code / 4 - prologue_count (profile_with s.seen.versions)) view room in
      let under : self.seen.calls ≡ numbers_in self.graph = subst (λ (s : Scanned). s.seen.calls ≡ numbers_in s.graph) view calls in
      record {
        told =
            subst (λ (ns : List ℕ). Tells p ns t (code_words image.code)) under
            (tells p (laid_with self.seen.versions) self.seen.calls t image.code seen (omega arith));
        length_is = ap (λ (s : Scanned). s.graph.code) (sym view) ∙ sym fed ∙ seen.fed;
      }

-- a listing and a graph that are kept together, of a scan's version
module _ (self : Scanned) (starts : StartParts) (t : Listed) (graph : GraphParts) (kept : ◌≡◌ {A = StartParts} starts (record { listing = t; graph = graph })) (versions : t.versions ≡ self.seen.versions) (same : graph ≡ self.graph) where
  pub told_of : (words : List ℕ) → Tells (profile_with self.seen.versions) (numbers_in self.graph) t words → Tells (profile_in starts) (numbers_in starts.graph) starts.listing words
  told_of words told =
      subst (λ (s : StartParts). Tells (profile_in s) (numbers_in s.graph) s.listing words) (sym kept)
      (subst (λ (v : Versions). Tells (profile_with v) (numbers_in graph) t words) (sym versions)
      (subst (λ (g : GraphParts). Tells (profile_with self.seen.versions) (numbers_in g) t words) (sym same) told))

  pub asked : (P : Profile → GraphParts → Type 0) → P (profile_in starts) starts.graph → P (profile_with self.seen.versions) self.graph
  asked P holds =
      subst (λ (g : GraphParts). P (profile_with self.seen.versions) g) same
      (subst (λ (v : Versions). P (profile_with v) graph) versions
      (subst (λ (s : StartParts). P (profile_in s) s.graph) kept holds))
