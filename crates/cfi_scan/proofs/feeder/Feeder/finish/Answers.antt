use Rattle.std.proofs.Common.{◌≡◌, ℕ, ◌/◌, min, sym, subst, length, take, drop, arith}
use Rattle.std.proofs.lemmas.List.{length-drop}
use Rattle.rv_image.specs.declared.version.Versions.{Versions}
use Rattle.rv_image.specs.MemoryMap.{Profile, profile_with}
use Rattle.cfi_scan.specs.Pieces.{HasSeen, IsOf, Listed, Sight, prologue_count}
use Rattle.cfi_scan.proofs.Pieces.{ended, seen_count}
use Rattle.cfi_scan.proofs.feeder.Feeder.finish.Goals as goal

pub returns-clause-of : goal.returns-clause-of
returns-clause-of c bytes seen =
    let k = c.self.inside.kept in
    let t = c.self.inside.carry in
    let p : Profile = profile_with k.units.front in
    let own = subst (λ (s : Sight). HasSeen (profile_with s.versions) s bytes) (sym c.self.view_is) seen in
    let front : c.words-words.result ≡ prologue_count p = c.words-words.ensures.count in
    let count : length (drop (prologue_count p) own.words) ≡ c.saturating_sub.result = omega (arith, front, length-drop (prologue_count p) own.words, seen_count p k t bytes own, c.fed-fed.ensures, c.saturating_sub.ensures) in
    let shut = c.close.new.self in
    let fed : ℕ = c.fed-fed.result in
    let left : Versions → Listed = λ v. record {
      versions = v;
      prologue = take (min (fed / 4) (prologue_count (profile_with v))) k.prologue;
      entries = shut.entries.items;
      done = shut.done;
      last = shut.last;
      fed = fed;
    } in
    subst (λ (s : Sight). IsOf (profile_with s.versions) s.calls (left shut.front) bytes) c.self.view_is
    (subst (λ (v : Versions). IsOf p k.units.calls (left v) bytes) (sym c.close.ensures.front)
    (ended p k t shut.entries.items shut.done shut.last fed bytes own c.fed-fed.ensures c.close.ensures.room
    (λ fits. c.close.ensures.splits (drop (prologue_count p) own.words) count (omega (arith, fits, count)))))
