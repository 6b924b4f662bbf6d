-- The kept log is the longest suffix that names kept versions only. Assumes nothing.
use Rattle.std.proofs.Common.{◌≡◌, ◌≤◌, Bool, true, false, cond, ◌&&◌, List, [], ◌∷◌, ◌++◌, length, refl, ap, subst, arith, length-append}
use Rattle.std.proofs.lemmas.Bool.{and_parts, true≢false}
use Rattle.std.specs.List.{AllByRecursion}
use Rattle.model.specs.Version.{Version, LogEntry, version_ids}
use Rattle.model.specs.Build.{kept_log, names_only}
use Rattle.model.specs.Law.{Suffix, Member, LongestSuffix}
use Rattle.model.proofs.Basics.{holds_one, holds_none}
use Rattle.model.specs.Ids.{holds}

module _ (vs : List Version) where
  abbrev Good : LogEntry → Type 0
  Good e = (v : Version) × Member vs v × (v.id ≡ e.id)

  -- a list that names only those ids names kept versions only, and the other way
  named_good : (es : List LogEntry) → names_only (version_ids vs) es ≡ true → AllByRecursion Good es
  named_good [] h = tt
  named_good (e ∷ es) h = let q = and_parts (holds e.id (version_ids vs)) (names_only (version_ids vs) es) h in (holds_one e.id vs q.0, named_good es q.1)

  good_named : (es : List LogEntry) → names_only (version_ids vs) es ≡ false → AllByRecursion Good es → ⊥
  good_named [] h a = true≢false h
  good_named (e ∷ es) h a = go (holds e.id (version_ids vs)) refl h (λ h'. good_named es h' a.1)
    where
      go : (b : Bool) → holds e.id (version_ids vs) ≡ b → (b && names_only (version_ids vs) es) ≡ false → (names_only (version_ids vs) es ≡ false → ⊥) → ⊥
      go true q h' more = more h'
      go false q h' more = holds_none e.id vs q a.0.0 a.0.1 a.0.2

  ends : (es : List LogEntry) → Suffix (kept_log (version_ids vs) es) es
  ends [] = ([], refl)
  ends (e ∷ es) = go (names_only (version_ids vs) (e ∷ es)) (ends es)
    where
      go : (b : Bool) → Suffix (kept_log (version_ids vs) es) es → Suffix (cond b (e ∷ es) (kept_log (version_ids vs) es)) (e ∷ es)
      go true less = ([], refl)
      go false less = (e ∷ less.0, ap (λ t. e ∷ t) less.1)

  names : (es : List LogEntry) → AllByRecursion Good (kept_log (version_ids vs) es)
  names [] = tt
  names (e ∷ es) = go (names_only (version_ids vs) (e ∷ es)) refl (names es)
    where
      go : (b : Bool) → names_only (version_ids vs) (e ∷ es) ≡ b → AllByRecursion Good (kept_log (version_ids vs) es) → AllByRecursion Good (cond b (e ∷ es) (kept_log (version_ids vs) es))
      go true h less = named_good (e ∷ es) h
      go false h less = less

  longest : (es other : List LogEntry) → Suffix other es → AllByRecursion Good other → length other ≤ length (kept_log (version_ids vs) es)
  longest [] other s a = let p = ap length s.1 in omega (arith, length-append s.0 other, p)
  longest (e ∷ es) other s a = go (names_only (version_ids vs) (e ∷ es)) refl s.0 s.1 (λ s'. longest es other s' a)
    where
      shorter : (front : List LogEntry) → front ++ other ≡ e ∷ es → length other ≤ length (e ∷ es)
      shorter front p = let q = ap length p in omega (arith, length-append front other, q)

      go : (b : Bool) → names_only (version_ids vs) (e ∷ es) ≡ b → (front : List LogEntry) → front ++ other ≡ e ∷ es →
          (Suffix other es → length other ≤ length (kept_log (version_ids vs) es)) → length other ≤ length (cond b (e ∷ es) (kept_log (version_ids vs) es))
      go true h front p less = shorter front p
      go false h [] p less = absurd (good_named (e ∷ es) h (subst (AllByRecursion Good) p a))
      go false h (f ∷ front) p less = less (front, cc)

  pub walked_longest : (log : List LogEntry) → LongestSuffix vs log (kept_log (version_ids vs) log)
  walked_longest log = record { suffix = ends log; names_kept = names log; none_longer = longest log }
