-- No version is entered at a start, and what build answers. Assumes nothing.
use Rattle.std.proofs.Common.{◌≡◌, ℕ, Bool, true, false, cond, not, ◌&&◌, List, [], ◌∷◌, ℤ, Some, None, Ok, Option, sym, refl, ap, ◌∙◌, inl, inr, arith, drop_of_length-le}
use Rattle.model.specs.Version.{Version, schema_ids}
use Rattle.model.specs.State.{Change, Metadata, State, entered}
use Rattle.model.specs.Refusals.{over}
use Rattle.model.specs.Start.{started}
use Rattle.model.specs.Build.{drop_allowed, look_up, loses_dialect, with_entry, built_metadata, build_at, build}
use Rattle.model.specs.Law.{Member}
use Rattle.model.proofs.Basics.{same_true, ok_is, ok_not_err, refuse_ok}
use Rattle.model.specs.Ids.{same_number, find, holds}
use Rattle.model.specs.Settings.{drop_key}

-- what is found is one of the list, and has the id
found_one : (i : ℤ) (vs : List Version) (v : Version) → find (λ w. w.id) i vs ≡ Some v → Member vs v × (v.id ≡ i)
found_one i [] v e = let z : ◌≡◌ {A = ℕ} 0 1 = cc in absurd (omega arith)
found_one i (w ∷ vs) v e = go (same_number w.id i) refl e (found_one i vs v)
  where
    go : (b : Bool) → same_number w.id i ≡ b → cond b (Some w) (find (λ x. x.id) i vs) ≡ Some v → (find (λ x. x.id) i vs ≡ Some v → Member vs v × (v.id ≡ i)) → Member (w ∷ vs) v × (v.id ≡ i)
    go true q e' more = let p : w ≡ v = cc in (inl p, ap (λ (x : Version). x.id) (sym p) ∙ same_true w.id i q)
    go false q e' more = let r = more e' in (inr r.0, r.1)

module _ {C : Type 0} where
  pub start_entered : (initial : Metadata C) → entered (started initial) ≡ []
  start_entered initial = drop_of_length-le initial.versions (omega arith)

  -- an accepted build answers the built metadata and the changes, and found the current version
  pub build_ok : (s : State C) (m : Metadata C) (cs : List (Change C)) → build s ≡ Ok (m, cs) →
      (built_metadata s ≡ m) × (s.changes ≡ cs) × ((v : Version) × Member s.metadata.versions v × (v.id ≡ s.metadata.current_version_id))
  unfolding build
  build_ok s m cs e = go (find (λ v. v.id) s.metadata.current_version_id s.metadata.versions) refl e
    where
      go : (o : Option Version) → find (λ v. v.id) s.metadata.current_version_id s.metadata.versions ≡ o → build_at s o ≡ Ok (m, cs) →
          (built_metadata s ≡ m) × (s.changes ≡ cs) × ((v : Version) × Member s.metadata.versions v × (v.id ≡ s.metadata.current_version_id))
      go None f e' = ok_not_err e'
      go (Some v) f e' =
          let r = refuse_ok (not (holds v.content.schema_id (schema_ids s.metadata.schemas))) _ _ (m, cs) e' in
          let q = refuse_ok (not (drop_allowed (look_up drop_key s.metadata.properties)) && loses_dialect s.previous_version v.content) _ _ (m, cs) r.1 in
          let room = refuse_ok (over s.rooms.version_log (with_entry s.metadata.version_log s.pending_entry)) _ _ (m, cs) q.1 in
          let p : ◌≡◌ {A = Metadata C × List (Change C)} (built_metadata s, s.changes) (m, cs) = ok_is room.1 in
          let found = found_one s.metadata.current_version_id s.metadata.versions v f in
          (ap (λ x. x.0) p, ap (λ x. x.1) p, (v, found.0, found.1))
