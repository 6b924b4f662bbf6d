-- Versions with ascending ids, one of them current, have a ranking. Assumes nothing.
use Rattle.std.proofs.Common.{◌≡◌, Bool, true, false, cond, not, ◌⊎◌, List, [], ◌∷◌, ◌++◌, ℤ, ◌<ℤ◌, filter, sym, refl, ap, ◌∙◌, subst, inl, inr}
use Rattle.std.proofs.lemmas.Bool.{true≢false}
use Rattle.std.proofs.ByRecursion.{All-push}
use Rattle.std.specs.List.{AllByRecursion}
use Rattle.model.specs.Version.{Version, version_ids}
use Rattle.model.specs.Law.{Ascending, Member, Descending, Ranked}
use Rattle.model.proofs.Basics.{same_true, same_eq, all_one}
use Rattle.model.proofs.Counts.{Distinct, kept_from, kept_one}
use Rattle.model.proofs.Ranks.{rising_distinct}
use Rattle.model.specs.Ids.{same_number}

-- the last first
abbrev downward : List Version → List Version
downward [] = []
downward (v ∷ vs) = downward vs ++ v ∷ []

module _ (P : ℤ → Type 0) where
  all_kept : (test : Version → Bool) (vs : List Version) → AllByRecursion P (version_ids vs) → AllByRecursion P (version_ids (filter test vs))
  all_kept test [] a = tt
  all_kept test (v ∷ vs) a = go (test v) (all_kept test vs a.1)
    where
      go : (b : Bool) → AllByRecursion P (version_ids (filter test vs)) → AllByRecursion P (version_ids (cond b (v ∷ filter test vs) (filter test vs)))
      go true r = (a.0, r)
      go false r = r

  all_down : (vs : List Version) → AllByRecursion P (version_ids vs) → AllByRecursion (λ v. P v.id) (downward vs)
  all_down [] a = tt
  all_down (v ∷ vs) a = All-push (λ w. P w.id) (downward vs) v (all_down vs a.1) a.0

pub kept_rising : (test : Version → Bool) (vs : List Version) → Ascending (version_ids vs) → Ascending (version_ids (filter test vs))
kept_rising test [] r = tt
kept_rising test (v ∷ vs) r = go (test v) (all_kept (λ j. v.id <ℤ j) test vs r.0) (kept_rising test vs r.1)
  where
    go : (b : Bool) → AllByRecursion (λ j. v.id <ℤ j) (version_ids (filter test vs)) → Ascending (version_ids (filter test vs)) → Ascending (version_ids (cond b (v ∷ filter test vs) (filter test vs)))
    go true a k = (a, k)
    go false a k = k

falling_push : (vs : List Version) (v : Version) → Descending vs → AllByRecursion (λ w. v.id <ℤ w.id) vs → Descending (vs ++ v ∷ [])
falling_push [] v f a = (tt, tt)
falling_push (w ∷ vs) v f a = (All-push (λ x. x.id <ℤ w.id) vs v f.0 a.0, falling_push vs v f.1 a.1)

down_falls : (vs : List Version) → Ascending (version_ids vs) → Descending (downward vs)
down_falls [] r = tt
down_falls (v ∷ vs) r = falling_push (downward vs) v (down_falls vs r.1) (all_down (λ j. v.id <ℤ j) vs r.0)

one_left : (xs ys : List Version) (v : Version) → Member xs v → Member (xs ++ ys) v
one_left [] ys v o = absurd o
one_left (x ∷ xs) ys v (inl e) = inl e
one_left (x ∷ xs) ys v (inr o) = inr (one_left xs ys v o)

one_last : (xs : List Version) (w v : Version) → w ≡ v → Member (xs ++ w ∷ []) v
one_last [] w v e = inl e
one_last (x ∷ xs) w v e = inr (one_last xs w v e)

one_push : (xs : List Version) (w v : Version) → Member (xs ++ w ∷ []) v → Member xs v ⊎ (w ≡ v)
one_push [] w v (inl e) = inr e
one_push [] w v (inr o) = absurd o
one_push (x ∷ xs) w v (inl e) = inl (inl e)
one_push (x ∷ xs) w v (inr o) = go (one_push xs w v o)
  where
    go : Member xs v ⊎ (w ≡ v) → Member (x ∷ xs) v ⊎ (w ≡ v)
    go (inl r) = inl (inr r)
    go (inr e) = inr e

to_down : (vs : List Version) (v : Version) → Member vs v → Member (downward vs) v
to_down [] v o = o
to_down (w ∷ vs) v (inl e) = one_last (downward vs) w v e
to_down (w ∷ vs) v (inr o) = one_left (downward vs) (w ∷ []) v (to_down vs v o)

from_down : (vs : List Version) (v : Version) → Member (downward vs) v → Member vs v
from_down [] v o = o
from_down (w ∷ vs) v o = go (one_push (downward vs) w v o) (from_down vs v)
  where
    go : Member (downward vs) v ⊎ (w ≡ v) → (Member (downward vs) v → Member vs v) → Member (w ∷ vs) v
    go (inl r) more = inr (more r)
    go (inr e) more = inl e

-- where no two have one id, those of one id are one
only_one : (vs : List Version) (v w : Version) → Distinct vs → Member vs v → Member vs w → v.id ≡ w.id → v ≡ w
only_one [] v w d o p e = absurd o
only_one (x ∷ vs) v w d (inl a) (inl b) e = sym a ∙ b
only_one (x ∷ vs) v w d (inl a) (inr p) e = absurd (all_one (λ y. y.id ≡ x.id → ⊥) vs w d.0 p (sym e ∙ ap (λ (y : Version). y.id) (sym a)))
only_one (x ∷ vs) v w d (inr o) (inl b) e = absurd (all_one (λ y. y.id ≡ x.id → ⊥) vs v d.0 o (e ∙ ap (λ (y : Version). y.id) (sym b)))
only_one (x ∷ vs) v w d (inr o) (inr p) e = only_one vs v w d.1 o p e

pub ranking : (vs : List Version) (current : ℤ) → Ascending (version_ids vs) → (first : Version) → Member vs first → first.id ≡ current → (ranks : List Version) × Ranked current vs ranks
ranking vs current rise first there is_current = (
  first ∷ downward (filter other vs),
  record {
    first = first;
    others = downward (filter other vs);
    is = refl;
    first_current = is_current;
    others_not = none_current (downward (filter other vs)) (λ v o. (kept_from other vs v (from_down (filter other vs) v o)).1);
    others_fall = down_falls (filter other vs) (kept_rising other vs rise);
    from_held = λ v o. places_it v o (same_number v.id current) refl;
    to_held = λ v. elim [ inl e ↦ subst (Member vs) e there | inr o ↦ (kept_from other vs v (from_down (filter other vs) v o)).0 ];
  },
)
  where
    other : Version → Bool
    other v = not (same_number v.id current)

    none_current : (ws : List Version) → ((v : Version) → Member ws v → other v ≡ true) → AllByRecursion (λ v. v.id ≡ current → ⊥) ws
    none_current [] h = tt
    none_current (w ∷ ws) h = ((λ e. true≢false (sym (h w (inl refl)) ∙ ap not (same_eq w.id current e))), none_current ws (λ v o. h v (inr o)))

    places_it : (v : Version) → Member vs v → (b : Bool) → same_number v.id current ≡ b → Member (first ∷ downward (filter other vs)) v
    places_it v o true q = inl (only_one vs first v (rising_distinct vs rise) there o (is_current ∙ sym (same_true v.id current q)))
    places_it v o false q = inr (to_down (filter other vs) v (kept_one other vs v o (ap not q)))
