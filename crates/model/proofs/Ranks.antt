-- The versions that stay are the first of the ranking. Assumes nothing.
use Rattle.std.proofs.Common.{◌≡◌, ℕ, zero, suc, ◌+◌, ◌-◌, ◌<◌, ◌≤◌, Bool, true, false, cond, ◌&&◌, ◌||◌, eqb, ltb, leb, ◌⊎◌, ◌↔◌, List, [], ◌∷◌, take, ℤ, ◌<ℤ◌, sym, refl, ap, ◌∙◌, subst, ap₂, inl, inr, arith}
use lib.Signed.{lt_z}
use Rattle.std.proofs.lemmas.Bool.{cases_lt, lt-ltb, le-ltb, le-leb, lt-leb, ltb-true}
use Rattle.std.proofs.lemmas.Int.{ints}
use Rattle.std.proofs.ByRecursion.{All-weaker}
use Rattle.std.specs.List.{AllByRecursion}
use Rattle.model.specs.Version.{Version, version_ids}
use Rattle.model.specs.Build.{higher, places, stays, unexpired}
use Rattle.model.specs.Law.{Ascending, Member, Descending, Ranked, ranks_kept}
use Rattle.model.proofs.Basics.{same_true, same_eq, all_one}
use Rattle.model.proofs.Counts.{count_cons, count_fewer, count_inside, kept_from, kept_one, Distinct}
use Rattle.model.specs.Ids.{same_number}

above : (i j : ℤ) → i <ℤ j → lt_z i j ≡ true
above i j h = grind (arith, ints)

not_above : (i j : ℤ) → j <ℤ i → lt_z i j ≡ false
not_above i j h = grind (arith, ints)

not_above_self : (i : ℤ) → lt_z i i ≡ false
not_above_self i = grind (arith, ints)

above_from : (i j : ℤ) → lt_z i j ≡ true → i <ℤ j
above_from i j h = grind (arith, ints)

-- each before or after, if not equal
one_way : (i j : ℤ) → (i ≡ j → ⊥) → (i <ℤ j) ⊎ (j <ℤ i)
one_way i j n = go (lt_z i j) refl
  where
    go : (b : Bool) → lt_z i j ≡ b → (i <ℤ j) ⊎ (j <ℤ i)
    go true e = inl (above_from i j e)
    go false e = go₂ (lt_z j i) refl
      where
        go₂ : (b : Bool) → lt_z j i ≡ b → (i <ℤ j) ⊎ (j <ℤ i)
        go₂ true e₂ = inr (above_from j i e₂)
        go₂ false e₂ = absurd (n (grind (arith, ints)))

none_above : (vs : List Version) (i : ℤ) → AllByRecursion (λ w. w.id <ℤ i) vs → higher vs i ≡ 0
none_above [] i a = refl
none_above (w ∷ vs) i a =
    count_cons (λ x. lt_z i x.id) w vs ∙ ap₂ (λ b n. cond {A = ℕ} b 1 0 + n) (not_above i w.id a.0) (none_above vs i a.1)

-- how many stand above i when one more version is there
one_more_above : (w : Version) (vs : List Version) (i : ℤ) (b : Bool) → lt_z i w.id ≡ b → higher (w ∷ vs) i ≡ cond b 1 0 + higher vs i
one_more_above w vs i b e = count_cons (λ x. lt_z i x.id) w vs ∙ ap (λ t. cond {A = ℕ} t 1 0 + higher vs i) e

not_same : (w v : Version) → v.id <ℤ w.id → w ≡ v → ⊥
not_same w v h e = let i : w.id ≡ v.id = ap (λ (x : Version). x.id) e in omega (arith, ints)

-- among descending ids, the place of a version is the number of those above it
pub place : (n : ℕ) (vs : List Version) (v : Version) → Descending vs → Member vs v → (Member (take n vs) v → higher vs v.id < n) × (higher vs v.id < n → Member (take n vs) v)
place n [] v f o = absurd o
place zero (w ∷ vs) v f o = (λ x. absurd x, λ h. absurd (omega arith))
place (suc n) (w ∷ vs) v f (inl e) =
    let i : w.id ≡ v.id = ap (λ (x : Version). x.id) e in
    let a : higher (w ∷ vs) v.id ≡ 0 + higher vs v.id = one_more_above w vs v.id false (subst (λ j. lt_z v.id j ≡ false) (sym i) (not_above_self v.id)) in
    let b : higher vs v.id ≡ 0 = none_above vs v.id (subst (λ j. AllByRecursion (λ x. x.id <ℤ j) vs) i f.0) in
    (λ x. omega arith, λ h. inl e)
place (suc n) (w ∷ vs) v f (inr o) =
    let lower : v.id <ℤ w.id = all_one (λ x. x.id <ℤ w.id) vs v f.0 o in
    let a : higher (w ∷ vs) v.id ≡ 1 + higher vs v.id = one_more_above w vs v.id true (above v.id w.id lower) in
    let r = place n vs v f.1 o in
    (elim [ inl e ↦ absurd (not_same w v lower e) | inr x ↦ (let h = r.0 x in omega arith) ], λ h. inr (r.1 (omega arith)))

pub rising_distinct : (vs : List Version) → Ascending (version_ids vs) → Distinct vs
rising_distinct [] r = tt
rising_distinct (v ∷ vs) r = (all_ids vs r.0, rising_distinct vs r.1)
  where
    all_ids : (ws : List Version) → AllByRecursion (λ j. v.id <ℤ j) (version_ids ws) → AllByRecursion (λ w. w.id ≡ v.id → ⊥) ws
    all_ids [] a = tt
    all_ids (w ∷ ws) a = ((λ e. let h = a.0 in omega (arith, ints)), all_ids ws a.1)

falling_distinct : (vs : List Version) → Descending vs → Distinct vs
falling_distinct [] f = tt
falling_distinct (v ∷ vs) f = (All-weaker (λ w. w.id <ℤ v.id) (λ w. w.id ≡ v.id → ⊥) (λ w h e. omega (arith, ints)) vs f.0, falling_distinct vs f.1)

not_equal : (i j : ℤ) → (i ≡ j → ⊥) → same_number i j ≡ false
not_equal i j n = go (same_number i j) refl
  where
    go : (b : Bool) → same_number i j ≡ b → b ≡ false
    go true e = absurd (n (same_true i j e))
    go false e = refl

take_one : {A : Type 0} (n : ℕ) (xs : List A) (x : A) → Member (take n xs) x → Member xs x
take_one zero xs x o = absurd o
take_one (suc n) [] x o = absurd o
take_one (suc n) (y ∷ ys) x (inl e) = inl e
take_one (suc n) (y ∷ ys) x (inr o) = inr (take_one n ys x o)

-- a version above or below current, by how many stand above current (c), above it (h) and above it but current (o)
abbrev Side : ℕ → ℕ → ℕ → Type 0
Side c h o = ((c < h) × (h ≡ suc o)) ⊎ ((h < c) × (h ≡ o))

numbers : (b : Bool) (n c h o : ℕ) → 1 ≤ n → Side c h o →
    (h < cond (ltb c n || b) n (n - 1) → suc o < cond (b && leb n c) (suc n) n) × (suc o < cond (b && leb n c) (suc n) n → h < cond (ltb c n || b) n (n - 1))
numbers b n c h o some side = go b (cases_lt c n)
  where
    go : (b : Bool) → (c < n) ⊎ (n ≤ c) →
        (h < cond (ltb c n || b) n (n - 1) → suc o < cond (b && leb n c) (suc n) n) × (suc o < cond (b && leb n c) (suc n) n → h < cond (ltb c n || b) n (n - 1))
    go true (inl l) = rw (lt-ltb c n l, lt-leb n c l) ((λ x. omega arith), (λ x. omega arith))
    go false (inl l) = rw (lt-ltb c n l) ((λ x. omega arith), (λ x. omega arith))
    go true (inr l) = rw (le-ltb c n l, le-leb n c l) ((λ x. omega arith), (λ x. omega arith))
    go false (inr l) = rw (le-ltb c n l) ((λ x. omega arith), (λ x. omega arith))

above_both : (i j : ℤ) → i <ℤ j → (x : Version) → lt_z j x.id ≡ true → lt_z i x.id ≡ true
above_both i j h x e = let k = above_from j x.id e in grind (arith, ints)

module _ (vs : List Version) (current : ℤ) (first : Version) (others : List Version) (rise : Ascending (version_ids vs)) (is_current : first.id ≡ current)
    (others_not : AllByRecursion (λ v. v.id ≡ current → ⊥) others) (fall : Descending others) (from : (v : Version) → Member vs v → Member (first ∷ others) v)
    (to : (v : Version) → Member (first ∷ others) v → Member vs v) where
  ranks_distinct : Distinct (first ∷ others)
  ranks_distinct = (subst (λ i. AllByRecursion (λ v. v.id ≡ i → ⊥) others) (sym is_current) others_not, falling_distinct others fall)

  same_above : (i : ℤ) → higher vs i ≡ higher (first ∷ others) i
  same_above i =
      let a = count_inside (λ w. lt_z i w.id) vs (first ∷ others) (rising_distinct vs rise) from in
      let b = count_inside (λ w. lt_z i w.id) (first ∷ others) vs ranks_distinct to in
      omega (arith, a, b)

  side : (v : Version) → Member others v → Side (higher vs current) (higher vs v.id) (higher others v.id)
  side v o = go (one_way v.id current (all_one (λ x. x.id ≡ current → ⊥) others v others_not o))
    where
      go : (v.id <ℤ current) ⊎ (current <ℤ v.id) → Side (higher vs current) (higher vs v.id) (higher others v.id)
      go (inl l) =
          let up : lt_z v.id first.id ≡ true = subst (λ i. lt_z v.id i ≡ true) (sym is_current) (above v.id current l) in
          let self : lt_z current first.id ≡ false = subst (λ i. lt_z current i ≡ false) (sym is_current) (not_above_self current) in
          inl (
            count_fewer (λ x. lt_z current x.id) (λ x. lt_z v.id x.id) (above_both v.id current l) vs first (to first (inl refl)) self up,
            same_above v.id ∙ one_more_above first others v.id true up ∙ omega arith,
          )
      go (inr l) =
          let down : lt_z v.id first.id ≡ false = subst (λ i. lt_z v.id i ≡ false) (sym is_current) (not_above v.id current l) in
          inr (
            count_fewer (λ x. lt_z v.id x.id) (λ x. lt_z current x.id) (above_both current v.id l) vs v (to v (inr o)) (not_above_self v.id) (above current v.id l),
            same_above v.id ∙ one_more_above first others v.id false down ∙ omega arith,
          )

  module _ (n added : ℕ) (some : 1 ≤ n) where
    -- of the others, those stay that are among the first
    other_stays : (m : ℕ) → ranks_kept vs current n added ≡ suc m → (v : Version) → Member others v →
        (stays vs current n added v ≡ true → Member (take m others) v) × (Member (take m others) v → stays vs current n added v ≡ true)
    unfolding stays places
    other_stays m is_m v o =
        let h : ℕ = higher vs v.id in
        let limit : ℕ = cond (ltb (higher vs current) n || eqb n added) n (n - 1) in
        let other : same_number v.id current ≡ false = not_equal v.id current (all_one (λ x. x.id ≡ current → ⊥) others v others_not o) in
        let test : (same_number v.id current || ltb h limit) ≡ ltb h limit = ap (λ b. b || ltb h limit) other in
        let r = numbers (eqb n added) n (higher vs current) h (higher others v.id) some (side v o) in
        let p = place m others v fall o in
        let there : suc (higher others v.id) < ranks_kept vs current n added → higher others v.id < m = λ x. omega arith in
        let back : higher others v.id < m → suc (higher others v.id) < ranks_kept vs current n added = λ x. omega arith in
        (λ e. p.1 (there (r.0 (ltb-true h limit (sym test ∙ e)))), λ x. test ∙ lt-ltb h limit (r.1 (back (p.0 x))))

    at_least_one : (b : Bool) → (m : ℕ) × (cond b (suc n) n ≡ suc m)
    at_least_one true = (n, refl)
    at_least_one false = (n - 1, omega arith)

    -- a version of the ranking stays if and only if it is among the first
    ranked_stays : (m : ℕ) → ranks_kept vs current n added ≡ suc m → (v : Version) → Member (first ∷ others) v →
        (stays vs current n added v ≡ true → Member (first ∷ take m others) v) × (Member (first ∷ take m others) v → stays vs current n added v ≡ true)
    unfolding stays
    ranked_stays m is_m v (inl e) =
        let same : same_number v.id current ≡ true = same_eq v.id current (ap (λ (x : Version). x.id) (sym e) ∙ is_current) in
        (λ x. inl e, λ x. ap (λ b. b || ltb (higher vs v.id) (places vs current n added)) same)
    ranked_stays m is_m v (inr o) =
        let r = other_stays m is_m v o in
        (λ x. inr (r.0 x), elim [ inl e ↦ absurd (all_one (λ x. x.id ≡ current → ⊥) others v others_not o (ap (λ (x : Version). x.id) (sym e) ∙ is_current)) | inr x ↦ r.1 x ])

    first_stay : (v : Version) → Member (unexpired vs current n added) v ↔ Member (take (ranks_kept vs current n added) (first ∷ others)) v
    unfolding unexpired
    first_stay v =
        let one = at_least_one (eqb n added && leb n (higher vs current)) in
        let m : ℕ = one.0 in
        subst (λ l. Member (unexpired vs current n added) v ↔ Member (take l (first ∷ others)) v) (sym one.1) (
          (λ o. let k = kept_from (stays vs current n added) vs v o in (ranked_stays m one.1 v (from v k.0)).0 k.1),
          (λ o. let t : Member (first ∷ others) v = take_one (suc m) (first ∷ others) v o in
              kept_one (stays vs current n added) vs v (to v t) ((ranked_stays m one.1 v t).1 o)),
        )

-- what stays is the first of any ranking
pub kept_first : (vs ranks : List Version) (current : ℤ) (n added : ℕ) → Ascending (version_ids vs) → 1 ≤ n → Ranked current vs ranks → (v : Version) →
    Member (unexpired vs current n added) v ↔ Member (take (ranks_kept vs current n added) ranks) v
kept_first vs ranks current n added rise some r v =
    subst (λ l. Member (unexpired vs current n added) v ↔ Member (take (ranks_kept vs current n added) l) v) (sym r.is)
    (first_stay vs current r.first r.others rise r.first_current r.others_not r.others_fall
    (λ w o. subst (λ l. Member l w) r.is (r.from_held w o)) (λ w o. r.to_held w (subst (λ l. Member l w) (sym r.is) o)) n added some v)
