-- How many of a list pass a test, and how many versions stand above an id. Assumes nothing.
use Rattle.std.proofs.Common.{◌≡◌, ℕ, ◌+◌, ◌<◌, ◌≤◌, Bool, true, false, cond, not, List, [], ◌∷◌, length, ℤ, filter, sym, refl, ap, ◌∙◌, subst, inl, inr, arith}
use Rattle.std.specs.List.{AllByRecursion}
use Rattle.model.specs.Version.{Version}
use Rattle.model.specs.Law.{Member}
use Rattle.model.proofs.Basics.{same_true, same_eq, all_one}
use Rattle.model.specs.Ids.{same_number}

module _ {A : Type 0} (p : A → Bool) where
  -- one of those that pass
  pub kept_from : (xs : List A) (x : A) → Member (filter p xs) x → Member xs x × (p x ≡ true)
  kept_from [] x o = absurd o
  kept_from (y ∷ ys) x o = go (p y) refl o (kept_from ys x)
    where
      go : (b : Bool) → p y ≡ b → Member (cond b (y ∷ filter p ys) (filter p ys)) x → (Member (filter p ys) x → Member ys x × (p x ≡ true)) → Member (y ∷ ys) x × (p x ≡ true)
      go true q (inl e) more = (inl e, ap p (sym e) ∙ q)
      go true q (inr o') more = let r = more o' in (inr r.0, r.1)
      go false q o' more = let r = more o' in (inr r.0, r.1)

  pub kept_one : (xs : List A) (x : A) → Member xs x → p x ≡ true → Member (filter p xs) x
  kept_one [] x o t = absurd o
  kept_one (y ∷ ys) x (inl e) t = subst (λ b. Member (cond b (y ∷ filter p ys) (filter p ys)) x) (sym (ap p e ∙ t)) (inl e)
  kept_one (y ∷ ys) x (inr o) t = go (p y) (kept_one ys x o t)
    where
      go : (b : Bool) → Member (filter p ys) x → Member (cond b (y ∷ filter p ys) (filter p ys)) x
      go true r = inr r
      go false r = r

  -- how many pass
  abbrev pub count : List A → ℕ
  count xs = length (filter p xs)

  pub count_cons : (x : A) (xs : List A) → count (x ∷ xs) ≡ cond (p x) 1 0 + count xs
  count_cons x xs = go (p x)
    where
      go : (b : Bool) → length (cond b (x ∷ filter p xs) (filter p xs)) ≡ cond b 1 0 + count xs
      go true = omega arith
      go false = omega arith

module _ {A : Type 0} (p q : A → Bool) (weaker : (x : A) → p x ≡ true → q x ≡ true) where
  one_or : (x : A) → cond {A = ℕ} (p x) 1 0 ≤ cond (q x) 1 0
  one_or x = go (p x) refl
    where
      go : (b : Bool) → p x ≡ b → cond {A = ℕ} b 1 0 ≤ cond (q x) 1 0
      go true e = subst (λ b. 1 ≤ cond {A = ℕ} b 1 0) (sym (weaker x e)) (omega arith)
      go false e = omega arith

  pub count_weaker : (xs : List A) → count p xs ≤ count q xs
  count_weaker [] = omega arith
  count_weaker (x ∷ xs) = omega (arith, count_cons p x xs, count_cons q x xs, one_or x, count_weaker xs)

  pub count_fewer : (xs : List A) (x : A) → Member xs x → p x ≡ false → q x ≡ true → count p xs < count q xs
  count_fewer [] x o f t = absurd o
  count_fewer (y ∷ ys) x (inl e) f t =
      let a : cond {A = ℕ} (p y) 1 0 ≡ 0 = ap (λ b. cond {A = ℕ} b 1 0) (ap p e ∙ f) in
      let b : cond {A = ℕ} (q y) 1 0 ≡ 1 = ap (λ b. cond {A = ℕ} b 1 0) (ap q e ∙ t) in
      omega (arith, count_cons p y ys, count_cons q y ys, count_weaker ys)
  count_fewer (y ∷ ys) x (inr o) f t = omega (arith, count_cons p y ys, count_cons q y ys, one_or y, count_fewer ys x o f t)

-- no two have one id
abbrev pub Distinct : List Version → Type 0
Distinct [] = Unit {0}
Distinct (v ∷ vs) = AllByRecursion (λ w. w.id ≡ v.id → ⊥) vs × Distinct vs

abbrev without_id : ℤ → List Version → List Version
without_id i = filter (λ w. not (same_number w.id i))

module _ (p : Version → Bool) where
  count_without_le : (i : ℤ) (vs : List Version) → count p (without_id i vs) ≤ count p vs
  count_without_le i [] = omega arith
  count_without_le i (v ∷ vs) = go (same_number v.id i) (count_without_le i vs)
    where
      go : (b : Bool) → count p (without_id i vs) ≤ count p vs → count p (cond (not b) (v ∷ without_id i vs) (without_id i vs)) ≤ count p (v ∷ vs)
      go true h = omega (arith, count_cons p v vs)
      go false h = omega (arith, count_cons p v vs, count_cons p v (without_id i vs))

  count_without : (v : Version) (ws : List Version) → Member ws v → cond (p v) 1 0 + count p (without_id v.id ws) ≤ count p ws
  count_without v [] o = absurd o
  count_without v (w ∷ ws) (inl e) =
      let a : not (same_number w.id v.id) ≡ false = ap not (same_eq w.id v.id (ap (λ (x : Version). x.id) e)) in
      let b : count p (without_id v.id (w ∷ ws)) ≡ count p (without_id v.id ws) = ap (λ b. count p (cond b (w ∷ without_id v.id ws) (without_id v.id ws))) a in
      let c : cond {A = ℕ} (p w) 1 0 ≡ cond (p v) 1 0 = ap (λ x. cond {A = ℕ} (p x) 1 0) e in
      omega (arith, count_cons p w ws, count_without_le v.id ws)
  count_without v (w ∷ ws) (inr o) = go (same_number w.id v.id) (count_without v ws o)
    where
      go : (b : Bool) → cond (p v) 1 0 + count p (without_id v.id ws) ≤ count p ws → cond (p v) 1 0 + count p (cond (not b) (w ∷ without_id v.id ws) (without_id v.id ws)) ≤ count p (w ∷ ws)
      go true h = omega (arith, count_cons p w ws)
      go false h = omega (arith, count_cons p w ws, count_cons p w (without_id v.id ws))

  -- a list with distinct ids, all of them in another
  pub count_inside : (vs ws : List Version) → Distinct vs → ((v : Version) → Member vs v → Member ws v) → count p vs ≤ count p ws
  count_inside [] ws d inside = omega arith
  count_inside (v ∷ vs) ws d inside =
      omega (
        arith,
        count_cons p v vs,
        count_without v ws (inside v (inl refl)),
        count_inside vs (without_id v.id ws) d.1 (λ w o. kept_one (λ x. not (same_number x.id v.id)) ws w (inside w (inr o)) (other w o)),
      )
    where
      other : (w : Version) → Member vs w → not (same_number w.id v.id) ≡ true
      other w o = go (same_number w.id v.id) refl
        where
          go : (b : Bool) → same_number w.id v.id ≡ b → not b ≡ true
          go true e = absurd (all_one (λ x. x.id ≡ v.id → ⊥) vs w d.0 o (same_true w.id v.id e))
          go false e = refl
