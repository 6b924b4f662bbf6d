-- What stays by the ids is what the rule on versions says. Assumes nothing.
use Rattle.std.proofs.Common.{◌≡◌, ℕ, ◌-◌, Bool, true, false, cond, ◌||◌, eqb, ltb, List, [], ◌∷◌, map, length, drop, ℤ, filter, sym, refl, ap, ◌∙◌, ap₂}
use lib.Signed.{lt_z}
use Rattle.std.specs.List.{AllByRecursion}
use Rattle.std.proofs.lemmas.List.{length-map, take_at}
use Rattle.model.specs.Version.{Version, version_ids}
use Rattle.model.specs.Ids.{same_number}
use Rattle.model.specs.Build.{higher, places, stays, unexpired}
use Rattle.register.specs.Tables.{held_in}
use Rattle.register.specs.declared.table.Table.{Table}
use Rattle.expiry.specs.Expiry.{higher_than, places_for, id_stays, unexpired_by, holding}
use Rattle.expiry.proofs.Fronts.{kept_by_same}

each : {A : Type 0} {P : A → Type 0} → ((x : A) → P x) → (xs : List A) → AllByRecursion P xs
each h [] = tt
each h (x ∷ xs) = (h x, each h xs)

kept_by_map : {A B : Type 0} (f : A → B) (p : B → Bool) (xs : List A) → filter p (map f xs) ≡ map f (filter (λ x. p (f x)) xs)
kept_by_map f p [] = refl
kept_by_map f p (x ∷ xs) = go (p (f x)) (kept_by_map f p xs)
  where
    go : (b : Bool) → filter p (map f xs) ≡ map f (filter (λ y. p (f y)) xs) →
        cond b (f x ∷ filter p (map f xs)) (filter p (map f xs)) ≡ map f (cond b (x ∷ filter (λ y. p (f y)) xs) (filter (λ y. p (f y)) xs))
    go true e = ap (λ l. f x ∷ l) e
    go false e = e

pub count_map : {A B : Type 0} (f : A → B) (p : B → Bool) (xs : List A) → length (filter p (map f xs)) ≡ length (filter (λ x. p (f x)) xs)
count_map f p xs = ap length (kept_by_map f p xs) ∙ length-map (filter (λ x. p (f x)) xs) f

-- things that mean versions, under the ids that they have
module _ {X : Type 0} (id_of : X → ℤ) (version_of : X → Version) (is : (x : X) → (version_of x).id ≡ id_of x) where
  pub ids_of_versions : (xs : List X) → version_ids (map version_of xs) ≡ map id_of xs
  ids_of_versions [] = refl
  ids_of_versions (x ∷ xs) = ap₂ (λ i is. i ∷ is) (is x) (ids_of_versions xs)

  higher_same : (xs : List X) (i : ℤ) → higher_than (map id_of xs) i ≡ higher (map version_of xs) i
  unfolding higher_than
  higher_same xs i =
      count_map id_of (lt_z i) xs
      ∙ ap length (kept_by_same (λ x. lt_z i (id_of x)) (λ x. lt_z i (version_of x).id) xs (each (λ x. ap (lt_z i) (sym (is x))) xs))
      ∙ sym (count_map version_of (λ w. lt_z i w.id) xs)

  places_same : (xs : List X) (current : ℤ) (n added : ℕ) → places_for (map id_of xs) current n added ≡ places (map version_of xs) current n added
  unfolding places_for places
  places_same xs current n added = ap (λ m. cond (ltb m n || eqb n added) n (n - 1)) (higher_same xs current)

  stays_same : (xs : List X) (current : ℤ) (n added : ℕ) (x : X) → id_stays (map id_of xs) current n added (id_of x) ≡ stays (map version_of xs) current n added (version_of x)
  unfolding id_stays stays
  stays_same xs current n added x =
      ap (λ i. same_number i current || ltb (higher_than (map id_of xs) i) (places_for (map id_of xs) current n added)) (sym (is x))
      ∙ ap₂ (λ m p. same_number (version_of x).id current || ltb m p) (higher_same xs (version_of x).id) (places_same xs current n added)

  pub unexpired_versions : (xs : List X) (current : ℤ) (n added : ℕ) → map version_of (unexpired_by id_of xs current n added) ≡ unexpired (map version_of xs) current n added
  unfolding unexpired
  unexpired_versions xs current n added =
      ap (map version_of) (kept_by_same (λ x. id_stays (map id_of xs) current n added (id_of x)) (λ x. stays (map version_of xs) current n added (version_of x)) xs (each (stays_same xs current n added) xs))
      ∙ sym (kept_by_map version_of (stays (map version_of xs) current n added) xs)

-- the table holds just what it is to hold
pub held_in_holding : {X : Type 0} (t : Table X) (xs : List X) → held_in (holding t xs) ≡ xs
held_in_holding t xs = take_at xs (drop (length xs) t.slots.now) (length xs) refl

-- the versions that a table means, after expiry
pub expired_versions : {X : Type 0} (id_of : X → ℤ) (version_of : X → Version) → ((x : X) → (version_of x).id ≡ id_of x) → (t : Table X) (current : ℤ) (n added : ℕ) →
    map version_of (held_in (holding t (unexpired_by id_of (held_in t) current n added))) ≡ unexpired (map version_of (held_in t)) current n added
expired_versions id_of version_of is t current n added =
    ap (map version_of) (held_in_holding t (unexpired_by id_of (held_in t) current n added)) ∙ unexpired_versions id_of version_of is (held_in t) current n added
