-- The next id is above all held, and what a held schema's id is not. Assumes nothing.
use Rattle.std.proofs.Common.{◌≡◌, ℕ, Bool, true, false, ◌||◌, List, [], ◌∷◌, ◌++◌, ℤ, pos, negsuc, ◌≤ℤ◌, ◌<ℤ◌, Some, None, filter, Option, sym, refl, ap, ◌∙◌, arith}
use Rattle.std.proofs.lemmas.Int.{ints, clamps}
use Rattle.std.proofs.ByRecursion.{All-weaker, All-push}
use Rattle.std.proofs.lemmas.Bool.{true≢false}
use Rattle.std.specs.List.{AllByRecursion}
use Rattle.model.specs.Version.{Version, Content, Schema, version_ids, schema_ids, same_content}
use Rattle.model.specs.Law.{Ascending}
use Rattle.model.proofs.Basics.{same_true}
use Rattle.model.specs.Ids.{same_number, highest, greatest_of, after, next_id, last_added, holds}

abbrev Under : Option ℤ → ℤ → Type 0
Under None j = ⊥
Under (Some h) j = j ≤ℤ h

under_more : (i : ℤ) (o : Option ℤ) (j : ℤ) → Under o j → j ≤ℤ greatest_of i o
under_more i None j u = absurd u
under_more i (Some h) j u = omega (arith, ints, clamps)

under_first : (i : ℤ) (o : Option ℤ) → i ≤ℤ greatest_of i o
under_first i None = omega (arith, ints)
under_first i (Some h) = omega (arith, ints, clamps)

all_under : (ids : List ℤ) → AllByRecursion (Under (highest ids)) ids
all_under [] = tt
all_under (i ∷ is) = (under_first i (highest is), All-weaker (Under (highest is)) (λ j. j ≤ℤ greatest_of i (highest is)) (λ j u. under_more i (highest is) j u) is (all_under is))

under_after : (first : ℤ) (o : Option ℤ) (j : ℤ) → Under o j → j <ℤ after first o
under_after first None j u = absurd u
under_after first (Some h) j u = omega (arith, ints)

pub below_next : (first : ℤ) (ids : List ℤ) → AllByRecursion (λ j. j <ℤ next_id first ids) ids
below_next first ids = All-weaker (Under (highest ids)) (λ j. j <ℤ next_id first ids) (λ j u. under_after first (highest ids) j u) ids (all_under ids)

pub next_not_negative : (ids : List ℤ) → AllByRecursion (λ j. pos 0 ≤ℤ j) ids → pos 0 ≤ℤ next_id (pos 0) ids
next_not_negative [] a = omega (arith, ints)
next_not_negative (i ∷ is) a = let h = (below_next (pos 0) (i ∷ is)).0 in let g = a.0 in omega (arith, ints)

pub rising_push : (ids : List ℤ) (i : ℤ) → Ascending ids → AllByRecursion (λ j. j <ℤ i) ids → Ascending (ids ++ i ∷ [])
rising_push [] i r a = (tt, tt)
rising_push (j ∷ js) i r a = (All-push (λ x. j <ℤ x) js i r.0 a.0, rising_push js i r.1 a.1)

pub ids_push : (vs : List Version) (v : Version) → version_ids (vs ++ v ∷ []) ≡ version_ids vs ++ v.id ∷ []
ids_push [] v = refl
ids_push (w ∷ vs) v = ap (λ is. w.id ∷ is) (ids_push vs v)

pub schema_ids_push : {C : Type 0} (ts : List (Schema C)) (t : Schema C) → schema_ids (ts ++ t ∷ []) ≡ schema_ids ts ++ t.id ∷ []
schema_ids_push [] t = refl
schema_ids_push (u ∷ ts) t = ap (λ is. u.id ∷ is) (schema_ids_push ts t)

not_last : (i j : ℤ) → pos 0 ≤ℤ i → i ≡ j → same_number j last_added ≡ false
not_last i (pos n) h e = refl
not_last i (negsuc n) h e = let z : ◌≡◌ {A = ℕ} 0 1 = omega (arith, ints) in absurd (omega arith)

-- a held schema's id is not -1
pub held_not_last : {C : Type 0} (i : ℤ) (ts : List (Schema C)) → AllByRecursion (λ j. pos 0 ≤ℤ j) (schema_ids ts) → holds i (schema_ids ts) ≡ true → same_number i last_added ≡ false
held_not_last i [] a h = absurd (true≢false (sym h))
held_not_last i (t ∷ ts) a h = go (same_number t.id i) refl h (held_not_last i ts a.1)
  where
    go : (b : Bool) → same_number t.id i ≡ b → (b || holds i (schema_ids ts)) ≡ true → (holds i (schema_ids ts) ≡ true → same_number i last_added ≡ false) → same_number i last_added ≡ false
    go true e h more = not_last t.id i a.0 (same_true t.id i e)
    go false e h more = more h

-- a content with schema id -1 is no held version's
pub meets_none : (c : Content) (vs : List Version) → c.schema_id ≡ last_added → AllByRecursion (λ v. same_number v.content.schema_id last_added ≡ false) vs → filter (λ v. same_content v.content c) vs ≡ []
meets_none c [] e a = refl
meets_none c (v ∷ vs) e a =
    let p : same_number v.content.schema_id c.schema_id ≡ false = ap (same_number v.content.schema_id) e ∙ a.0 in
    rw p (meets_none c vs e a.1)
