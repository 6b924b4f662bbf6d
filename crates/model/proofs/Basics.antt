-- Facts on tests, results and lists that the laws share. Assumes nothing.
use Rattle.std.proofs.Common.{◌≡◌, ℕ, Bool, true, false, cond, ◌||◌, List, [], ◌∷◌, ℤ, pos, negsuc, Some, None, Ok, Err, Option, Result, sym, refl, ap, ◌∙◌, subst, inl, inr, arith}
use Rattle.std.proofs.lemmas.Bool.{eqb-true, eq-eqb, true≢false, or_parts}
use Rattle.std.specs.List.{AllByRecursion}
use Rattle.model.specs.Version.{Version, version_ids}
use Rattle.model.specs.Refusals.{Part, Fault, refuse, refuse_with, refuse_at}
use Rattle.model.specs.Law.{Member}
use Rattle.model.specs.Ids.{same_number, is_id, resolved_id, last_added, holds}

pub same_true : (a b : ℤ) → same_number a b ≡ true → a ≡ b
same_true (pos a) (pos b) e = ap pos (eqb-true a b e)
same_true (pos a) (negsuc b) e = absurd (true≢false (sym e))
same_true (negsuc a) (pos b) e = absurd (true≢false (sym e))
same_true (negsuc a) (negsuc b) e = ap negsuc (eqb-true a b e)

pub same_refl : (a : ℤ) → same_number a a ≡ true
same_refl (pos a) = eq-eqb a a refl
same_refl (negsuc a) = eq-eqb a a refl

pub same_eq : (a b : ℤ) → a ≡ b → same_number a b ≡ true
same_eq a b e = subst (λ x. same_number a x ≡ true) e (same_refl a)

pub ok_not_err : {A E : Type 0} {a : A} {e : E} {P : Type 0} → ◌≡◌ {A = Result A E} (Err e) (Ok a) → P
ok_not_err p = let z : ◌≡◌ {A = ℕ} 0 1 = cc in absurd (omega arith)

pub ok_is : {A E : Type 0} {a b : A} → ◌≡◌ {A = Result A E} (Ok a) (Ok b) → a ≡ b
ok_is p = cc

pub refuse_ok : {A : Type 0} (b : Bool) (f : Fault) (r : Result A Fault) (x : A) → refuse b f r ≡ Ok x → (b ≡ false) × (r ≡ Ok x)
refuse_ok true f r x e = ok_not_err e
refuse_ok false f r x e = (refl, e)

pub holds_one : (i : ℤ) (vs : List Version) → holds i (version_ids vs) ≡ true → (v : Version) × Member vs v × (v.id ≡ i)
holds_one i [] e = absurd (true≢false (sym e))
holds_one i (v ∷ vs) e = go (same_number v.id i) refl e (holds_one i vs)
  where
    go : (b : Bool) → same_number v.id i ≡ b → (b || holds i (version_ids vs)) ≡ true → (holds i (version_ids vs) ≡ true → (w : Version) × Member vs w × (w.id ≡ i)) → (w : Version) × Member (v ∷ vs) w × (w.id ≡ i)
    go true h e more = (v, inl refl, same_true v.id i h)
    go false h e more = let r = more e in (r.0, inr r.1, r.2)

pub holds_none : (i : ℤ) (vs : List Version) → holds i (version_ids vs) ≡ false → (v : Version) → Member vs v → v.id ≡ i → ⊥
holds_none i [] e v o p = o
holds_none i (w ∷ vs) e v (inl q) p =
    true≢false (sym (same_eq w.id i (ap (λ (x : Version). x.id) q ∙ p)) ∙ (or_parts (same_number w.id i) (holds i (version_ids vs)) e).0)
holds_none i (w ∷ vs) e v (inr o) p = holds_none i vs (or_parts (same_number w.id i) (holds i (version_ids vs)) e).1 v o p

pub all_one : {A : Type 0} (P : A → Type 0) (xs : List A) (x : A) → AllByRecursion P xs → Member xs x → P x
all_one P [] x a o = absurd o
all_one P (y ∷ ys) x a (inl e) = subst P e a.0
all_one P (y ∷ ys) x a (inr o) = all_one P ys x a.1 o

pub refuse_at_ok : {A : Type 0} (n : ℕ) (part : Part) (o : Option ℕ) (r : Result A Fault) (x : A) → refuse_at n part o r ≡ Ok x → r ≡ Ok x
refuse_at_ok n part None r x e = e
refuse_at_ok n part (Some i) r x e = ok_not_err e

pub refuse_with_ok : {A : Type 0} (part : Part) (o : Option ℕ) (r : Result A Fault) (x : A) → refuse_with part o r ≡ Ok x → r ≡ Ok x
refuse_with_ok part None r x e = e
refuse_with_ok part (Some n) r x e = ok_not_err e

pub is_number_true : (o : Option ℤ) (i : ℤ) → is_id o i ≡ true → o ≡ Some i
is_number_true None i e = absurd (true≢false (sym e))
is_number_true (Some j) i e = ap Some (same_true j i e)

pub is_number_of : (o : Option ℤ) (i : ℤ) → o ≡ Some i → is_id o i ≡ true
is_number_of o i e = ap (λ x. is_id x i) e ∙ same_refl i

-- a number that is not recorded as the last added was handed in as itself
pub named_as_is : (i j : ℤ) (last : Option ℤ) → resolved_id i last ≡ Some j → is_id last j ≡ false → (i ≡ j) × (same_number i last_added ≡ false)
named_as_is i j last e n = go (same_number i last_added) refl e
  where
    go : (b : Bool) → same_number i last_added ≡ b → cond b last (Some i) ≡ Some j → (i ≡ j) × (same_number i last_added ≡ false)
    go true q e' = absurd (true≢false (sym (is_number_of last j e') ∙ n))
    go false q e' = (cc, q)
