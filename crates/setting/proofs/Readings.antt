-- Digits read one by one, under a limit. Assumes nothing.
use Rattle.std.proofs.Common.{◌≡◌, ℕ, ◌+◌, ◌-◌, ◌*◌, ◌<◌, ◌≤◌, ◌&&◌, leb, [], ◌∷◌, length, List, Some, None, Option, Bor, Iter, refl, sym, ap, ◌∙◌, inl, inr, arith}
use denote.Param.Members.{Mut}
use Rattle.std.specs.Fn.{Called}
use Rattle.std.specs.Iterator.{Yields, YieldsThen}
use Rattle.std.specs.List.{FoldsTo}
use Rattle.std.specs.Option.{MatchOption}
use Rattle.std.proofs.lemmas.Fn.{fronts}
use Rattle.std.proofs.lemmas.Bool.{cases_Bool, lt-leb, le-leb, leb-true, leb-false}
use Rattle.model.specs.Bytes.{Bytes}
use Rattle.model.specs.Numbers.{digits, numeral, at_most}

-- a number past the limit stays there with more digits
over_stays : (top n : ℕ) (bs : Bytes) → top < n → at_most top (digits n bs) ≡ None
over_stays top n [] h = simp (lt-leb n top h)
over_stays top n (b ∷ bs) h =
    elim (cases_Bool (leb 48 b && leb b 57)) [
      | inl t ↦ simp t (over_stays top (n * 10 + (b - 48)) bs (omega arith))
      | inr t ↦ simp t
    ]

-- one digit more: the number so far, or none for good
read : (top n m b : ℕ) (bs : Bytes) → at_most top (digits n (b ∷ [])) ≡ Some m → at_most top (digits n (b ∷ bs)) ≡ at_most top (digits m bs)
read top n m b bs e =
    elim (cases_Bool (leb 48 b && leb b 57)) [
      | inl t ↦
          (elim (cases_Bool (leb (n * 10 + (b - 48)) top)) [
            | inl k ↦ let q : Some (n * 10 + (b - 48)) ≡ Some m = simp (t, k) at e in let v : n * 10 + (b - 48) ≡ m = cc in simp (t, v)
            | inr k ↦ let q : None ≡ Some m = simp (t, k) at e in let z : ◌≡◌ {A = ℕ} 0 1 = cc in absurd (omega arith)
          ])
      | inr t ↦ let q : None ≡ Some m = simp t at e in let z : ◌≡◌ {A = ℕ} 0 1 = cc in absurd (omega arith)
    ]

refused : (top n b : ℕ) (bs : Bytes) → at_most top (digits n (b ∷ [])) ≡ None → at_most top (digits n (b ∷ bs)) ≡ None
refused top n b bs e =
    elim (cases_Bool (leb 48 b && leb b 57)) [
      | inl t ↦
          (elim (cases_Bool (leb (n * 10 + (b - 48)) top)) [
            | inl k ↦ let q : Some (n * 10 + (b - 48)) ≡ None = simp (t, k) at e in let z : ◌≡◌ {A = ℕ} 0 1 = cc in absurd (omega arith)
            | inr k ↦ simp t (over_stays top (n * 10 + (b - 48)) bs (leb-false _ _ k))
          ])
      | inr t ↦ simp t
    ]

-- a number under the limit
at_most_fits : (top m : ℕ) (o : Option ℕ) → at_most top o ≡ Some m → m ≤ top
at_most_fits top m None e = let z : ◌≡◌ {A = ℕ} 0 1 = cc in absurd (omega arith)
at_most_fits top m (Some n) e =
    elim (cases_Bool (leb n top)) [
      | inl k ↦ let q : Some n ≡ Some m = simp k at e in let v : n ≡ m = cc in omega (arith, leb-true n top k)
      | inr k ↦ let q : None ≡ Some m = simp k at e in let z : ◌≡◌ {A = ℕ} 0 1 = cc in absurd (omega arith)
    ]

-- no byte is left
ended : (top n : ℕ) (bs : Bytes) → length bs ≡ 0 → n ≤ top → at_most top (digits n bs) ≡ Some n
ended top n [] h l = simp (le-leb n top l)
ended top n (b ∷ bs) h l = absurd (omega arith)

-- a `try_fold` over the bytes of a slice whose calls each read one digit more
module _ (top : ℕ) {F : Type 0} (g : Mut F (ℕ × (Bor ℕ × Unit {0})) (Option ℕ))
    (reads : (f : F) (n : ℕ) (x : Bor ℕ) (v : Option ℕ) (h : F) → Called g f (n, (x, tt)) v h → v ≡ at_most top (digits n (x.now ∷ []))) where
  -- a call at which it goes on
  abbrev Turn : F × ℕ → Bor ℕ → F × ℕ → Type 0
  Turn p x q = (v : Option ℕ) × Called g p.0 (p.1, (x, tt)) v q.0 × (v ≡ Some q.1)

  so_far : (xs : List (Bor ℕ)) (s t : Iter ℕ) (p q : F × ℕ) → Yields fronts s xs t → FoldsTo Turn p xs q → p.1 ≤ top →
      (q.1 ≤ top) × (at_most top (digits p.1 s.rest.now) ≡ at_most top (digits q.1 t.rest.now))
  so_far [] s t p q y f l = (omega (arith, ap (λ (v : F × ℕ). v.1) f), ap (λ (v : F × ℕ). at_most top (digits v.1 s.rest.now)) f ∙ ap (λ (v : Iter ℕ). at_most top (digits q.1 v.rest.now)) y)
  so_far (x ∷ xs) s t p q y f l =
      let e : at_most top (digits p.1 (x.now ∷ [])) ≡ Some f.0.1 = sym (reads p.0 p.1 x f.1.0 f.0.0 f.1.1) ∙ f.1.2 in
      let r = so_far xs y.0 t f.0 q y.2 f.2 (at_most_fits top f.0.1 (digits p.1 (x.now ∷ [])) e) in
      (r.0, ap (λ bs. at_most top (digits p.1 bs)) y.1 ∙ read top p.1 f.0.1 x.now y.0.rest.now e ∙ r.1)

  last_read : (E : Type 0) (o : Option (Bor ℕ)) (t u : Iter ℕ) (f : F) (m : ℕ) (r : Option ℕ) → fronts t o u → m ≤ top →
      MatchOption o (r ≡ Some m) (λ x. (v : Option ℕ) × (h : F) × E × Called g f (m, (x, tt)) v h × (v ≡ None) × (r ≡ None)) → r ≡ at_most top (digits m t.rest.now)
  last_read E None t u f m r y l k = k ∙ sym (ended top m t.rest.now y.0 l)
  last_read E (Some x) t u f m r y l k = k.5 ∙ sym (ap (λ bs. at_most top (digits m bs)) y ∙ refused top m x.now u.rest.now (sym (reads f m x k.0 k.1 k.3) ∙ k.4))

  pub number_folded : (E : Type 0) (s u : Iter ℕ) (f : F) (n : ℕ) (r : Option ℕ) → n ≤ top →
      (xs : List (Bor ℕ)) × (o : Option (Bor ℕ)) × (h : F) × (m : ℕ) × YieldsThen fronts s xs o u × FoldsTo {P = F × ℕ} (λ p x q. (v : Option ℕ) × Called g p.0 (p.1, (x, tt)) v q.0 × (v ≡ Some q.1)) (f, n) xs (h, m)
      × MatchOption o (r ≡ Some m) (λ x. (v : Option ℕ) × (i : F) × E × Called g h (m, (x, tt)) v i × (v ≡ None) × (r ≡ None)) →
      r ≡ at_most top (digits n s.rest.now)
  number_folded E s u f n r l k =
      let p = so_far k.0 s k.4.0 (f, n) (k.2, k.3) k.4.1 k.5 l in
      last_read E k.1 k.4.0 u k.2 k.3 r k.4.2 p.0 k.6 ∙ sym p.1

-- at least one digit
pub numeral_is : (bs : Bytes) → 0 < length bs → numeral bs ≡ digits 0 bs
numeral_is [] h = absurd (omega arith)
numeral_is (b ∷ bs) h = refl
