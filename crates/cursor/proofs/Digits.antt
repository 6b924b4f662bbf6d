-- Digits that are read two by two. Assumes nothing.
use Rattle.std.proofs.Common.{◌≡◌, ℕ, zero, suc, ◌*◌, ◌<◌, List, [], ◌∷◌, length, get_or, Option, Some, None, Result, Ok, Err, MatchResult, IfOk, option_map, option_and_then, ok_or, refl, sym, ap, ◌∙◌, subst, arith}
use Rattle.std.specs.Result.{result_ok, IfErr}
use Rattle.std.specs.List.{IsAmong}
use Rattle.std.specs.Simd.{first_chunks}
use Rattle.quote.specs.Quotes.{hex_byte}
use Rattle.cursor.specs.Line.{bytes_of_digits, pair_byte}

-- the bytes of some pairs
bytes_of_pairs : List (List ℕ) → Option (List ℕ)
bytes_of_pairs [] = Some []
bytes_of_pairs (p ∷ ps) = option_and_then (λ b. option_map (λ bs. b ∷ bs) (bytes_of_pairs ps)) (pair_byte p)

-- the same bytes, by pairs
by_pairs : (k : ℕ) (ds : List ℕ) → length ds ≡ 2 * k → bytes_of_digits ds ≡ bytes_of_pairs (first_chunks 2 k ds)
unfolding bytes_of_pairs
by_pairs zero [] h = refl
by_pairs zero (d ∷ ds) h = absurd (omega (arith, h))
by_pairs (suc k) [] h = absurd (omega (arith, h))
by_pairs (suc k) (d ∷ []) h = absurd (omega (arith, h))
by_pairs (suc k) (d ∷ e ∷ ds) h =
    ap (λ o. option_and_then (λ b. option_map (λ bs. b ∷ bs) o) (hex_byte d e)) (by_pairs k ds (omega (arith, h)))

-- each pair gives a byte
all_read : (ps : List (List ℕ)) (bs : List ℕ) → length bs ≡ length ps → ((i : ℕ) → i < length ps → pair_byte (get_or ps i []) ≡ Some (get_or bs i 0)) → bytes_of_pairs ps ≡ Some bs
unfolding bytes_of_pairs
all_read [] [] h f = refl
all_read [] (b ∷ bs) h f = absurd (omega (arith, h))
all_read (p ∷ ps) [] h f = absurd (omega (arith, h))
all_read (p ∷ ps) (b ∷ bs) h f =
    ap (λ o. option_and_then (λ c. option_map (λ cs. c ∷ cs) (bytes_of_pairs ps)) o) (f 0 (omega arith))
    ∙ ap (λ o. option_map (λ cs. b ∷ cs) o) (all_read ps bs (omega (arith, h)) (λ i l. f (suc i) (omega (arith, l))))

-- some pair gives none
one_is_none : (o : Option ℕ) → option_and_then (λ b. option_map (λ (bs : List ℕ). b ∷ bs) None) o ≡ None
one_is_none None = refl
one_is_none (Some b) = refl

one_unread : (ps : List (List ℕ)) (i : ℕ) (p : List ℕ) → i < length ps → p ≡ get_or ps i p → pair_byte p ≡ None → bytes_of_pairs ps ≡ None
unfolding bytes_of_pairs
one_unread [] i p l e n = absurd (omega (arith, l))
one_unread (q ∷ ps) zero p l e n = ap (λ o. option_and_then (λ b. option_map (λ bs. b ∷ bs) (bytes_of_pairs ps)) o) (ap pair_byte (sym e) ∙ n)
one_unread (q ∷ ps) (suc i) p l e n =
    ap (λ o. option_and_then (λ b. option_map (λ bs. b ∷ bs) o) (pair_byte q)) (one_unread ps i p (omega (arith, l)) e n) ∙ one_is_none (pair_byte q)

-- what is read where each pair gives a byte, and where one gives none
pub digits_read : (k : ℕ) (ds : List ℕ) (ps : List (List ℕ)) (r : Result (List ℕ) (Unit {0})) → length ds ≡ 2 * k → length ps ≡ k → ps ≡ first_chunks 2 k ds →
    MatchResult r (λ bs. (length bs ≡ k) × ((i : ℕ) → i < k → pair_byte (get_or ps i []) ≡ Some (get_or bs i 0))) (λ _. (p : List ℕ) × IsAmong ps p × (pair_byte p ≡ None)) →
    result_ok r ≡ bytes_of_digits ds
digits_read k ds ps (Ok bs) h l e g = sym (by_pairs k ds h ∙ (ap bytes_of_pairs (sym e) ∙ all_read ps bs (omega (arith, l, g.0)) (λ i m. g.1 i (omega (arith, m, l)))))
digits_read k ds ps (Err f) h l e g = sym (by_pairs k ds h ∙ (ap bytes_of_pairs (sym e) ∙ one_unread ps g.1.0 g.0 g.1.1.0 g.1.1.1 g.2))

-- what holds of an Ok and of an Err holds of the result
pub both_sides : {A E : Type 0} (P : A → Type 0) (Q : E → Type 0) (P' : A → Type 0) (Q' : E → Type 0) (r : Result A E) → IfOk r P → IfErr r Q → ((x : A) → P x → P' x) → ((e : E) → Q e → Q' e) → MatchResult r P' Q'
both_sides P Q P' Q' (Ok x) p q f g = f x p
both_sides P Q P' Q' (Err e) p q f g = g e q

-- what holds where there is a value
pub at_ok : {A E : Type 0} (P : A → Type 0) (Q : E → Type 0) (r : Result A E) (x : A) → result_ok r ≡ Some x → MatchResult r P Q → P x
at_ok P Q (Ok y) x e m = let f : y ≡ x = cc in subst P f m
at_ok P Q (Err y) x e m = cc

-- what an `ok_or` was made of
pub some_of : (o : Option ℕ) (b : ℕ) → Ok b ≡ ok_or o (tt {0}) → o ≡ Some b
some_of None b e = cc
some_of (Some c) b e = cc

pub none_of : (o : Option ℕ) → Err (tt {0}) ≡ ok_or o (tt {0}) → o ≡ None
none_of None e = refl
none_of (Some c) e = cc
