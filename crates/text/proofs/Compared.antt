-- What < of slices of bytes answers, and a test of every byte. Assumes nothing.
use Rattle.std.proofs.Common.{leb, subst, ◌≡◌, Bool, length, get_or, inl, inr, Some, refl, arith}
use Rattle.std.specs.Ordering.{is_lt, nat_cmp, is_some_and}
use Rattle.std.specs.Cmp.Lexicographic.{slice_partial_cmp}
use Rattle.std.proofs.lemmas.List.{get_or_past}
use Rattle.std.proofs.lemmas.Cmp.{same_from_slice_cmp_tested}
use Rattle.std.proofs.lemmas.Bool.Decides.{nat_tests}
use Rattle.std.specs.List.{list_all}
use Rattle.std.specs.Bool.{MatchBool}
use Rattle.std.specs.Str.{IsAscii, IsNotAscii}
use Rattle.std.proofs.lemmas.List.Recursion.{and_is}
use Rattle.std.proofs.lemmas.Bool.{le-leb, lt-leb, cases_lt}
use Rattle.model.specs.Bytes.{Bytes, before, ascii}

-- < is the order of bytes
pub before_is : (xs ys : Bytes) (r : Bool) → r ≡ is_some_and is_lt (slice_partial_cmp (λ x y. Some (nat_cmp x y)) xs ys) → r ≡ before xs ys
before_is = same_from_slice_cmp_tested nat_cmp is_lt before refl (λ _ _. refl) (λ _ _. refl) (λ x y xs ys o h. grind (arith, nat_tests))

-- no byte is 128 or above
pub ascii_is : (bs : Bytes) (r : Bool) → MatchBool r (IsAscii bs) (IsNotAscii bs) → r ≡ list_all (λ b. leb b 127) bs
ascii_is bs r m =
    and_is ascii (λ b. leb b 127) refl (λ _ _. refl) bs 0 r
    (λ e i h. let k : IsAscii bs = subst (λ t. MatchBool t (IsAscii bs) (IsNotAscii bs)) e m in le-leb (get_or bs i 0) 127 (omega (arith, k i)))
    (λ e. let k : IsNotAscii bs = subst (λ t. MatchBool t (IsAscii bs) (IsNotAscii bs)) e m in
    elim (cases_lt k.0 (length bs)) [
      | inl h ↦ (k.0, h, lt-leb (get_or bs k.0 0) 127 (omega (arith, k.1)))
      | inr h ↦ absurd (omega (arith, k.1, get_or_past bs k.0 0 h))
    ])
