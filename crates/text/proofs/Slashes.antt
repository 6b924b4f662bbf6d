-- The trailing slashes of a list of bytes, taken off one by one. Assumes nothing.
use Rattle.std.proofs.Common.{◌+◌, reverse, Bool, ◌==◌, subst, inl, inr, ◌≡◌, ℕ, suc, ◌≤◌, true, false, eqb, [], ◌∷◌, ◌++◌, length, take, drop, sym, refl, ap, ◌∙◌, arith}
use Rattle.std.specs.List.{prefix_len}
use Rattle.std.proofs.lemmas.List.{reverse-reverse, reverse-append, length-append, take_all, length-reverse, length-drop, take-append-le, take-take, length-take, length-take-le}
use Rattle.std.proofs.lemmas.Bool.{cases_Bool, cond_both}
use Rattle.std.proofs.lemmas.Bool.Decides.{nat_tests}
use Rattle.model.specs.Bytes.{Bytes, unless_slash, trimmed}
use Rattle.text.specs.declared.text.Text.{Text}
use Rattle.text.specs.Meaning.{bytes_of, sound}

-- a slash at the end goes
slash_push : (xs : Bytes) (b : ℕ) → eqb b 47 ≡ true → trimmed (xs ++ b ∷ []) ≡ trimmed xs
slash_push [] b h = simp h
slash_push (x ∷ xs) b h = ap (unless_slash x) (slash_push xs b h)

-- any other byte at the end stays
kept_before : (x b : ℕ) (xs : Bytes) → unless_slash x (xs ++ b ∷ []) ≡ x ∷ (xs ++ b ∷ [])
kept_before x b [] = refl
kept_before x b (y ∷ xs) = refl

other_push : (xs : Bytes) (b : ℕ) → eqb b 47 ≡ false → trimmed (xs ++ b ∷ []) ≡ xs ++ b ∷ []
other_push [] b h = simp h
other_push (x ∷ xs) b h = ap (unless_slash x) (other_push xs b h) ∙ kept_before x b xs

abbrev pub is_slash : ℕ → Bool
is_slash b = b == 47

-- how many bytes are left of those that are read from the end
abbrev pub left : Bytes → ℕ
left ys = length (drop (prefix_len is_slash ys) ys)

left_le : (ys : Bytes) → left ys ≤ length (reverse ys)
left_le ys = omega (arith, length-drop (prefix_len is_slash ys) ys, length-reverse ys)

left_is : (ys : Bytes) → trimmed (reverse ys) ≡ take (left ys) (reverse ys)
left_is [] = refl
left_is (y ∷ ys) =
    elim (cases_Bool (is_slash y)) [
      | inl t ↦ rw (t, reverse-append (y ∷ []) ys) (slash_push (reverse ys) y t ∙ left_is ys ∙ sym (take-append-le (left ys) (reverse ys) (y ∷ []) (left_le ys))
          ∙ ap (λ n. take (length (drop n (y ∷ ys))) (reverse ys ++ y ∷ [])) (let e : suc (prefix_len is_slash ys) ≡ 1 + prefix_len is_slash ys = omega arith in e))
      | inr t ↦ rw (t, reverse-append (y ∷ []) ys) (other_push (reverse ys) y t ∙ sym (take_all (length (y ∷ ys)) (reverse ys ++ y ∷ []) (omega (arith, length-append (reverse ys) (y ∷ []), length-reverse ys))))
    ]

-- so many bytes are left in front
pub left_in_front : (xs : Bytes) (k : ℕ) → k ≡ left (reverse xs) → (k ≤ length xs) × (trimmed xs ≡ take k xs)
left_in_front xs k e = rw e (subst (λ zs. (left (reverse xs) ≤ length zs) × (trimmed zs ≡ take (left (reverse xs)) zs)) (reverse-reverse xs) (left_le (reverse xs), left_is (reverse xs)))

-- the part of k bytes that is left of the n bytes xs from place p
pub trimmed_part : (block : Bytes) (p n k : ℕ) {xs : Bytes} → xs ≡ take n (drop p block) → k ≡ left (reverse xs) →
    (take k (drop p block) ≡ trimmed (take n (drop p block))) × (k ≡ length (trimmed (take n (drop p block))))
trimmed_part block p n k {xs} e h =
    let l = left_in_front xs k h in
    let s : k ≤ n = omega (arith, l.0, simp length-take at (ap length e)) in
    (sym (take-take k n (drop p block) s) ∙ (sym (ap (take k) e) ∙ (sym l.1 ∙ ap trimmed e)), sym (length-take-le k xs l.0) ∙ ap length (sym l.1 ∙ ap trimmed e))

length_unless : (x : ℕ) (ys : Bytes) → length (unless_slash x ys) ≤ suc (length ys)
length_unless x [] = cond_both (eqb x 47) [] (x ∷ []) (λ zs. length zs ≤ 1) (λ _. omega arith) (λ _. omega arith)
length_unless x (y ∷ ys) = omega arith

-- it is not longer than before
length_trimmed : (xs : Bytes) → length (trimmed xs) ≤ length xs
length_trimmed [] = omega arith
length_trimmed (x ∷ xs) = omega (arith, length_unless x (trimmed xs), length_trimmed xs)

-- what the text without its trailing slashes has is sound where the text was
pub trimmed_sound : (block : Bytes) (t r : Text) → r.place ≡ t.place → r.length ≡ length (trimmed (bytes_of block t)) → sound block t ≡ true → sound block r ≡ true
trimmed_sound block t r p e h =
    let s : r.length ≤ t.length = omega (arith, length_trimmed (bytes_of block t), length-take t.length (drop t.place block)) in
    grind (arith, nat_tests)
