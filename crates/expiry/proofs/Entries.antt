-- The log that is kept, one more entry at a time. Assumes nothing.
use Rattle.std.proofs.Common.{suc, reverse, subst, ◌-◌, ◌≡◌, ℕ, ◌+◌, ◌≤◌, Bool, true, false, cond, ◌&&◌, List, [], ◌∷◌, ◌++◌, map, length, drop, ℤ, sym, refl, ap, ◌∙◌, arith}
use Rattle.std.specs.List.{prefix_len}
use Rattle.std.proofs.lemmas.List.{reverse-reverse, reverse-append, length-reverse, length-append, drop-append-le, drop_all, map_push}
use Rattle.model.specs.Version.{LogEntry}
use Rattle.model.specs.Ids.{holds}
use Rattle.model.specs.Build.{names_only, kept_log}

names_only_push : (ids : List ℤ) (es : List LogEntry) (e : LogEntry) → names_only ids (es ++ e ∷ []) ≡ (names_only ids es && holds e.id ids)
names_only_push ids [] e = go (holds e.id ids)
  where
    go : (b : Bool) → (b && true) ≡ (true && b)
    go true = refl
    go false = refl
names_only_push ids (x ∷ es) e = ap (λ b. holds x.id ids && b) (names_only_push ids es e) ∙ go (holds x.id ids)
  where
    go : (b : Bool) → (b && (names_only ids es && holds e.id ids)) ≡ ((b && names_only ids es) && holds e.id ids)
    go true = refl
    go false = refl

-- an entry that names none of the ids ends all before it
pub kept_log_push : (ids : List ℤ) (es : List LogEntry) (e : LogEntry) → kept_log ids (es ++ e ∷ []) ≡ cond (holds e.id ids) (kept_log ids es ++ e ∷ []) []
kept_log_push ids [] e = go (holds e.id ids)
  where
    go : (b : Bool) → cond (b && true) (e ∷ []) [] ≡ cond b (e ∷ []) []
    go true = refl
    go false = refl
kept_log_push ids (x ∷ es) e =
    ap (λ b. cond b (x ∷ es ++ e ∷ []) (kept_log ids (es ++ e ∷ []))) (names_only_push ids (x ∷ es) e)
    ∙ go (names_only ids (x ∷ es)) (holds e.id ids) (kept_log_push ids es e)
  where
    go : (b h : Bool) → kept_log ids (es ++ e ∷ []) ≡ cond h (kept_log ids es ++ e ∷ []) [] →
        cond (b && h) (x ∷ (es ++ e ∷ [])) (kept_log ids (es ++ e ∷ [])) ≡ cond h (cond b (x ∷ es) (kept_log ids es) ++ e ∷ []) []
    go true true more = refl
    go true false more = more
    go false true more = more
    go false false more = more

-- the entry names one of the ids
module _ {A : Type 0} (f : A → LogEntry) (ids : List ℤ) where
  abbrev pub named_by : A → Bool
  named_by e = holds (f e).id ids

  -- how many entries at the end name one of the ids, of those that are read from the end
  abbrev pub last_named : List A → ℕ
  last_named ys = prefix_len named_by ys

  last_le : (ys : List A) → length ys - last_named ys ≤ length (reverse ys)
  last_le ys = omega (arith, length-reverse ys)

  kept_at_end : (ys : List A) → map f (drop (length ys - last_named ys) (reverse ys)) ≡ kept_log ids (map f (reverse ys))
  kept_at_end [] = refl
  kept_at_end (y ∷ ys) =
      ap (λ zs. map f (drop (length (y ∷ ys) - last_named (y ∷ ys)) zs)) (reverse-append (y ∷ []) ys)
      ∙ go (named_by y) (kept_at_end ys)
      ∙ sym (kept_log_push ids (map f (reverse ys)) (f y))
      ∙ ap (kept_log ids) (sym (map_push f (reverse ys) y) ∙ ap (map f) (sym (reverse-append (y ∷ []) ys)))
    where
      go : (b : Bool) → map f (drop (length ys - last_named ys) (reverse ys)) ≡ kept_log ids (map f (reverse ys)) → map f (drop (suc (length ys) - cond b (1 + last_named ys) 0) (reverse ys ++ y ∷ [])) ≡ cond b (kept_log ids (map f (reverse ys)) ++ f y ∷ []) []
      go true more =
          ap (λ n. map f (drop n (reverse ys ++ y ∷ []))) (let e : suc (length ys) - (1 + last_named ys) ≡ length ys - last_named ys = omega arith in e)
          ∙ ap (map f) (drop-append-le (length ys - last_named ys) (reverse ys) (y ∷ []) (last_le ys))
          ∙ map_push f (drop (length ys - last_named ys) (reverse ys)) y
          ∙ ap (λ es. es ++ f y ∷ []) more
      go false more = ap (map f) (drop_all (suc (length ys) - 0) (reverse ys ++ y ∷ []) (omega (arith, length-append (reverse ys) (y ∷ []), length-reverse ys)))

  -- the kept log is so many entries at the end
  pub kept_is : (xs : List A) (k : ℕ) → k ≡ last_named (reverse xs) → map f (drop (length xs - k) xs) ≡ kept_log ids (map f xs)
  kept_is xs k e =
      ap (λ m. map f (drop (length xs - m) xs)) e ∙ ap (λ n. map f (drop (n - last_named (reverse xs)) xs)) (sym (length-reverse xs))
      ∙ subst (λ zs. map f (drop (length (reverse xs) - last_named (reverse xs)) zs) ≡ kept_log ids (map f zs)) (reverse-reverse xs) (kept_at_end (reverse xs))
