-- Two lists compared place by place. Assumes nothing.
use Rattle.std.proofs.Common.{◌≡◌, Bool, ◌&&◌, List, [], ◌∷◌, map, length, refl, ap, arith}
use Rattle.std.specs.List.{zip, list_all}
use Rattle.model.specs.Bytes.{same_list}

-- two lists through a function, place by place
module _ {A B : Type 0} (f : A → B) (same : B → B → Bool) where
  -- the same at one place
  abbrev pub alike_at : A × A → Bool
  alike_at p = same (f p.0) (f p.1)

  -- lists of one length are the same where they are at every place
  pub matched : (xs ys : List A) → length xs ≡ length ys → list_all alike_at (zip xs ys) ≡ same_list same (map f xs) (map f ys)
  matched [] [] n = refl
  matched [] (y ∷ ys) n = absurd (omega arith)
  matched (x ∷ xs) [] n = absurd (omega arith)
  matched (x ∷ xs) (y ∷ ys) n = ap (λ b. alike_at (x, y) && b) (matched xs ys (omega arith))
