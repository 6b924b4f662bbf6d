-- What the searches of a list of properties find, in the words of the model. Assumes nothing.
use Rattle.std.proofs.Common.{◌≡◌, ℕ, suc, Bool, cond, not, ◌&&◌, List, [], ◌∷◌, map, Some, None, Ok, Option, sym, refl, ap, ◌∙◌, add-one, arith}
use Rattle.std.specs.List.{find, position, position_from}
use Rattle.std.specs.Option.{option_map}
use Rattle.std.proofs.lemmas.Iterator.Adapters.{position_from-zero}
use Rattle.model.specs.Bytes.{Bytes, same_bytes}
use Rattle.model.specs.Version.{Property}
use Rattle.model.specs.Refusals.{bad_text, properties_part, refuse_at}
use Rattle.model.specs.Numbers.{below_zero, signed_reading}
use Rattle.model.specs.Settings.{history_key}
use Rattle.model.specs.Edits.{read_all, negative_size}
use Rattle.model.specs.Build.{look_up}
use Rattle.model.proofs.Basics.{refuse_at_ok, ok_is}

-- a list whose good elements pass a test, as it is read
module _ {A B : Type 0} (good : A → Bool) (f : A → B) where
  abbrev read : A → Option B
  read x = cond (good x) (Some (f x)) None

  abbrev bad : A → Bool
  bad x = not (good x)

  read_from : (i : ℕ) (xs : List A) → read_all i (map read xs) ≡ refuse_at bad_text properties_part (position_from bad i xs) (Ok (map f xs))
  read_from i [] = refl
  read_from i (x ∷ xs) = let r = read_from (suc i) xs in rw add-one (grind arith)

  -- it is refused at the first bad one
  pub read_as : (xs : List A) (r : Option ℕ) → r ≡ position bad xs → read_all 0 (map read xs) ≡ refuse_at bad_text properties_part r (Ok (map f xs))
  read_as xs r e = read_from 0 xs ∙ ap (λ o. refuse_at bad_text properties_part o (Ok (map f xs))) (sym (e ∙ position_from-zero bad xs))

  -- what was read is all of the list
  pub read_ok : (xs : List A) (ys : List B) → read_all 0 (map read xs) ≡ Ok ys → ys ≡ map f xs
  read_ok xs ys e = sym (ok_is (refuse_at_ok bad_text properties_part (position bad xs) (Ok (map f xs)) ys (sym (read_as xs (position bad xs) refl) ∙ e)))

module _ {A : Type 0} (f : A → Property) where
  pub found_value : (k : Bytes) (xs : List A) → option_map (λ x. (f x).value) (find (λ x. same_bytes (f x).key k) xs) ≡ look_up k (map f xs)
  found_value k [] = refl
  found_value k (x ∷ xs) = let r = found_value k xs in grind arith

  -- the element sets a history size below 0
  abbrev pub asks : A → Bool
  asks x = same_bytes (f x).key history_key && below_zero (signed_reading (f x).value)

  size_from : (i : ℕ) (xs : List A) → position_from asks i xs ≡ negative_size i (map f xs)
  size_from i [] = refl
  size_from i (x ∷ xs) = let r = size_from (suc i) xs in rw add-one (grind arith)

  pub size_found : (xs : List A) → position asks xs ≡ negative_size 0 (map f xs)
  size_found xs = position_from-zero asks xs ∙ size_from 0 xs
