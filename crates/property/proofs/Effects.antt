-- What updates whose keys are distinct add to the properties held, and whether they change one. Assumes nothing.
use Rattle.std.proofs.Common.{◌≡◌, ℕ, ◌+◌, ◌<◌, ◌≤◌, get_or, drop, Bool, true, false, cond, not, List, [], ◌∷◌, map, length, pos, Some, None, Decides, Option, sym, refl, ap, arith}
use Rattle.std.specs.List.{count_by, list_any}
use Rattle.std.specs.Option.{is_none}
use Rattle.std.proofs.lemmas.Bool.{and_parts}
use Rattle.std.proofs.lemmas.Bool.Decides.{nat_tests}
use Rattle.std.proofs.lemmas.List.{at_drop_more}
use Rattle.std.proofs.lemmas.List.Sums.{sum_by-cons}
use Rattle.model.specs.Bytes.{Bytes, same_list}
use Rattle.model.specs.Version.{Property, Content, same_property, same_text}
use Rattle.model.specs.Edits.{out_of_order, has_key, put_property, put_properties}
use Rattle.model.specs.Build.{look_up}
use Rattle.model.proofs.Sames.{same_law}
use Rattle.property.proofs.Keys.{bytes_decides, Distinct, distinct}
use Rattle.property.proofs.Puts.{length_put, look_up_put, look_up_put_other, look_up_puts_other, put_same, length_puts_least}

-- a content that is nothing but a list of properties
abbrev listing : List Property → Content
listing ps = record { schema_id = pos 0; summary = ps; representations = []; default_catalog = None; default_namespace = [] }

same_listed : (ps qs : List Property) → same_list same_property ps qs ≡ true → ps ≡ qs
same_listed ps qs e = ap (λ (c : Content). c.summary) ((same_law (listing ps) (listing qs)).0 (rw e))

same_itself : (ps : List Property) → same_list same_property ps ps ≡ true
same_itself ps = (and_parts (same_list same_property ps ps) true ((same_law (listing ps) (listing ps)).1 refl)).0

same_value : (o : Option Bytes) (v : Bytes) → Decides (same_text o (Some v)) (o ≡ Some v)
same_value None v = grind arith
same_value (Some a) v = grind (arith, bytes_decides a v)

module _ {A : Type 0} (f : A → Property) where
  -- the key is not held
  abbrev pub is_new : List Property → A → Bool
  is_new held x = is_none (look_up (f x).key held)

  -- the key is not held with that value
  abbrev pub differs : List Property → A → Bool
  differs held x = not (same_text (look_up (f x).key held) (Some (f x).value))

  -- a put of another key leaves a key as new as it was
  as_new : (p : Property) (held : List Property) (xs : List A) → has_key p.key (map f xs) ≡ false → count_by (is_new (put_property p held)) xs ≡ count_by (is_new held) xs
  as_new p held [] n = refl
  as_new p held (x ∷ xs) n =
      grind (arith, look_up_put_other (f x).key p held, as_new p held xs, sum_by-cons (λ y. cond (is_new (put_property p held) y) 1 0) x xs, sum_by-cons (λ y. cond (is_new held y) 1 0) x xs)

  counted_distinct : (xs : List A) (held : List Property) → Distinct (map f xs) → length held + count_by (is_new held) xs ≡ length (put_properties (map f xs) held)
  counted_distinct [] held d = omega arith
  counted_distinct (x ∷ xs) held d =
      omega (arith, counted_distinct xs (put_property (f x) held) d.1, as_new (f x) held xs d.0, length_put (f x) held, sum_by-cons (λ y. cond (is_new held y) 1 0) x xs)

  pub counted : (xs : List A) (held : List Property) → out_of_order (map f xs) ≡ None → length held + count_by (is_new held) xs ≡ length (put_properties (map f xs) held)
  counted xs held o = counted_distinct xs held (distinct (map f xs) o)

  changed_distinct : (xs : List A) (held : List Property) → Distinct (map f xs) → list_any (differs held) xs ≡ not (same_list same_property (put_properties (map f xs) held) held)
  changed_distinct [] held d = ap not (sym (same_itself held))
  changed_distinct (x ∷ xs) held d =
      let new = put_properties (map f xs) (put_property (f x) held) in
      grind (arith, nat_tests, same_value (look_up (f x).key held) (f x).value, put_same (f x) held, changed_distinct xs held d.1, same_listed new held, look_up_puts_other (f x).key (map f xs) (put_property (f x) held) d.0, look_up_put (f x) held)

  pub changed : (xs : List A) (held : List Property) → out_of_order (map f xs) ≡ None → list_any (differs held) xs ≡ not (same_list same_property (put_properties (map f xs) held) held)
  changed xs held o = changed_distinct xs held (distinct (map f xs) o)

  -- the next update is put before the others that are left
  pub next_put : (xs : List A) (i : ℕ) (d : A) (held : List Property) → i < length xs → put_properties (map f (drop (i + 1) xs)) (put_property (f (get_or xs i d)) held) ≡ put_properties (map f (drop i xs)) held
  next_put xs i d held h = sym (at_drop_more (λ ys. put_properties (map f ys) held) xs i d h)

  pub next_fits : (xs : List A) (i : ℕ) (d : A) (held new : List Property) (room : ℕ) → i < length xs → put_properties (map f (drop i xs)) held ≡ new → length new ≤ room → length (put_property (f (get_or xs i d)) held) ≤ room
  next_fits xs i d held new room h e n =
      omega (arith, length_puts_least (map f (drop (i + 1) xs)) (put_property (f (get_or xs i d)) held), ap length (next_put xs i d held h), ap length e, n)
