-- Tests of some and of repeated elements, one element on, and the dialects of a version. Assumes nothing.
use Rattle.std.proofs.Common.{◌≡◌, ◌-◌, ◌<◌, ◌≤◌, Bool, true, false, not, ◌||◌, List, [], ◌∷◌, map, refl, length, get_or, arith, take, drop, Some, sym, ap, ◌∙◌, ap₂}
use mathlib.Core.List.{map-map}
use Rattle.std.proofs.lemmas.List.{take_rest}
use Rattle.model.specs.Build.{loses_dialect}
use Rattle.model.specs.Bytes.{Bytes, any, repeats, same_bytes}
use Rattle.model.specs.Version.{dialects}
use Rattle.version.specs.declared.view_version.ViewVersion.{ViewVersion}
use Rattle.version.specs.Meaning.{content_of, version_of, representation_of}
use Rattle.dialect.specs.Folding.{folded_dialect}

-- the first is among the rest
module _ {A B : Type 0} (f : A → B) (same : B → B → Bool) where
  pub repeats_none : (xs : List A) → length xs < 1 → false ≡ repeats same (map f xs)
  repeats_none [] h = refl
  repeats_none (x ∷ xs) h = absurd (omega arith)

  pub repeats_first : (xs : List A) (d : A) → 1 ≤ length xs → true ≡ any (same (f (get_or xs 0 d))) (map f (take (length xs - 1) (drop 1 xs))) → true ≡ repeats same (map f xs)
  repeats_first [] d h t = absurd (omega arith)
  repeats_first (x ∷ xs) d h t =
      sym (ap (λ b. b || repeats same (map f xs)) (ap (λ ys. any (same (f x)) (map f ys)) (sym (take_rest (x ∷ xs) 1)) ∙ sym t))

-- the dialects of a version, in lower case
pub dialects_are : (block : Bytes) (v : ViewVersion) → map (folded_dialect block) v.representations.now ≡ dialects (content_of block v)
dialects_are block v = sym (map-map _ (representation_of block) v.representations.now)

-- the dialect is none of these
abbrev pub missing : List Bytes → Bytes → Bool
missing ds d = not (any (same_bytes d) ds)

-- the loss test over the two versions' lists
pub loses_is : (block : Bytes) (v w : ViewVersion) →
    any (missing (map (folded_dialect block) w.representations.now)) (map (folded_dialect block) v.representations.now)
    ≡ loses_dialect (Some (version_of block v)) (content_of block w)
loses_is block v w = ap₂ (λ ds es. any (missing ds) es) (dialects_are block w) (dialects_are block v)
