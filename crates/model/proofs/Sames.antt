-- The tests of equality say yes exactly where two values are equal. Assumes nothing.
use Rattle.std.proofs.Common.{◌≡◌, ℕ, Bool, ◌&&◌, eqb, List, [], ◌∷◌, ℤ, Some, None, Decides, Option, sym, refl, ap, ap₂, arith}
use Rattle.std.proofs.lemmas.Bool.{true≢false}
use Rattle.std.proofs.lemmas.Bool.Decides.{Decides-eqb, Decides-and, Decides-like}
use Rattle.model.specs.Bytes.{Bytes, same_list, same_bytes}
use Rattle.model.specs.Version.{Property, Representation, Content, same_property, same_representation, same_text, same_content}
use Rattle.model.specs.Law.{SameLaw}
use Rattle.model.proofs.Basics.{same_true, same_eq}
use Rattle.model.specs.Ids.{same_number}

module _ {A : Type 0} (same : A → A → Bool) (each : (x y : A) → Decides (same x y) (x ≡ y)) where
  same_list_decides : (xs ys : List A) → Decides (same_list same xs ys) (xs ≡ ys)
  same_list_decides [] [] = ((λ t. refl), (λ p. refl))
  same_list_decides [] (y ∷ ys) = ((λ t. absurd (true≢false (sym t))), (λ p. let z : ◌≡◌ {A = ℕ} 0 1 = cc in absurd (omega arith)))
  same_list_decides (x ∷ xs) [] = ((λ t. absurd (true≢false (sym t))), (λ p. let z : ◌≡◌ {A = ℕ} 0 1 = cc in absurd (omega arith)))
  same_list_decides (x ∷ xs) (y ∷ ys) =
      Decides-like (same x y && same_list same xs ys) (λ q. ap₂ (λ a b. a ∷ b) q.0 q.1) (λ p. ((cc), (cc)))
      (Decides-and (same x y) (same_list same xs ys) (each x y) (same_list_decides xs ys))

bytes_decides : (a b : Bytes) → Decides (same_bytes a b) (a ≡ b)
bytes_decides = same_list_decides eqb Decides-eqb

number_decides : (a b : ℤ) → Decides (same_number a b) (a ≡ b)
number_decides a b = (same_true a b, same_eq a b)

property_decides : (p q : Property) → Decides (same_property p q) (p ≡ q)
property_decides p q =
    Decides-like (same_property p q) (λ e. ap₂ (λ a b. record { key = a; value = b }) e.0 e.1) (λ e. (ap (λ (x : Property). x.key) e, ap (λ (x : Property). x.value) e))
    (Decides-and (same_bytes p.key q.key) (same_bytes p.value q.value) (bytes_decides p.key q.key) (bytes_decides p.value q.value))

representation_decides : (p q : Representation) → Decides (same_representation p q) (p ≡ q)
representation_decides p q =
    Decides-like (same_representation p q) (λ e. ap₂ (λ a b. record { sql = a; dialect = b }) e.0 e.1) (λ e. (ap (λ (x : Representation). x.sql) e, ap (λ (x : Representation). x.dialect) e))
    (Decides-and (same_bytes p.sql q.sql) (same_bytes p.dialect q.dialect) (bytes_decides p.sql q.sql) (bytes_decides p.dialect q.dialect))

text_decides : (a b : Option Bytes) → Decides (same_text a b) (a ≡ b)
text_decides None None = ((λ t. refl), (λ p. refl))
text_decides None (Some b) = ((λ t. absurd (true≢false (sym t))), (λ p. let z : ◌≡◌ {A = ℕ} 0 1 = cc in absurd (omega arith)))
text_decides (Some a) None = ((λ t. absurd (true≢false (sym t))), (λ p. let z : ◌≡◌ {A = ℕ} 0 1 = cc in absurd (omega arith)))
text_decides (Some a) (Some b) = Decides-like (same_bytes a b) (ap Some) (λ p. (cc)) (bytes_decides a b)

-- two contents whose parts are equal
abbrev Parts : Content → Content → Type 0
Parts c d = (c.schema_id ≡ d.schema_id) × ((c.summary ≡ d.summary) × ((c.representations ≡ d.representations) × ((c.default_catalog ≡ d.default_catalog) × (c.default_namespace ≡ d.default_namespace))))

from_parts : (c d : Content) → Parts c d → c ≡ d
from_parts c d p = λ i. record { schema_id = p.0 i; summary = p.1.0 i; representations = p.1.1.0 i; default_catalog = p.1.1.1.0 i; default_namespace = p.1.1.1.1 i }

to_parts : (c d : Content) → c ≡ d → Parts c d
to_parts c d p =
    (ap (λ (x : Content). x.schema_id) p, (ap (λ (x : Content). x.summary) p, (ap (λ (x : Content). x.representations) p, (ap (λ (x : Content). x.default_catalog) p, ap (λ (x : Content). x.default_namespace) p))))

pub same_law : SameLaw
same_law c d =
    Decides-like (same_content c d) (from_parts c d) (to_parts c d)
    (Decides-and (same_number c.schema_id d.schema_id) _ (number_decides c.schema_id d.schema_id)
    (Decides-and (same_list same_property c.summary d.summary) _ (same_list_decides same_property property_decides c.summary d.summary)
    (Decides-and (same_list same_representation c.representations d.representations) _ (same_list_decides same_representation representation_decides c.representations d.representations)
    (Decides-and (same_text c.default_catalog d.default_catalog) (same_list same_bytes c.default_namespace d.default_namespace) (text_decides c.default_catalog d.default_catalog)
    (same_list_decides same_bytes bytes_decides c.default_namespace d.default_namespace)))))
