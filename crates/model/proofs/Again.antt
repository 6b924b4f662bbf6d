-- No edit but a choice of current looks at the pending entry. Assumes nothing.
use Rattle.std.proofs.Common.{◌≡◌, ℕ, Bool, true, false, cond, List, ℤ, Some, None, Ok, Err, Option, Result, sym, refl, ap, ◌∙◌}
use Rattle.model.specs.Bytes.{Bytes}
use Rattle.model.specs.Version.{Property, LogEntry, Sameness}
use Rattle.model.specs.Refusals.{Part, Fault, refuse, refuse_with, then}
use Rattle.model.specs.State.{Text, SchemaIn, VersionIn, State}
use Rattle.model.specs.Updates.{with_schema_id, with_pending}
use Rattle.model.specs.Edits.{after_set_location, after_assign_uuid, after_set_properties, after_remove_properties, reuse_or_add_schema, after_add_schema, equal_version, enter, enter_under, reuse_or_add_version, after_add_version}
use Rattle.model.specs.Ids.{resolved_id}

abbrev pub through : {A B E : Type 0} → (A → B) → Result A E → Result B E
through f (Ok a) = Ok (f a)
through f (Err e) = Err e

module _ {A B : Type 0} (f : A → B) where
  through_refuse : (b : Bool) (e : Fault) (r : Result A Fault) → through f (refuse b e r) ≡ refuse b e (through f r)
  through_refuse true e r = refl
  through_refuse false e r = refl

  through_refuse_with : (part : Part) (o : Option ℕ) (r : Result A Fault) → through f (refuse_with part o r) ≡ refuse_with part o (through f r)
  through_refuse_with part None r = refl
  through_refuse_with part (Some n) r = refl

  through_cond : (b : Bool) (x y : Result A Fault) → through f (cond b x y) ≡ cond b (through f x) (through f y)
  through_cond true x y = refl
  through_cond false x y = refl

  through_then : {D : Type 0} (r : Result D Fault) (g : D → Result A Fault) → through f (then r g) ≡ then r (λ a. through f (g a))
  through_then (Ok a) g = refl
  through_then (Err e) g = refl

module _ {C : Type 0} (p : Option LogEntry) (s : State C) where
  pub relocated_again : (t : Text) → after_set_location (with_pending p s) t ≡ through (with_pending p) (after_set_location s t)
  unfolding after_set_location
  relocated_again None = refl
  relocated_again (Some b) = simp (through_cond, through_refuse)

  pub assigned_again : (u : Bytes) → after_assign_uuid (with_pending p s) u ≡ through (with_pending p) (after_assign_uuid s u)
  unfolding after_assign_uuid
  assigned_again u = simp (through_cond, through_refuse)

  pub set_again : (xs : List (Option Property)) → after_set_properties (with_pending p s) xs ≡ through (with_pending p) (after_set_properties s xs)
  unfolding after_set_properties
  set_again xs = simp (through_refuse, through_then, through_cond)

  pub removed_again : (xs : List Text) → after_remove_properties (with_pending p s) xs ≡ through (with_pending p) (after_remove_properties s xs)
  unfolding after_remove_properties
  removed_again xs = simp (through_refuse, through_then, through_cond)

  schema_put_again : (k : Sameness C) (x : SchemaIn C) (o : Option ℤ) → reuse_or_add_schema (with_pending p s) x o ≡ through (with_pending p) (reuse_or_add_schema s x o)
  schema_put_again k x None = simp through_refuse
  schema_put_again k x (Some i) = simp (through_refuse, through_cond)

  pub schema_again : (k : Sameness C) (x : SchemaIn C) → after_add_schema k (with_pending p s) x ≡ through (with_pending p) (after_add_schema k s x)
  unfolding after_add_schema
  schema_again k x = simp (schema_put_again, through_refuse_with)

  enter_again : (x : VersionIn) → enter (with_pending p s) x ≡ through (with_pending p) (enter s x)
  unfolding enter
  enter_again x = simp through_refuse

  resolve_again : (x : VersionIn) (o : Option ℤ) → enter_under (with_pending p s) x o ≡ through (with_pending p) (enter_under s x o)
  resolve_again x None = refl
  resolve_again x (Some i) = enter_again (with_schema_id i x)

  version_put_again : (x : VersionIn) (o : Option ℤ) → reuse_or_add_version (with_pending p s) x o ≡ through (with_pending p) (reuse_or_add_version s x o)
  version_put_again x None = resolve_again x (resolved_id x.content.schema_id s.last_added_schema)
  version_put_again x (Some i) = simp (through_refuse, through_cond)

  pub version_again : (x : VersionIn) → after_add_version (with_pending p s) x ≡ through (with_pending p) (after_add_version s x)
  unfolding after_add_version
  version_again x =
      ap (refuse_with _ x.verdict) (version_put_again x (equal_version s x.content))
      ∙ sym (through_refuse_with (with_pending p) _ x.verdict (reuse_or_add_version s x (equal_version s x.content)))
