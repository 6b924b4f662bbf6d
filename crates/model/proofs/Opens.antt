-- A start that is accepted has what holds of every reachable state. Assumes nothing.
use Rattle.std.proofs.Common.{◌≡◌, ℕ, suc, ◌<◌, Bool, true, false, cond, not, ◌&&◌, eqb, List, [], ◌∷◌, map, length, ℤ, pos, negsuc, ◌≤ℤ◌, ◌<ℤ◌, Some, None, Ok, Err, Option, Result, refl, ap, subst, arith}
use lib.Signed.{le_z}
use Rattle.std.proofs.lemmas.Int.{ints}
use Rattle.std.proofs.lemmas.Bool.{and_parts, leb-false}
use Rattle.std.proofs.ByRecursion.{All-weaker}
use Rattle.std.specs.List.{AllByRecursion}
use Rattle.model.specs.Bytes.{Bytes}
use Rattle.model.specs.Version.{Property, Version, version_ids, schema_ids}
use Rattle.model.specs.Refusals.{malformed, Part, Fault, then, over, schemas_part, versions_part, log_part}
use Rattle.model.specs.State.{Text, SchemaIn, VersionIn, Metadata}
use Rattle.model.specs.Updates.{stored_version, stored_schema}
use Rattle.model.specs.Start.{ViewIn, Start, to_begin, to_open, in_range, rises, TestedRecord, refused_record, first_refused, schema_id_tested, entry_out_of_range, opened_properties, refuse_any, schema_tests, version_tests, opened_metadata, current_tested, opened_with_location, empty, begin_or_open, started}
use Rattle.model.specs.Law.{Ascending}
use Rattle.model.proofs.Basics.{ok_is, ok_not_err, refuse_ok, refuse_at_ok}
use Rattle.model.proofs.Steps.{Reached}
use Rattle.model.specs.Ids.{same_number, last_added, highest_id, find, holds}
use Rattle.model.specs.Limits.{most_schemas, most_versions, most_opened_entries, most_properties}

not_none : {A : Type 0} {P : Type 0} {x : A} → ◌≡◌ {A = Option A} (Some x) None → P
not_none p = let z : ◌≡◌ {A = ℕ} 0 1 = cc in absurd (omega arith)

then_ok : {A B : Type 0} (r : Result A Fault) (f : A → Result B Fault) (x : B) → then r f ≡ Ok x → (a : A) × (r ≡ Ok a) × (f a ≡ Ok x)
then_ok (Ok a) f x e = (a, refl, e)
then_ok (Err y) f x e = ok_not_err e

unless_ok : {A : Type 0} (o : Option Fault) (r : Result A Fault) (x : A) → refuse_any o r ≡ Ok x → (o ≡ None) × (r ≡ Ok x)
unless_ok None r x e = (refl, e)
unless_ok (Some f) r x e = ok_not_err e

abbrev Above : Option ℤ → ℤ → Type 0
Above None i = Unit {0}
Above (Some j) i = j <ℤ i

above_rises : (last : Option ℤ) (i : ℤ) → rises last i ≡ true → Above last i
above_rises None i e = tt
above_rises (Some j) i e = grind (arith, ints)

above_more : (last : Option ℤ) (i j : ℤ) → Above last i → i <ℤ j → Above last j
above_more None i j a h = tt
above_more (Some k) i j a h = omega (arith, ints)

not_negative : (i : ℤ) → in_range i ≡ true → pos 0 ≤ℤ i
not_negative i e = let h = (and_parts (le_z (pos 0) i) (le_z i highest_id) e).0 in grind (arith, ints)

-- what the tests of a list of records leave
record Passed (last : Option ℤ) (ts : List TestedRecord) : Type 0 where
  clear : AllByRecursion (λ t. t.verdict ≡ None) ts
  ranged : AllByRecursion (λ t. pos 0 ≤ℤ t.id) ts
  above : AllByRecursion (λ t. Above last t.id) ts
  rising : Ascending (map (λ t. t.id) ts)

ids_above : (i : ℤ) (ts : List TestedRecord) → AllByRecursion (λ t. i <ℤ t.id) ts → AllByRecursion (λ j. i <ℤ j) (map (λ t. t.id) ts)
ids_above i [] a = tt
ids_above i (t ∷ ts) a = (a.0, ids_above i ts a.1)

passed : (part : Part) (n : ℕ) (last : Option ℤ) (ts : List TestedRecord) → first_refused part n last ts ≡ None → Passed last ts
passed part n last [] e = record { clear = tt; ranged = tt; above = tt; rising = tt }
passed part n last (t ∷ ts) e = by_verdict t.verdict refl e (passed part (suc n) (Some t.id) ts)
  where
    by_place : (b : Bool) → (in_range t.id && rises last t.id) ≡ b → t.verdict ≡ None →
        cond b (first_refused part (suc n) (Some t.id) ts) (Some (record { number = malformed; part = part; position = n })) ≡ None →
        (first_refused part (suc n) (Some t.id) ts ≡ None → Passed (Some t.id) ts) → Passed last (t ∷ ts)
    by_place false q v e' more = not_none e'
    by_place true q v e' more =
        let r = more e' in
        let both = and_parts (in_range t.id) (rises last t.id) q in
        let here : Above last t.id = above_rises last t.id both.1 in
        record {
          clear = (v, r.clear);
          ranged = (not_negative t.id both.0, r.ranged);
          above = (here, All-weaker (λ x. t.id <ℤ x.id) (λ x. Above last x.id) (λ x h. above_more last t.id x.id here h) ts r.above);
          rising = (ids_above t.id ts r.above, r.rising);
        }

    by_verdict : (o : Option ℕ) → t.verdict ≡ o →
        refused_record part n o (cond (in_range t.id && rises last t.id) (first_refused part (suc n) (Some t.id) ts) (Some (record { number = malformed; part = part; position = n }))) ≡ None →
        (first_refused part (suc n) (Some t.id) ts ≡ None → Passed (Some t.id) ts) → Passed last (t ∷ ts)
    by_verdict (Some m) v e' more = not_none e'
    by_verdict None v e' more = by_place (in_range t.id && rises last t.id) refl v e' more

schema_ranges : {C : Type 0} (rs : List (SchemaIn C)) → AllByRecursion (λ t. pos 0 ≤ℤ t.id) (schema_tests rs) → AllByRecursion (λ i. pos 0 ≤ℤ i) (schema_ids (map stored_schema rs))
schema_ranges [] a = tt
schema_ranges (r ∷ rs) a = (a.0, schema_ranges rs a.1)

version_ids_are : (rs : List VersionIn) → map (λ t. t.id) (version_tests rs) ≡ version_ids (map stored_version rs)
version_ids_are [] = refl
version_ids_are (r ∷ rs) = ap (λ is. r.id ∷ is) (version_ids_are rs)

named_well : (o : Option ℕ) (i : ℤ) → schema_id_tested o i ≡ None → same_number i last_added ≡ false
named_well (Some n) i e = not_none e
named_well None (pos n) e = refl
named_well None (negsuc n) e = not_none e

versions_named : (rs : List VersionIn) → AllByRecursion (λ t. t.verdict ≡ None) (version_tests rs) → AllByRecursion (λ v. same_number v.content.schema_id last_added ≡ false) (map stored_version rs)
versions_named [] a = tt
versions_named (r ∷ rs) a = (named_well r.verdict r.content.schema_id a.0, versions_named rs a.1)

module _ {C : Type 0} where
  -- the current version is tested, and nothing else changes
  tested_is : (m : Metadata C) (o : Option Version) (initial : Metadata C) → current_tested m o ≡ Ok initial → m ≡ initial
  tested_is m None initial e = ok_not_err e
  tested_is m (Some v) initial e = ok_is (refuse_ok (not (holds v.content.schema_id (schema_ids m.schemas))) _ _ initial e).1

  viewed_reached : (x : ViewIn C) (location : Bytes) (ps : List Property) → Passed None (schema_tests x.schemas) → Passed None (version_tests x.versions) → length x.version_log < 256 →
      Reached (started (opened_metadata x location ps))
  viewed_reached x location ps a b few = record {
    within = omega arith;
    schemas_not_negative = schema_ranges x.schemas a.ranged;
    versions_name = versions_named x.versions b.clear;
    rising = subst Ascending (version_ids_are x.versions) b.rising;
    log_fits = few;
    changes_fit = omega arith;
  }

  opened_reached : (x : ViewIn C) (location : Text) (initial : Metadata C) → opened_with_location x location ≡ Ok initial → Reached (started initial)
  opened_reached x None initial e = ok_not_err e
  opened_reached x (Some location) initial e =
      let a = unless_ok (first_refused schemas_part 0 None (schema_tests x.schemas)) _ initial (refuse_ok (over most_schemas x.schemas) _ _ initial e).1 in
      let b = unless_ok (first_refused versions_part 0 None (version_tests x.versions)) _ initial (refuse_ok (over most_versions x.versions) _ _ initial a.1).1 in
      let l = refuse_ok (over most_opened_entries x.version_log) _ _ initial b.1 in
      let c = refuse_ok (over most_properties x.properties) _ _ initial (refuse_at_ok malformed log_part (entry_out_of_range 0 x.version_log) _ initial l.1) in
      let d = then_ok (opened_properties 0 None x.properties) _ initial c.1 in
      subst (λ s. Reached (started s)) (tested_is (opened_metadata x location d.0) (find (λ v. v.id) x.current_version_id (opened_metadata x location d.0).versions) initial d.2)
      (viewed_reached x location d.0 (passed schemas_part 0 None (schema_tests x.schemas) a.0) (passed versions_part 0 None (version_tests x.versions) b.0) (leb-false 256 (length x.version_log) l.0))

  begun_reached : (u : Bytes) → Reached {C = C} (started (empty u))
  begun_reached u = record { within = omega arith; schemas_not_negative = tt; versions_name = tt; rising = tt; log_fits = omega arith; changes_fit = omega arith }

  pub start_reached : (start : Start C) (initial : Metadata C) → begin_or_open start ≡ Ok initial → Reached (started initial)
  unfolding begin_or_open
  start_reached (to_begin format u oversized) initial e =
      subst (λ s. Reached (started s)) (ok_is (refuse_ok oversized _ _ initial (refuse_ok (not (eqb format 1)) _ _ initial e).1).1) (begun_reached u)
  start_reached (to_open x) initial e =
      opened_reached x x.location initial (refuse_ok x.block_too_long _ _ initial (refuse_ok (not (eqb x.format_version 1)) _ _ initial e).1).1
