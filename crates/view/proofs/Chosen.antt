-- The id that an add gives, as the plan of set current version has it. Assumes nothing.
use Rattle.std.proofs.Common.{◌≡◌, ℕ, Bool, not, length, ℤ, Ok, Err, Result, ap, ◌∙◌}
use Rattle.model.specs.Ids.{same_number}
use Rattle.model.specs.Version.{Sameness}
use Rattle.model.specs.State.{State, SchemaIn, VersionIn}
use Rattle.model.specs.Updates.{with_schema_id}
use Rattle.model.specs.Refusals.{Fault, then}
use Rattle.model.proofs.Basics.{ok_not_err}
use Rattle.fault.specs.declared.fault.Fault as code
use Rattle.view.specs.declared.view_metadata_builder.ViewMetadataBuilder.{ViewMetadataBuilder}
use Rattle.view.specs.Meaning.{Reading, outcome, Did}
use Rattle.view.specs.Plans.{counted, told, plan, schema_choice, version_choice}

-- a call that is defined to be accepted
pub as_accepted : {X A : Type 0} (g : Reading X) (defined : Result (State g.Content) Fault) (b : ViewMetadataBuilder X) (r : Result A code.Fault) (after : ViewMetadataBuilder X) (t : State g.Content) →
    outcome g r after ≡ defined → after.view.text.now ≡ b.view.text.now → defined ≡ Ok t → Did g defined b r after
as_accepted g defined b (Ok a) after t e block q = record { as_defined = e; block = block; refused = tt }
as_accepted g defined b (Err f) after t e block q = ok_not_err (e ∙ q)

-- the plan, by the answers of its steps
module _ {C : Type 0} (k : Sameness C) (s : State C) (x : SchemaIn C) (v : VersionIn) where
  abbrev last_step : ℤ × ℕ → Result ℕ Fault
  last_step b = counted s.rooms.changes b.1 (not (same_number b.0 s.metadata.current_version_id))

  abbrev second_step : ℤ × ℕ → Result ℕ Fault
  second_step a = then (then (version_choice s (with_schema_id a.0 v)) (told s a.1)) last_step

  module _ (i : ℤ) (r : Bool) (c : Result ℕ Fault) (e₁ : Ok (i, r) ≡ schema_choice k s x) (e₂ : c ≡ counted s.rooms.changes (length s.changes) r) where
    pub plan_first : then (then c (λ n. Ok (i, n))) second_step ≡ plan k s x v
    plan_first = ap (λ z. then (then z (λ n. Ok (i, n))) second_step) e₂ ∙ ap (λ z. then (then z (told s (length s.changes))) second_step) e₁

  module _ (i : ℤ) (r : Bool) (n : ℕ) (e₁ : Ok (i, r) ≡ schema_choice k s x) (e₂ : Ok n ≡ counted s.rooms.changes (length s.changes) r) where
    pub plan_version : (q : Result (ℤ × Bool) Fault) → q ≡ version_choice s (with_schema_id i v) → then (then q (told s n)) last_step ≡ plan k s x v
    plan_version q e = ap (λ z. then (then z (told s n)) last_step) e ∙ plan_first i r (Ok n) e₁ e₂

    module _ (j : ℤ) (q : Bool) (e₃ : Ok (j, q) ≡ version_choice s (with_schema_id i v)) where
      pub plan_second : (d : Result ℕ Fault) → d ≡ counted s.rooms.changes n q → then (then d (λ m. Ok (j, m))) last_step ≡ plan k s x v
      plan_second d e = ap (λ z. then (then z (λ m. Ok (j, m))) last_step) e ∙ plan_version (Ok (j, q)) e₃

      pub plan_last : (m : ℕ) → Ok m ≡ counted s.rooms.changes n q → (p : Result ℕ Fault) → p ≡ last_step (j, m) → p ≡ plan k s x v
      plan_last m e p h = h ∙ plan_second (Ok m) e
