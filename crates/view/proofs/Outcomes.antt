-- The answers of a call as the model has them: accepted, left by a `?`, or ended by recording a change. Assumes nothing.
use Rattle.std.proofs.Common.{◌≡◌, Bool, true, false, cond, IsErrAnd, Some, None, Ok, Err, Option, Result, sym, refl, ap, ◌∙◌}
use Rattle.std.specs.Option.{ok_or}
use Rattle.model.specs.State.{State}
use Rattle.model.specs.Updates.{recorded}
use Rattle.model.specs.Refusals as refusals
use Rattle.model.specs.Refusals.{refuse}
use Rattle.register.specs.declared.table.Table.{Table}
use Rattle.register.specs.Tables.{is_full, with_one_more, after_push}
use Rattle.fault.specs.Layers.{changes_fault}
use Rattle.fault.specs.Meaning.{fault_of}
use Rattle.fault.specs.declared.fault.Fault.{Fault}
use Rattle.view.specs.declared.view_metadata_builder.ViewMetadataBuilder.{ViewMetadataBuilder}
use Rattle.view.specs.declared.view_update.ViewUpdate.{ViewUpdate}
use Rattle.view.specs.Meaning.{Reading, model_of, change_of, outcome, meant, unchanged_if_refused, Did}
use Rattle.view.specs.Steps.{with_changes}
use Rattle.view.proofs.Recording.{recorded_ok, recorded_not}

-- where nothing has changed, nothing has changed on a refusal
unchanged : {X A : Type 0} (s : Result A Fault) (b after : ViewMetadataBuilder X) → after ≡ b → unchanged_if_refused s b after
unchanged (Ok a) b after e = tt
unchanged (Err f) b after e = e

-- the exit of a `?` on a fault, as the rules have it
pub err_means : {A : Type 0} (s : Result A Fault) (f : Fault) → IsErrAnd s (λ y. y ≡ f) → IsErrAnd s (λ y. fault_of y ≡ fault_of f)
err_means (Err y) f e = ap fault_of e
err_means (Ok a) f e = absurd e

pub meant_by : {A : Type 0} (s : Result A Fault) (f : Fault) → IsErrAnd s (λ y. y ≡ f) → meant s ≡ Err (fault_of f)
meant_by (Err y) f e = ap (λ z. Err (fault_of z)) e
meant_by (Ok a) f e = absurd e

-- the fault where there was none
pub none_means : {A : Type 0} (o : Option A) (d f : Fault) (m : refusals.Fault) → o ≡ None → Err f ≡ ok_or o d → fault_of d ≡ m → fault_of f ≡ m
none_means None d f m p e q = let is : f ≡ d = cc in ap fault_of is ∙ q
none_means (Some a) d f m p e q = absurd (cc)

-- what the answer of recording says of the room
room_from : (full : Bool) (r : Result (Unit {0}) Fault) (x : Unit {0}) → meant r ≡ refuse full changes_fault (Ok tt) → r ≡ Ok x → full ≡ false
room_from true r x q p = let e : ◌≡◌ {A = Result (Unit {0}) refusals.Fault} (Ok x) (Err changes_fault) = sym (ap meant p) ∙ q in absurd (cc)
room_from false r x q p = refl

pub full_from : (full : Bool) (r : Result (Unit {0}) Fault) (f : Fault) → meant r ≡ refuse full changes_fault (Ok tt) → r ≡ Err f → (full ≡ true) × (fault_of f ≡ changes_fault)
full_from true r f q p = let e : ◌≡◌ {A = Result (Unit {0}) refusals.Fault} (Err (fault_of f)) (Err changes_fault) = sym (ap meant p) ∙ q in (refl, cc)
full_from false r f q p = let e : ◌≡◌ {A = Result (Unit {0}) refusals.Fault} (Err (fault_of f)) (Ok tt) = sym (ap meant p) ∙ q in absurd (cc)

-- a push to a full table changes nothing
not_pushed : {X : Type 0} (t : Table X) (x : X) → is_full t ≡ true → after_push t x ≡ t
not_pushed t x h = ap (λ q. cond q t (with_one_more t x)) h

module _ {X A : Type 0} (g : Reading X) (defined : Result (State g.Content) refusals.Fault) (b : ViewMetadataBuilder X) where
  -- the exit of a `?` answers the fault that the conversion gives
  exit_by : (s : Result A Fault) (after : ViewMetadataBuilder X) (f : refusals.Fault) → IsErrAnd s (λ y. fault_of y ≡ f) → outcome g s after ≡ Err f
  exit_by (Err y) after f e = ap Err e
  exit_by (Ok y) after f e = absurd e

  -- a call that left by a `?` with nothing changed
  pub left_by : (s : Result A Fault) (after : ViewMetadataBuilder X) (f : refusals.Fault) → IsErrAnd s (λ y. fault_of y ≡ f) → after ≡ b → defined ≡ Err f → Did g defined b s after
  left_by s after f q same d = record { as_defined = exit_by s after f q ∙ sym d; block = ap (λ t. t.view.text.now) same; refused = unchanged s b after same }

  -- the same by a `?` on a fault
  pub left_on : (s : Result A Fault) (after : ViewMetadataBuilder X) (f : Fault) → IsErrAnd s (λ y. y ≡ f) → after ≡ b → defined ≡ Err (fault_of f) → Did g defined b s after
  left_on s after f q = left_by s after (fault_of f) (err_means s f q)

  -- a call that was accepted
  pub went : (a : A) (after : ViewMetadataBuilder X) → after.view.text.now ≡ b.view.text.now → defined ≡ Ok (model_of g after) → Did g defined b (Ok a) after
  went a after block d = record { as_defined = sym d; block = block; refused = tt }

  -- another name for what is defined
  pub redefined : {other : Result (State g.Content) refusals.Fault} (s : Result A Fault) (after : ViewMetadataBuilder X) → Did g defined b s after → defined ≡ other → Did g other b s after
  redefined s after d e = record { as_defined = d.as_defined ∙ e; block = d.block; refused = d.refused }

  module _ (u : ViewUpdate X) (r : Result (Unit {0}) Fault) (answer : meant r ≡ refuse (is_full b.view.changes) changes_fault (Ok tt))
      (b₁ : ViewMetadataBuilder X) (same : b.view.changes ≡ b₁.view.changes) (block : b₁.view.text.now ≡ b.view.text.now) (d : defined ≡ recorded (change_of g b₁.view.text.now u) (model_of g b₁)) where
    -- a call whose change found no room
    pub unrecorded : (s : Result A Fault) (after : ViewMetadataBuilder X) (f : Fault) → r ≡ Err f → IsErrAnd s (λ y. y ≡ f) →
        after ≡ with_changes (after_push b.view.changes u) b → Did g defined b s after
    unrecorded s after f p q is =
        let w = full_from (is_full b.view.changes) r f answer p in
        left_on s after f q (is ∙ ap (λ t. with_changes t b) (not_pushed b.view.changes u w.0)) (d ∙ (recorded_not g b₁ u (ap is_full (sym same) ∙ w.0) ∙ ap Err (sym w.1)))

    -- a call that was accepted with its change recorded
    pub noted : (a : A) (after : ViewMetadataBuilder X) (x : Unit {0}) → r ≡ Ok x → after ≡ with_changes (after_push b₁.view.changes u) b₁ → Did g defined b (Ok a) after
    noted a after x p is =
        went a after (ap (λ t. t.view.text.now) is ∙ block)
        (d ∙ recorded_ok g b₁ u (ap is_full (sym same) ∙ room_from (is_full b.view.changes) r x answer p) ∙ ap (λ c. Ok (model_of g c)) (sym is))
