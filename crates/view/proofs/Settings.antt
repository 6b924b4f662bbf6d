-- Setting properties and assigning a uuid, as the model has them. Assumes nothing.
use Rattle.std.proofs.Common.{◌≡◌, ℕ, Bool, true, false, not, List, map, ℤ, Ok, Err, nat_eq, Result, sym, refl, ap, ◌∙◌}
use Rattle.std.specs.Cmp.Lexicographic.{pointwise}
use Rattle.std.proofs.lemmas.Slice.Eq.{slice_eq-Decides, compares_Decides}
use Rattle.std.proofs.lemmas.Bool.Decides.{same_from_decides, Decides-eqb}
use Rattle.model.specs.Bytes.{Bytes, same_bytes, same_list}
use Rattle.model.specs.Version as model
use Rattle.model.specs.Version.{same_property}
use Rattle.model.specs.Refusals as refusals
use Rattle.model.specs.Refusals.{then}
use Rattle.model.specs.State.{State, Change, assign_uuid, set_properties, properties_set}
use Rattle.model.specs.Updates as updates
use Rattle.model.specs.Updates.{recorded, state_of}
use Rattle.model.specs.Edits.{edit, after_assign_uuid, after_set_properties}
use Rattle.register.specs.Tables.{is_full}
use Rattle.text.specs.declared.property.Property.{Property}
use Rattle.property.specs.declared.property.Properties.{Properties}
use Rattle.property.specs.declared.property.PropertyFault.{PropertyFault}
use Rattle.text.specs.Properties.{property_in}
use Rattle.property.specs.Meaning.{properties_of, room_of}
use Rattle.property.specs.Outcomes.{answered, after_updates, planned}
use Rattle.view.specs.declared.view_metadata_builder.ViewMetadataBuilder.{ViewMetadataBuilder}
use Rattle.view.specs.declared.view_update.ViewUpdate.{ViewUpdate}
use Rattle.view.specs.declared.view_update.ViewUpdate.TheVariants.{AssignUuid}
use Rattle.view.specs.Meaning.{Reading, model_of, change_of}
use Rattle.view.specs.Steps.{with_uuid, with_properties}
use Rattle.view.proofs.Recording.{full_is}

-- what == on arrays of bytes answers is the model's test
pub same_arrays : (xs ys : Bytes) (r : Bool) → r ≡ pointwise nat_eq xs ys → same_bytes xs ys ≡ r
same_arrays xs ys r m =
    same_from_decides (same_bytes xs ys) r
    (compares_Decides same_bytes (record { empty = refl; shorter = λ _ _. refl; longer = λ _ _. refl; heads = λ _ _ _ _. refl }) xs ys)
    (slice_eq-Decides Decides-eqb xs ys r m)

module _ {X : Type 0} (g : Reading X) (b : ViewMetadataBuilder X) (u : Bytes) (clock : ℤ) where
  -- the uuid that it has
  pub uuid_kept : same_bytes u b.view.uuid ≡ true → edit g.alike (model_of g b) (assign_uuid u) clock ≡ Ok (model_of g b)
  unfolding edit after_assign_uuid
  uuid_kept h = simp h

  -- another one: recorded, and set
  pub uuid_new : same_bytes u b.view.uuid ≡ false → edit g.alike (model_of g b) (assign_uuid u) clock ≡ recorded (change_of g b.view.text.now (AssignUuid u)) (model_of g (with_uuid u b))
  unfolding edit after_assign_uuid
  uuid_new h = simp h

-- a step that was refused, though what came after it never refuses
refused_before : {A B E : Type 0} (p : Result A E) (h : A → B) (f : E) → Err f ≡ then p (λ a. Ok (h a)) → p ≡ Err f
refused_before (Ok a) h f e = absurd (cc)
refused_before (Err f₁) h f e = let q : f₁ ≡ f = cc in ap Err q

-- a step that was accepted, and what came after it
accepted_before : {A B E : Type 0} (p : Result A E) (h : A → B) (y : B) → Ok y ≡ then p (λ a. Ok (h a)) → (a : A) × (p ≡ Ok a) × (y ≡ h a)
accepted_before (Ok a) h y e = (a, refl, cc)
accepted_before (Err f) h y e = absurd (cc)

-- what an accepted call has set
set_to : {A B : Type 0} (x y : B) (r : Result A PropertyFault) → answered (λ _. x) r ≡ Ok y → x ≡ y
set_to x y (Ok a) e = cc
set_to x y (Err f) e = absurd (cc)

-- a test by what its opposite answers
not_is : (x y : Bool) → y ≡ not x → x ≡ not y
not_is true y e = ap not (sym e)
not_is false y e = ap not (sym e)

module _ {X : Type 0} (g : Reading X) (b : ViewMetadataBuilder X) (ps : List Property) (clock : ℤ) where
  abbrev block : Bytes
  block = b.view.text.now

  -- the edit
  abbrev after : Result (State g.Content) refusals.Fault
  after = edit g.alike (model_of g b) (set_properties (map (property_in block) ps)) clock

  -- whether the properties are other ones
  abbrev differs : List model.Property → Bool
  differs new = not (same_list same_property new (properties_of block b.view.properties))

  pub settings_refused : (f : refusals.Fault) → Err f ≡ planned block ps b.view.properties → after ≡ Err f
  unfolding edit after_set_properties
  settings_refused f e = simp (refused_before (after_updates block ps b.view.properties) differs f e)

  pub settings_kept : Ok false ≡ planned block ps b.view.properties → after ≡ Ok (model_of g b)
  unfolding edit after_set_properties
  settings_kept e =
      let w = accepted_before (after_updates block ps b.view.properties) differs false e in
      let same : same_list same_property w.0 (properties_of block b.view.properties) ≡ true = not_is _ _ w.2 in
      simp (w.1, same)

  -- the record of a change, with the properties after it and the room of their table
  abbrev shaped : Change g.Content → List model.Property → ℕ → Result (State g.Content) refusals.Fault
  shaped change new r =
      let s : State g.Content = model_of g b in
      recorded change
      (state_of (updates.with_properties new s.metadata) s.versions_at_start s.previous_version s.last_added_schema s.last_added_version s.pending_entry s.changes
      (record { schemas = s.rooms.schemas; versions = s.rooms.versions; version_log = s.rooms.version_log; properties = r; changes = s.rooms.changes }))

  module _ (e : Ok true ≡ planned block ps b.view.properties) (u : ViewUpdate X) (is : change_of g block u ≡ properties_set (map (property_in block) ps)) where
    -- no room to record it
    pub settings_unrecorded : is_full b.view.changes ≡ true → after ≡ recorded (change_of g block u) (model_of g b)
    unfolding edit after_set_properties
    settings_unrecorded full =
        let w = accepted_before (after_updates block ps b.view.properties) differs true e in
        let other : same_list same_property w.0 (properties_of block b.view.properties) ≡ false = not_is _ _ w.2 in
        simp (w.1, other, full_is (change_of g block) b.view.changes ∙ full)

    -- recorded, and set
    pub settings_noted : (qs : Properties) (r : Result (Unit {0}) PropertyFault) → answered (λ _. properties_of block qs) r ≡ after_updates block ps b.view.properties → room_of qs ≡ room_of b.view.properties →
        after ≡ recorded (change_of g block u) (model_of g (with_properties qs b))
    unfolding edit after_set_properties
    settings_noted qs r a m =
        let w = accepted_before (after_updates block ps b.view.properties) differs true e in
        let other : same_list same_property w.0 (properties_of block b.view.properties) ≡ false = not_is _ _ w.2 in
        let new : properties_of block qs ≡ w.0 = set_to (properties_of block qs) w.0 r (a ∙ w.1) in
        simp (w.1, other) (sym (λ h. shaped (is h) (new h) (m h)))
