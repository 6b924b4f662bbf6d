-- Setting the location, as the model has it. Assumes nothing.
use Rattle.std.proofs.Common.{◌≡◌, true, false, ℤ, Ok, Err, sym, ap, ◌∙◌}
use Rattle.model.specs.Bytes.{Bytes, same_bytes, trimmed}
use Rattle.model.specs.State.{set_location}
use Rattle.model.specs.Updates.{recorded}
use Rattle.model.specs.Edits.{edit, after_set_location}
use Rattle.text.specs.declared.text.Text.{Text}
use Rattle.text.specs.Meaning.{bytes_of, sound, text_in}
use Rattle.fault.specs.Layers.{text_fault}
use Rattle.view.specs.declared.view_metadata_builder.ViewMetadataBuilder.{ViewMetadataBuilder}
use Rattle.view.specs.declared.view_update.ViewUpdate.TheVariants.{SetLocation}
use Rattle.view.specs.Meaning.{Reading, model_of, change_of}
use Rattle.view.specs.Steps.{with_location}

module _ {X : Type 0} (g : Reading X) (b : ViewMetadataBuilder X) (t : Text) (clock : ℤ) where
  abbrev block : Bytes
  block = b.view.text.now

  -- a bad text
  pub location_bad : sound block t ≡ false → edit g.alike (model_of g b) (set_location (text_in block t)) clock ≡ Err text_fault
  unfolding edit after_set_location
  location_bad h = simp h

  module _ (u : Text) (good : sound block t ≡ true) (is : bytes_of block u ≡ trimmed (bytes_of block t)) where
    -- the location that it has
    pub location_kept : same_bytes (bytes_of block u) (bytes_of block b.view.location) ≡ true → edit g.alike (model_of g b) (set_location (text_in block t)) clock ≡ Ok (model_of g b)
    unfolding edit after_set_location
    location_kept h = let same : same_bytes (trimmed (bytes_of block t)) (bytes_of block b.view.location) ≡ true = ap (λ x. same_bytes x (bytes_of block b.view.location)) (sym is) ∙ h in simp (good, same)

    -- another one: recorded, and set
    pub location_new : sound block u ≡ true → same_bytes (bytes_of block u) (bytes_of block b.view.location) ≡ false →
        edit g.alike (model_of g b) (set_location (text_in block t)) clock ≡ recorded (change_of g block (SetLocation u)) (model_of g (with_location u b))
    unfolding edit after_set_location
    location_new sound_too h =
        let other : same_bytes (trimmed (bytes_of block t)) (bytes_of block b.view.location) ≡ false = ap (λ x. same_bytes x (bytes_of block b.view.location)) (sym is) ∙ h in
        simp (good, other, sound_too, is)
