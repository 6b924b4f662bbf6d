-- A push and the recording of a change, as the model has them. Assumes nothing.
use Rattle.std.proofs.Common.{◌≡◌, ◌<◌, true, false, [], ◌∷◌, ◌++◌, map, length, Ok, Err, ap, ◌∙◌, arith, length-set}
use Rattle.std.proofs.lemmas.List.{length-take, length-map, take_more_set, map_push}
use Rattle.std.proofs.lemmas.Bool.Decides.{nat_tests}
use Rattle.model.specs.Refusals.{full}
use Rattle.model.specs.Updates.{recorded}
use Rattle.register.specs.declared.table.Table.{Table}
use Rattle.register.specs.Tables.{held_in, room, is_full, with_one_more, after_push}
use Rattle.fault.specs.Layers.{changes_fault}
use Rattle.view.specs.declared.view_metadata_builder.ViewMetadataBuilder.{ViewMetadataBuilder}
use Rattle.view.specs.declared.view_update.ViewUpdate.{ViewUpdate}
use Rattle.view.specs.Meaning.{Reading, model_of, change_of}
use Rattle.view.specs.Steps.{with_changes}

-- a table is full where the list that it holds is, as the model has it
pub full_is : {X Y : Type 0} (f : X → Y) (t : Table X) → full (room t) (map f (held_in t)) ≡ is_full t
full_is f t = simp (length-map, length-take) (grind (arith, nat_tests))

-- a push where there is room: the list with one more
pub one_more : {X Y : Type 0} (f : X → Y) (t : Table X) (x : X) → is_full t ≡ false → map f (held_in (with_one_more t x)) ≡ map f (held_in t) ++ f x ∷ []
one_more f t x h =
    let lt : t.held < length t.slots.now = grind (arith, nat_tests) in
    ap (map f) (take_more_set t.slots.now t.held x lt) ∙ map_push f (held_in t) x

module _ {X : Type 0} (g : Reading X) (b : ViewMetadataBuilder X) (u : ViewUpdate X) where
  -- recorded where there is room
  pub recorded_ok : is_full b.view.changes ≡ false → recorded (change_of g b.view.text.now u) (model_of g b) ≡ Ok (model_of g (with_changes (after_push b.view.changes u) b))
  recorded_ok h =
      simp (h, full_is (change_of g b.view.text.now) b.view.changes ∙ h, one_more (change_of g b.view.text.now) b.view.changes u h, length-set)

  -- refused where there is none
  pub recorded_not : is_full b.view.changes ≡ true → recorded (change_of g b.view.text.now u) (model_of g b) ≡ Err changes_fault
  recorded_not h = simp (full_is (change_of g b.view.text.now) b.view.changes ∙ h)
