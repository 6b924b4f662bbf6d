-- Adding a schema, as the model has it. Assumes nothing.
use Rattle.std.proofs.Common.{◌≡◌, ℕ, true, false, cond, List, [], ◌∷◌, ◌++◌, map, ℤ, pos, Some, None, Ok, Err, Option, Result, sym, ap, ◌∙◌, length-set}
use Rattle.model.specs.Bytes.{Bytes}
use Rattle.model.specs.Ids.{next_id, ids_used_up, lowest_id_where}
use Rattle.model.specs.Version.{Schema, schema_ids}
use Rattle.model.specs.Refusals.{Fault, fault, refuse, refuse_with, then, full, no_id_left, limit_reached, schemas_part}
use Rattle.model.specs.State.{SchemaIn, State, add_schema, schema_added}
use Rattle.model.specs.Updates as updates
use Rattle.model.specs.Updates.{schema_with_id, stored_schema, recorded, state_of}
use Rattle.model.specs.Edits.{edit, after_add_schema, reuse_or_add_schema}
use Rattle.register.specs.declared.fault.RegisterFault.{RegisterFault}
use Rattle.register.specs.declared.fault.RegisterFault.TheVariants.{NoIdLeft, Full}
use Rattle.register.specs.Tables.{held_in, room, is_full, with_one_more, after_push}
use Rattle.register.specs.Registers.{pushed}
use Rattle.view.specs.declared.view_metadata_builder.ViewMetadataBuilder.{ViewMetadataBuilder}
use Rattle.view.specs.declared.view_update.ViewUpdate.TheVariants.{AddSchema}
use Rattle.view.specs.Meaning.{Reading, given, model_of, change_of, schema_in, schema_of}
use Rattle.view.specs.Plans.{schema_given}
use Rattle.view.specs.Steps.{with_schemas, with_last_schema}
use Rattle.view.proofs.Recording.{one_more}
use Rattle.view.proofs.NewIds.{after_held, after_given, free_slot}

module _ {X : Type 0} (g : Reading X) (b : ViewMetadataBuilder X) (x : X) where
  abbrev block : Bytes
  block = b.view.text.now

  abbrev held : List X
  held = held_in b.view.schemas.table

  -- what is handed in
  abbrev handed : SchemaIn g.Content
  handed = schema_in g block x

  -- a copy under another id
  pub copied_in : ((j : ℤ) (z : X) → g.named (g.copied j z) ≡ j) → ((t : Bytes) (j : ℤ) (z : X) → g.content t (g.copied j z) ≡ g.content t z) →
      ((t : Bytes) (j : ℤ) (z : X) → g.verdict t (g.copied j z) ≡ g.verdict t z) → ((s t : Bytes) (z w : X) → g.content s z ≡ g.content t w → g.greatest s z ≡ g.greatest t w) →
      (y : X) (j : ℤ) → y ≡ g.copied j x → schema_in g block y ≡ schema_with_id j handed
  copied_in renamed contents verdicts part y j e =
      ap (schema_in g block) e ∙ (λ h. record { id = renamed j x h; content = contents block j x h; greatest_field = part block block (g.copied j x) x (contents block j x) h; verdict = verdicts block j x h })

  -- what follows the search for a held one
  pub schema_held : {B : Type 0} (r : Result (Option ℤ) Fault) (k : Option ℤ → Result B Fault) →
      r ≡ refuse_with schemas_part (g.verdict block x) (Ok (lowest_id_where g.named (λ t. g.alike (g.content block t) (g.content block x)) held)) →
      then r k ≡ refuse_with schemas_part (g.verdict block x) (k (lowest_id_where (λ t. t.id) (λ t. g.alike t.content (g.content block x)) (map (schema_of g block) held)))
  schema_held r k e = after_held (schema_of g block) (λ t. t.id) schemas_part (λ t. g.alike t.content (g.content block x)) held (g.verdict block x) r k e

  -- the add, by what that search answers
  pub schema_added_by : (clock : ℤ) (r : Result (Option ℤ) Fault) → r ≡ refuse_with schemas_part (g.verdict block x) (Ok (lowest_id_where g.named (λ t. g.alike (g.content block t) (g.content block x)) held)) →
      then r (reuse_or_add_schema (model_of g b) handed) ≡ edit g.alike (model_of g b) (add_schema handed) clock
  unfolding edit after_add_schema
  schema_added_by clock r e = schema_held r (reuse_or_add_schema (model_of g b) handed) e

  -- the id that a new one gets
  abbrev new_id : Result ℤ RegisterFault
  new_id = cond (ids_used_up (map g.named held)) (Err NoIdLeft) (cond (is_full b.view.schemas.table) (Err Full) (Ok (next_id g.initial (map g.named held))))

  -- the state after the add, by its parts
  abbrev shaped : SchemaIn g.Content → ℤ → List (Schema g.Content) → ℕ → ℤ → Result (State g.Content) Fault
  shaped z f ts r j =
      let s : State g.Content = model_of g b in
      recorded (schema_added z (Some f))
      (state_of (updates.with_schemas ts s.metadata) s.versions_at_start s.previous_version (Some j) s.last_added_version s.pending_entry s.changes
      (record { schemas = r; versions = s.rooms.versions; version_log = s.rooms.version_log; properties = s.rooms.properties; changes = s.rooms.changes }))

  -- the new one under an id
  abbrev entered : ℤ → Result (State g.Content) Fault
  entered j =
      let n : SchemaIn g.Content = schema_with_id j handed in
      shaped n n.greatest_field (map (schema_of g block) held ++ stored_schema n ∷ []) (room b.view.schemas.table) j

  module _ (first : g.initial ≡ pos 0) (r : Result ℤ Fault) (is : r ≡ given schemas_part new_id) where
    -- what follows it
    new_one : {B : Type 0} (k : ℤ → Result B Fault) →
        then r k
        ≡ refuse (ids_used_up (schema_ids (map (schema_of g block) held))) (fault no_id_left schemas_part) (refuse (full (room b.view.schemas.table) (map (schema_of g block) held)) (fault limit_reached schemas_part) (k (next_id (pos 0) (schema_ids (map (schema_of g block) held)))))
    new_one k =
        after_given (schema_of g block) (λ t. t.id) schemas_part b.view.schemas.table (pos 0) r k
        (is ∙ ap (λ z. given schemas_part (cond (ids_used_up (map g.named held)) (Err NoIdLeft) (cond (is_full b.view.schemas.table) (Err Full) (Ok (next_id z (map g.named held)))))) first)

    pub schema_new : then r (λ j. Ok (j, true)) ≡ schema_given (model_of g b) None
    schema_new = new_one (λ j. Ok (j, true))

    schema_entered : then r entered ≡ reuse_or_add_schema (model_of g b) handed None
    schema_entered = new_one entered

    pub not_entered : (f : Fault) → r ≡ Err f → reuse_or_add_schema (model_of g b) handed None ≡ Err f
    not_entered f e = sym schema_entered ∙ ap (λ z. then z entered) e

    pub entered_noted : (j : ℤ) (y : X) (f : ℤ) → r ≡ Ok j → schema_in g block y ≡ schema_with_id j handed → f ≡ g.greatest block y →
        reuse_or_add_schema (model_of g b) handed None
        ≡ recorded (change_of g block (AddSchema y (Some f))) (model_of g (with_last_schema j (with_schemas (pushed y b.view.schemas) b)))
    entered_noted j y f e q m =
        let free : is_full b.view.schemas.table ≡ false = free_slot schemas_part (ids_used_up (map g.named held)) (is_full b.view.schemas.table) j (next_id g.initial (map g.named held)) (sym e ∙ is) in
        let eF : f ≡ g.greatest block x = m ∙ ap (λ (t : SchemaIn g.Content). t.greatest_field) q in
        let eT : map (schema_of g block) (held_in (after_push b.view.schemas.table y)) ≡ map (schema_of g block) held ++ stored_schema (schema_with_id j handed) ∷ [] =
        ap (λ z. map (schema_of g block) (held_in (cond z b.view.schemas.table (with_one_more b.view.schemas.table y)))) free
        ∙ (one_more (schema_of g block) b.view.schemas.table y free ∙ ap (λ t. map (schema_of g block) held ++ stored_schema t ∷ []) q) in
        let eR : room (after_push b.view.schemas.table y) ≡ room b.view.schemas.table = ap (λ z. room (cond z b.view.schemas.table (with_one_more b.view.schemas.table y))) free ∙ simp length-set in
        sym schema_entered ∙ (ap (λ z. then z entered) e ∙ sym (λ h. shaped (q h) (eF h) (eT h) (eR h) j))
