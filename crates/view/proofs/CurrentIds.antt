-- Setting the id of the current version, as the model has it. Assumes nothing.
use Rattle.std.proofs.Common.{◌≡◌, ℕ, ◌≤◌, min, true, false, cond, leb, List, map, length, drop, ℤ, Some, None, MatchOption, Ok, Err, Option, sym, ap, ◌∙◌, inl, inr, arith}
use mathlib.Core.List.{map-map}
use Rattle.std.specs.Option.{option_map}
use Rattle.std.proofs.lemmas.List.{drop_all, drop-map}
use Rattle.std.proofs.lemmas.Bool.Decides.{nat_tests}
use Rattle.std.proofs.lemmas.Bool.{cases_Bool}
use Rattle.model.specs.Bytes.{Bytes}
use Rattle.model.specs.Ids.{find, holds, same_number, is_id, last_added, resolved_id}
use Rattle.model.specs.Refusals.{fault, no_version_added, version_not_held, builder_part}
use Rattle.model.specs.State.{entered, set_current_version_id}
use Rattle.model.specs.Updates.{recorded}
use Rattle.model.specs.Edits.{edit, after_set_current, log_entry, log_entry_of}
use Rattle.model.specs.Version.{LogEntry, version_ids}
use Rattle.register.specs.Tables.{held_in}
use Rattle.version.specs.declared.view_version.ViewVersion.{ViewVersion}
use Rattle.version.specs.declared.view_version.ViewVersionLog.{ViewVersionLog}
use Rattle.version.specs.Meaning.{version_of, entry_of}
use Rattle.view.specs.declared.view_metadata_builder.ViewMetadataBuilder.{ViewMetadataBuilder}
use Rattle.view.specs.declared.view_update.ViewUpdate.TheVariants.{SetCurrentViewVersion}
use Rattle.view.specs.Meaning.{Reading, model_of, change_of}
use Rattle.view.specs.Steps.{with_current, with_pending}
use Rattle.view.proofs.Mapped.{find_mapped}

-- past the end there is no more to drop
drop_min : {A : Type 0} (n : ℕ) (xs : List A) → drop (min n (length xs)) xs ≡ drop n xs
drop_min n xs =
    elim (cases_Bool (leb n (length xs))) [
      | inl h ↦ let e : min n (length xs) ≡ n = grind (arith, nat_tests) in ap (λ m. drop m xs) e
      | inr h ↦
          let e : length xs ≤ min n (length xs) = grind (arith, nat_tests) in
          let f : length xs ≤ n = grind (arith, nat_tests) in
          drop_all (min n (length xs)) xs e ∙ sym (drop_all n xs f)
    ]

-- the entry with the time of the version that was found, or the clock's
pub entry_timed : (block : Bytes) (i clock t : ℤ) (o : Option ViewVersion) → MatchOption o (t ≡ clock) (λ v. t ≡ v.timestamp_ms) → ◌≡◌ {A = LogEntry} (record { id = i; time = t }) (log_entry_of i clock (option_map (version_of block) o))
entry_timed block i clock t None e = ap (λ z. record { id = i; time = z }) e
entry_timed block i clock t (Some v) e = ap (λ z. record { id = i; time = z }) e

module _ {X : Type 0} (g : Reading X) (b : ViewMetadataBuilder X) (clock : ℤ) where
  abbrev block : Bytes
  block = b.view.text.now

  abbrev held : List ViewVersion
  held = held_in b.view.versions.table

  -- the log entry, from what is found among the versions entered as new
  pub entry_found : (i : ℤ) (o : Option ViewVersion) (xs : List ViewVersion) (n : ℕ) → xs ≡ held → n ≡ min b.opened_versions (length xs) →
      o ≡ find (λ v. v.version_id) i (drop n xs) → log_entry (entered (model_of g b)) i clock ≡ log_entry_of i clock (option_map (version_of block) o)
  entry_found i o xs n e m q =
      let d : drop n xs ≡ drop b.opened_versions held = ap (λ k. drop k xs) m ∙ (drop_min b.opened_versions xs ∙ ap (drop b.opened_versions) e) in
      ap (log_entry_of i clock)
      (ap (find (λ v. v.id) i) (drop-map (version_of block) b.opened_versions held)
      ∙ (find_mapped (version_of block) (λ v. v.id) i (drop b.opened_versions held)
      ∙ ap (option_map (version_of block)) (ap (find (λ v. v.version_id) i) (sym d) ∙ sym q)))

  module _ (i : ℤ) where
    -- none was added
    pub current_none : resolved_id i b.last_added_version_id ≡ None → edit g.alike (model_of g b) (set_current_version_id i) clock ≡ Err (fault no_version_added builder_part)
    unfolding edit after_set_current
    current_none h = simp h

    module _ (j : ℤ) (is : resolved_id i b.last_added_version_id ≡ Some j) where
      -- the present one
      pub current_kept : same_number j b.view.current_version_id ≡ true → edit g.alike (model_of g b) (set_current_version_id i) clock ≡ Ok (model_of g b)
      unfolding edit after_set_current
      current_kept h = simp (is, h)

      module _ (other : same_number j b.view.current_version_id ≡ false) where
        ids : version_ids (map (version_of block) held) ≡ map (λ v. v.version_id) held
        ids = map-map (λ v. v.id) (version_of block) held

        -- one that is not held
        pub current_absent : holds j (map (λ v. v.version_id) held) ≡ false → edit g.alike (model_of g b) (set_current_version_id i) clock ≡ Err (fault version_not_held builder_part)
        unfolding edit after_set_current
        current_absent h = simp (is, other, ap (holds j) ids ∙ h)

        -- another one: recorded, and set
        pub current_new : (e : ViewVersionLog) (k : ℤ) → holds j (map (λ v. v.version_id) held) ≡ true → k ≡ cond (is_id b.last_added_version_id j) last_added j →
            entry_of e ≡ log_entry (entered (model_of g b)) j clock →
            edit g.alike (model_of g b) (set_current_version_id i) clock ≡ recorded (change_of g block (SetCurrentViewVersion k)) (model_of g (with_pending (Some e) (with_current j b)))
        unfolding edit after_set_current
        current_new e k h r p = simp (is, other, ap (holds j) ids ∙ h, r, p)
