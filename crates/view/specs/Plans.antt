-- The first refusal of the three edits of set current version, told before any of them is made. Assumes nothing.
use Rattle.std.specs.Prelude.{ℕ, ◌+◌, Bool, true, cond, not, ◌&&◌, length, ℤ, pos, Some, None, Ok, Option, Result, nat_le}
use Rattle.model.specs.Bytes.{same_bytes, repeats}
use Rattle.model.specs.Ids.{is_id, same_number, next_id, ids_used_up, lowest_id_where}
use Rattle.model.specs.Refusals.{Fault, fault, refuse, refuse_with, then, full, no_id_left, limit_reached, repeated_dialect, time_too_early, schemas_part, versions_part, changes_part}
use Rattle.model.specs.State.{SchemaIn, VersionIn, State}
use Rattle.model.specs.Updates.{with_schema_id}
use Rattle.model.specs.Version.{Sameness, dialects, schema_ids, version_ids}
use Rattle.model.specs.Edits.{too_early_for, equal_version}

-- how many changes there are with one more, if it is recorded, in a table of that room
abbrev pub counted : ℕ → ℕ → Bool → Result ℕ Fault
counted room n r = refuse (r && nat_le room n) (fault limit_reached changes_part) (Ok (cond r (n + 1) n))

module _ {C : Type 0} where
  -- the id that an add of a schema gives, and whether it is recorded: reuse of the held one with the id i, or a new one
  abbrev pub schema_given : State C → Option ℤ → Result (ℤ × Bool) Fault
  schema_given s (Some i) = Ok (i, not (is_id s.last_added_schema i))
  schema_given s None =
      refuse (ids_used_up (schema_ids s.metadata.schemas)) (fault no_id_left schemas_part) (
      refuse (full s.rooms.schemas s.metadata.schemas) (fault limit_reached schemas_part) (
      Ok (next_id (pos 0) (schema_ids s.metadata.schemas), true)))

  -- the same, with its own tests
  abbrev pub schema_choice : Sameness C → State C → SchemaIn C → Result (ℤ × Bool) Fault
  schema_choice k s x = refuse_with schemas_part x.verdict (schema_given s (lowest_id_where (λ t. t.id) (λ t. k t.content x.content) s.metadata.schemas))

  -- the id that an add of a version gives, and whether it is recorded; its schema is held
  abbrev pub version_given : State C → VersionIn → Option ℤ → Result (ℤ × Bool) Fault
  version_given s x (Some i) = Ok (i, not (is_id s.last_added_version i))
  version_given s x None =
      refuse (repeats same_bytes (dialects x.content)) (fault repeated_dialect versions_part) (
      refuse (too_early_for x.time s.metadata.version_log) (fault time_too_early versions_part) (
      refuse (ids_used_up (version_ids s.metadata.versions)) (fault no_id_left versions_part) (
      refuse (full s.rooms.versions s.metadata.versions) (fault limit_reached versions_part) (
      Ok (next_id (pos 1) (version_ids s.metadata.versions), true)))))

  -- the same, with its own tests
  abbrev pub version_choice : State C → VersionIn → Result (ℤ × Bool) Fault
  version_choice s x = refuse_with versions_part x.verdict (version_given s x (equal_version s x.content))

  -- a chosen id, and how many changes there are after it, of n before
  abbrev pub told : State C → ℕ → ℤ × Bool → Result (ℤ × ℕ) Fault
  told s n p = then (counted s.rooms.changes n p.1) λ m. Ok (p.0, m)

  -- how many changes there are after the three edits, or the first refusal
  abbrev pub plan : Sameness C → State C → SchemaIn C → VersionIn → Result ℕ Fault
  plan k s x v =
      then (then (schema_choice k s x) (told s (length s.changes))) λ a.
      then (then (version_choice s (with_schema_id a.0 v)) (told s a.1)) λ b.
      counted s.rooms.changes b.1 (not (same_number b.0 s.metadata.current_version_id))
