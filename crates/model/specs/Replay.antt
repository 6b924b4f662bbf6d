-- Replay: each change applied by its edit, and then build. Assumes nothing.
use Rattle.std.specs.Prelude.{ℕ, suc, cond, List, [], ◌∷◌, length, ℤ, Ok, Err, Result}
use Rattle.model.specs.Version.{Sameness}
use Rattle.model.specs.Refusals.{limit_reached, Fault, fault, then, over, changes_part}
use Rattle.model.specs.State.{Edit, Change, Metadata, State, set_location, assign_uuid, add_schema, add_version, set_current_version_id, set_properties, remove_properties, uuid_assigned, location_set, schema_added, version_added, current_version_id_set, properties_set, properties_removed}
use Rattle.model.specs.Edits.{edit}
use Rattle.model.specs.Start.{Start, begin_or_open, started}
use Rattle.model.specs.Build.{build}
use Rattle.model.specs.Limits.{most_changes}

-- the fault of the start or of the number of changes; or the fault of a change's edit with the index of the change, of build with their count
pub data ReplayFault : Type 0 where
  before_changes : Fault → ReplayFault
  at_change : ℕ → Fault → ReplayFault

-- the edit that a change is applied by, handed what the change holds, damaged or not; the id and the greatest field number have no effect
abbrev pub edit_of : {C : Type 0} → Change C → Edit C
edit_of (uuid_assigned u) = assign_uuid u
edit_of (location_set t) = set_location t
edit_of (schema_added x g) = add_schema x
edit_of (version_added x) = add_version x
edit_of (current_version_id_set i) = set_current_version_id i
edit_of (properties_set ps) = set_properties ps
edit_of (properties_removed ks) = remove_properties ks

-- a fault of the start
abbrev pub not_at_a_change : {A : Type 0} → Result A Fault → Result A ReplayFault
not_at_a_change (Ok a) = Ok a
not_at_a_change (Err f) = Err (before_changes f)

-- a fault of the change at that index
abbrev pub at_index : {A : Type 0} → ℕ → Result A Fault → Result A ReplayFault
at_index i (Ok a) = Ok a
at_index i (Err f) = Err (at_change i f)

module _ {C : Type 0} (k : Sameness C) where
  -- the changes applied one after another, counted from i
  abbrev pub apply_all : ℕ → State C → List (Change C) → ℤ → Result (State C) ReplayFault
  apply_all i s [] clock = Ok s
  apply_all i s (c ∷ cs) clock = then (at_index i (edit k s (edit_of c) clock)) (λ s₁. apply_all (suc i) s₁ cs clock)

  -- replay of any list of changes, at one time of the clock: the limit of changes, the start, each change, build
  unfoldable pub replay : Start C → List (Change C) → ℤ → Result (Metadata C × List (Change C)) ReplayFault
  replay start cs clock =
      cond (over most_changes cs) (Err (before_changes (fault limit_reached changes_part))) (
      then (not_at_a_change (begin_or_open start)) λ initial.
      then (apply_all 0 (started initial) cs clock) λ s.
      at_index (length cs) (build s))
