-- The laws of accepted builds, stated of the start and of what the accepted edits did. Assumes nothing.
use Rattle.std.specs.Prelude.{◌≡◌, ℕ, suc, ◌≤◌, cond, ◌&&◌, ◌⊎◌, ◌↔◌, List, [], ◌∷◌, ◌++◌, length, take, ℤ, ◌<ℤ◌, Some, None, Ok, Err, Decides, Option, Result, ◌==◌, ◌≢◌, nat_le}
use Rattle.std.specs.List.{AllByRecursion}
use Rattle.model.specs.Version.{Content, Version, LogEntry, same_content, Sameness, version_ids}
use Rattle.model.specs.Refusals.{Fault}
use Rattle.model.specs.State.{VersionIn, Edit, Change, Metadata, State, upgrade_format, set_location, assign_uuid, add_schema, add_version, set_current_version_id, set_current_version, set_properties, remove_properties}
use Rattle.model.specs.Updates.{with_schema_id, stored_version}
use Rattle.model.specs.Edits.{log_entry, id_or_minus_one, equal_version, with_next_version_id, under_last_added_schema, after_add_schema, edit}
use Rattle.model.specs.Start.{Start, begin_or_open, started}
use Rattle.model.specs.Build.{Timed, state_or, run, history_size, how_many_to_keep, higher, with_entry, build}
use Rattle.model.specs.Replay.{replay}
use Rattle.model.specs.Ids.{same_number, is_id, resolved_id}

-- what an accepted edit did: it entered a version as new, its add reused the id of a held version, or it chose the current version id at a time of the clock
pub data Event : Type 0 where
  was_entered : Version → Event
  was_reused : ℤ → Event
  was_chosen : ℤ → ℤ → Event

-- the id that the event is about
abbrev pub event_id : Event → ℤ
event_id (was_entered v) = v.id
event_id (was_reused i) = i
event_id (was_chosen i clock) = i

module _ {C : Type 0} where
  -- an add that reuses a held version, or enters a new one
  abbrev pub reused_or_entered : State C → VersionIn → Option ℤ → Event
  reused_or_entered s x (Some i) = was_reused i
  reused_or_entered s x None = was_entered (stored_version (with_next_version_id s (with_schema_id (id_or_minus_one (resolved_id x.content.schema_id s.last_added_schema)) x)))

  -- what an add of a version did, if it was accepted
  abbrev pub add_event : State C → VersionIn → Event
  add_event s x = reused_or_entered s x (equal_version s x.content)

  -- what the edit did, if it was accepted; what it gives for a refused edit is not used
  unfoldable pub events : Sameness C → State C → Edit C → ℤ → List Event
  events k s (upgrade_format n) clock = []
  events k s (set_location t) clock = []
  events k s (assign_uuid u) clock = []
  events k s (add_schema x) clock = []
  events k s (add_version x) clock = add_event s x ∷ []
  events k s (set_current_version_id i) clock = was_chosen (id_or_minus_one (resolved_id i s.last_added_version)) clock ∷ []
  events k s (set_current_version x v) clock =
      let s₁ : State C = state_or s (after_add_schema k s x) in
      add_event s₁ (under_last_added_schema s₁ v) ∷ was_chosen (event_id (add_event s₁ (under_last_added_schema s₁ v))) clock ∷ []
  events k s (set_properties ps) clock = []
  events k s (remove_properties ks) clock = []

  -- a refused edit did nothing
  abbrev pub if_accepted : Result (State C) Fault → List Event → List Event
  if_accepted (Ok s) es = es
  if_accepted (Err f) es = []

  -- what the accepted ones of the edits did, in order
  abbrev pub events_of : Sameness C → State C → List (Timed C) → List Event
  events_of k s [] = []
  events_of k s (e ∷ es) =
      if_accepted (edit k s e.what e.clock) (events k s e.what e.clock) ++ events_of k (state_or s (edit k s e.what e.clock)) es

-- the versions entered as new
abbrev pub entered_in : List Event → List Version
entered_in [] = []
entered_in (was_entered v ∷ es) = v ∷ entered_in es
entered_in (was_reused i ∷ es) = entered_in es
entered_in (was_chosen i clock ∷ es) = entered_in es

-- the current version id: the id last chosen, or else the one at first
abbrev pub current_after : ℤ → List Event → ℤ
current_after now [] = now
current_after now (was_entered v ∷ es) = current_after now es
current_after now (was_reused i ∷ es) = current_after now es
current_after now (was_chosen i clock ∷ es) = current_after i es

-- how many additions are recorded: each entered version, and each reuse of an id that is not the last added
abbrev pub additions_in : Option ℤ → List Event → ℕ
additions_in last [] = 0
additions_in last (was_entered v ∷ es) = suc (additions_in (Some v.id) es)
additions_in last (was_reused i ∷ es) = cond (is_id last i) (additions_in last es) (suc (additions_in (Some i) es))
additions_in last (was_chosen i clock ∷ es) = additions_in last es

-- the pending log entry: for the last choice that changed the current version id, with the time of that version if it was entered before, else with the clock's
abbrev pub pending_in : List Version → ℤ → Option LogEntry → List Event → Option LogEntry
pending_in entered_before now so_far [] = so_far
pending_in entered_before now so_far (was_entered v ∷ es) = pending_in (entered_before ++ v ∷ []) now so_far es
pending_in entered_before now so_far (was_reused i ∷ es) = pending_in entered_before now so_far es
pending_in entered_before now so_far (was_chosen i clock ∷ es) =
    pending_in entered_before i (cond (same_number i now) so_far (Some (log_entry entered_before i clock))) es

-- the time of the clock at the last choice that changed the current version id
abbrev pub changed_at : ℤ → Option ℤ → List Event → Option ℤ
changed_at now so_far [] = so_far
changed_at now so_far (was_entered v ∷ es) = changed_at now so_far es
changed_at now so_far (was_reused i ∷ es) = changed_at now so_far es
changed_at now so_far (was_chosen i clock ∷ es) = changed_at i (cond (same_number i now) so_far (Some clock)) es

-- that time, or any if the current version id never changed
abbrev pub ClockOfChange : Option ℤ → ℤ → Type 0
ClockOfChange None clock = Unit {0}
ClockOfChange (Some c) clock = clock ≡ c

-- x is in the list
abbrev pub Member : {A : Type 0} → List A → A → Type 0
Member [] x = ⊥
Member (y ∷ ys) x = (y ≡ x) ⊎ Member ys x

-- each id below all that follow it
abbrev pub Ascending : List ℤ → Type 0
Ascending [] = Unit {0}
Ascending (i ∷ is) = AllByRecursion (λ j. i <ℤ j) is × Ascending is

-- each id above all that follow it
abbrev pub Descending : List Version → Type 0
Descending [] = Unit {0}
Descending (v ∷ vs) = AllByRecursion (λ w. w.id <ℤ v.id) vs × Descending vs

-- a ranking of the held versions: the current one first, the others by descending id
pub record Ranked (current : ℤ) (held ranks : List Version) : Type 0 where
  pub first : Version
  pub others : List Version
  pub is : ranks ≡ first ∷ others
  pub first_current : first.id ≡ current
  pub others_not : AllByRecursion (λ v. v.id ≢ current) others
  pub others_fall : Descending others
  pub from_held : (v : Version) → Member held v → Member ranks v
  pub to_held : (v : Version) → Member ranks v → Member held v

-- how many ranks are kept: n, but one more where n is the additions and at least n held versions have higher ids than current
abbrev pub ranks_kept : List Version → ℤ → ℕ → ℕ → ℕ
ranks_kept held current n added = cond (n == added && nat_le n (higher held current)) (suc n) n

-- `end` is a suffix of the list
abbrev pub Suffix : {A : Type 0} → List A → List A → Type 0
Suffix {A} end all = (front : List A) × (front ++ end ≡ all)

-- each entry names one of the versions
abbrev pub NamesOnly : List Version → List LogEntry → Type 0
NamesOnly kept_ones es = AllByRecursion (λ e. (v : Version) × Member kept_ones v × (v.id ≡ e.id)) es

-- a suffix of the log that names kept versions only, and no longer one does
pub record LongestSuffix (kept_ones : List Version) (all end : List LogEntry) : Type 0 where
  pub suffix : Suffix end all
  pub names_kept : NamesOnly kept_ones end
  pub none_longer : (other : List LogEntry) → Suffix other all → NamesOnly kept_ones other → length other ≤ length end

module _ {C : Type 0} (k : Sameness C) (initial : Metadata C) (edits : List (Timed C)) where
  -- what the accepted edits did, in order
  abbrev pub all_events : List Event
  all_events = events_of k (started initial) edits

  -- the versions held at build
  abbrev pub held_versions : List Version
  held_versions = initial.versions ++ entered_in all_events

  -- the current version id at build
  abbrev pub held_current_id : ℤ
  held_current_id = current_after initial.current_version_id all_events

  -- how many additions are recorded
  abbrev pub recorded_additions : ℕ
  recorded_additions = additions_in None all_events

  -- the version log at the start, and the pending entry
  abbrev pub whole_log : List LogEntry
  whole_log = with_entry initial.version_log (pending_in [] initial.current_version_id None all_events)

  -- how many ranks are kept, at an effective history size
  abbrev pub how_many_stay : ℕ → ℕ
  how_many_stay size = ranks_kept held_versions held_current_id (how_many_to_keep size recorded_additions) recorded_additions

  -- the versions can be ranked; the built metadata keeps exactly the first ranks, by ascending id, and has that current version id
  pub record KeepsFirst (m : Metadata C) : Type 0 where
    pub a_ranking : (ranks : List Version) × Ranked held_current_id held_versions ranks
    pub the_first : (ranks : List Version) → Ranked held_current_id held_versions ranks → (v : Version) →
        Member m.versions v ↔ Member (take (how_many_stay (history_size m.properties)) ranks) v
    pub in_order : Ascending (version_ids m.versions)
    pub the_current : m.current_version_id ≡ held_current_id

-- `same_content` says yes exactly when two contents are equal
abbrev pub SameLaw : Type 0
SameLaw = (c d : Content) → Decides (same_content c d) (c ≡ d)

module _ (C : Type 0) where
  -- a law of the metadata and the changes of every accepted build, after any accepted start and any edits, accepted or refused
  abbrev pub ForAcceptedBuilds : (Sameness C → Start C → Metadata C → List (Timed C) → Metadata C → List (Change C) → Type 0) → Type 0
  ForAcceptedBuilds law =
      (k : Sameness C) (start : Start C) (initial : Metadata C) → begin_or_open start ≡ Ok initial → (edits : List (Timed C)) (m : Metadata C) (cs : List (Change C)) →
      build (run k (started initial) edits) ≡ Ok (m, cs) → law k start initial edits m cs

  -- which versions and which current version id the built metadata has
  abbrev pub KeepLaw : Type 0
  KeepLaw = ForAcceptedBuilds (λ k start initial edits m cs. KeepsFirst k initial edits m)

  -- the built version log is the longest suffix of the whole log that names kept versions only
  abbrev pub LogLaw : Type 0
  LogLaw = ForAcceptedBuilds (λ k start initial edits m cs. LongestSuffix m.versions (whole_log k initial edits) m.version_log)

  -- no build after an accepted start is refused for want of room in the version log's table
  abbrev pub LogRoomLaw : Type 0
  LogRoomLaw =
      (k : Sameness C) (start : Start C) (initial : Metadata C) → begin_or_open start ≡ Ok initial → (edits : List (Timed C)) →
      let s : State C = run k (started initial) edits in
      length (with_entry s.metadata.version_log s.pending_entry) ≤ s.rooms.version_log

  -- replay of the same start and the recorded changes is accepted, and gives equal metadata and equal changes
  abbrev pub ReplayLaw : Type 0
  ReplayLaw = ForAcceptedBuilds (λ k start initial edits m cs.
      (clock : ℤ) → ClockOfChange (changed_at initial.current_version_id None (all_events k initial edits)) clock → replay k start cs clock ≡ Ok (m, cs))
