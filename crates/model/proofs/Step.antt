-- What an accepted edit, or a run of them, does to a state, by its events, and that its recorded changes do the same again. Assumes nothing.
use Rattle.std.proofs.Common.{◌≡◌, ℕ, ◌+◌, List, [], ◌++◌, ℤ, Some, None, Ok, Option, sym, refl, ap, ◌∙◌, ap₂, append_assoc, arith}
use Rattle.std.proofs.lemmas.List.{append-nil}
use Rattle.model.specs.Version.{LogEntry, Sameness}
use Rattle.model.specs.State.{Change, State, entered}
use Rattle.model.specs.Updates.{with_pending}
use Rattle.model.specs.Build.{additions}
use Rattle.model.specs.Replay.{apply_all}
use Rattle.model.specs.Law.{Event, entered_in, current_after, additions_in, pending_in, changed_at}
use Rattle.model.proofs.Events.{last_after, current_append, entered_append, last_append, additions_in_append, pending_append, changed_append, apply_append}

-- a choice of another current: its clock's reading, and the pending entry at any reading
pub record Choice : Type 0 where
  pub clock : ℤ
  pub entry_at : ℤ → LogEntry

-- the pending entry after a replay at that reading
abbrev pub carry : Option Choice → Option LogEntry → ℤ → Option LogEntry
carry None p clock = p
carry (Some c) p clock = Some (c.entry_at clock)

abbrev pub own : Option Choice → Option LogEntry → Option LogEntry
own None p = p
own (Some c) p = Some (c.entry_at c.clock)

abbrev pub its_clock : Option Choice → Option ℤ → Option ℤ
its_clock None so_far = so_far
its_clock (Some c) so_far = Some c.clock

-- the later choice, if there is one
abbrev pub later : Option Choice → Option Choice → Option Choice
later (Some c) d = Some c
later None d = d

later_carry : (c d : Option Choice) (p : Option LogEntry) (clock : ℤ) → carry c (carry d p clock) clock ≡ carry (later c d) p clock
later_carry None d p clock = refl
later_carry (Some c) d p clock = refl

later_own : (c d : Option Choice) (p : Option LogEntry) → own c (own d p) ≡ own (later c d) p
later_own None d p = refl
later_own (Some c) d p = refl

later_clock : (c d : Option Choice) (x : Option ℤ) → its_clock c (its_clock d x) ≡ its_clock (later c d) x
later_clock None d x = refl
later_clock (Some c) d x = refl

module _ {C : Type 0} (k : Sameness C) where
  pub record Step (s t : State C) (es : List Event) : Type 0 where
    pub rooms_are : t.rooms ≡ s.rooms
    pub opened_is : t.versions_at_start ≡ s.versions_at_start
    pub log_is : t.metadata.version_log ≡ s.metadata.version_log
    pub current_is : t.metadata.current_version_id ≡ current_after s.metadata.current_version_id es
    pub versions_are : t.metadata.versions ≡ s.metadata.versions ++ entered_in es
    pub entered_are : entered t ≡ entered s ++ entered_in es
    pub last_is : t.last_added_version ≡ last_after s.last_added_version es
    pub additions_are : additions t.changes ≡ additions s.changes + additions_in s.last_added_version es
    pub pending_is : t.pending_entry ≡ pending_in (entered s) s.metadata.current_version_id s.pending_entry es
    pub did : List (Change C)
    pub changes_are : t.changes ≡ s.changes ++ did
    pub chose : Option Choice
    pub again : (i : ℕ) (p : Option LogEntry) (clock : ℤ) → apply_all k i (with_pending p s) did clock ≡ Ok (with_pending (carry chose p clock) t)
    pub pending_own : t.pending_entry ≡ own chose s.pending_entry
    pub changed_is : (so_far : Option ℤ) → changed_at s.metadata.current_version_id so_far es ≡ its_clock chose so_far

  pub stay : (s : State C) → Step s s []
  stay s = record {
    rooms_are = refl;
    opened_is = refl;
    log_is = refl;
    current_is = refl;
    versions_are = sym (append-nil s.metadata.versions);
    entered_are = sym (append-nil (entered s));
    last_is = refl;
    additions_are = omega arith;
    pending_is = refl;
    did = [];
    changes_are = sym (append-nil s.changes);
    chose = None;
    again = λ i p clock. refl;
    pending_own = refl;
    changed_is = λ so_far. refl;
  }

  pub follow : (s t u : State C) (es fs : List Event) → Step s t es → Step t u fs → Step s u (es ++ fs)
  follow s t u es fs a b = record {
    rooms_are = b.rooms_are ∙ a.rooms_are;
    opened_is = b.opened_is ∙ a.opened_is;
    log_is = b.log_is ∙ a.log_is;
    current_is = b.current_is ∙ ap (λ i. current_after i fs) a.current_is ∙ sym (current_append s.metadata.current_version_id es fs);
    versions_are = b.versions_are ∙ ap (λ vs. vs ++ entered_in fs) a.versions_are ∙ append_assoc s.metadata.versions (entered_in es) (entered_in fs) ∙ ap (λ vs. s.metadata.versions ++ vs) (sym (entered_append es fs));
    entered_are = b.entered_are ∙ ap (λ vs. vs ++ entered_in fs) a.entered_are ∙ append_assoc (entered s) (entered_in es) (entered_in fs) ∙ ap (λ vs. entered s ++ vs) (sym (entered_append es fs));
    last_is = b.last_is ∙ ap (λ l. last_after l fs) a.last_is ∙ sym (last_append s.last_added_version es fs);
    additions_are =
        let p : additions_in t.last_added_version fs ≡ additions_in (last_after s.last_added_version es) fs = ap (λ l. additions_in l fs) a.last_is in
        omega (arith, a.additions_are, b.additions_are, p, additions_in_append s.last_added_version es fs);
    pending_is =
        b.pending_is ∙ ap (λ vs. pending_in vs t.metadata.current_version_id t.pending_entry fs) a.entered_are
        ∙ ap₂ (λ i p. pending_in (entered s ++ entered_in es) i p fs) a.current_is a.pending_is
        ∙ sym (pending_append (entered s) s.metadata.current_version_id s.pending_entry es fs);
    did = a.did ++ b.did;
    changes_are = b.changes_are ∙ ap (λ cs. cs ++ b.did) a.changes_are ∙ append_assoc s.changes a.did b.did;
    chose = later b.chose a.chose;
    again = λ i p clock.
        apply_append k a.did b.did i (with_pending p s) (with_pending (carry a.chose p clock) t) clock
        (Ok (with_pending (carry (later b.chose a.chose) p clock) u)) (a.again i p clock)
        (λ j. b.again j (carry a.chose p clock) clock ∙ ap (λ q. Ok (with_pending q u)) (later_carry b.chose a.chose p clock));
    pending_own = b.pending_own ∙ ap (own b.chose) a.pending_own ∙ later_own b.chose a.chose s.pending_entry;
    changed_is = λ so_far.
        changed_append s.metadata.current_version_id so_far es fs ∙ ap₂ (λ i x. changed_at i x fs) (sym a.current_is) (a.changed_is so_far)
        ∙ b.changed_is (its_clock a.chose so_far) ∙ later_clock b.chose a.chose so_far;
  }
