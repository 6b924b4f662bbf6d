-- The three laws of accepted builds. Assumes nothing.
use Rattle.std.proofs.Common.{◌≡◌, ℕ, ◌<◌, ◌≤◌, cond, ◌↔◌, List, [], ◌∷◌, length, take, ℤ, Some, None, Ok, Err, Option, sym, ap, ◌∙◌, subst, ap₂, subst₂, arith, length-append}
use mathlib.Core.Path.{subst₃}
use Rattle.std.proofs.lemmas.Bool.{lt-leb}
use Rattle.model.specs.Version.{LogEntry, Sameness, version_ids}
use Rattle.model.specs.Refusals.{limit_reached, fault, then, changes_part}
use Rattle.model.specs.State.{Metadata, State}
use Rattle.model.specs.Updates.{with_pending}
use Rattle.model.specs.Start.{begin_or_open, started}
use Rattle.model.specs.Build.{Timed, run, with_entry, history_size, additions, how_many_to_keep, stays, unexpired, kept_log, kept_versions, built_metadata, build}
use Rattle.model.specs.Replay.{before_changes, not_at_a_change, at_index, apply_all, replay}
use Rattle.model.specs.Law.{Ascending, Event, events_of, pending_in, changed_at, ClockOfChange, Ranked, Member, ranks_kept, LongestSuffix, held_versions, held_current_id, recorded_additions, how_many_stay, whole_log, KeepLaw, LogLaw, LogRoomLaw, ReplayLaw}
use Rattle.model.proofs.Walks.{walked_longest}
use Rattle.model.proofs.Step.{Step, Choice, carry, own, its_clock}
use Rattle.model.proofs.Steps.{Reached, run_leads}
use Rattle.model.proofs.Starts.{start_entered, build_ok}
use Rattle.model.proofs.Opens.{start_reached}
use Rattle.model.proofs.Ranks.{kept_first}
use Rattle.model.proofs.Ranking.{kept_rising, ranking}

-- at the reading of the last change of current, a replay has the same pending entry
carried : (c : Option Choice) (p q : Option LogEntry) (clock : ℤ) → q ≡ own c p → ClockOfChange (its_clock c None) clock → carry c p clock ≡ q
carried None p q clock e r = sym e
carried (Some c) p q clock e r = ap (λ t. Some (c.entry_at t)) r ∙ sym e

-- one entry more
entry_fits : (n : ℕ) (es : List LogEntry) (o : Option LogEntry) → length es < n → length (with_entry es o) ≤ n
entry_fits n es None h = omega arith
entry_fits n es (Some e) h = omega (arith, length-append es (e ∷ []))

module _ {C : Type 0} where
  -- the log that build reads is that of the start with the pending entry
  log_is : (k : Sameness C) (initial : Metadata C) → Reached (started initial) → (edits : List (Timed C)) →
      with_entry (run k (started initial) edits).metadata.version_log (run k (started initial) edits).pending_entry ≡ whole_log k initial edits
  log_is k initial a edits =
      let step = (run_leads k (started initial) edits a).0 in
      let es : List Event = events_of k (started initial) edits in
      let p : (run k (started initial) edits).pending_entry ≡ pending_in [] initial.current_version_id None es =
      step.pending_is ∙ ap (λ vs. pending_in vs initial.current_version_id None es) (start_entered initial) in
      ap₂ with_entry step.log_is p

  pub log_law : LogLaw C
  log_law k start initial ok edits m cs e =
      let s : State C = run k (started initial) edits in
      subst (λ x. LongestSuffix x.versions (whole_log k initial edits) x.version_log) (build_ok s m cs e).0
      (subst (λ l. LongestSuffix (kept_versions s) l (kept_log (version_ids (kept_versions s)) (with_entry s.metadata.version_log s.pending_entry))) (log_is k initial (start_reached start initial ok) edits)
      (walked_longest (kept_versions s) (with_entry s.metadata.version_log s.pending_entry)))

  pub log_room_law : LogRoomLaw C
  log_room_law k start initial ok edits =
      let s : State C = run k (started initial) edits in
      entry_fits s.rooms.version_log s.metadata.version_log s.pending_entry (run_leads k (started initial) edits (start_reached start initial ok)).1.log_fits

  pub replay_law : ReplayLaw C
  unfolding replay
  replay_law k start initial ok edits m cs e clock reading =
      let s₀ : State C = started initial in
      let s : State C = run k s₀ edits in
      let leads = run_leads k s₀ edits (start_reached start initial ok) in
      let step : Step k s₀ s (events_of k s₀ edits) = leads.0 in
      let cs_are : cs ≡ step.did = sym (build_ok s m cs e).1 ∙ step.changes_are in
      let few : length cs ≤ 128 = subst₂ (λ xs r. length xs ≤ r.changes) (build_ok s m cs e).1 step.rooms_are leads.1.changes_fit in
      let clock_is : changed_at initial.current_version_id None (events_of k s₀ edits) ≡ its_clock step.chose None = step.changed_is None in
      let pending : carry step.chose s₀.pending_entry clock ≡ s.pending_entry = carried step.chose s₀.pending_entry s.pending_entry clock step.pending_own (subst (λ o. ClockOfChange o clock) clock_is reading) in
      let all : apply_all k 0 s₀ cs clock ≡ Ok s =
      ap (λ xs. apply_all k 0 s₀ xs clock) cs_are ∙ step.again 0 s₀.pending_entry clock ∙ ap (λ p. Ok (with_pending p s)) pending in
      ap (λ b. cond b (Err (before_changes (fault limit_reached changes_part))) (then (not_at_a_change (begin_or_open start)) λ st. then (apply_all k 0 (started st) cs clock) (λ u. at_index (length cs) (build u)))) (lt-leb 129 (length cs) (omega arith))
      ∙ ap (λ r. then (not_at_a_change r) λ st. then (apply_all k 0 (started st) cs clock) (λ u. at_index (length cs) (build u))) ok
      ∙ ap (λ r. then r (λ u. at_index (length cs) (build u))) all
      ∙ ap (at_index (length cs)) e

  -- the terms of the laws give the state at build
  held_is : (k : Sameness C) (initial : Metadata C) → Reached (started initial) → (edits : List (Timed C)) → (run k (started initial) edits).metadata.versions ≡ held_versions k initial edits
  held_is k initial a edits = (run_leads k (started initial) edits a).0.versions_are

  current_is : (k : Sameness C) (initial : Metadata C) → Reached (started initial) → (edits : List (Timed C)) → (run k (started initial) edits).metadata.current_version_id ≡ held_current_id k initial edits
  current_is k initial a edits = (run_leads k (started initial) edits a).0.current_is

  additions_are : (k : Sameness C) (initial : Metadata C) → Reached (started initial) → (edits : List (Timed C)) → additions (run k (started initial) edits).changes ≡ recorded_additions k initial edits
  additions_are k initial a edits = omega (arith, (run_leads k (started initial) edits a).0.additions_are)

  pub keep_law : KeepLaw C
  unfolding unexpired
  keep_law k start initial accepted edits m cs e =
      let a : Reached (started initial) = start_reached start initial accepted in
      let s : State C = run k (started initial) edits in
      let ok = build_ok s m cs e in
      let is : built_metadata s ≡ m = ok.0 in
      let reached : Reached s = (run_leads k (started initial) edits a).1 in
      let size : ℕ = history_size s.metadata.properties in
      let held = held_is k initial a edits in
      let current = current_is k initial a edits in
      let added : ℕ = additions s.changes in
      record {
        a_ranking =
            let r = ranking s.metadata.versions s.metadata.current_version_id reached.rising ok.2.0 ok.2.1 ok.2.2 in
            (r.0, subst₂ (λ i vs. Ranked i vs r.0) current held r.1);
        the_first = λ ranks ranked v.
            subst (λ (x : Metadata C). Member x.versions v ↔ Member (take (how_many_stay k initial edits (history_size x.properties)) ranks) v) is
            (subst₃ (λ vs i d. Member (kept_versions s) v ↔ Member (take (ranks_kept vs i (how_many_to_keep size d) d) ranks) v) held current (additions_are k initial a edits)
            (kept_first s.metadata.versions ranks s.metadata.current_version_id (how_many_to_keep size added) added reached.rising (omega arith)
            (subst₂ (λ i vs. Ranked i vs ranks) (sym current) (sym held) ranked) v));
        in_order = subst (λ (x : Metadata C). Ascending (version_ids x.versions)) is (kept_rising (stays s.metadata.versions s.metadata.current_version_id (how_many_to_keep size added) added) s.metadata.versions reached.rising);
        the_current = ap (λ (x : Metadata C). x.current_version_id) (sym is) ∙ current;
      }
