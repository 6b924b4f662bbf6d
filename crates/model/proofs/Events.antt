-- What the laws read from events, over one list of events after another. Assumes nothing.
use Rattle.std.proofs.Common.{◌≡◌, ℕ, suc, ◌+◌, Bool, true, false, cond, List, [], ◌∷◌, ◌++◌, ℤ, Some, Ok, Err, Option, Result, sym, refl, ap, ◌∙◌, subst, append_assoc, arith}
use Rattle.std.proofs.lemmas.List.{append-nil}
use Rattle.model.specs.Version.{Version, LogEntry, Sameness}
use Rattle.model.specs.Refusals.{then}
use Rattle.model.specs.State.{Change, State, uuid_assigned, location_set, schema_added, version_added, current_version_id_set, properties_set, properties_removed}
use Rattle.model.specs.Edits.{log_entry, edit}
use Rattle.model.specs.Build.{additions}
use Rattle.model.specs.Replay.{ReplayFault, apply_all, at_index, edit_of}
use Rattle.model.proofs.Basics.{ok_is, ok_not_err}
use Rattle.model.specs.Law.{Event, was_entered, was_reused, was_chosen, entered_in, current_after, additions_in, pending_in, changed_at}
use Rattle.model.specs.Ids.{same_number, is_id}

-- the id that the last add gave
abbrev pub last_after : Option ℤ → List Event → Option ℤ
last_after last [] = last
last_after last (was_entered v ∷ es) = last_after (Some v.id) es
last_after last (was_reused i ∷ es) = last_after (cond (is_id last i) last (Some i)) es
last_after last (was_chosen i clock ∷ es) = last_after last es

pub current_append : (now : ℤ) (xs ys : List Event) → current_after now (xs ++ ys) ≡ current_after (current_after now xs) ys
current_append now [] ys = refl
current_append now (was_entered v ∷ xs) ys = current_append now xs ys
current_append now (was_reused i ∷ xs) ys = current_append now xs ys
current_append now (was_chosen i clock ∷ xs) ys = current_append i xs ys

pub entered_append : (xs ys : List Event) → entered_in (xs ++ ys) ≡ entered_in xs ++ entered_in ys
entered_append [] ys = refl
entered_append (was_entered v ∷ xs) ys = ap (λ vs. v ∷ vs) (entered_append xs ys)
entered_append (was_reused i ∷ xs) ys = entered_append xs ys
entered_append (was_chosen i clock ∷ xs) ys = entered_append xs ys

pub last_append : (last : Option ℤ) (xs ys : List Event) → last_after last (xs ++ ys) ≡ last_after (last_after last xs) ys
last_append last [] ys = refl
last_append last (was_entered v ∷ xs) ys = last_append (Some v.id) xs ys
last_append last (was_reused i ∷ xs) ys = last_append (cond (is_id last i) last (Some i)) xs ys
last_append last (was_chosen i clock ∷ xs) ys = last_append last xs ys

pub additions_in_append : (last : Option ℤ) (xs ys : List Event) → additions_in last (xs ++ ys) ≡ additions_in last xs + additions_in (last_after last xs) ys
additions_in_append last [] ys = omega arith
additions_in_append last (was_entered v ∷ xs) ys = omega (arith, additions_in_append (Some v.id) xs ys)
additions_in_append last (was_reused i ∷ xs) ys = go (is_id last i) (additions_in_append last xs ys) (additions_in_append (Some i) xs ys)
  where
    go : (b : Bool) → additions_in last (xs ++ ys) ≡ additions_in last xs + additions_in (last_after last xs) ys → additions_in (Some i) (xs ++ ys) ≡ additions_in (Some i) xs + additions_in (last_after (Some i) xs) ys
        → cond b (additions_in last (xs ++ ys)) (suc (additions_in (Some i) (xs ++ ys))) ≡ cond b (additions_in last xs) (suc (additions_in (Some i) xs)) + additions_in (last_after (cond b last (Some i)) xs) ys
    go true h l = h
    go false h l = omega arith
additions_in_append last (was_chosen i clock ∷ xs) ys = additions_in_append last xs ys

pub pending_append : (vs : List Version) (now : ℤ) (p : Option LogEntry) (xs ys : List Event) →
    pending_in vs now p (xs ++ ys) ≡ pending_in (vs ++ entered_in xs) (current_after now xs) (pending_in vs now p xs) ys
pending_append vs now p [] ys = ap (λ ws. pending_in ws now p ys) (sym (append-nil vs))
pending_append vs now p (was_entered v ∷ xs) ys =
    pending_append (vs ++ v ∷ []) now p xs ys ∙ ap (λ ws. pending_in ws (current_after now xs) (pending_in (vs ++ v ∷ []) now p xs) ys) (append_assoc vs (v ∷ []) (entered_in xs))
pending_append vs now p (was_reused i ∷ xs) ys = pending_append vs now p xs ys
pending_append vs now p (was_chosen i clock ∷ xs) ys = pending_append vs i (cond (same_number i now) p (Some (log_entry vs i clock))) xs ys

pub changed_append : (now : ℤ) (so_far : Option ℤ) (xs ys : List Event) → changed_at now so_far (xs ++ ys) ≡ changed_at (current_after now xs) (changed_at now so_far xs) ys
changed_append now so_far [] ys = refl
changed_append now so_far (was_entered v ∷ xs) ys = changed_append now so_far xs ys
changed_append now so_far (was_reused i ∷ xs) ys = changed_append now so_far xs ys
changed_append now so_far (was_chosen i clock ∷ xs) ys = changed_append i (cond (same_number i now) so_far (Some clock)) xs ys

module _ {C : Type 0} where
  pub additions_append : (xs ys : List (Change C)) → additions (xs ++ ys) ≡ additions xs + additions ys
  additions_append [] ys = omega arith
  additions_append (uuid_assigned u ∷ xs) ys = additions_append xs ys
  additions_append (location_set t ∷ xs) ys = additions_append xs ys
  additions_append (schema_added x g ∷ xs) ys = additions_append xs ys
  additions_append (version_added x ∷ xs) ys = omega (arith, additions_append xs ys)
  additions_append (current_version_id_set i ∷ xs) ys = additions_append xs ys
  additions_append (properties_set ps ∷ xs) ys = additions_append xs ys
  additions_append (properties_removed ks ∷ xs) ys = additions_append xs ys

  -- what applies, and then what applies after it
  pub apply_append : (k : Sameness C) (xs ys : List (Change C)) (i : ℕ) (s t : State C) (clock : ℤ) (r : Result (State C) ReplayFault) →
      apply_all k i s xs clock ≡ Ok t → ((j : ℕ) → apply_all k j t ys clock ≡ r) → apply_all k i s (xs ++ ys) clock ≡ r
  apply_append k [] ys i s t clock r e h = subst (λ u. apply_all k i u ys clock ≡ r) (sym (ok_is e)) (h i)
  apply_append k (x ∷ xs) ys i s t clock r e h = go (at_index i (edit k s (edit_of x) clock)) e (λ u e'. apply_append k xs ys (suc i) u t clock r e' h)
    where
      go : (q : Result (State C) ReplayFault) → then q (λ u. apply_all k (suc i) u xs clock) ≡ Ok t → ((u : State C) → apply_all k (suc i) u xs clock ≡ Ok t → apply_all k (suc i) u (xs ++ ys) clock ≡ r)
          → then q (λ u. apply_all k (suc i) u (xs ++ ys) clock) ≡ r
      go (Ok u) e more = more u e
      go (Err f) e more = ok_not_err e
