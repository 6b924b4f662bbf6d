-- The plan of set current version refuses as its three edits do. Assumes nothing.
use Rattle.std.proofs.Common.{◌≡◌, ℕ, ◌+◌, Bool, true, false, cond, not, ◌||◌, leb, ◌⊎◌, List, [], ◌∷◌, ◌++◌, map, length, ℤ, pos, Some, None, Ok, Err, filter, Option, Result, sym, refl, ap, ◌∙◌, subst, inl, inr, length-append}
use lib.Signed.{lt_z}
use Rattle.std.proofs.lemmas.Bool.{cases_Bool, true≢false}
use Rattle.model.specs.Bytes.{same_bytes, repeats}
use Rattle.model.specs.Ids.{is_id, same_number, next_id, ids_used_up, last_added, resolved_id, holds, lowest, lowest_id_where, least_of}
use Rattle.model.specs.Refusals.{Fault, Part, fault, limit_reached, changes_part, schemas_part, versions_part, full, refuse, refuse_with, then}
use Rattle.model.specs.State.{SchemaIn, VersionIn, State, Change, add_schema, add_version, set_current_version_id, set_current_version}
use Rattle.model.specs.Updates.{with_schemas, state_of, with_schema_id, schema_with_id, stored_schema, version_with_id, stored_version}
use Rattle.model.specs.Version.{Sameness, Schema, same_content, dialects, schema_ids, version_ids}
use Rattle.model.specs.Edits.{edit, after_add_schema, reuse_or_add_schema, after_add_version, reuse_or_add_version, enter_under, enter, equal_version, too_early_for, after_set_current, set_current_to, under_last_added_schema}
use Rattle.model.proofs.Basics.{same_eq, same_refl, is_number_true}
use Rattle.view.specs.Plans.{counted, schema_given, schema_choice, version_given, version_choice, told, plan}

-- both refused with the same fault, or both accepted with related answers
abbrev pub Agree : {A B : Type 0} → (A → B → Type 0) → Result A Fault → Result B Fault → Type 0
Agree R (Ok a) (Ok b) = R a b
Agree R (Ok a) (Err f) = ⊥
Agree R (Err e) (Ok b) = ⊥
Agree R (Err e) (Err f) = e ≡ f

pub agree_err : {A B : Type 0} (R : A → B → Type 0) (p : Result A Fault) (f : Fault) → Agree R p (Err f) → p ≡ Err f
agree_err R (Ok a) f h = absurd h
agree_err R (Err e) f h = ap Err h

pub agree_ok : {A B : Type 0} (R : A → B → Type 0) (p : Result A Fault) (b : B) → Agree R p (Ok b) → (a : A) × (p ≡ Ok a)
agree_ok R (Ok a) b h = (a, refl)
agree_ok R (Err e) b h = absurd h

agree_then : {A B A₁ B₁ : Type 0} (R : A → B → Type 0) (Q : A₁ → B₁ → Type 0) (p : Result A Fault) (q : Result B Fault) (f : A → Result A₁ Fault) (g : B → Result B₁ Fault) →
    Agree R p q → ((a : A) (b : B) → R a b → Agree Q (f a) (g b)) → Agree Q (then p f) (then q g)
agree_then R Q (Ok a) (Ok b) f g h k = k a b h
agree_then R Q (Ok a) (Err e) f g h k = absurd h
agree_then R Q (Err e) (Ok b) f g h k = absurd h
agree_then R Q (Err e) (Err d) f g h k = h

module _ {A B D : Type 0} (R : A → B → Type 0) (p : Result A Fault) (c : Result D Fault) (F : D → Result B Fault) where
  refuse_both : (t : Bool) (e : Fault) → Agree R p (then c F) → Agree R (refuse t e p) (then (refuse t e c) F)
  refuse_both true e h = refl
  refuse_both false e h = h

  refuse_with_both : (part : Part) (o : Option ℕ) → Agree R p (then c F) → Agree R (refuse_with part o p) (then (refuse_with part o c) F)
  refuse_with_both part (Some n) h = refl
  refuse_with_both part None h = h

or_right : (a b : Bool) → b ≡ true → (a || b) ≡ true
or_right true b h = refl
or_right false b h = h

or_left : (a b : Bool) → a ≡ true → (a || b) ≡ true
or_left a b h = ap (λ z. z || b) h

-- what was put at the end is held
holds_pushed : {A : Type 0} (id_of : A → ℤ) (xs : List A) (x : A) → holds (id_of x) (map id_of (xs ++ x ∷ [])) ≡ true
holds_pushed id_of [] x = or_left (same_number (id_of x) (id_of x)) false (same_refl (id_of x))
holds_pushed id_of (y ∷ ys) x = or_right (same_number (id_of y) (id_of x)) _ (holds_pushed id_of ys x)

-- the less of the two is one of them
least_is : (i j : ℤ) (o : Option ℤ) → least_of i o ≡ j → (i ≡ j) ⊎ (o ≡ Some j)
least_is i j None e = inl e
least_is i j (Some k) e = elim (cases_Bool (lt_z k i)) [ inl h ↦ inr (ap Some (sym (ap (λ b. cond b k i) h) ∙ e)) | inr h ↦ inl (sym (ap (λ b. cond b k i) h) ∙ e) ]

-- the lowest of those that pass a test is held
lowest_held : {A : Type 0} (id_of : A → ℤ) (test : A → Bool) (xs : List A) (i : ℤ) → lowest_id_where id_of test xs ≡ Some i → holds i (map id_of xs) ≡ true
lowest_held id_of test [] i e = absurd (cc)
lowest_held id_of test (x ∷ xs) i e =
    elim (cases_Bool (test x)) [
      | inl h ↦
          let q : Some (least_of (id_of x) (lowest_id_where id_of test xs)) ≡ Some i = sym (ap (λ b. lowest (map id_of (cond b (x ∷ filter test xs) (filter test xs)))) h) ∙ e in
          elim (least_is (id_of x) i (lowest_id_where id_of test xs) (cc)) [
            | inl p ↦ or_left (same_number (id_of x) i) (holds i (map id_of xs)) (same_eq (id_of x) i p)
            | inr p ↦ or_right (same_number (id_of x) i) (holds i (map id_of xs)) (lowest_held id_of test xs i p)
          ]
      | inr h ↦
          or_right (same_number (id_of x) i) (holds i (map id_of xs))
          (lowest_held id_of test xs i (sym (ap (λ b. lowest (map id_of (cond b (x ∷ filter test xs) (filter test xs)))) h) ∙ e))
    ]

length_push : {A : Type 0} (xs : List A) (x : A) → length (xs ++ x ∷ []) ≡ length xs + 1
length_push xs x = simp length-append

resolved_own : (i : ℤ) → resolved_id i (Some i) ≡ Some i
resolved_own i = elim (cases_Bool (same_number i last_added)) [ inl h ↦ simp h | inr h ↦ simp h ]

-- a change, recorded in a table of that room after n others
module _ {A : Type 0} (R : A → ℤ × ℕ → Type 0) (room n : ℕ) (i : ℤ) (after : A) (more : R after (i, n + 1)) where
  recorded_both : Agree R (refuse (leb room n) (fault limit_reached changes_part) (Ok after)) (then (counted room n true) (λ m. Ok (i, m)))
  recorded_both = refuse_both R (Ok after) (Ok (n + 1)) (λ m. Ok (i, m)) (leb room n) (fault limit_reached changes_part) more

  -- where it is not the last added
  reused_both : (last : Bool) (before : A) → (last ≡ true → R before (i, n)) →
      Agree R (cond last (Ok before) (refuse (leb room n) (fault limit_reached changes_part) (Ok after))) (then (counted room n (not last)) (λ m. Ok (i, m)))
  reused_both true before h = h refl
  reused_both false before h = recorded_both

  -- where it sets another id
  set_both : (same there : Bool) (before : A) (e : Fault) → there ≡ true →
      Agree (λ _ _. Unit {0}) (cond same (Ok before) (refuse (not there) e (refuse (leb room n) (fault limit_reached changes_part) (Ok after)))) (counted room n (not same))
  set_both true there before e h = tt
  set_both false false before e h = absurd (true≢false (sym h))
  set_both false true before e h = last_both (leb room n)
    where
      last_both : (t : Bool) → Agree (λ _ _. Unit {0}) (refuse t (fault limit_reached changes_part) (Ok after)) (refuse t (fault limit_reached changes_part) (Ok (n + 1)))
      last_both true = refl
      last_both false = tt

module _ {C : Type 0} (k : Sameness C) (s : State C) where
  -- the state after an add of a schema
  abbrev added : List (Schema C) → ℤ → List (Change C) → State C
  added ts i cs = state_of (with_schemas ts s.metadata) s.versions_at_start s.previous_version (Some i) s.last_added_version s.pending_entry cs s.rooms

  abbrev Added : State C → ℤ × ℕ → Type 0
  Added t a = (ts : List (Schema C)) × (cs : List (Change C)) × (t ≡ added ts a.0 cs) × (length cs ≡ a.1) × (holds a.0 (schema_ids ts) ≡ true)

  schema_found : (x : SchemaIn C) (o : Option ℤ) → ((i : ℤ) → o ≡ Some i → holds i (schema_ids s.metadata.schemas) ≡ true) →
      Agree Added (reuse_or_add_schema s x o) (then (schema_given s o) (told s (length s.changes)))
  schema_found x (Some i) h =
      reused_both Added s.rooms.changes (length s.changes) i _ (s.metadata.schemas, _, refl, length_push s.changes _, h i refl) (is_id s.last_added_schema i) s
      (λ l. (s.metadata.schemas, s.changes, (λ j. state_of s.metadata s.versions_at_start s.previous_version (is_number_true s.last_added_schema i l j) s.last_added_version s.pending_entry s.changes s.rooms), refl, h i refl))
  schema_found x None h =
      elim (cases_Bool (ids_used_up (schema_ids s.metadata.schemas))) [
        | inl a ↦ simp a
        | inr a ↦
            elim (cases_Bool (full s.rooms.schemas s.metadata.schemas)) [
              | inl b ↦ simp (a, b)
              | inr b ↦
                  simp (a, b)
                  (recorded_both Added s.rooms.changes (length s.changes) (next_id (pos 0) (schema_ids s.metadata.schemas)) _
                  (_, _, refl, length_push s.changes _, holds_pushed (λ t. t.id) s.metadata.schemas (stored_schema (schema_with_id (next_id (pos 0) (schema_ids s.metadata.schemas)) x))))
            ]
      ]

  schema_told : (x : SchemaIn C) → Agree Added (after_add_schema k s x) (then (schema_choice k s x) (told s (length s.changes)))
  unfolding after_add_schema
  schema_told x =
      let o : Option ℤ = lowest_id_where (λ t. t.id) (λ t. k t.content x.content) s.metadata.schemas in
      refuse_with_both Added (reuse_or_add_schema s x o) (schema_given s o) (told s (length s.changes)) schemas_part x.verdict
      (schema_found x o (lowest_held (λ t. t.id) (λ t. k t.content x.content) s.metadata.schemas))

  -- the state after an add of a version
  abbrev Chosen : State C → ℤ × ℕ → Type 0
  Chosen t b =
      (t.last_added_version ≡ Some b.0) × (holds b.0 (version_ids t.metadata.versions) ≡ true) × (length t.changes ≡ b.1)
      × (t.rooms.changes ≡ s.rooms.changes) × (t.metadata.current_version_id ≡ s.metadata.current_version_id)

  module _ (ts : List (Schema C)) (i : ℤ) (cs : List (Change C)) (held : holds i (schema_ids ts) ≡ true) (v : VersionIn) where
    abbrev x : VersionIn
    x = with_schema_id i v

    version_new : Agree Chosen (enter (added ts i cs) x) (then (version_given s x None) (told s (length cs)))
    unfolding enter
    version_new =
        let j : ℤ = next_id (pos 1) (version_ids s.metadata.versions) in
        elim (cases_Bool (repeats same_bytes (dialects x.content))) [
          | inl a ↦ simp (held, a)
          | inr a ↦
              elim (cases_Bool (too_early_for x.time s.metadata.version_log)) [
                | inl b ↦ simp (held, a, b)
                | inr b ↦
                    elim (cases_Bool (ids_used_up (version_ids s.metadata.versions))) [
                      | inl c ↦ simp (held, a, b, c)
                      | inr c ↦
                          elim (cases_Bool (full s.rooms.versions s.metadata.versions)) [
                            | inl d ↦ simp (held, a, b, c, d)
                            | inr d ↦
                                simp (held, a, b, c, d)
                                (recorded_both Chosen s.rooms.changes (length cs) j _ (refl, holds_pushed (λ w. w.id) s.metadata.versions (stored_version (version_with_id j x)), length_push cs _, refl, refl))
                          ]
                    ]
              ]
        ]

    version_found : (o : Option ℤ) → ((j : ℤ) → o ≡ Some j → holds j (version_ids s.metadata.versions) ≡ true) →
        Agree Chosen (reuse_or_add_version (added ts i cs) x o) (then (version_given s x o) (told s (length cs)))
    version_found (Some j) h =
        reused_both Chosen s.rooms.changes (length cs) j _ (refl, h j refl, length_push cs _, refl, refl) (is_id s.last_added_version j) (added ts i cs)
        (λ l. (is_number_true s.last_added_version j l, h j refl, refl, refl, refl))
    version_found None h = subst (λ z. Agree Chosen (enter_under (added ts i cs) x z) (then (version_given s x None) (told s (length cs)))) (sym (resolved_own i)) version_new

    version_told : Agree Chosen (after_add_version (added ts i cs) x) (then (version_choice s x) (told s (length cs)))
    unfolding after_add_version
    version_told =
        refuse_with_both Chosen (reuse_or_add_version (added ts i cs) x (equal_version s x.content)) (version_given s x (equal_version s x.content)) (told s (length cs)) versions_part x.verdict
        (version_found (equal_version s x.content) (lowest_held (λ w. w.id) (λ w. same_content w.content x.content) s.metadata.versions))

  module _ (t : State C) (b : ℤ × ℕ) (h : Chosen t b) (clock : ℤ) where
    -- the room for the change of current, by the numbers that it depends on
    abbrev last_count : ℕ → ℕ → ℤ → Result ℕ Fault
    last_count room n current = counted room n (not (same_number b.0 current))

    current_told : Agree (λ _ _. Unit {0}) (after_set_current t last_added clock) (last_count s.rooms.changes b.1 s.metadata.current_version_id)
    unfolding after_set_current
    current_told =
        subst (λ z. Agree (λ _ _. Unit {0}) (set_current_to t clock t.last_added_version) z) (λ j. last_count (h.3 j) (h.2 j) (h.4 j))
        (subst (λ o. Agree (λ _ _. Unit {0}) (set_current_to t clock o) (last_count t.rooms.changes (length t.changes) t.metadata.current_version_id)) (sym h.0)
        (set_both (λ _ _. Unit {0}) t.rooms.changes (length t.changes) b.0 _ tt (same_number b.0 t.metadata.current_version_id) (holds b.0 (version_ids t.metadata.versions)) t _ h.1))

  -- the plan refuses as the edit does
  pub foretold : (x : SchemaIn C) (v : VersionIn) (clock : ℤ) → Agree (λ _ _. Unit {0}) (edit k s (set_current_version x v) clock) (plan k s x v)
  unfolding edit
  foretold x v clock =
      agree_then Added (λ _ _. Unit {0}) (after_add_schema k s x) (then (schema_choice k s x) (told s (length s.changes)))
      (λ t. then (after_add_version t (under_last_added_schema t v)) (λ u. after_set_current u last_added clock))
      (λ a. then (then (version_choice s (with_schema_id a.0 v)) (told s a.1)) (λ b. counted s.rooms.changes b.1 (not (same_number b.0 s.metadata.current_version_id))))
      (schema_told x) λ t a h.
      agree_then Chosen (λ _ _. Unit {0}) (after_add_version t (under_last_added_schema t v)) (then (version_choice s (with_schema_id a.0 v)) (told s a.1))
      (λ u. after_set_current u last_added clock) (λ b. counted s.rooms.changes b.1 (not (same_number b.0 s.metadata.current_version_id)))
      (subst (λ z. Agree Chosen (after_add_version z (under_last_added_schema z v)) (then (version_choice s (with_schema_id a.0 v)) (told s a.1))) (sym h.2)
      (subst (λ n. Agree Chosen (after_add_version (added h.0 a.0 h.1) (with_schema_id a.0 v)) (then (version_choice s (with_schema_id a.0 v)) (told s n))) h.3
      (version_told h.0 a.0 h.1 h.4 v)))
      λ u b q. current_told u b q clock

  module _ (x : SchemaIn C) (v : VersionIn) (clock : ℤ) where
    pub planned_err : (f : Fault) → Err f ≡ plan k s x v → edit k s (set_current_version x v) clock ≡ Err f
    planned_err f e = agree_err (λ _ (n : ℕ). Unit {0}) (edit k s (set_current_version x v) clock) f (subst (λ z. Agree (λ _ _. Unit {0}) (edit k s (set_current_version x v) clock) z) (sym e) (foretold x v clock))

    pub planned_ok : (n : ℕ) → Ok n ≡ plan k s x v → (t : State C) × (edit k s (set_current_version x v) clock ≡ Ok t)
    planned_ok n e = agree_ok (λ _ _. Unit {0}) (edit k s (set_current_version x v) clock) n (subst (λ z. Agree (λ _ _. Unit {0}) (edit k s (set_current_version x v) clock) z) (sym e) (foretold x v clock))

    -- each edit by its turn
    pub schema_stops : (f : Fault) → Err f ≡ edit k s (add_schema x) clock → edit k s (set_current_version x v) clock ≡ Err f
    unfolding edit
    schema_stops f e = ap (λ r. then r (λ t. then (after_add_version t (under_last_added_schema t v)) (λ u. after_set_current u last_added clock))) (sym e)

    module _ (t : State C) (first : Ok t ≡ edit k s (add_schema x) clock) where
      pub version_stops : (f : Fault) → Err f ≡ edit k t (add_version (under_last_added_schema t v)) clock → edit k s (set_current_version x v) clock ≡ Err f
      unfolding edit
      version_stops f e =
          ap (λ r. then r (λ t. then (after_add_version t (under_last_added_schema t v)) (λ u. after_set_current u last_added clock))) (sym first)
          ∙ ap (λ r. then r (λ u. after_set_current u last_added clock)) (sym e)

      pub all_three : (u : State C) → Ok u ≡ edit k t (add_version (under_last_added_schema t v)) clock → edit k u (set_current_version_id last_added) clock ≡ edit k s (set_current_version x v) clock
      unfolding edit
      all_three u e =
          ap (λ r. then r (λ u. after_set_current u last_added clock)) e
          ∙ ap (λ r. then r (λ t. then (after_add_version t (under_last_added_schema t v)) (λ u. after_set_current u last_added clock))) first
