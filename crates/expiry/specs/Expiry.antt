-- Which versions expire, by their ids, and the table that holds the others. Assumes nothing.
use Rattle.std.specs.Prelude.{◌≡◌, ℕ, ◌-◌, Bool, false, cond, ◌||◌, List, ◌++◌, map, length, drop, ℤ, Some, None, filter, Option, ◌==◌, int_le, int_lt, nat_lt}
use denote.Ref.{at_last}
use Rattle.std.specs.List.{AllByRecursion}
use Rattle.model.specs.Ids.{same_number, lowest_id_where}
use Rattle.register.specs.declared.table.Table.{Table}
use Rattle.expiry.specs.declared.expire.Kept.{Kept}

-- how many of the ids are higher than i
unfoldable pub higher_than : List ℤ → ℤ → ℕ
higher_than ids i = length (filter (int_lt i) ids)

-- an id stays if fewer than this are higher: n, but n - 1 where current is not among the n highest and n is more than the additions
unfoldable pub places_for : List ℤ → ℤ → ℕ → ℕ → ℕ
places_for ids current n added = cond (nat_lt (higher_than ids current) n || n == added) n (n - 1)

-- fewer of the ids than the places are higher than i
abbrev pub has_place : List ℤ → ℕ → ℤ → Bool
has_place ids places i = nat_lt (higher_than ids i) places

-- the id is current, or few enough are higher
unfoldable pub id_stays : List ℤ → ℤ → ℕ → ℕ → ℤ → Bool
id_stays ids current n added i = same_number i current || has_place ids (places_for ids current n added) i

-- there is a lowest id, and i is not below it
abbrev pub at_least : Option ℤ → ℤ → Bool
at_least None i = false
at_least (Some j) i = int_le j i

-- i is the current id, or not below the lowest that is kept
unfoldable pub keeps_id : Kept → ℤ → Bool
keeps_id k i = same_number i k.current || at_least k.lowest i

module _ {X : Type 0} (id_of : X → ℤ) where
  -- what stays of a list of things with ids, in its order
  abbrev pub unexpired_by : List X → ℤ → ℕ → ℕ → List X
  unexpired_by xs current n added = filter (λ x. id_stays (map id_of xs) current n added (id_of x)) xs

  -- of each thing in the list: it is kept exactly if it stays
  abbrev pub KeepsWhatStays : Kept → List X → ℤ → ℕ → ℕ → Type 0
  KeepsWhatStays k xs current n added = AllByRecursion (λ x. keeps_id k (id_of x) ≡ id_stays (map id_of xs) current n added (id_of x)) xs

  -- the lowest of their ids that have a place
  abbrev pub lowest_placed : List X → ℕ → Option ℤ
  lowest_placed xs places = lowest_id_where id_of (λ x. has_place (map id_of xs) places (id_of x)) xs

  -- what is kept of it
  abbrev pub kept_of : Kept → List X → List X
  kept_of k = filter (λ x. keeps_id k (id_of x))

module _ {X : Type 0} where
  -- the slots with these written over the first
  abbrev pub over_front : List X → List X → List X
  over_front xs slots = xs ++ drop (length xs) slots

  -- the table that holds just these, in its first slots
  abbrev pub holding : Table X → List X → Table X
  holding t xs = record { slots = at_last t.slots (over_front xs t.slots.now); held = length xs }
