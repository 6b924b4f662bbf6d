-- Ids: equality, the lowest and the highest, the next one, and what -1 stands for. Assumes nothing.
use Rattle.std.specs.Prelude.{Bool, false, cond, List, [], ◌∷◌, map, ℤ, pos, negsuc, ◌+ℤ◌, Some, None, filter, Option, ◌==◌}
use Rattle.std.specs.Int.{int_max, int_min}
use Rattle.model.specs.Bytes.{any}

-- integers are equal
abbrev pub same_number : ℤ → ℤ → Bool
same_number (pos a) (pos b) = a == b
same_number (pos a) (negsuc b) = false
same_number (negsuc a) (pos b) = false
same_number (negsuc a) (negsuc b) = a == b

-- there is an id, and it is that one
abbrev pub is_id : Option ℤ → ℤ → Bool
is_id None i = false
is_id (Some j) i = same_number j i

-- -1 stands for the schema or version last added in this builder
abbrev pub last_added : ℤ
last_added = negsuc 0

-- no id is above this
abbrev pub highest_id : ℤ
highest_id = pos 2147483647

-- the less of the two
abbrev pub least_of : ℤ → Option ℤ → ℤ
least_of i None = i
least_of i (Some j) = int_min i j

-- the greater of the two
abbrev pub greatest_of : ℤ → Option ℤ → ℤ
greatest_of i None = i
greatest_of i (Some j) = int_max i j

-- the lowest number, if there is one
abbrev pub lowest : List ℤ → Option ℤ
lowest [] = None
lowest (i ∷ is) = Some (least_of i (lowest is))

-- the highest number, if there is one
abbrev pub highest : List ℤ → Option ℤ
highest [] = None
highest (i ∷ is) = Some (greatest_of i (highest is))

-- one above, or the first if there is none
abbrev pub after : ℤ → Option ℤ → ℤ
after first None = first
after first (Some i) = i +ℤ pos 1

-- the id of a new schema or version: the highest plus 1, or the first id if none is held
abbrev pub next_id : ℤ → List ℤ → ℤ
next_id first ids = after first (highest ids)

-- the highest possible id is in use
abbrev pub ids_used_up : List ℤ → Bool
ids_used_up ids = is_id (highest ids) highest_id

-- the lowest id of those held that pass the test, if any does
abbrev pub lowest_id_where : {A : Type 0} → (A → ℤ) → (A → Bool) → List A → Option ℤ
lowest_id_where id_of test held = lowest (map id_of (filter test held))

-- the first that has the id
abbrev pub find : {A : Type 0} → (A → ℤ) → ℤ → List A → Option A
find id_of i [] = None
find id_of i (x ∷ xs) = cond (same_number (id_of x) i) (Some x) (find id_of i xs)

-- -1 means the last added, any other number itself
abbrev pub resolved_id : ℤ → Option ℤ → Option ℤ
resolved_id i last = cond (same_number i last_added) last (Some i)

-- the id is among them
abbrev pub holds : ℤ → List ℤ → Bool
holds i = any (λ j. same_number j i)
