-- Refusals: their numbers, the parts they arise in, and how tests follow one another. Assumes nothing.
use Rattle.std.specs.Prelude.{ℕ, Bool, true, false, cond, List, length, Some, None, Ok, Err, Option, Result, nat_le, nat_lt}

-- a text reaches outside the text block or is over 4,096 bytes, or the block is over 65,536 bytes
abbrev pub bad_text : ℕ
bad_text = 1

-- a dialect holds a byte above 127
abbrev pub non_ascii_dialect : ℕ
non_ascii_dialect = 2

-- a format version is not 1
abbrev pub unknown_format : ℕ
unknown_format = 3

-- a record or list breaks its form, or an id is out of range or out of order
abbrev pub malformed : ℕ
malformed = 4

-- no version has the current version id
abbrev pub no_current_version : ℕ
no_current_version = 5

-- no schema has the schema id of a new version, or of the current one
abbrev pub schema_not_held : ℕ
schema_not_held = 6

-- a version names schema -1 and no schema was added in this builder
abbrev pub no_schema_added : ℕ
no_schema_added = 7

-- the current version id is set to -1 and no version was added in this builder
abbrev pub no_version_added : ℕ
no_version_added = 8

-- the current version id is set to an id that no version has
abbrev pub version_not_held : ℕ
version_not_held = 9

-- two dialects of a new version are equal up to case
abbrev pub repeated_dialect : ℕ
repeated_dialect = 10

-- a new version's time is more than a minute before the last log entry's at the start
abbrev pub time_too_early : ℕ
time_too_early = 11

-- the history size to be set reads below 0
abbrev pub negative_history_size : ℕ
negative_history_size = 12

-- build would lose a dialect of the version that was current at the start
abbrev pub lost_dialect : ℕ
lost_dialect = 13

-- a new id is needed and the highest possible one is in use
abbrev pub no_id_left : ℕ
no_id_left = 14

-- a list would pass its limit, or the room of its table
abbrev pub limit_reached : ℕ
limit_reached = 15

-- the part that a fault arose in: schemas, versions, properties, the version log, recorded changes, or the builder's own fields
pub data Part : Type 0 where
  schemas_part versions_part properties_part log_part changes_part builder_part : Part

-- the letter of a part
abbrev pub letter : Part → ℕ
letter schemas_part = 83
letter versions_part = 86
letter properties_part = 80
letter log_part = 76
letter changes_part = 67
letter builder_part = 66

-- a refusal's number, its part, and the position in the list handed to that part
pub record Fault : Type 0 where
  pub number : ℕ
  pub part : Part
  pub position : ℕ

-- a fault at position 0
abbrev pub fault : ℕ → Part → Fault
fault n part = record { number = n; part = part; position = 0 }

-- refused with the fault if the test says so
abbrev pub refuse : {A : Type 0} → Bool → Fault → Result A Fault → Result A Fault
refuse true f r = Err f
refuse false f r = r

-- refused with the number that a record's own tests gave, if they gave one
abbrev pub refuse_with : {A : Type 0} → Part → Option ℕ → Result A Fault → Result A Fault
refuse_with part None r = r
refuse_with part (Some n) r = Err (fault n part)

-- refused at that position, if there is one
abbrev pub refuse_at : {A : Type 0} → ℕ → Part → Option ℕ → Result A Fault → Result A Fault
refuse_at n part None r = r
refuse_at n part (Some i) r = Err (record { number = n; part = part; position = i })

-- the next step if this one was accepted, else its fault
abbrev pub then : {A B E : Type 0} → Result A E → (A → Result B E) → Result B E
then (Ok a) f = f a
then (Err e) f = Err e

-- no room for one more
abbrev pub full : {A : Type 0} → ℕ → List A → Bool
full room xs = nat_le room (length xs)

-- more than the limit, or than there is room for
abbrev pub over : {A : Type 0} → ℕ → List A → Bool
over limit xs = nat_lt limit (length xs)

-- the number that a record's own tests refuse it with, the first that fails: its lists' limits, its texts, its dialects' bytes, its form
abbrev pub first_failed : Bool → Bool → Bool → Bool → Option ℕ
first_failed past_limit bad_texts non_ascii bad_form =
    cond past_limit (Some limit_reached) (cond bad_texts (Some bad_text) (cond non_ascii (Some non_ascii_dialect) (cond bad_form (Some malformed) None)))
