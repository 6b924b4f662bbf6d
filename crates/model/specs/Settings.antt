-- The properties that steer build: their keys and what their values mean. Assumes nothing.
use Rattle.std.specs.Prelude.{ℕ, max, Bool, [], ◌∷◌, Some, None, codes, Option}
use Rattle.model.specs.Bytes.{Bytes, folded, same_bytes, any}
use Rattle.model.specs.Numbers.{unsigned_reading}

-- the property key version.history.num-entries
abbrev pub history_key : Bytes
history_key = codes "version.history.num-entries"

-- the property key replace.drop-dialect.allowed
abbrev pub drop_key : Bytes
drop_key = codes "replace.drop-dialect.allowed"

-- `true`, `t`, `1` or `on`, in any case
abbrev pub truthy : Bytes → Bool
truthy b = any (same_bytes (folded b)) (codes "true" ∷ codes "t" ∷ codes "1" ∷ codes "on" ∷ [])

-- the number, at least 1, or 10 where there is none
abbrev pub size_or_default : Option ℕ → ℕ
size_or_default None = 10
size_or_default (Some n) = max 1 n

-- the unsigned reading of a value, if there is one
abbrev pub number_in : Option Bytes → Option ℕ
number_in None = None
number_in (Some b) = unsigned_reading b

-- how many versions a value of the history size asks to keep
abbrev pub effective_size : Option Bytes → ℕ
effective_size v = size_or_default (number_in v)
