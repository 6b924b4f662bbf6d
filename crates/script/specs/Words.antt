-- The words and the lists of a script. Assumes nothing.
use Rattle.std.specs.Prelude.{ℕ, List, codes, take, drop}
use Rattle.script.specs.declared.script.Span.{Span}
use Rattle.script.specs.declared.script.Statement.{Statement}
use Rattle.script.specs.declared.script.Statement.TheVariants.{Begin, SetLocation, AddSchema, AddVersion, SetCurrent, SetCurrentVersion, SetProperties, Build}

-- the word that a statement begins with
abbrev pub first_word : Statement → List ℕ
first_word (Begin _ _) = codes "begin"
first_word (SetLocation _) = codes "set-location"
first_word (AddSchema _) = codes "add-schema"
first_word (AddVersion _) = codes "add-version"
first_word (SetCurrent _ _) = codes "set-current"
first_word (SetCurrentVersion _ _ _) = codes "set-current-version"
first_word (SetProperties _) = codes "set-properties"
first_word Build = codes "build"

-- the part of a list that a span names: so many elements from a place on
abbrev pub part_of : {A : Type 0} → Span → List A → List A
part_of s xs = take s.count (drop s.from xs)
