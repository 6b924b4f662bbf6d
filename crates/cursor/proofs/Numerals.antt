-- A word that writes a number is a text, so what is not a text writes none. Assumes nothing.
use Rattle.std.proofs.Common.{ℕ, List, Ok, Err, Result, MatchResult, IsUtf8, ℤ}
use Rattle.std.specs.Int.{Width}
use Rattle.std.specs.Str.Parse.{ParsesSigned, ParsesUnsigned, ExplainsSignedError, ExplainsUnsignedError, HasSignedDigitsIfOk, HasUnsignedDigitsIfOk}
use Rattle.std.specs.declared.num.ParseIntError.{ParseIntError}
use Rattle.model.proofs.Numerals.{unsigned_text, signed_text}

-- what `parse` says of a text, at a type of natural numbers and at one of integers
abbrev pub NaturalOf : ℕ → List ℕ → Result ℕ ParseIntError → Type 0
NaturalOf k bs r = ParsesUnsigned k 10 bs r × ExplainsUnsignedError 10 bs r × HasUnsignedDigitsIfOk bs r

abbrev pub IntegerOf : Width → List ℕ → Result ℤ ParseIntError → Type 0
IntegerOf w bs r = ParsesSigned w 10 bs r × ExplainsSignedError 10 bs r × HasSignedDigitsIfOk bs r

-- what a word gives as a number, where `parse` is asked of a text alone
pub parses_unsigned : {E : Type 0} (k : ℕ) (bs : List ℕ) (r : Result ℕ E) → MatchResult r (λ n. NaturalOf k bs (Ok n)) (λ _. IsUtf8 bs → (e : ParseIntError) × NaturalOf k bs (Err e)) → ParsesUnsigned k 10 bs r
parses_unsigned k bs (Ok n) h = h.0
parses_unsigned k bs (Err e) h = λ p. (h (unsigned_text bs p.0)).1.0 p

pub parses_signed : {E : Type 0} (w : Width) (bs : List ℕ) (r : Result ℤ E) → MatchResult r (λ n. IntegerOf w bs (Ok n)) (λ _. IsUtf8 bs → (e : ParseIntError) × IntegerOf w bs (Err e)) → ParsesSigned w 10 bs r
parses_signed w bs (Ok n) h = h.0
parses_signed w bs (Err e) h = λ p. (h (signed_text bs p.0)).1.0 p
