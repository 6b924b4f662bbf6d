-- How far a reading has come: what was read so far, and what is still to be read. Assumes nothing.
use Rattle.std.proofs.Common.{◌≡◌, ℕ, ◌+◌, ◌-◌, ◌<◌, ◌≤◌, List, [], ◌∷◌, ◌++◌, length, take, drop, Some, None, Option, refl, ap, ◌∙◌, arith, option_map, length-drop, MatchOption, Bor, eqb, true, false}
use lib.Pointwise.{pointwise}
use Rattle.std.proofs.lemmas.List.{append_assoc, drop-drop}
use Rattle.quote.specs.Quotes.{Reading, with_byte, closing, reading, unquoted}
use Rattle.quote.specs.Calls.{Found, IsEndOf}

-- the bytes before what is read after them
abbrev pub with_bytes : List ℕ → Option Reading → Option Reading
with_bytes [] o = o
with_bytes (b ∷ bs) o = with_byte b (with_bytes bs o)

with_bytes_push : (bs : List ℕ) (b : ℕ) (o : Option Reading) → with_bytes bs (with_byte b o) ≡ with_bytes (bs ++ b ∷ []) o
with_bytes_push [] b o = refl
with_bytes_push (x ∷ bs) b o = ap (with_byte x) (with_bytes_push bs b o)

with_bytes_none : (bs : List ℕ) → with_bytes bs None ≡ None
with_bytes_none [] = refl
with_bytes_none (x ∷ bs) = ap (with_byte x) (with_bytes_none bs)

with_bytes_end : (bs rest : List ℕ) → with_bytes bs (Some (record { bytes = []; rest = rest })) ≡ Some (record { bytes = bs; rest = rest })
with_bytes_end [] rest = refl
with_bytes_end (x ∷ bs) rest = ap (with_byte x) (with_bytes_end bs rest)

-- what the bytes read so far gave stands after what was there before, and the rest of the input is still to be read
pub record SoFar (input before now rest : List ℕ) : Type 0 where
  pub bytes : List ℕ
  pub appended : now ≡ before ++ bytes
  pub read : unquoted input ≡ with_bytes bytes (reading rest)
  pub place : IsEndOf rest input

-- the end of an end
further : (input rest after : List ℕ) → IsEndOf rest input → length after ≤ length rest → IsEndOf after rest → IsEndOf after input
further input rest after p h q =
    let l : length rest ≤ length input = omega (arith, ap length p, length-drop (length input - length rest) input) in
    q ∙ (ap (drop (length rest - length after)) p
    ∙ (drop-drop (length rest - length after) (length input - length rest) input
    ∙ ap (λ n. drop n input) (omega (arith, l))))

-- one byte more
pub so_far_byte : (input before mid now rest after : List ℕ) (b : ℕ) → SoFar input before mid rest → reading rest ≡ with_byte b (reading after) → IsEndOf after rest → length after < length rest → now ≡ mid ++ b ∷ [] → SoFar input before now after
so_far_byte input before mid now rest after b s e p h q = record {
  bytes = s.bytes ++ b ∷ [];
  appended = q ∙ (ap (λ l. l ++ b ∷ []) s.appended ∙ append_assoc before s.bytes (b ∷ []));
  read = s.read ∙ (ap (with_bytes s.bytes) e ∙ with_bytes_push s.bytes b (reading after));
  place = further input rest after s.place (omega (arith, h)) p;
}

-- a quote is cut off the front, where one stands there
abbrev pub CutsQuote : List ℕ → Option (Bor (List ℕ)) → Type 0
CutsQuote w o =
    MatchOption o (pointwise eqb (take 1 w) (34 ∷ []) ≡ false)
    (λ x. (pointwise eqb (take 1 w) (34 ∷ []) ≡ true) × (x.now ≡ drop 1 w) × (length x.now + 1 ≡ length w))

-- what is read there
closing_of : (w : List ℕ) (o : Option (Bor (List ℕ))) → CutsQuote w o → closing w ≡ option_map (λ (x : Bor (List ℕ)). record { bytes = []; rest = x.now }) o
closing_of [] None h = refl
closing_of [] (Some x) h = cc
closing_of (b ∷ bs) None h = grind arith
closing_of (b ∷ bs) (Some x) h = grind arith

-- the closing quote, or none
pub found : (input before now rest : List ℕ) (o : Option (Bor (List ℕ))) → SoFar input before now rest → reading rest ≡ closing rest → CutsQuote rest o → Found input before now (option_map (λ (x : Bor (List ℕ)). length input - length x.now) o)
found input before now rest None s e h = s.read ∙ (ap (with_bytes s.bytes) (e ∙ closing_of rest None h) ∙ with_bytes_none s.bytes)
found input before now rest (Some x) s e h =
    let cut : 1 ≡ length rest - length x.now = omega (arith, h.2) in
    let place : IsEndOf x.now input = further input rest x.now s.place (omega (arith, h.2)) (h.1 ∙ ap (λ n. drop n rest) cut) in
    let read : unquoted input ≡ Some (record { bytes = s.bytes; rest = x.now }) = s.read ∙ (ap (with_bytes s.bytes) (e ∙ closing_of rest (Some x) h) ∙ with_bytes_end s.bytes x.now) in
    (omega arith, (s.bytes, s.appended, read ∙ ap (λ r. Some (record { bytes = s.bytes; rest = r })) place))
