-- What is written in quotes reads back to the same bytes. Assumes nothing.
use Rattle.std.proofs.Common.{◌≡◌, ℕ, ◌/◌, ◌%◌, ◌<◌, List, [], ◌∷◌, ◌++◌, Some, refl, ap, ◌∙◌, div-add-mod', arith, Fits, w8, get_or, option_and_then}
use Rattle.std.proofs.ByRecursion.{All-from_get_or}
use Rattle.std.specs.List.{flat_map}
use Rattle.std.proofs.lemmas.List.{append_assoc}
use Rattle.std.proofs.lemmas.Bool.Decides.{nat_tests}
use Rattle.quote.specs.Quotes.{hex_digit, hex_value, escaped, with_byte, hex_byte, reading, ReadsBack, AllBytes}

hex_back : (n : ℕ) → n < 16 → hex_value (hex_digit n) ≡ Some n
hex_back n h = grind (arith, nat_tests)

-- w reads as the byte b, whatever follows
abbrev Reads : ℕ → List ℕ → List ℕ → Type 0
Reads b s w = reading (w ++ s) ≡ with_byte b (reading s)

digits_back : (b : ℕ) → b < 256 → hex_byte (hex_digit (b / 16)) (hex_digit (b % 16)) ≡ Some b
digits_back b h = rw (hex_back (b / 16) (omega arith), hex_back (b % 16) (omega arith)) (ap Some (div-add-mod' b 16))

by_digits : (b : ℕ) (s : List ℕ) → b < 256 → Reads b s (92 ∷ 120 ∷ hex_digit (b / 16) ∷ hex_digit (b % 16) ∷ [])
by_digits b s h = ap (λ o. option_and_then (λ v. with_byte v (reading s)) o) (digits_back b h)

piece_back : (b : ℕ) → b < 256 → (s : List ℕ) → Reads b s (escaped b)
piece_back b h s = grind (arith, by_digits b s h)

pieces_back : (bs rest : List ℕ) → AllBytes bs → reading (flat_map escaped bs ++ (34 ∷ rest)) ≡ Some (record { bytes = bs; rest = rest })
pieces_back [] rest h = refl
pieces_back (b ∷ bs) rest h =
    ap reading (append_assoc (escaped b) (flat_map escaped bs) (34 ∷ rest))
    ∙ (piece_back b h.0 (flat_map escaped bs ++ (34 ∷ rest)) ∙ ap (with_byte b) (pieces_back bs rest h.1))

-- the bytes of a slice are bytes
pub reads_back : (bs : List ℕ) → ((i : ℕ) → Fits w8 (get_or bs i 0)) → ReadsBack bs
reads_back bs h = λ rest.
    ap reading (append_assoc (flat_map escaped bs) (34 ∷ []) rest) ∙ pieces_back bs rest (All-from_get_or _ bs 0 (λ i _. omega (arith, h i)))
