-- A word of 32 bytes is 16 pairs, and each gives a byte or none.
use Rattle.std.proofs.Common.{rules, ◌≡◌, ℕ, ◌<◌, ◌/◌, List, [], length, get_or, Some, None, Ok, Err, MatchResult, ok_or, arith, ◌∙◌, sym, eqb, eq-eqb, ap}
use Rattle.std.specs.Array.{IsWholeChunk}
use Rattle.std.specs.List.{IsAmong}
use Rattle.std.proofs.lemmas.Bool.{cond-true}
use Rattle.cursor.specs.Line.{pair_byte}
use Rattle.cursor.proofs.Digits.{digits_read, both_sides, at_ok, some_of, none_of}
use Rattle.cursor.proofs.cursor.uuid_of.Goals as goal

pub returns : goal.returns
returns c =
    let w = c.args.word.now in
    let ps = c.in_ok-pairs.pairs in
    let whole : IsWholeChunk c.as_chunks.result.0.now ps 16 = at_ok _ _ c.try_into.result ps (sym c.ok.ensures.value ∙ c.in_ok-pairs.was) c.try_into.ensures.1 in
    let long : length w ≡ 32 = omega (arith, whole.long, c.as_chunks.ensures.front_len, c.as_chunks.ensures.back_len, c.in_default-empty.len_below) in
    let half : length w / 2 ≡ 16 = omega (arith, long) in
    let bytes = λ (bs : List ℕ). (length bs ≡ length w / 2) × ((i : ℕ) → i < length w / 2 → pair_byte (get_or ps i []) ≡ Some (get_or bs i 0)) in
    let none = λ (_ : Unit {0}). (p : List ℕ) × IsAmong ps p × (pair_byte p ≡ None) in
    let read : MatchResult c.try_map.result bytes none =
    both_sides _ _ bytes none c.try_map.result c.try_map.ensures.ok c.try_map.ensures.err
    (λ bs z. (
      omega (arith, z.long, half),
      λ i h.
          let given = z.at i [] 0 (omega (arith, h, half)) in
          let byte : Ok (get_or bs i 0) ≡ ok_or (pair_byte (get_or ps i [])) (tt {0}) = search rules in
          some_of _ _ byte,
    ))
    (λ _ z.
    let fault : Err (tt {0}) ≡ ok_or (pair_byte z.0) (tt {0}) = search rules in
    (z.0, z.1, none_of _ fault)) in
    c.ok-2.ensures.value
    ∙ (digits_read (length w / 2) w ps c.try_map.result (omega (arith, long)) (omega (arith, half, ap length whole.same, whole.long)) (whole.same ∙ c.as_chunks.ensures.front) read
    ∙ sym (cond-true (eqb (length w) 32) _ _ (eq-eqb _ _ long)))
