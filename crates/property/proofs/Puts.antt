-- Properties put into a list: their lengths, their look-ups, and when nothing changes. Assumes nothing.
use Rattle.std.proofs.Common.{◌≡◌, ◌+◌, ◌≤◌, true, false, cond, List, [], ◌∷◌, length, is_some, Some, sym, refl, arith}
use Rattle.std.specs.Option.{is_none}
use Rattle.std.proofs.lemmas.Bool.{true≢false}
use Rattle.model.specs.Bytes.{Bytes, same_bytes}
use Rattle.model.specs.Version.{Property}
use Rattle.model.specs.Edits.{has_key, revalued, placed, put_property, put_properties}
use Rattle.model.specs.Build.{look_up}
use Rattle.property.proofs.Keys.{bytes_decides, same_refl, same_sym}

-- a key is held where the look_up finds it
pub has_look_up : (k : Bytes) (held : List Property) → has_key k held ≡ is_some (look_up k held)
has_look_up k [] = refl
has_look_up k (q ∷ qs) = let r = has_look_up k qs in let s = same_sym k q.key in grind arith

length_revalued : (p : Property) (held : List Property) → length (revalued p held) ≡ length held
length_revalued p [] = refl
length_revalued p (q ∷ qs) = let r = length_revalued p qs in grind arith

length_placed : (p : Property) (held : List Property) → length (placed p held) ≡ length held + 1
length_placed p [] = refl
length_placed p (q ∷ qs) = let r = length_placed p qs in grind arith

-- one more where the key was not held
pub length_put : (p : Property) (held : List Property) → length (put_property p held) ≡ length held + cond (is_none (look_up p.key held)) 1 0
length_put p held = let h = has_look_up p.key held in grind (arith, length_revalued p held, length_placed p held)

pub length_puts_least : (ps held : List Property) → length held ≤ length (put_properties ps held)
length_puts_least [] held = omega arith
length_puts_least (p ∷ ps) held = omega (arith, length_put p held, length_puts_least ps (put_property p held))

look_up_revalued : (p : Property) (held : List Property) → has_key p.key held ≡ true → look_up p.key (revalued p held) ≡ Some p.value
look_up_revalued p [] h = absurd (true≢false (sym h))
look_up_revalued p (q ∷ qs) h = let r = look_up_revalued p qs in let s = same_sym p.key q.key in grind arith

look_up_placed : (p : Property) (held : List Property) → has_key p.key held ≡ false → look_up p.key (placed p held) ≡ Some p.value
look_up_placed p [] h = let s = same_refl p.key in grind arith
look_up_placed p (q ∷ qs) h = let r = look_up_placed p qs in let s = same_sym p.key q.key in let t = same_refl p.key in grind arith

-- a property that is put is found
pub look_up_put : (p : Property) (held : List Property) → look_up p.key (put_property p held) ≡ Some p.value
look_up_put p held = grind (arith, look_up_revalued p held, look_up_placed p held)

look_up_revalued_other : (k : Bytes) (p : Property) (held : List Property) → same_bytes p.key k ≡ false → look_up k (revalued p held) ≡ look_up k held
look_up_revalued_other k p [] n = refl
look_up_revalued_other k p (q ∷ qs) n = let r = look_up_revalued_other k p qs n in let b = bytes_decides p.key q.key in grind arith

look_up_placed_other : (k : Bytes) (p : Property) (held : List Property) → same_bytes p.key k ≡ false → look_up k (placed p held) ≡ look_up k held
look_up_placed_other k p [] n = rw n
look_up_placed_other k p (q ∷ qs) n = let r = look_up_placed_other k p qs n in grind arith

-- a property that is put leaves the other keys as they are
pub look_up_put_other : (k : Bytes) (p : Property) (held : List Property) → same_bytes p.key k ≡ false → look_up k (put_property p held) ≡ look_up k held
look_up_put_other k p held n = grind (arith, look_up_revalued_other k p held n, look_up_placed_other k p held n)

pub look_up_puts_other : (k : Bytes) (ps held : List Property) → has_key k ps ≡ false → look_up k (put_properties ps held) ≡ look_up k held
look_up_puts_other k [] held n = refl
look_up_puts_other k (p ∷ ps) held n =
    let r = look_up_puts_other k ps (put_property p held) in let s = same_sym k p.key in let o = look_up_put_other k p held in grind arith

revalued_same : (p : Property) (held : List Property) → look_up p.key held ≡ Some p.value → revalued p held ≡ held
revalued_same p [] e = refl
revalued_same p (q ∷ qs) e = let r = revalued_same p qs in let s = same_sym p.key q.key in grind arith

-- a property that is held already changes nothing
pub put_same : (p : Property) (held : List Property) → look_up p.key held ≡ Some p.value → put_property p held ≡ held
put_same p held e = let h = has_look_up p.key held in grind (arith, revalued_same p held e)
