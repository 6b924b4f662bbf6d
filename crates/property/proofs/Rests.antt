-- What stays in a table past the records held. Assumes nothing.
use Rattle.std.proofs.Common.{◌≡◌, ◌+◌, ◌-◌, drop, sym, ap, ◌∙◌, arith}
use Rattle.std.proofs.lemmas.List.{length-take, drop-drop}
use Rattle.property.specs.declared.property.Properties.{Properties}
use Rattle.property.specs.Meaning.{KeepsRest}

pub keeps_on : (t u v : Properties) → KeepsRest t u → KeepsRest u v → KeepsRest t v
keeps_on t u v a b =
    let n : u.table.held + (v.table.held - u.table.held) ≡ v.table.held = omega (arith, b.count) in
    let past : (w : Properties) → drop (v.table.held - u.table.held) (drop u.table.held w.table.slots.now) ≡ drop v.table.held w.table.slots.now =
    λ w. drop-drop (v.table.held - u.table.held) u.table.held w.table.slots.now ∙ ap (λ m. drop m w.table.slots.now) n in
    record {
      room = b.room ∙ a.room;
      rest = b.rest ∙ (sym (past u) ∙ (ap (drop (v.table.held - u.table.held)) a.rest ∙ past t));
      count = omega (arith, a.count, b.count, b.room, length-take u.table.held u.table.slots.now, length-take v.table.held v.table.slots.now);
    }
