use Rattle.std.proofs.Common.{◌≡◌, ◌<◌, ◌⊎◌, map, ap, ◌∙◌, inl, inr, arith, w32}
use Rattle.std.proofs.lemmas.Int.{to_z-of_z}
use Rattle.model.specs.Build.{how_many_to_keep}
use Rattle.expiry.specs.Expiry.{higher_than, places_for}
use Rattle.expiry.proofs.Places.{places_all, places_but_one}
use Rattle.expiry.proofs.expire.places.Goals as goal

pub returns-then-n-added : goal.returns-then-n-added
returns-then-n-added g c =
    let ids = map g.T.Identified.named c.args.items.now in
    let count : c.higher.result ≡ higher_than ids c.args.current = c.higher.ensures ∙ ap (higher_than ids) (to_z-of_z w32 c.args.current c.ranges.current) in
    let n : c.max-n.result ≡ how_many_to_keep c.args.size c.args.added = omega (arith, c.max-n.ensures, c.max.ensures) in
    let some : (higher_than ids c.args.current < c.max-n.result) ⊎ (c.max-n.result ≡ c.args.added) = elim c.if-n-added.either [ inl h ↦ inl (omega arith) | inr h ↦ inr h.1 ] in
    places_all ids c.args.current c.max-n.result c.args.added some ∙ ap (λ m. places_for ids c.args.current m c.args.added) n

pub returns-else-n-added : goal.returns-else-n-added
returns-else-n-added g c =
    let ids = map g.T.Identified.named c.args.items.now in
    let count : c.higher.result ≡ higher_than ids c.args.current = c.higher.ensures ∙ ap (higher_than ids) (to_z-of_z w32 c.args.current c.ranges.current) in
    let n : c.max-n.result ≡ how_many_to_keep c.args.size c.args.added = omega (arith, c.max-n.ensures, c.max.ensures) in
    places_but_one ids c.args.current c.max-n.result c.args.added (omega (arith, c.if-n-added.false.0)) c.if-n-added.false.1
    ∙ ap (λ m. places_for ids c.args.current m c.args.added) n
