use Rattle.std.proofs.Common.{map, ap, ◌∙◌, w32}
use Rattle.std.proofs.lemmas.Int.{to_z-of_z}
use Rattle.model.specs.Build.{how_many_to_keep}
use Rattle.expiry.specs.Expiry.{places_for, lowest_placed}
use Rattle.expiry.proofs.Places.{keeps_stays}
use Rattle.expiry.proofs.expire.versions_to_keep.Goals as goal

pub returns : goal.returns
returns g c =
    let f = g.T.Identified.named in
    let xs = c.args.items.now in
    let current = to_z-of_z w32 c.args.current c.ranges.current in
    keeps_stays f xs c.args.current (how_many_to_keep c.args.size c.args.added) c.args.added _ current
    (c.lowest_placed-lowest.ensures ∙ ap (lowest_placed f xs) (c.places-places.ensures ∙ ap (λ i. places_for (map f xs) i (how_many_to_keep c.args.size c.args.added) c.args.added) current))
