use Rattle.std.proofs.Common.{◌≡◌, length, ap, ◌∙◌, ap₂, subst₂, w32}
use denote.Ref.{at_last}
use Rattle.std.proofs.lemmas.Int.{to_z-of_z}
use Rattle.model.specs.Build.{how_many_to_keep}
use Rattle.register.specs.Tables.{held_in}
use Rattle.expiry.specs.Expiry.{KeepsWhatStays, kept_of, unexpired_by, over_front}
use Rattle.expiry.proofs.Fronts.{kept_by_same}
use Rattle.expiry.proofs.expire.expire_versions.Goals as goal

pub returns : goal.returns
returns g c =
    let f = g.T.Identified.named in
    let t = c.args.table.now in
    let k = c.versions_to_keep-kept.result in
    let n = how_many_to_keep c.args.size c.args.added in
    let agree : KeepsWhatStays f k (held_in t) c.args.current n c.args.added =
    subst₂ (λ xs i. KeepsWhatStays f k xs i n c.args.added) c.items.ensures (to_z-of_z w32 c.args.current c.ranges.current) c.versions_to_keep-kept.ensures in
    let same : kept_of f k (held_in t) ≡ unexpired_by f (held_in t) c.args.current n c.args.added = kept_by_same _ _ (held_in t) agree in
    ap₂ (λ s h. record { slots = at_last t.slots s; held = h })
    (c.keep_in_front-table.ensures.front ∙ ap (λ l. over_front l t.slots.now) same)
    (c.keep_in_front-table.ensures.count ∙ ap length same)
