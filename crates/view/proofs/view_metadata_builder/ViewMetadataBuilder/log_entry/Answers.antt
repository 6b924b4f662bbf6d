use Rattle.std.proofs.Common.{◌≡◌, MatchOption, sym, ◌∙◌, w32, w64, rules}
use Rattle.std.proofs.lemmas.List.{take_rest}
use Rattle.std.proofs.lemmas.Int.{to_z-of_z}
use Rattle.model.specs.Ids.{find}
use Rattle.view.proofs.Readings.{reading}
use Rattle.view.proofs.CurrentIds.{entry_found, entry_timed}
use Rattle.view.proofs.view_metadata_builder.ViewMetadataBuilder.log_entry.Goals as goal

pub returns : goal.returns
returns g c =
    let i = to_z-of_z w32 c.args.id c.ranges.id in
    let t = to_z-of_z w64 c.map_or-timestamp_ms.result (search rules) in
    let timed : MatchOption c.find.result (c.map_or-timestamp_ms.result ≡ c.args.clock) (λ v. c.map_or-timestamp_ms.result ≡ v.timestamp_ms) = search rules in
    (λ j. record { id = i j; time = t j })
    ∙ (entry_timed c.args.self.now.view.text.now c.args.id c.args.clock c.map_or-timestamp_ms.result c.find.result timed
    ∙ sym (entry_found (reading g.S.Identified g.S.Numbered g.S.SchemaKind) c.args.self.now c.args.clock c.args.id c.find.result
    c.items-held.result.now c.min-start.result c.items-held.ensures c.min-start.ensures
    (c.find.ensures ∙ (λ j. find (λ v. v.version_id) (i j) (take_rest c.items-held.result.now c.min-start.result j)))))
